-- The command that is read of a line is the one that the line spells.
use Rattle.std.proofs.Common.{◌≡◌, ℕ, ◌<◌, cond, List, [], ◌∷◌, ◌++◌, length, Some, None, option_map, Result, Ok, Err, refl, sym, ap, subst, ◌∙◌, arith, rules}
use Rattle.std.specs.Prelude.{codes, ◌+◌, ◌*◌, ◌/◌, ◌%◌, All, suc, slice_index}
use Rattle.std.proofs.lemmas.Slice.Eq.{text_from_reads}
use Rattle.std.proofs.lemmas.List.Elements.{All-nil, All-cons}
use Rattle.std.proofs.lemmas.Bool.{eqb-true, eq-eqb}
use Rattle.std.proofs.lemmas.Option.{cond_some, same_Some, none-some}
use Rattle.hex.specs.Hex.{decode_of, IsBytes}
use Rattle.hex.specs.declared.error.FromHexError.{FromHexError}
use Rattle.hex.proofs.HexLemmas.{decode_of-ok}
use Rattle.dms_text.specs.Words.{words_of}
use Rattle.dms_text.proofs.WordLaws.{begun_as, goes_on, word_found, word_only, decimal_found, decimal_only}
use Rattle.dms_codes.specs.declared.codes.Order.{Order}
use Rattle.dms_codes.specs.declared.codes.Order.TheVariants.{High, Swapped}
use Rattle.dms_codes.specs.declared.codes.Activation.{Activation}
use Rattle.dms_codes.specs.Codes.{two_octets, octets_of_checksum, in_order, number_at, octets_of_activation, activation_of, IsActivation}
use Rattle.dms_codes.specs.declared.row_id.RowId.{RowId}
use Rattle.dms_codes.proofs.Activations.{activation_back}
use Rattle.dms_codes.proofs.Options.{mapped_some}
use Rattle.dms_centre_jobs.specs.declared.publication.Attributes.{Attributes}
use Rattle.dms_centre_jobs.specs.declared.publication.Terms.{Terms}
use Rattle.dms_centre_jobs.specs.Job.{PublicationModel}
use Rattle.dms_centre_jobs.specs.Commands.{CommandModel, Publish, Blank, Activate}
use Rattle.dms_text_forms.specs.Fields.{SpellsOctet, SpellsTwoOctets, SpellsOne, SpellsAddress}
use Rattle.dms_text_forms.proofs.AddressLaws.{address_found, address_only, address_some}
use Rattle.dms_text_forms.proofs.WordReading.{last_found, by_text}
use Rattle.dms_text_forms.proofs.FieldLaws.{same_rest, next_octets_found, next_octets_only}
use Rattle.dms_text_causes.proofs.KeywordLines.{line_found, line_read}
use Rattle.dms_centre_text.specs.CommandFields.{SpellsCode}
use Rattle.dms_centre_text.specs.CommandLine.{SpellsPublication, SpellsBlank, SpellsCommand}
use Rattle.dms_centre_text.specs.CommandReading.{code_from, code_at, last_code_at, next_address_at, row_at, attributes_at, last_terms_at, publish_at, blank_at, command_word, command_after, command_of}
use Rattle.dms_centre_text.specs.declared.command_word.CommandWord.{CommandWord}
use Rattle.dms_centre_text.specs.declared.command_word.CommandWord.TheVariants as key

-- ---- codes

high_and_low : (octets : List ℕ) (i : ℕ) → IsBytes octets → two_octets (number_at octets i) ≡ slice_index octets i ∷ slice_index octets (i + 1) ∷ []
high_and_low octets i bytes =
    let high : number_at octets i / 256 ≡ slice_index octets i = omega (arith, bytes (i + 1)) in
    let low : number_at octets i % 256 ≡ slice_index octets (i + 1) = omega (arith, bytes (i + 1)) in
    cc

checksum_spelled : (order : Order) (octets : List ℕ) (i : ℕ) → IsBytes octets
    → octets_of_checksum order (in_order order (number_at octets i)) ≡ slice_index octets i ∷ slice_index octets (i + 1) ∷ []
checksum_spelled High octets i bytes = high_and_low octets i bytes
checksum_spelled Swapped octets i bytes =
    let n = number_at octets i in
    let one : n / 256 ≡ slice_index octets i = omega (arith, bytes (i + 1)) in
    let other : n % 256 ≡ slice_index octets (i + 1) = omega (arith, bytes (i + 1)) in
    let first : (n % 256 * 256 + n / 256) % 256 ≡ slice_index octets i = omega (arith, one, other, bytes i) in
    let second : (n % 256 * 256 + n / 256) / 256 ≡ slice_index octets (i + 1) = omega (arith, one, other, bytes i) in
    cc

octets_spelled : (order : Order) (octets : List ℕ) → length octets ≡ 12 → IsBytes octets → octets_of_activation order (activation_of order octets) ≡ octets
octets_spelled order octets twelve bytes =
    let at = slice_index octets in
    let address = at 8 ∷ at 9 ∷ at 10 ∷ at 11 ∷ [] in
    let all : octets ≡ at 0 ∷ at 1 ∷ at 2 ∷ at 3 ∷ at 4 ∷ at 5 ∷ at 6 ∷ at 7 ∷ address = text_from_reads octets _ twelve (search rules) in
    let number = octets_of_checksum order (in_order order (number_at octets 6)) in
    ap (λ minutes. (minutes ++ at 2 ∷ ((at 3 ∷ two_octets (number_at octets 4)) ++ number)) ++ address) (high_and_low octets 0 bytes)
    ∙ ap (λ row. ((at 0 ∷ at 1 ∷ []) ++ at 2 ∷ ((at 3 ∷ row) ++ number)) ++ address) (high_and_low octets 4 bytes)
    ∙ ap (λ crc. ((at 0 ∷ at 1 ∷ []) ++ at 2 ∷ ((at 3 ∷ at 4 ∷ at 5 ∷ []) ++ crc)) ++ address) (checksum_spelled order octets 6 bytes)
    ∙ sym all

in_order_small : (order : Order) (octets : List ℕ) (i : ℕ) → IsBytes octets → in_order order (number_at octets i) < 65536
in_order_small High octets i bytes = omega (arith, bytes i, bytes (i + 1))
in_order_small Swapped octets i bytes = omega (arith, bytes i, bytes (i + 1))

all_four_small : (a b c d : ℕ) → a < 256 → b < 256 → c < 256 → d < 256 → All (λ octet. octet < 256) (a ∷ b ∷ c ∷ d ∷ [])
all_four_small a b c d in_a in_b in_c in_d =
    let Small : ℕ → Type 0 = λ octet. octet < 256 in
    All-cons Small a (b ∷ c ∷ d ∷ []) in_a (All-cons Small b (c ∷ d ∷ []) in_b (All-cons Small c (d ∷ []) in_c (All-cons Small d [] in_d (All-nil Small))))

is_activation : (order : Order) (octets : List ℕ) → IsBytes octets → IsActivation (activation_of order octets)
is_activation order octets bytes = record {
  minutes = omega (arith, bytes 0, bytes 1);
  priority = bytes 2;
  id = record { memory = bytes 3; number = omega (arith, bytes 4, bytes 5); crc = in_order_small order octets 6 bytes };
  size = refl;
  octets = all_four_small _ _ _ _ (bytes 8) (bytes 9) (bytes 10) (bytes 11);
}

code_of_result : (order : Order) (word : List ℕ) (code : Activation) (result : Result (List ℕ) FromHexError) → decode_of word ≡ result
    → code_from order result ≡ Some code → SpellsCode order code word
code_of_result order word code (Err fault) is e = absurd (let none : None ≡ Some code = e in cc)
code_of_result order word code (Ok octets) is e =
    let tests = cond_some _ _ _ e in
    let twelve : length octets ≡ 12 = eqb-true _ _ tests.0 in
    let bytes = (decode_of-ok word octets is).3 in
    subst (λ c. SpellsCode order c word) tests.1 (record {
      is_code = is_activation order octets bytes;
      digits = is ∙ ap Ok (sym (octets_spelled order octets twelve bytes));
    })

code_found : (order : Order) (word : List ℕ) (code : Activation) → code_from order (decode_of word) ≡ Some code → SpellsCode order code word
code_found order word code e = code_of_result order word code (decode_of word) refl e

twelve_octets : (order : Order) (code : Activation) → length code.address ≡ 4 → length (octets_of_activation order code) ≡ 12
twelve_octets High code four = ap (λ n. suc (suc (suc (suc (suc (suc (suc (suc n)))))))) four
twelve_octets Swapped code four = ap (λ n. suc (suc (suc (suc (suc (suc (suc (suc n)))))))) four

code_only : (order : Order) (word : List ℕ) (code : Activation) → SpellsCode order code word → (code_from order (decode_of word) ≡ Some code) × (0 < length word)
code_only order word code spelled =
    let octets = octets_of_activation order code in
    let twelve = twelve_octets order code spelled.is_code.size in
    let digits = (decode_of-ok word octets spelled.digits).2 in (
      ap (code_from order) spelled.digits ∙ ap (λ b. cond b (Some (activation_of order octets)) None) (eq-eqb _ _ twelve)
          ∙ ap Some (activation_back order code spelled.is_code),
      omega (arith, twelve, digits),
    )

record FoundCode (order : Order) (words : List (List ℕ)) (found : Activation × List (List ℕ)) : Type 0 where
  word : List ℕ
  words_are : words ≡ word ∷ found.1
  spelled : SpellsCode order found.0 word

next_code_found : (order : Order) (words : List (List ℕ)) (found : Activation × List (List ℕ)) → code_at order words ≡ Some found → FoundCode order words found
unfolding code_at
next_code_found order words found e =
    let read = begun_as _ _ _ (word_found words) e in
    let code = begun_as _ _ _ (code_found order read.0.0) read.2 in
    subst (FoundCode order words) (same_Some _ _ code.2) (record {
      word = read.0.0;
      words_are = read.1.0;
      spelled = code.1;
    })

last_code_found : (order : Order) (keyword : List ℕ) (words : List (List ℕ)) (code : Activation) → last_code_at order words ≡ Some code
    → SpellsOne keyword (SpellsCode order code) (keyword ∷ words)
unfolding last_code_at
last_code_found order keyword words code e =
    let read = begun_as _ _ _ (next_code_found order words) e in
    let end = last_found read.0.0 read.0.1 code read.2 in
    record {
      word = read.1.word;
      words_are = ap (λ rest. keyword ∷ rest) (read.1.words_are ∙ ap (λ rest. read.1.word ∷ rest) end.0);
      spelled = subst (λ c. SpellsCode order c read.1.word) end.1 read.1.spelled;
    }

last_code_only : (order : Order) (word : List ℕ) (code : Activation) → SpellsCode order code word → last_code_at order (word ∷ []) ≡ Some code
unfolding last_code_at code_at
last_code_only order word code spelled =
    let is = code_only order word code spelled in
    let found : code_at order (word ∷ []) ≡ Some (code, []) = goes_on _ _ _ (word_only word [] is.1) ∙ goes_on _ _ _ is.0 in
    goes_on _ _ _ found

-- ---- commands

record FoundRow (words : List (List ℕ)) (found : RowId × List (List ℕ)) : Type 0 where
  memory_word : List ℕ
  number_word : List ℕ
  words_are : words ≡ memory_word ∷ number_word ∷ found.1
  memory : SpellsOctet found.0.memory memory_word
  number : SpellsTwoOctets found.0.number number_word

row_found : (words : List (List ℕ)) (found : RowId × List (List ℕ)) → row_at words ≡ Some found → FoundRow words found
unfolding row_at
row_found words found e =
    let memory = begun_as _ _ _ (decimal_found 0 255 words) e in
    let number = begun_as _ _ _ (decimal_found 0 65535 memory.0.1) memory.2 in
    subst (FoundRow words) (same_Some _ _ number.2) (record {
      memory_word = memory.1.word;
      number_word = number.1.word;
      words_are = memory.1.words_are ∙ ap (λ rest. memory.1.word ∷ rest) number.1.words_are;
      memory = memory.1.spelled;
      number = number.1.spelled;
    })

row_only : (memory number : ℕ) (memory_word number_word : List ℕ) (rest : List (List ℕ)) → SpellsOctet memory memory_word
    → SpellsTwoOctets number number_word
    → row_at (memory_word ∷ number_word ∷ rest) ≡ Some (record { memory = memory; number = number }, rest)
unfolding row_at
row_only memory number memory_word number_word rest in_memory in_number =
    goes_on _ _ _ (decimal_only 0 255 memory memory_word _ in_memory)
    ∙ goes_on _ _ _ (decimal_only 0 65535 number number_word rest in_number)

record FoundAttributes (words : List (List ℕ)) (found : Attributes × List (List ℕ)) : Type 0 where
  beacon_word : List ℕ
  pixel_word : List ℕ
  run_word : List ℕ
  words_are : words ≡ beacon_word ∷ pixel_word ∷ run_word ∷ found.1
  beacon : SpellsOctet found.0.beacon beacon_word
  pixel : SpellsOctet found.0.pixel pixel_word
  run_priority : SpellsOctet found.0.run_priority run_word

attributes_found : (words : List (List ℕ)) (found : Attributes × List (List ℕ)) → attributes_at words ≡ Some found → FoundAttributes words found
unfolding attributes_at
attributes_found words found e =
    let beacon = begun_as _ _ _ (decimal_found 0 255 words) e in
    let pixel = begun_as _ _ _ (decimal_found 0 255 beacon.0.1) beacon.2 in
    let run = begun_as _ _ _ (decimal_found 0 255 pixel.0.1) pixel.2 in
    subst (FoundAttributes words) (same_Some _ _ run.2) (record {
      beacon_word = beacon.1.word;
      pixel_word = pixel.1.word;
      run_word = run.1.word;
      words_are = beacon.1.words_are ∙ ap (λ rest. beacon.1.word ∷ rest) (pixel.1.words_are
          ∙ ap (λ rest. pixel.1.word ∷ rest) run.1.words_are);
      beacon = beacon.1.spelled;
      pixel = pixel.1.spelled;
      run_priority = run.1.spelled;
    })

attributes_only : (beacon pixel run_priority : ℕ) (beacon_word pixel_word run_word : List ℕ) (rest : List (List ℕ))
    → SpellsOctet beacon beacon_word → SpellsOctet pixel pixel_word → SpellsOctet run_priority run_word
    → attributes_at (beacon_word ∷ pixel_word ∷ run_word ∷ rest)
    ≡ Some (record { beacon = beacon; pixel = pixel; run_priority = run_priority }, rest)
unfolding attributes_at
attributes_only beacon pixel run_priority beacon_word pixel_word run_word rest in_beacon in_pixel in_run =
    goes_on _ _ _ (decimal_only 0 255 beacon beacon_word _ in_beacon)
    ∙ goes_on _ _ _ (decimal_only 0 255 pixel pixel_word _ in_pixel)
    ∙ goes_on _ _ _ (decimal_only 0 255 run_priority run_word rest in_run)

record FoundAddress (words : List (List ℕ)) (found : List ℕ × List (List ℕ)) : Type 0 where
  word : List ℕ
  words_are : words ≡ word ∷ found.1
  spelled : SpellsAddress found.0 word

next_address_found : (words : List (List ℕ)) (found : List ℕ × List (List ℕ)) → next_address_at words ≡ Some found → FoundAddress words found
unfolding next_address_at
next_address_found words found e =
    let read = begun_as _ _ _ (word_found words) e in
    let address = begun_as _ _ _ (address_found read.0.0) read.2 in
    subst (FoundAddress words) (same_Some _ _ address.2) (record {
      word = read.0.0;
      words_are = read.1.0;
      spelled = address.1;
    })

record FoundTerms (words : List (List ℕ)) (terms : Terms) : Type 0 where
  minutes_word : List ℕ
  priority_word : List ℕ
  address_word : List ℕ
  words_are : words ≡ minutes_word ∷ priority_word ∷ address_word ∷ []
  minutes : SpellsTwoOctets terms.minutes minutes_word
  priority : SpellsOctet terms.priority priority_word
  address : SpellsAddress terms.address address_word

terms_found : (words : List (List ℕ)) (terms : Terms) → last_terms_at words ≡ Some terms → FoundTerms words terms
unfolding last_terms_at
terms_found words terms e =
    let minutes = begun_as _ _ _ (decimal_found 0 65535 words) e in
    let priority = begun_as _ _ _ (decimal_found 0 255 minutes.0.1) minutes.2 in
    let address = begun_as _ _ _ (next_address_found priority.0.1) priority.2 in
    let end = last_found _ address.0.1 terms address.2 in
    subst (FoundTerms words) end.1 (record {
      minutes_word = minutes.1.word;
      priority_word = priority.1.word;
      address_word = address.1.word;
      words_are = minutes.1.words_are ∙ ap (λ rest. minutes.1.word ∷ rest) (priority.1.words_are ∙ ap (λ rest. priority.1.word ∷ rest)
          (address.1.words_are ∙ ap (λ rest. address.1.word ∷ rest) end.0));
      minutes = minutes.1.spelled;
      priority = priority.1.spelled;
      address = address.1.spelled;
    })

terms_only : (minutes priority : ℕ) (address minutes_word priority_word address_word : List ℕ) → SpellsTwoOctets minutes minutes_word
    → SpellsOctet priority priority_word → SpellsAddress address address_word
    → last_terms_at (minutes_word ∷ priority_word ∷ address_word ∷ []) ≡ Some (record { minutes = minutes; priority = priority; address = address })
unfolding last_terms_at next_address_at
terms_only minutes priority address minutes_word priority_word address_word in_minutes in_priority in_address =
    let found : next_address_at (address_word ∷ []) ≡ Some (address, []) =
    goes_on _ _ _ (word_only address_word [] (address_some address_word address in_address)) ∙ goes_on _ _ _ (address_only address_word address in_address) in
    goes_on _ _ _ (decimal_only 0 65535 minutes minutes_word _ in_minutes)
    ∙ goes_on _ _ _ (decimal_only 0 255 priority priority_word _ in_priority)
    ∙ goes_on _ _ _ found

publish_found : (order : Order) (words : List (List ℕ)) (asked : CommandModel) → publish_at words ≡ Some asked
    → SpellsCommand order asked (codes "publish" ∷ words)
unfolding publish_at
publish_found order words asked e =
    let row = begun_as _ _ _ (row_found words) e in
    let text = begun_as _ _ _ (next_octets_found row.0.1) row.2 in
    let owner = begun_as _ _ _ (next_octets_found text.0.1) text.2 in
    let attributes = begun_as _ _ _ (attributes_found owner.0.1) owner.2 in
    let terms = begun_as _ _ _ (terms_found attributes.0.1) attributes.2 in
    subst (λ asked. SpellsCommand order asked (codes "publish" ∷ words)) (same_Some _ _ terms.2) (record {
      memory_word = row.1.memory_word;
      number_word = row.1.number_word;
      text_word = text.1.word;
      owner_word = owner.1.word;
      beacon_word = attributes.1.beacon_word;
      pixel_word = attributes.1.pixel_word;
      run_word = attributes.1.run_word;
      minutes_word = terms.1.minutes_word;
      priority_word = terms.1.priority_word;
      address_word = terms.1.address_word;
      words_are = ap (λ rest. codes "publish" ∷ rest) (row.1.words_are ∙ ap (λ rest. row.1.memory_word ∷ row.1.number_word ∷ rest)
          (text.1.words_are ∙ ap (λ rest. text.1.word ∷ rest) (owner.1.words_are ∙ ap (λ rest. owner.1.word ∷ rest)
          (attributes.1.words_are ∙ ap (λ rest. attributes.1.beacon_word ∷ attributes.1.pixel_word ∷ attributes.1.run_word ∷ rest)
          terms.1.words_are))));
      memory = row.1.memory;
      number = row.1.number;
      text = text.1.spelled;
      owner = owner.1.spelled;
      beacon = attributes.1.beacon;
      pixel = attributes.1.pixel;
      run_priority = attributes.1.run_priority;
      minutes = terms.1.minutes;
      priority = terms.1.priority;
      address = terms.1.address;
    })

publish_only : (publication : PublicationModel) (words : List (List ℕ)) → SpellsPublication publication (codes "publish" ∷ words)
    → publish_at words ≡ Some (Publish publication)
unfolding publish_at
publish_only publication words spelled =
    ap publish_at (same_rest _ _ _ _ spelled.words_are)
    ∙ goes_on _ _ _ (row_only publication.memory publication.number spelled.memory_word spelled.number_word _ spelled.memory spelled.number)
    ∙ goes_on _ _ _ (next_octets_only publication.text spelled.text_word _ spelled.text)
    ∙ goes_on _ _ _ (next_octets_only publication.owner spelled.owner_word _ spelled.owner)
    ∙ goes_on _ _ _ (attributes_only publication.beacon publication.pixel publication.run_priority spelled.beacon_word spelled.pixel_word spelled.run_word _
    spelled.beacon spelled.pixel spelled.run_priority)
    ∙ goes_on _ _ _ (terms_only publication.minutes publication.priority publication.address spelled.minutes_word spelled.priority_word spelled.address_word
    spelled.minutes spelled.priority spelled.address)

blank_found : (order : Order) (words : List (List ℕ)) (asked : CommandModel) → blank_at words ≡ Some asked → SpellsCommand order asked (codes "blank" ∷ words)
unfolding blank_at
blank_found order words asked e =
    let number = begun_as _ _ _ (decimal_found 0 65535 words) e in
    let terms = begun_as _ _ _ (terms_found number.0.1) number.2 in
    subst (λ asked. SpellsCommand order asked (codes "blank" ∷ words)) (same_Some _ _ terms.2) (record {
      number_word = number.1.word;
      minutes_word = terms.1.minutes_word;
      priority_word = terms.1.priority_word;
      address_word = terms.1.address_word;
      words_are = ap (λ rest. codes "blank" ∷ rest) (number.1.words_are ∙ ap (λ rest. number.1.word ∷ rest) terms.1.words_are);
      has_number = number.1.spelled;
      has_minutes = terms.1.minutes;
      has_priority = terms.1.priority;
      has_address = terms.1.address;
    })

blank_only : (number minutes priority : ℕ) (address : List ℕ) (words : List (List ℕ)) → SpellsBlank number minutes priority address (codes "blank" ∷ words)
    → blank_at words ≡ Some (Blank number minutes priority address)
unfolding blank_at
blank_only number minutes priority address words spelled =
    ap blank_at (same_rest _ _ _ _ spelled.words_are)
    ∙ goes_on _ _ _ (decimal_only 0 65535 number spelled.number_word _ spelled.has_number)
    ∙ goes_on _ _ _ (terms_only minutes priority address spelled.minutes_word spelled.priority_word spelled.address_word spelled.has_minutes spelled.has_priority
    spelled.has_address)

-- ---- lines

abbrev pub command_text : CommandWord → List ℕ
command_text key.Publish = codes "publish"
command_text key.Blank = codes "blank"
command_text key.Activate = codes "activate"

pub command_some : (keyword : CommandWord) → 0 < length (command_text keyword)
command_some keyword = grind arith

command_word_only : (keyword : CommandWord) → command_word (command_text keyword) ≡ Some keyword
unfolding command_word
command_word_only keyword = grind arith

pub command_word_found : (word : List ℕ) (keyword : CommandWord) → command_word word ≡ Some keyword → word ≡ command_text keyword
unfolding command_word
command_word_found word keyword e =
    by_text command_text word key.Publish keyword _ e λ e.
    by_text command_text word key.Blank keyword _ e λ e.
    by_text command_text word key.Activate keyword _ e λ e.
    absurd (none-some keyword e)

-- what is read after a keyword is what the words from the keyword on spell
pub command_after_found : (order : Order) (keyword : CommandWord) (words : List (List ℕ)) (asked : CommandModel) → command_after order keyword words ≡ Some asked
    → SpellsCommand order asked (command_text keyword ∷ words)
command_after_found order key.Publish words asked e = publish_found order words asked e
command_after_found order key.Blank words asked e = blank_found order words asked e
command_after_found order key.Activate words asked e =
    let made = mapped_some _ _ _ e in subst (λ asked. SpellsCommand order asked (codes "activate" ∷ words)) made.2 (last_code_found order (codes "activate") words made.0 made.1)

-- a command's words are a keyword, and words of which the command is read
pub record IsRead (order : Order) (asked : CommandModel) (words : List (List ℕ)) : Type 0 where
  pub keyword : CommandWord
  pub rest : List (List ℕ)
  pub words_are : words ≡ command_text keyword ∷ rest
  pub read : command_after order keyword rest ≡ Some asked

pub is_read : (order : Order) (asked : CommandModel) (words : List (List ℕ)) → SpellsCommand order asked words → IsRead order asked words
is_read order (Publish publication) words spelled = record {
  keyword = key.Publish;
  rest = _;
  words_are = spelled.words_are;
  read = publish_only publication _ (subst (SpellsPublication publication) spelled.words_are spelled);
}
is_read order (Blank number minutes priority address) words spelled = record {
  keyword = key.Blank;
  rest = _;
  words_are = spelled.words_are;
  read = blank_only number minutes priority address _ (subst (SpellsBlank number minutes priority address) spelled.words_are spelled);
}
is_read order (Activate code) words spelled = record {
  keyword = key.Activate;
  rest = spelled.word ∷ [];
  words_are = spelled.words_are;
  read = ap (option_map Activate) (last_code_only order spelled.word code spelled.spelled);
}

pub command_found : (order : Order) (line : List ℕ) (asked : CommandModel) → command_of order line ≡ Some asked → SpellsCommand order asked (words_of line)
unfolding command_of
command_found order line asked e =
    line_found command_word command_text (command_after order) (SpellsCommand order) command_word_found (command_after_found order) line asked e

pub command_only : (order : Order) (line : List ℕ) (asked : CommandModel) → SpellsCommand order asked (words_of line) → command_of order line ≡ Some asked
unfolding command_of
command_only order line asked spelled =
    let is = is_read order asked (words_of line) spelled in
    line_read command_word command_text (command_after order) command_some command_word_only is.keyword line is.rest is.words_are ∙ is.read

-- a line spells at most one command
pub one_command : (order : Order) (line : List ℕ) (one other : CommandModel) → SpellsCommand order one (words_of line) → SpellsCommand order other (words_of line)
    → one ≡ other
one_command order line one other this that = same_Some _ _ (sym (command_only order line one this) ∙ command_only order line other that)
