-- The value that is read of words is the one that they spell.
use Rattle.std.proofs.Common.{◌≡◌, ℕ, ◌<◌, ◌≤◌, true, cond, List, [], ◌∷◌, ◌++◌, Option, Some, refl, sym, ap, subst, ◌∙◌, arith, inl, inr}
use Rattle.std.specs.Prelude.{ℤ, pos, neg_ℤ, codes, zero, suc, ◌^◌}
use Rattle.std.proofs.lemmas.Bool.{lt-ltb, cases_Bool}
use Rattle.std.proofs.lemmas.Option.{same_Some, none-some}
use Rattle.dms_wire_ber.specs.Integer.{in_range}
use Rattle.dms_wire.specs.Message.{ObjectValue, integer, octet_string, null, object_identifier, ip_address, counter, gauge, time_ticks, opaque}
use Rattle.dms_text.specs.Octets.{SpellsOctets}
use Rattle.dms_text.specs.Reading.{word_at, same_octets, ◌>>=◌}
use Rattle.dms_text.proofs.WordLaws.{begun, goes_on, same_found, word_found, word_only, keyword_found, keyword_only, numeral_found, numeral_only}
use Rattle.dms_text_forms.specs.Fields.{SpellsFourOctets, SpellsOne, SpellsAddress}
use Rattle.dms_text_forms.proofs.AddressLaws.{address_found, address_only, address_some}
use Rattle.dms_text_forms.proofs.FieldLaws.{next_octets_found, next_octets_only}
use Rattle.dms_device.specs.Object.{can_be_sent}
use Rattle.dms_text_values.specs.ValueReading.{integer_value_at, octet_string_at, object_identifier_at, ip_address_at, counter_at, gauge_at, time_ticks_at, opaque_at, large_number_at, application_word, type_word, value_after, value_at}
use Rattle.dms_agent_state.specs.ObjectFields.{SpellsName, SpellsInteger}
use Rattle.dms_agent_state.specs.SpelledValue.{SpellsValue}
use Rattle.dms_agent_state.proofs.ObjectWordLaws.{name_found, name_only, name_some, integer_found, integer_only}

-- ---- types

-- what is read after a keyword, or after another one
by_type : {A B P : Type 0} (word keyword : List ℕ) (this : A) (others : Option A) (next : A → Option B) (found : B)
    → (cond (same_octets word keyword) (Some this) others >>= next) ≡ Some found
    → (word ≡ keyword → next this ≡ Some found → P) → ((others >>= next) ≡ Some found → P) → P
by_type word keyword this others next found e here there =
    elim (cases_Bool (same_octets word keyword)) [
      | inl same ↦ here (same_found _ _ same) (ap (λ b. cond b (Some this) others >>= next) (sym same) ∙ e)
      | inr other ↦ there (ap (λ b. cond b (Some this) others >>= next) (sym other) ∙ e)
    ]

-- ---- what is read is spelled

-- the words of a value, and those after them
pub record FoundValue (words : List (List ℕ)) (found : ObjectValue × List (List ℕ)) : Type 0 where
  pub front : List (List ℕ)
  pub words_are : words ≡ front ++ found.1
  pub spelled : SpellsValue found.0 front

-- a number of four octets
record FoundNumber (words : List (List ℕ)) (found : ℕ × List (List ℕ)) : Type 0 where
  word : List ℕ
  words_are : words ≡ word ∷ found.1
  spelled : SpellsFourOctets found.0 word

large_found : (words : List (List ℕ)) (found : ℕ × List (List ℕ)) → large_number_at words ≡ Some found → FoundNumber words found
large_found words found e =
    let number = numeral_found 10 0 4294967295 words found e in
    record {
      word = number.word;
      words_are = number.words_are;
      spelled = record { spelled = number.spelled; small = omega (arith, number.greatest) };
    }

-- a value of which one word stands after that of its type
of_one_word : {A : Type 0} (keyword : List ℕ) (value_of : A → ObjectValue) (Spells : A → List ℕ → Type 0) (words : List (List ℕ)) (found : ObjectValue × List (List ℕ))
    (read : A × List (List ℕ)) (word : List ℕ) → words ≡ word ∷ read.1 → Spells read.0 word
    → (SpellsOne keyword (Spells read.0) (keyword ∷ word ∷ []) → SpellsValue (value_of read.0) (keyword ∷ word ∷ [])) → Some (value_of read.0, read.1) ≡ Some found
    → FoundValue (keyword ∷ words) found
of_one_word keyword value_of Spells words found read word words_are spelled is e =
    let same : (value_of read.0, read.1) ≡ found = same_Some _ _ e in
    subst (FoundValue (keyword ∷ words)) same (record {
      front = keyword ∷ word ∷ [];
      words_are = ap (λ rest. keyword ∷ rest) words_are;
      spelled = is (record { word = word; words_are = refl; spelled = spelled });
    })

integer_value_found : (words : List (List ℕ)) (found : ObjectValue × List (List ℕ)) → integer_value_at words ≡ Some found → FoundValue (codes "INTEGER" ∷ words) found
unfolding integer_value_at
integer_value_found words found e =
    let read = begun _ _ _ e in
    let number = integer_found words read.0 read.1 in
    of_one_word (codes "INTEGER") integer SpellsInteger words found read.0 number.word number.words_are number.spelled (λ spelled. spelled) read.2

octet_string_found : (words : List (List ℕ)) (found : ObjectValue × List (List ℕ)) → octet_string_at words ≡ Some found → FoundValue (codes "OCTET" ∷ words) found
unfolding octet_string_at
octet_string_found words found e =
    let string = begun _ _ _ e in
    let read = begun _ _ _ string.2 in
    let octets = next_octets_found string.0 read.0 read.1 in
    subst (FoundValue (codes "OCTET" ∷ words)) (same_Some _ _ read.2) (record {
      front = codes "OCTET" ∷ codes "STRING" ∷ octets.word ∷ [];
      words_are = ap (λ rest. codes "OCTET" ∷ rest) (keyword_found (codes "STRING") words string.0 string.1
          ∙ ap (λ rest. codes "STRING" ∷ rest) octets.words_are);
      spelled = record { word = octets.word; words_are = refl; spelled = octets.spelled };
    })

null_found : (words : List (List ℕ)) (found : ObjectValue × List (List ℕ)) → Some (null, words) ≡ Some found → FoundValue (codes "NULL" ∷ words) found
null_found words found e =
    subst (FoundValue (codes "NULL" ∷ words)) (same_Some _ _ e) (record { front = codes "NULL" ∷ []; words_are = refl; spelled = refl })

object_identifier_found : (words : List (List ℕ)) (found : ObjectValue × List (List ℕ)) → object_identifier_at words ≡ Some found
    → FoundValue (codes "OBJECT" ∷ words) found
unfolding object_identifier_at
object_identifier_found words found e =
    let identifier = begun _ _ _ e in
    let read = begun _ _ _ identifier.2 in
    let name = begun _ _ _ read.2 in
    let same : (object_identifier name.0, read.0.1) ≡ found = same_Some _ _ name.2 in
    subst (FoundValue (codes "OBJECT" ∷ words)) same (record {
      front = codes "OBJECT" ∷ codes "IDENTIFIER" ∷ read.0.0 ∷ [];
      words_are = ap (λ rest. codes "OBJECT" ∷ rest) (keyword_found (codes "IDENTIFIER") words identifier.0 identifier.1
          ∙ ap (λ rest. codes "IDENTIFIER" ∷ rest) (word_found identifier.0 read.0 read.1).0);
      spelled = record { word = read.0.0; words_are = refl; spelled = name_found read.0.0 name.0 name.1 };
    })

ip_address_found : (words : List (List ℕ)) (found : ObjectValue × List (List ℕ)) → ip_address_at words ≡ Some found → FoundValue (codes "IpAddress" ∷ words) found
unfolding ip_address_at
ip_address_found words found e =
    let read = begun _ _ _ e in
    let address = begun _ _ _ read.2 in
    of_one_word (codes "IpAddress") ip_address SpellsAddress words found (address.0, read.0.1) read.0.0 (word_found words read.0 read.1).0
    (address_found read.0.0 address.0 address.1) (λ spelled. spelled) address.2

counter_found : (words : List (List ℕ)) (found : ObjectValue × List (List ℕ)) → counter_at words ≡ Some found → FoundValue (codes "Counter" ∷ words) found
unfolding counter_at
counter_found words found e =
    let read = begun _ _ _ e in
    let number = large_found words read.0 read.1 in
    of_one_word (codes "Counter") counter SpellsFourOctets words found read.0 number.word number.words_are number.spelled (λ spelled. spelled) read.2

gauge_found : (words : List (List ℕ)) (found : ObjectValue × List (List ℕ)) → gauge_at words ≡ Some found → FoundValue (codes "Gauge" ∷ words) found
unfolding gauge_at
gauge_found words found e =
    let read = begun _ _ _ e in
    let number = large_found words read.0 read.1 in
    of_one_word (codes "Gauge") gauge SpellsFourOctets words found read.0 number.word number.words_are number.spelled (λ spelled. spelled) read.2

time_ticks_found : (words : List (List ℕ)) (found : ObjectValue × List (List ℕ)) → time_ticks_at words ≡ Some found → FoundValue (codes "TimeTicks" ∷ words) found
unfolding time_ticks_at
time_ticks_found words found e =
    let read = begun _ _ _ e in
    let number = large_found words read.0 read.1 in
    of_one_word (codes "TimeTicks") time_ticks SpellsFourOctets words found read.0 number.word number.words_are number.spelled (λ spelled. spelled) read.2

opaque_found : (words : List (List ℕ)) (found : ObjectValue × List (List ℕ)) → opaque_at words ≡ Some found → FoundValue (codes "Opaque" ∷ words) found
unfolding opaque_at
opaque_found words found e =
    let read = begun _ _ _ e in
    let octets = next_octets_found words read.0 read.1 in
    of_one_word (codes "Opaque") opaque SpellsOctets words found read.0 octets.word octets.words_are octets.spelled (λ spelled. spelled) read.2

type_found : (word : List ℕ) (words : List (List ℕ)) (found : ObjectValue × List (List ℕ))
    → (type_word word >>= (λ kind. value_after kind words)) ≡ Some found → FoundValue (word ∷ words) found
unfolding type_word application_word
type_found word words found e =
    let at = λ (keyword : List ℕ) (is : word ≡ keyword) (read : FoundValue (keyword ∷ words) found).
    subst (λ word. FoundValue (word ∷ words) found) (sym is) read
    in
    by_type word (codes "INTEGER") _ _ _ found e (λ is e. at _ is (integer_value_found words found e)) λ e.
    by_type word (codes "OCTET") _ _ _ found e (λ is e. at _ is (octet_string_found words found e)) λ e.
    by_type word (codes "NULL") _ _ _ found e (λ is e. at _ is (null_found words found e)) λ e.
    by_type word (codes "OBJECT") _ _ _ found e (λ is e. at _ is (object_identifier_found words found e)) λ e.
    by_type word (codes "IpAddress") _ _ _ found e (λ is e. at _ is (ip_address_found words found e)) λ e.
    by_type word (codes "Counter") _ _ _ found e (λ is e. at _ is (counter_found words found e)) λ e.
    by_type word (codes "Gauge") _ _ _ found e (λ is e. at _ is (gauge_found words found e)) λ e.
    by_type word (codes "TimeTicks") _ _ _ found e (λ is e. at _ is (time_ticks_found words found e)) λ e.
    by_type word (codes "Opaque") _ _ _ found e (λ is e. at _ is (opaque_found words found e)) λ e.
    absurd (none-some found e)

pub value_found : (words : List (List ℕ)) (found : ObjectValue × List (List ℕ)) → value_at words ≡ Some found → FoundValue words found
unfolding value_at
value_found words found e =
    let read = begun _ _ _ e in
    subst (λ words. FoundValue words found) (sym (word_found words read.0 read.1).0) (type_found read.0.0 read.0.1 found read.2)

-- ---- what is spelled is read

large_only : (number : ℕ) (word : List ℕ) (rest : List (List ℕ)) → SpellsFourOctets number word → large_number_at (word ∷ rest) ≡ Some (number, rest)
large_only number word rest spelled = numeral_only 10 0 4294967295 number word rest spelled.spelled (omega arith) (omega (arith, spelled.small))

-- what stands after the word of a type
integer_read : (words : List (List ℕ)) → value_at (codes "INTEGER" ∷ words) ≡ integer_value_at words
unfolding value_at word_at type_word
integer_read words = refl

octet_read : (words : List (List ℕ)) → value_at (codes "OCTET" ∷ words) ≡ octet_string_at words
unfolding value_at word_at type_word
octet_read words = refl

null_read : (words : List (List ℕ)) → value_at (codes "NULL" ∷ words) ≡ Some (null, words)
unfolding value_at word_at type_word
null_read words = refl

object_read : (words : List (List ℕ)) → value_at (codes "OBJECT" ∷ words) ≡ object_identifier_at words
unfolding value_at word_at type_word
object_read words = refl

address_read : (words : List (List ℕ)) → value_at (codes "IpAddress" ∷ words) ≡ ip_address_at words
unfolding value_at word_at type_word application_word
address_read words = refl

counter_read : (words : List (List ℕ)) → value_at (codes "Counter" ∷ words) ≡ counter_at words
unfolding value_at word_at type_word application_word
counter_read words = refl

gauge_read : (words : List (List ℕ)) → value_at (codes "Gauge" ∷ words) ≡ gauge_at words
unfolding value_at word_at type_word application_word
gauge_read words = refl

ticks_read : (words : List (List ℕ)) → value_at (codes "TimeTicks" ∷ words) ≡ time_ticks_at words
unfolding value_at word_at type_word application_word
ticks_read words = refl

opaque_read : (words : List (List ℕ)) → value_at (codes "Opaque" ∷ words) ≡ opaque_at words
unfolding value_at word_at type_word application_word
opaque_read words = refl

integer_value_only : (number : ℤ) (word : List ℕ) (rest : List (List ℕ)) → SpellsInteger number word → integer_value_at (word ∷ rest) ≡ Some (integer number, rest)
unfolding integer_value_at
integer_value_only number word rest spelled = goes_on _ _ _ (integer_only word rest number spelled)

octet_string_only : (octets word : List ℕ) (rest : List (List ℕ)) → SpellsOctets octets word
    → octet_string_at (codes "STRING" ∷ word ∷ rest) ≡ Some (octet_string octets, rest)
unfolding octet_string_at
octet_string_only octets word rest spelled =
    goes_on _ _ _ (keyword_only (codes "STRING") (word ∷ rest) (omega arith)) ∙ goes_on _ _ _ (next_octets_only octets word rest spelled)

object_identifier_only : (numbers word : List ℕ) (rest : List (List ℕ)) → SpellsName numbers word
    → object_identifier_at (codes "IDENTIFIER" ∷ word ∷ rest) ≡ Some (object_identifier numbers, rest)
unfolding object_identifier_at
object_identifier_only numbers word rest spelled =
    goes_on _ _ _ (keyword_only (codes "IDENTIFIER") (word ∷ rest) (omega arith))
    ∙ goes_on _ _ _ (word_only word rest (name_some word numbers spelled))
    ∙ goes_on _ _ _ (name_only word numbers spelled)

ip_address_only : (address word : List ℕ) (rest : List (List ℕ)) → SpellsAddress address word → ip_address_at (word ∷ rest) ≡ Some (ip_address address, rest)
unfolding ip_address_at
ip_address_only address word rest spelled =
    goes_on _ _ _ (word_only word rest (address_some word address spelled)) ∙ goes_on _ _ _ (address_only word address spelled)

counter_only : (number : ℕ) (word : List ℕ) (rest : List (List ℕ)) → SpellsFourOctets number word → counter_at (word ∷ rest) ≡ Some (counter number, rest)
unfolding counter_at
counter_only number word rest spelled = goes_on _ _ _ (large_only number word rest spelled)

gauge_only : (number : ℕ) (word : List ℕ) (rest : List (List ℕ)) → SpellsFourOctets number word → gauge_at (word ∷ rest) ≡ Some (gauge number, rest)
unfolding gauge_at
gauge_only number word rest spelled = goes_on _ _ _ (large_only number word rest spelled)

time_ticks_only : (number : ℕ) (word : List ℕ) (rest : List (List ℕ)) → SpellsFourOctets number word → time_ticks_at (word ∷ rest) ≡ Some (time_ticks number, rest)
unfolding time_ticks_at
time_ticks_only number word rest spelled = goes_on _ _ _ (large_only number word rest spelled)

opaque_only : (octets word : List ℕ) (rest : List (List ℕ)) → SpellsOctets octets word → opaque_at (word ∷ rest) ≡ Some (opaque octets, rest)
unfolding opaque_at
opaque_only octets word rest spelled = goes_on _ _ _ (next_octets_only octets word rest spelled)

-- whatever stands after them
pub value_only : (value : ObjectValue) (front rest : List (List ℕ)) → SpellsValue value front → value_at (front ++ rest) ≡ Some (value, rest)
value_only (integer number) front rest spelled =
    ap (λ front. value_at (front ++ rest)) spelled.words_are
    ∙ integer_read (spelled.word ∷ rest)
    ∙ integer_value_only number spelled.word rest spelled.spelled
value_only (octet_string octets) front rest spelled =
    ap (λ front. value_at (front ++ rest)) spelled.words_are
    ∙ octet_read (codes "STRING" ∷ spelled.word ∷ rest)
    ∙ octet_string_only octets spelled.word rest spelled.spelled
value_only null front rest spelled = ap (λ front. value_at (front ++ rest)) spelled ∙ null_read rest
value_only (object_identifier numbers) front rest spelled =
    ap (λ front. value_at (front ++ rest)) spelled.words_are
    ∙ object_read (codes "IDENTIFIER" ∷ spelled.word ∷ rest)
    ∙ object_identifier_only numbers spelled.word rest spelled.spelled
value_only (ip_address octets) front rest spelled =
    ap (λ front. value_at (front ++ rest)) spelled.words_are
    ∙ address_read (spelled.word ∷ rest)
    ∙ ip_address_only octets spelled.word rest spelled.spelled
value_only (counter number) front rest spelled =
    ap (λ front. value_at (front ++ rest)) spelled.words_are
    ∙ counter_read (spelled.word ∷ rest)
    ∙ counter_only number spelled.word rest spelled.spelled
value_only (gauge number) front rest spelled =
    ap (λ front. value_at (front ++ rest)) spelled.words_are
    ∙ gauge_read (spelled.word ∷ rest)
    ∙ gauge_only number spelled.word rest spelled.spelled
value_only (time_ticks number) front rest spelled =
    ap (λ front. value_at (front ++ rest)) spelled.words_are
    ∙ ticks_read (spelled.word ∷ rest)
    ∙ time_ticks_only number spelled.word rest spelled.spelled
value_only (opaque octets) front rest spelled =
    ap (λ front. value_at (front ++ rest)) spelled.words_are
    ∙ opaque_read (spelled.word ∷ rest)
    ∙ opaque_only octets spelled.word rest spelled.spelled

-- ---- what a message can have

positive_sent : (number : ℤ) (size : ℕ) → size < 2 ^ 32 → number ≡ pos size → in_range number ≡ true
positive_sent number size small is = ap in_range is ∙ lt-ltb _ _ small

negative_sent : (number : ℤ) (size : ℕ) → size ≤ 2 ^ 31 → number ≡ neg_ℤ (pos size) → in_range number ≡ true
negative_sent number zero small is = ap in_range is
negative_sent number (suc size) small is = ap in_range is ∙ lt-ltb _ _ (omega (arith, small))

pub integer_sent : (number : ℤ) (word : List ℕ) → SpellsInteger number word → in_range number ≡ true
integer_sent number word (inl spelled) = positive_sent number spelled.size spelled.spelled.small spelled.value
integer_sent number word (inr spelled) = negative_sent number spelled.size spelled.small spelled.value

-- words spell no INTEGER that a message cannot have
pub value_sent : (value : ObjectValue) (words : List (List ℕ)) → SpellsValue value words → can_be_sent value ≡ true
value_sent (integer number) words spelled = integer_sent number spelled.word spelled.spelled
value_sent (octet_string octets) words spelled = refl
value_sent null words spelled = refl
value_sent (object_identifier numbers) words spelled = refl
value_sent (ip_address octets) words spelled = refl
value_sent (counter number) words spelled = refl
value_sent (gauge number) words spelled = refl
value_sent (time_ticks number) words spelled = refl
value_sent (opaque octets) words spelled = refl

pub read_sent : (value : ObjectValue) (words rest : List (List ℕ)) → Some (value, rest) ≡ value_at words → can_be_sent value ≡ true
read_sent value words rest e =
    let found = value_found words (value, rest) (sym e) in
    value_sent value found.front found.spelled
