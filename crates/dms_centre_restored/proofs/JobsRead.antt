-- The lines of a job's step and of its work are read as those.
use Rattle.std.proofs.Common.{◌≡◌, ℕ, ◌<◌, ◌≤◌, ◌==◌, ◌||◌, ◌&&◌, Bool, true, false, cond, is_none, List, [], ◌∷◌, ◌++◌, length, nat_le, nat_lt, Option, Some, None, decimal, codes, refl, sym, ap, subst, ◌∙◌, append_assoc, arith}
use Rattle.std.specs.List.{AllByRecursion}
use Rattle.std.proofs.lemmas.Bool.{and_from, and_right, leb-true, ltb-true, false≢true}
use Rattle.std.proofs.lemmas.Bool.Decides.{nat_tests}
use Rattle.hex.specs.Hex.{IsBytes}
use Rattle.dms_wire_ber.specs.NameText.{dotted}
use Rattle.dms_text.specs.Numbers.{SpellsDecimal}
use Rattle.dms_text.specs.Words.{parts_of, words_of}
use Rattle.dms_text.specs.Reading.{word_at, ◌>>=◌}
use Rattle.dms_text.proofs.WordLaws.{goes_on}
use Rattle.dms_text_forms.specs.Fields.{SpellsEach, SpellsAddressPart, SpellsAddress}
use Rattle.dms_text_forms.specs.LineText.{code_text}
use Rattle.dms_text_values.specs.ValueText.{octets_text}
use Rattle.dms_codes.specs.declared.codes.Order.{Order}
use Rattle.dms_codes.specs.declared.codes.Order.TheVariants.{High}
use Rattle.dms_codes.specs.declared.codes.Activation.{Activation}
use Rattle.dms_codes.specs.Codes.{IsActivation}
use Rattle.dms_centre_jobs.specs.declared.step.Step.{Step}
use Rattle.dms_centre_jobs.specs.declared.step.Step.TheVariants as steps
use Rattle.dms_centre_jobs.specs.Job.{PublicationModel, Work, Publishing, Showing}
use Rattle.dms_centre_jobs.specs.Steps.{step_number}
use Rattle.dms_centre_jobs.specs.Commands.{CommandModel, Publish, Activate, IsAddress, IsPublication, is_publishable, is_good, job_of}
use Rattle.dms_centre_jobs.specs.Requests.{IsWork, OfPublishing, OfShowing}
use Rattle.dms_centre.specs.declared.restoring.SavedStage.{SavedStage}
use Rattle.dms_centre.specs.Restoring.{suits}
use Rattle.dms_centre_text.specs.CommandLine.{SpellsPublication}
use Rattle.dms_centre_text.specs.CommandReading.{publish_at, command_word, command_of}
use Rattle.dms_centre_text.proofs.CommandLaws.{command_only}
use Rattle.dms_centre_state.specs.CentreText.{number_line, publish_line, work_line}
use Rattle.dms_text_exact.proofs.DigitLaws.{bytes_below}
use Rattle.dms_text_exact.specs.ExactWords.{number_in}
use Rattle.dms_text_exact.specs.Fronts.{behind}
use Rattle.dms_text_exact.proofs.FrontLaws.{behind_only}
use Rattle.dms_text_exact.proofs.DigitLaws.{spells_octets}
use Rattle.dms_text_exact.proofs.NumberLaws.{spells_number, number_word_only}
use Rattle.dms_text_exact.proofs.AddressLaws.{dotted_is, four_parts}
use Rattle.dms_centre_restored.specs.WordReading.{after_number, after_octets, after_address, code_in}
use Rattle.dms_centre_restored.specs.LineReading.{field_at, step_of, comes_to, step_in, step_line_at, after_row, after_message, after_terms, is_last, are_terms, is_publication, publication_at, activation_at, is_of_showing, work_at}
use Rattle.dms_centre_restored.proofs.WordsRead.{some, IsWord, spaced, words_spaced, spaced_free, decimal_word, after_number_only, after_octets_only, octets_word, code_only, code_word, four_in, address_word, after_address_only}
use Rattle.dms_centre_restored.proofs.LinesRead.{field_only}

-- ---- publications

-- what is known of one that is published
pub record IsFit (p : PublicationModel) : Type 0 where
  pub low_memory : 3 ≤ p.memory
  pub memory : p.memory ≤ 4
  pub low_number : 1 ≤ p.number
  pub number : p.number ≤ 65535
  pub few_text : length p.text ≤ 512
  pub text : IsBytes p.text
  pub few_owner : length p.owner ≤ 127
  pub owner : IsBytes p.owner
  pub beacon : p.beacon ≤ 1
  pub pixel : p.pixel ≤ 1
  pub low_run : 1 ≤ p.run_priority
  pub run_priority : p.run_priority ≤ 255
  pub minutes : p.minutes ≤ 65535
  pub priority : p.priority ≤ 255
  pub address : IsAddress p.address

either_memory : (n : ℕ) → (n == 3 || n == 4) ≡ true → (3 ≤ n) × (n ≤ 4)
either_memory n e = grind (arith, nat_tests)

all_of : (memory number text owner beacon pixel run : Bool) → (memory && number && text && owner && beacon && pixel && run) ≡ true
    → (memory ≡ true) × (number ≡ true) × (text ≡ true) × (owner ≡ true) × (beacon ≡ true) × (pixel ≡ true) × (run ≡ true)
all_of memory number text owner beacon pixel run e = grind arith

pub is_fit : (p : PublicationModel) → IsPublication p → is_publishable p ≡ true → IsFit p
is_fit p is good =
    let all = all_of (p.memory == 3 || p.memory == 4) (nat_lt 0 p.number) (nat_le (length p.text) 512) (nat_le (length p.owner) 127) (nat_le p.beacon 1) (nat_le p.pixel 1) (nat_lt 0 p.run_priority) good in
    let memory = either_memory p.memory all.0 in
    record {
      low_memory = memory.0;
      memory = memory.1;
      low_number = ltb-true 0 p.number all.1;
      number = omega (arith, is.number);
      few_text = leb-true (length p.text) 512 all.2;
      text = bytes_below p.text is.text;
      few_owner = leb-true (length p.owner) 127 all.3;
      owner = bytes_below p.owner is.owner;
      beacon = leb-true p.beacon 1 all.4;
      pixel = leb-true p.pixel 1 all.5;
      low_run = ltb-true 0 p.run_priority all.6;
      run_priority = omega (arith, is.run_priority);
      minutes = omega (arith, is.minutes);
      priority = omega (arith, is.priority);
      address = is.address;
    }

abbrev pub last_words : PublicationModel → List (List ℕ)
last_words p = decimal p.minutes ∷ decimal p.priority ∷ dotted p.address ∷ []

abbrev pub attribute_words : PublicationModel → List (List ℕ)
attribute_words p = decimal p.beacon ∷ decimal p.pixel ∷ decimal p.run_priority ∷ last_words p

abbrev pub more_words : PublicationModel → List (List ℕ)
more_words p = decimal p.number ∷ octets_text p.text ∷ octets_text p.owner ∷ attribute_words p

abbrev pub words : PublicationModel → List ℕ
words p = spaced (decimal p.memory) (more_words p)

pub are_words : (p : PublicationModel) → IsFit p → IsWord (decimal p.memory) × AllByRecursion IsWord (more_words p)
are_words p is =
    let number : (n : ℕ) → n ≤ 65535 → IsWord (decimal n) = λ n small. decimal_word n (omega (arith, small)) in (
      number p.memory (omega (arith, is.memory)),
      (
        number p.number is.number,
        (
          octets_word p.text is.text,
          (
            octets_word p.owner is.owner,
            (
              number p.beacon (omega (arith, is.beacon)),
              (
                number p.pixel (omega (arith, is.pixel)),
                (
                  number p.run_priority (omega (arith, is.run_priority)),
                  (number p.minutes is.minutes, (number p.priority (omega (arith, is.priority)), (address_word p.address is.address, tt))),
                ),
              ),
            ),
          ),
        ),
      ),
    )

-- ---- its words are those of a publication that can be written

row_read : (p : PublicationModel) → IsFit p → after_row (decimal p.memory ∷ more_words p) ≡ Some (attribute_words p)
unfolding after_row
row_read p is =
    goes_on (after_number 3 4 (decimal p.memory ∷ more_words p)) (λ words. after_number 1 65535 words >>= (λ words. after_octets 512 words >>= (λ words. after_octets 127 words)))
    (more_words p) (after_number_only 3 4 p.memory (more_words p) is.low_memory is.memory (omega arith))
    ∙ goes_on (after_number 1 65535 (more_words p)) (λ words. after_octets 512 words >>= (λ words. after_octets 127 words))
    (octets_text p.text ∷ octets_text p.owner ∷ attribute_words p) (after_number_only 1 65535 p.number (octets_text p.text ∷ octets_text p.owner ∷ attribute_words p) is.low_number is.number (omega arith))
    ∙ goes_on (after_octets 512 (octets_text p.text ∷ octets_text p.owner ∷ attribute_words p)) (λ words. after_octets 127 words)
    (octets_text p.owner ∷ attribute_words p) (after_octets_only 512 p.text (octets_text p.owner ∷ attribute_words p) is.few_text is.text)
    ∙ after_octets_only 127 p.owner (attribute_words p) is.few_owner is.owner

message_read : (p : PublicationModel) → IsFit p → after_message (decimal p.memory ∷ more_words p) ≡ Some (last_words p)
unfolding after_message
message_read p is =
    goes_on (after_row (decimal p.memory ∷ more_words p)) (λ words. after_number 0 1 words >>= (λ words. after_number 0 1 words >>= (λ words. after_number 1 255 words)))
    (attribute_words p) (row_read p is)
    ∙ goes_on (after_number 0 1 (attribute_words p)) (λ words. after_number 0 1 words >>= (λ words. after_number 1 255 words))
    (decimal p.pixel ∷ decimal p.run_priority ∷ last_words p) (after_number_only 0 1 p.beacon (decimal p.pixel ∷ decimal p.run_priority ∷ last_words p) (omega arith) is.beacon (omega arith))
    ∙ goes_on (after_number 0 1 (decimal p.pixel ∷ decimal p.run_priority ∷ last_words p)) (λ words. after_number 1 255 words)
    (decimal p.run_priority ∷ last_words p) (after_number_only 0 1 p.pixel (decimal p.run_priority ∷ last_words p) (omega arith) is.pixel (omega arith))
    ∙ after_number_only 1 255 p.run_priority (last_words p) is.low_run is.run_priority (omega arith)

terms_read : (p : PublicationModel) → IsFit p → after_terms (last_words p) ≡ Some []
unfolding after_terms
terms_read p is =
    goes_on (after_number 0 65535 (last_words p)) (λ words. after_number 0 255 words >>= (λ words. after_address words))
    (decimal p.priority ∷ dotted p.address ∷ []) (after_number_only 0 65535 p.minutes (decimal p.priority ∷ dotted p.address ∷ []) (omega arith) is.minutes (omega arith))
    ∙ goes_on (after_number 0 255 (decimal p.priority ∷ dotted p.address ∷ [])) (λ words. after_address words)
    (dotted p.address ∷ []) (after_number_only 0 255 p.priority (dotted p.address ∷ []) (omega arith) is.priority (omega arith))
    ∙ after_address_only p.address [] is.address

pub words_are : (p : PublicationModel) → IsFit p → words_of (words p) ≡ decimal p.memory ∷ more_words p
words_are p is = let are = are_words p is in words_spaced (decimal p.memory) (more_words p) are.0 are.1

can_be_written : (p : PublicationModel) → IsFit p → is_publication (words p) ≡ true
unfolding is_publication
can_be_written p is =
    ap (λ words. are_terms (after_message words)) (words_are p is)
    ∙ ap (λ found. are_terms found) (message_read p is)
    ∙ ap (λ found. is_last found) (terms_read p is)

-- ---- they are those of its command

spells_decimal : (low high n : ℕ) → low ≤ n → n ≤ high → n ≤ 65535 → SpellsDecimal low high n (decimal n)
spells_decimal low high n least most small =
    record { spelled = spells_number 5 n (omega arith) (omega (arith, small)) (omega (arith, small)); least = least; greatest = most }

spells_part : (n : ℕ) → n < 256 → SpellsAddressPart n (decimal n)
spells_part n small = record { spelled = spells_number 3 n (omega arith) (omega (arith, small)) (omega (arith, small)); small = omega (arith, small) }

spells_address : (address : List ℕ) → IsAddress address → SpellsAddress address (dotted address)
spells_address address is =
    let f = four_in address is in
    let four = f.a ∷ f.b ∷ f.c ∷ f.d ∷ [] in
    let parts = four_parts f.a f.b f.c f.d f.a_small f.b_small f.c_small f.d_small in
    let each : SpellsEach SpellsAddressPart four (decimal f.a ∷ decimal f.b ∷ decimal f.c ∷ decimal f.d ∷ []) =
    (spells_part f.a f.a_small, (spells_part f.b f.b_small, (spells_part f.c f.c_small, (spells_part f.d f.d_small, refl)))) in
    let whole : SpellsAddress four (dotted four) = record {
      four = refl;
      parts = subst (SpellsEach SpellsAddressPart four) (sym (ap (λ word. parts_of 46 word) (dotted_is four (record { a = f.a; b = f.b; c = f.c; d = f.d; is = refl; a_small = f.a_small; b_small = f.b_small; c_small = f.c_small; d_small = f.d_small })) ∙ parts)) each;
    } in
    subst (λ address. SpellsAddress address (dotted address)) (sym f.is) whole

spells : (p : PublicationModel) → IsFit p → SpellsPublication p (words_of (codes "publish " ++ words p))
spells p is = record {
  memory_word = decimal p.memory;
  number_word = decimal p.number;
  text_word = octets_text p.text;
  owner_word = octets_text p.owner;
  beacon_word = decimal p.beacon;
  pixel_word = decimal p.pixel;
  run_word = decimal p.run_priority;
  minutes_word = decimal p.minutes;
  priority_word = decimal p.priority;
  address_word = dotted p.address;
  words_are = ap (λ words. codes "publish" ∷ words) (words_are p is);
  memory = spells_decimal 0 255 p.memory (omega arith) (omega (arith, is.memory)) (omega (arith, is.memory));
  number = spells_decimal 0 65535 p.number (omega arith) is.number is.number;
  text = spells_octets p.text is.text;
  owner = spells_octets p.owner is.owner;
  beacon = spells_decimal 0 255 p.beacon (omega arith) (omega (arith, is.beacon)) (omega (arith, is.beacon));
  pixel = spells_decimal 0 255 p.pixel (omega arith) (omega (arith, is.pixel)) (omega (arith, is.pixel));
  run_priority = spells_decimal 0 255 p.run_priority (omega arith) is.run_priority (omega (arith, is.run_priority));
  minutes = spells_decimal 0 65535 p.minutes (omega arith) is.minutes is.minutes;
  priority = spells_decimal 0 255 p.priority (omega arith) is.priority (omega (arith, is.priority));
  address = spells_address p.address is.address;
}

-- what is read of the line with its keyword is read of the words behind it
behind_keyword : (value : List ℕ) → command_of High (codes "publish " ++ value) ≡ publish_at (words_of value)
unfolding command_of command_word word_at
behind_keyword value = refl

pub command_read : (p : PublicationModel) → IsFit p → publish_at (words_of (words p)) ≡ Some (Publish p)
command_read p is = sym (behind_keyword (words p)) ∙ command_only High (codes "publish " ++ words p) (Publish p) (spells p is)

publish_grouped : (name s memory number text owner beacon pixel run minutes priority address end rest : List ℕ)
    → ((name ++ memory ++ s ++ number) ++ (s ++ text ++ s ++ owner) ++ (s ++ beacon ++ s ++ pixel ++ s ++ run) ++ (s ++ minutes ++ s ++ priority ++ s ++ (address ++ end))) ++ rest
    ≡ name ++ ((memory ++ (s ++ (number ++ (s ++ (text ++ (s ++ (owner ++ (s ++ (beacon ++ (s ++ (pixel ++ (s ++ (run ++ (s ++ (minutes ++ (s ++ (priority ++ (s ++ address)))))))))))))))))) ++ (end ++ rest))
publish_grouped name s memory number text owner beacon pixel run minutes priority address end rest = simp append_assoc

pub publish_text : (p : PublicationModel) (rest : List ℕ) → publish_line p ++ rest ≡ codes "publish " ++ (words p ++ 10 ∷ rest)
publish_text p rest =
    publish_grouped (codes "publish ") (codes " ") (decimal p.memory) (decimal p.number) (octets_text p.text) (octets_text p.owner) (decimal p.beacon) (decimal p.pixel)
    (decimal p.run_priority) (decimal p.minutes) (decimal p.priority) (dotted p.address) (codes "\n") rest

publication_only : (p : PublicationModel) (rest : List ℕ) → IsFit p → publication_at (publish_line p ++ rest) ≡ Some (Publish p, rest)
unfolding publication_at
publication_only p rest is =
    let are = are_words p is in
    ap (λ text. publication_at text) (publish_text p rest)
    ∙ goes_on (field_at (codes "publish ") (codes "publish " ++ (words p ++ 10 ∷ rest)))
    (λ field. cond (is_publication field.0) (publish_at (words_of field.0)) None >>= (λ command. some (command, field.1))) (words p, rest)
    (field_only (codes "publish ") (words p) rest (spaced_free (decimal p.memory) (more_words p) are.0 are.1))
    ∙ goes_on (cond (is_publication (words p)) (publish_at (words_of (words p))) None) (λ command. some (command, rest)) (Publish p)
    (ap (λ b. cond b (publish_at (words_of (words p))) None) (can_be_written p is) ∙ command_read p is)

activation_only : (order : Order) (code : Activation) (rest : List ℕ) → IsActivation code → activation_at order (work_line order (Showing code) ++ rest) ≡ Some (Activate code, rest)
unfolding activation_at
activation_only order code rest is =
    ap (λ text. activation_at order (codes "activate " ++ text)) (append_assoc (code_text order code) (codes "\n") rest)
    ∙ goes_on (field_at (codes "activate ") (codes "activate " ++ (code_text order code ++ 10 ∷ rest))) (λ field. code_in order field.0 >>= (λ code. some (Activate code, field.1)))
    (code_text order code, rest) (field_only (codes "activate ") (code_text order code) rest (code_word order code is).line)
    ∙ goes_on (code_in order (code_text order code)) (λ code. some (Activate code, rest)) code (code_only order code is)

-- ---- the work of a job, as a command

abbrev pub command_back : Work → CommandModel
command_back (Publishing p) = Publish p
command_back (Showing code) = Activate code

pub work_back : (work : Work) → (job_of (command_back work)).work ≡ work
work_back (Publishing p) = refl
work_back (Showing code) = refl

pub good_back : (work : Work) → IsWork work → is_good (command_back work) ≡ true
good_back (Publishing p) (OfPublishing q is good) = good
good_back (Showing code) (OfShowing other is) = refl

suits_showing : (code : Activation) (step : Step) → suits (Showing code) step ≡ true → is_of_showing step ≡ true
suits_showing code steps.Opening e = absurd (false≢true e)
suits_showing code steps.Opened e = absurd (false≢true e)
suits_showing code steps.Filling e = absurd (false≢true e)
suits_showing code steps.Validating e = absurd (false≢true e)
suits_showing code steps.Polling e = absurd (false≢true e)
suits_showing code steps.Comparing e = absurd (false≢true e)
suits_showing code steps.Activating e = refl
suits_showing code steps.Explaining e = refl

pub published_behind : (p : PublicationModel) (rest : List ℕ) → is_none (behind (codes "publish ") (publish_line p ++ rest)) ≡ false
published_behind p rest = ap (λ text. is_none (behind (codes "publish ") text)) (publish_text p rest) ∙ ap (λ (o : Option (List ℕ)). is_none o) (behind_only (codes "publish ") (words p ++ 10 ∷ rest))

pub shown_behind : (order : Order) (code : Activation) (rest : List ℕ) → is_none (behind (codes "publish ") (work_line order (Showing code) ++ rest)) ≡ true
unfolding behind
shown_behind order code rest = refl

pub work_only : (order : Order) (step : Step) (work : Work) (rest : List ℕ) → IsWork work → suits work step ≡ true
    → work_at order step (work_line order work ++ rest) ≡ Some (command_back work, rest)
unfolding work_at
work_only order step (Publishing p) rest (OfPublishing q is good) suit =
    let text = publish_line p ++ rest in
    ap (λ b. cond b (activation_at order text) (publication_at text)) (and_right (is_of_showing step) (is_none (behind (codes "publish ") text)) (published_behind p rest))
    ∙ publication_only p rest (is_fit p is good)
work_only order step (Showing code) rest (OfShowing other is) suit =
    let text = work_line order (Showing code) ++ rest in
    ap (λ b. cond b (activation_at order text) (publication_at text)) (and_from (is_of_showing step) (is_none (behind (codes "publish ") text)) (suits_showing code step suit) (shown_behind order code rest))
    ∙ activation_only order code rest is

-- ---- steps

pub step_back : (step : Step) → step_of (step_number step) ≡ step
step_back steps.Opening = refl
step_back steps.Opened = refl
step_back steps.Filling = refl
step_back steps.Validating = refl
step_back steps.Polling = refl
step_back steps.Comparing = refl
step_back steps.Activating = refl
step_back steps.Explaining = refl

pub step_range : (step : Step) → (1 ≤ step_number step) × (step_number step ≤ 8)
step_range steps.Opening = (omega arith, omega arith)
step_range steps.Opened = (omega arith, omega arith)
step_range steps.Filling = (omega arith, omega arith)
step_range steps.Validating = (omega arith, omega arith)
step_range steps.Polling = (omega arith, omega arith)
step_range steps.Comparing = (omega arith, omega arith)
step_range steps.Activating = (omega arith, omega arith)
step_range steps.Explaining = (omega arith, omega arith)

step_only : (stage : SavedStage) (step : Step) → comes_to stage step ≡ true → step_in stage (decimal (step_number step)) ≡ Some step
unfolding step_in
step_only stage step comes =
    let range = step_range step in
    goes_on (number_in 1 8 (decimal (step_number step))) (λ n. cond (comes_to stage (step_of n)) (some (step_of n)) None) (step_number step)
    (number_word_only 1 8 (step_number step) range.0 range.1 (omega arith))
    ∙ ap (λ step. cond (comes_to stage step) (some step) None) (step_back step)
    ∙ ap (λ b. cond b (some step) None) comes

pub step_line_only : (stage : SavedStage) (step : Step) (rest : List ℕ) → comes_to stage step ≡ true
    → step_line_at stage (number_line (codes "step") (step_number step) ++ rest) ≡ Some (step, rest)
unfolding step_line_at
step_line_only stage step rest comes =
    let digits = decimal (step_number step) in
    let range = step_range step in
    ap (λ text. step_line_at stage (codes "step " ++ text)) (append_assoc digits (codes "\n") rest)
    ∙ goes_on (field_at (codes "step ") (codes "step " ++ (digits ++ 10 ∷ rest))) (λ field. step_in stage field.0 >>= (λ step. some (step, field.1))) (digits, rest)
    (field_only (codes "step ") digits rest (decimal_word (step_number step) (omega (arith, range.1))).line)
    ∙ goes_on (step_in stage digits) (λ step. some (step, rest)) step (step_only stage step comes)
