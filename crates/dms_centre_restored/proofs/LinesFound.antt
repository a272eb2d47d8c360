-- What is read as a line is spelled so, and in no other way.
use Rattle.std.proofs.Common.{◌≡◌, ℕ, ℤ, zero, suc, ◌+◌, ◌-◌, ◌<◌, ◌≤◌, ◌^◌, ◌==◌, ◌&&◌, ◌||◌, Bool, true, false, cond, is_none, List, [], ◌∷◌, ◌++◌, length, nat_le, nat_lt, Option, Some, None, decimal, codes, refl, sym, ap, subst, ◌∙◌, append_assoc, arith, inl, inr}
use Rattle.std.specs.Fmt.{signed_decimal}
use Rattle.std.specs.Option.{option_or}
use Rattle.std.specs.List.{join_with_byte}
use Rattle.std.specs.Int.Digits.{AllBelowBase}
use Rattle.std.proofs.lemmas.Bool.{and_parts, le-leb, lt-ltb, leb-true, cases_Bool}
use Rattle.std.proofs.lemmas.Option.{cond_some, same_Some}
use Rattle.hex.specs.Hex.{IsBytes}
use Rattle.dms_wire_ber.specs.NameText.{dotted}
use Rattle.dms_text.specs.Words.{words_of}
use Rattle.dms_text.specs.Reading.{word_at, is_end, same_octets, ◌>>=◌}
use Rattle.dms_text.proofs.WordLaws.{begun, word_found}
use Rattle.dms_text_forms.specs.FieldsReading.{if_last}
use Rattle.dms_text_forms.specs.LineText.{code_text}
use Rattle.dms_text_forms.proofs.WordReading.{last_found, by_keyword}
use Rattle.dms_text_values.specs.ValueText.{octets_text}
use Rattle.dms_codes.specs.declared.codes.Order.{Order}
use Rattle.dms_codes.specs.declared.codes.Activation.{Activation}
use Rattle.dms_centre_jobs.specs.declared.step.Step.{Step}
use Rattle.dms_centre_jobs.specs.declared.step.Step.TheVariants as steps
use Rattle.dms_centre_jobs.specs.Job.{PublicationModel, Work, Publishing, Showing}
use Rattle.dms_centre_jobs.specs.Steps.{step_number}
use Rattle.dms_centre_jobs.specs.Commands.{CommandModel, Publish, Activate, IsPublication, is_publishable}
use Rattle.dms_centre_jobs.specs.Requests.{IsWork, OfPublishing, OfShowing}
use Rattle.dms_centre.specs.declared.ended.Ended.{Ended}
use Rattle.dms_centre.specs.declared.ended.Ended.TheVariants as endings
use Rattle.dms_centre.specs.declared.ended.Why.{Why}
use Rattle.dms_centre.specs.declared.ended.Why.TheVariants as reasons
use Rattle.dms_centre.specs.declared.outcome.Outcome.{Outcome}
use Rattle.dms_centre.specs.declared.outcome.Outcome.TheVariants as outcomes
use Rattle.dms_centre.specs.declared.restoring.SavedStage.{SavedStage}
use Rattle.dms_centre.specs.Texts.{outcome_text, why_text}
use Rattle.dms_centre.specs.State.{Entry}
use Rattle.dms_centre.specs.Restoring.{suits}
use Rattle.dms_centre_text.specs.CommandReading.{publish_at}
use Rattle.dms_centre_state.specs.CentreText.{last_line, work_line}
use Rattle.dms_text_exact.specs.ExactWords.{number_in, integer_in}
use Rattle.dms_text_exact.specs.Fronts.{behind}
use Rattle.dms_text_exact.proofs.FrontLaws.{behind_found, cut_found, part_only, joined}
use Rattle.dms_text_exact.proofs.NumberLaws.{number_word_found, integer_word_found}
use Rattle.dms_centre_restored.specs.WordReading.{line_at, after_number, after_octets, after_address, code_in}
use Rattle.dms_centre_restored.specs.LineReading.{field_at, number_line_at, why_alone, numbered_or, why_numbered, why_of_row, why_caused, why_in, step_digit, failed_at, failed_in, ended_in, step_of, comes_to, step_in, after_row, after_message, after_terms, is_last, are_terms, is_publication, publication_in, publication_at, activation_at, is_of_showing, is_activation, work_at, known, known_at, refused_at, outcome_at, entry_in}
use Rattle.dms_centre_restored.proofs.WordsRead.{signed_word}
use Rattle.dms_centre_restored.proofs.WordsFound.{after_number_found, after_octets_found, after_address_found, code_found}
use Rattle.dms_centre_restored.proofs.LinesRead.{failure, failure_line, IsSpelledOutcome, IsSpelledEntry, entry_words, entry_words_are}
use Rattle.dms_centre_restored.proofs.JobsRead.{IsFit, words, words_are, command_read, command_back, publish_text}

pub field_found : (name text : List ℕ) (x : List ℕ × List ℕ) → field_at name text ≡ Some x → text ≡ name ++ (x.0 ++ 10 ∷ x.1)
unfolding field_at
field_found name text x e =
    let read = begun (behind name text) (λ rest. line_at rest) x e in
    behind_found name text read.0 read.1 ∙ ap (λ rest. name ++ rest) (cut_found 10 read.0 x read.2)

pub number_line_found : (name text : List ℕ) (low high : ℕ) (x : ℕ × List ℕ) → number_line_at name low high text ≡ Some x
    → ((low ≤ x.0) × (x.0 ≤ high)) × (text ≡ name ++ (decimal x.0 ++ 10 ∷ x.1))
unfolding number_line_at
number_line_found name text low high x e =
    let field = begun (field_at name text) (λ field. number_in low high field.0 >>= (λ number. Some (number, field.1))) x e in
    let number = begun (number_in low high field.0.0) (λ number. Some (number, field.0.1)) x field.2 in
    let is = number_word_found low high number.0 field.0.0 number.1 in
    subst (λ (x : ℕ × List ℕ). ((low ≤ x.0) × (x.0 ≤ high)) × (text ≡ name ++ (decimal x.0 ++ 10 ∷ x.1))) (same_Some (number.0, field.0.1) x number.2)
    ((is.0, is.1), field_found name text field.0 field.1 ∙ ap (λ digits. name ++ (digits ++ 10 ∷ field.0.1)) is.2)

-- ---- how the last job ended

-- it is the text of a reason
abbrev IsWhyText : List ℕ → Why → Type 0
IsWhyText reason why = reason ≡ why_text why

alone : (reason name : List ℕ) (x why : Why) → why_text x ≡ name → reason ≡ name → Some x ≡ Some why → IsWhyText reason why
alone reason name x why text is e = is ∙ sym text ∙ ap why_text (same_Some x why e)

alone_found : (reason : List ℕ) (why : Why) → why_alone reason ≡ Some why → IsWhyText reason why
unfolding why_alone
alone_found reason why e =
    by_keyword reason (codes "the row is still being validated") _ _ why e (λ is e. alone reason (codes "the row is still being validated") reasons.StillValidating why refl is e) (λ e.
    by_keyword reason (codes "the row has another checksum") _ _ why e (λ is e. alone reason (codes "the row has another checksum") reasons.OtherChecksum why refl is e) (λ e.
    by_keyword reason (codes "no reply") _ _ why e (λ is e. alone reason (codes "no reply") reasons.NoReply why refl is e) (λ e.
    by_keyword reason (codes "no request number is left") _ _ why e (λ is e. alone reason (codes "no request number is left") reasons.NumbersUsedUp why refl is e) (λ e.
    by_keyword reason (codes "the reply does not answer what was asked") _ _ why e (λ is e. alone reason (codes "the reply does not answer what was asked") reasons.OddReply why refl is e) (λ e.
    by_keyword reason (codes "the central system was restarted") _ _ why e (λ is e. alone reason (codes "the central system was restarted") reasons.Restarted why refl is e) (λ e.
    absurd (let none : None ≡ Some why = e in cc)))))))

-- a name and a number, or what is read of others
numbered : (name reason : List ℕ) (make : ℤ → Why) (others : Option Why) (why : Why) (found : Option (List ℕ)) → ((z : ℤ) → why_text (make z) ≡ name ++ signed_decimal z)
    → behind name reason ≡ found → numbered_or found make others ≡ Some why → (others ≡ Some why → IsWhyText reason why) → IsWhyText reason why
numbered name reason make others why None text is e other = other e
numbered name reason make others why (Some word) text is e other =
    let read = begun (integer_in word) (λ number. Some (make number)) why e in
    let spelled = integer_word_found word read.0 read.1 in
    behind_found name reason word is ∙ ap (λ word. name ++ word) spelled.1 ∙ sym (text read.0) ∙ ap why_text (same_Some (make read.0) why read.2)

numbered_found : (reason : List ℕ) (why : Why) → why_numbered reason ≡ Some why → IsWhyText reason why
unfolding why_numbered why_of_row why_caused
numbered_found reason why e =
    numbered (codes "error-status ") reason reasons.Status _ why (behind (codes "error-status ") reason) (λ z. refl) refl e (λ e.
    numbered (codes "the row has status ") reason reasons.WrongStatus _ why (behind (codes "the row has status ") reason) (λ z. refl) refl e (λ e.
    numbered (codes "the sign refused the activation for cause ") reason reasons.Cause None why (behind (codes "the sign refused the activation for cause ") reason) (λ z. refl) refl e (λ e.
    absurd (let none : None ≡ Some why = e in cc))))

why_found : (reason : List ℕ) (why : Why) → why_in reason ≡ Some why → IsWhyText reason why
why_found reason why e = either (why_alone reason) refl e
  where
    either : (found : Option Why) → why_alone reason ≡ found → option_or found (why_numbered reason) ≡ Some why → IsWhyText reason why
    either None is e = numbered_found reason why e
    either (Some other) is e = alone_found reason why (is ∙ e)

-- the words after `last `
abbrev pub ended_words : Ended → List ℕ
ended_words endings.Never = codes "none"
ended_words endings.Accepted = codes "accepted"
ended_words (endings.Failed step why) = failure step (why_text why)

abbrev pub IsStepOfEnd : Ended → Type 0
IsStepOfEnd endings.Never = Unit {0}
IsStepOfEnd endings.Accepted = Unit {0}
IsStepOfEnd (endings.Failed step why) = step ≤ 8

digit_found : (digit step : ℕ) → step_digit digit ≡ Some step → (step ≤ 8) × (digit ≡ 48 + step)
digit_found digit step e =
    let tests = cond_some (nat_le 49 digit && nat_le digit 56) (digit - 48) step e in
    let parts = and_parts (nat_le 49 digit) (nat_le digit 56) tests.0 in
    let least = leb-true 49 digit parts.0 in
    let most = leb-true digit 56 parts.1 in
    (omega (arith, most, tests.1), omega (arith, least, tests.1))

failed_found : (value rest : List ℕ) (ended : Ended) → value ≡ codes "failed at step " ++ rest → failed_in rest ≡ Some ended → IsStepOfEnd ended × (value ≡ ended_words ended)
unfolding failed_at
failed_found value [] ended is e = absurd (let none : None ≡ Some ended = e in cc)
failed_found value (digit ∷ rest) ended is e =
    let reason = begun (behind (codes ": ") rest) (λ reason. step_digit digit >>= (λ step. why_in reason >>= (λ why. Some (endings.Failed step why)))) ended e in
    let step = begun (step_digit digit) (λ step. why_in reason.0 >>= (λ why. Some (endings.Failed step why))) ended reason.2 in
    let why = begun (why_in reason.0) (λ why. Some (endings.Failed step.0 why)) ended step.2 in
    let number = digit_found digit step.0 step.1 in
    let text : rest ≡ codes ": " ++ why_text why.0 = behind_found (codes ": ") rest reason.0 reason.1 ∙ ap (λ reason. codes ": " ++ reason) (why_found reason.0 why.0 why.1) in
    subst (λ (ended : Ended). IsStepOfEnd ended × (value ≡ ended_words ended)) (same_Some (endings.Failed step.0 why.0) ended why.2)
    (number.0, is ∙ ap (λ rest. codes "failed at step " ++ (digit ∷ rest)) text ∙ ap (λ digit. codes "failed at step " ++ (digit ∷ (codes ": " ++ why_text why.0))) number.1)

ended_is : (value name : List ℕ) (x ended : Ended) → IsStepOfEnd x → ended_words x ≡ name → value ≡ name → Some x ≡ Some ended → IsStepOfEnd ended × (value ≡ ended_words ended)
ended_is value name x ended step text is e = subst (λ (ended : Ended). IsStepOfEnd ended × (value ≡ ended_words ended)) (same_Some x ended e) (step, is ∙ sym text)

pub ended_found : (value : List ℕ) (ended : Ended) → ended_in value ≡ Some ended → IsStepOfEnd ended × (value ≡ ended_words ended)
unfolding ended_in
ended_found value ended e =
    by_keyword value (codes "none") _ _ ended e (λ is e. ended_is value (codes "none") endings.Never ended tt refl is e) (λ e.
    by_keyword value (codes "accepted") _ _ ended e (λ is e. ended_is value (codes "accepted") endings.Accepted ended tt refl is e) (λ e.
    let read = begun (behind (codes "failed at step ") value) failed_in ended e in
    failed_found value read.0 ended (behind_found (codes "failed at step ") value read.0 read.1) read.2))

pub last_line_is : (ended : Ended) (rest : List ℕ) → IsStepOfEnd ended → codes "last " ++ (ended_words ended ++ 10 ∷ rest) ≡ last_line ended ++ rest
last_line_is endings.Never rest is = refl
last_line_is endings.Accepted rest is = refl
last_line_is (endings.Failed step why) rest is = sym (failure_line step why rest is)

-- ---- entries of the ledger

abbrev IsOutcomeOf : List (List ℕ) → Outcome → Type 0
IsOutcomeOf words outcome = IsSpelledOutcome outcome × (words ≡ words_of (outcome_text outcome))

refused_found : (words : List (List ℕ)) (outcome : Outcome) → refused_at words ≡ Some outcome → IsOutcomeOf (codes "refused" ∷ words) outcome
unfolding refused_at
refused_found words outcome e =
    let word = begun (word_at words) (λ found. integer_in found.0 >>= (λ status. if_last (outcomes.Refused status) found.1)) outcome e in
    let status = begun (integer_in word.0.0) (λ status. if_last (outcomes.Refused status) word.0.1) outcome word.2 in
    let first = word_found words word.0 word.1 in
    let spelled = integer_word_found word.0.0 status.0 status.1 in
    let last = last_found (outcomes.Refused status.0) word.0.1 outcome status.2 in
    subst (λ (outcome : Outcome). IsOutcomeOf (codes "refused" ∷ words) outcome) last.1 (
      spelled.0,
      ap (λ words. codes "refused" ∷ words) (first.0 ∙ ap (λ word_read. word_read ∷ word.0.1) spelled.1 ∙ ap (λ rest. signed_decimal status.0 ∷ rest) last.0
          ∙ sym (part_only 32 (signed_decimal status.0) (signed_word status.0 spelled.0).space)),
    )

known_is : (word name : List ℕ) (x outcome : Outcome) → IsOutcomeOf (name ∷ []) x → word ≡ name → Some x ≡ Some outcome → IsOutcomeOf (word ∷ []) outcome
known_is word name x outcome spelled is e =
    subst (λ (outcome : Outcome). IsOutcomeOf (word ∷ []) outcome) (same_Some x outcome e) (subst (λ word. IsOutcomeOf (word ∷ []) x) (sym is) spelled)

known_found : (word : List ℕ) (outcome : Outcome) → known word ≡ Some outcome → IsOutcomeOf (word ∷ []) outcome
unfolding known
known_found word outcome e =
    by_keyword word (codes "waiting") _ _ outcome e (λ is e. known_is word (codes "waiting") outcomes.Waiting outcome (tt, refl) is e) (λ e.
    by_keyword word (codes "accepted") _ _ outcome e (λ is e. known_is word (codes "accepted") outcomes.Accepted outcome (tt, refl) is e) (λ e.
    by_keyword word (codes "noreply") _ _ outcome e (λ is e. known_is word (codes "noreply") outcomes.NoReply outcome (tt, refl) is e) (λ e.
    by_keyword word (codes "unknown") _ _ outcome e (λ is e. known_is word (codes "unknown") outcomes.Unknown outcome (tt, refl) is e) (λ e.
    absurd (let none : None ≡ Some outcome = e in cc)))))

known_last : (word : List ℕ) (words : List (List ℕ)) (outcome : Outcome) → known_at word words ≡ Some outcome → IsOutcomeOf (word ∷ words) outcome
unfolding known_at
known_last word words outcome e =
    let read = begun (known word) (λ outcome. if_last outcome words) outcome e in
    let last = last_found read.0 words outcome read.2 in
    subst (λ (outcome : Outcome). IsOutcomeOf (word ∷ words) outcome) last.1 (subst (λ words. IsOutcomeOf (word ∷ words) read.0) (sym last.0) (known_found word read.0 read.1))

outcome_found : (words : List (List ℕ)) (outcome : Outcome) → outcome_at words ≡ Some outcome → IsOutcomeOf words outcome
unfolding outcome_at
outcome_found words outcome e =
    let word = begun (word_at words) (λ found. cond (same_octets found.0 (codes "refused")) (refused_at found.1) (known_at found.0 found.1)) outcome e in
    let first = word_found words word.0 word.1 in
    subst (λ words. IsOutcomeOf words outcome) (sym first.0)
    (by_keyword word.0.0 (codes "refused") (refused_at word.0.1) (known_at word.0.0 word.0.1) outcome word.2
    (λ is e. subst (λ word_read. IsOutcomeOf (word_read ∷ word.0.1) outcome) (sym is) (refused_found word.0.1 outcome e))
    (λ e. known_last word.0.0 word.0.1 outcome e))

-- words that are the same are of the same text
same_words : (one other : List ℕ) → words_of one ≡ words_of other → one ≡ other
same_words one other e = sym (joined 32 one) ∙ ap (λ words. join_with_byte 32 words) e ∙ joined 32 other

pub record IsEntryIn (order : Order) (least most : ℕ) (value : List ℕ) (entry : Entry) : Type 0 where
  pub from : least ≤ entry.number
  pub to : entry.number ≤ most
  pub is : IsSpelledEntry entry
  pub words_are : value ≡ entry_words order entry

pub entry_found : (order : Order) (least most : ℕ) (value : List ℕ) (entry : Entry) → most < 10 ^ 10 → entry_in order least most value ≡ Some entry → IsEntryIn order least most value entry
unfolding entry_in
entry_found order least most value entry small e =
    let first = begun (word_at (words_of value)) (λ first. number_in least most first.0 >>= (λ number. word_at first.1 >>= (λ second. code_in order second.0 >>= (λ code. outcome_at second.1 >>= (λ outcome.
    Some (record { number = number; code = code; outcome = outcome })))))) entry e in
    let number = begun (number_in least most first.0.0) (λ number. word_at first.0.1 >>= (λ second. code_in order second.0 >>= (λ code. outcome_at second.1 >>= (λ outcome.
    Some (record { number = number; code = code; outcome = outcome }))))) entry first.2 in
    let second = begun (word_at first.0.1) (λ second. code_in order second.0 >>= (λ code. outcome_at second.1 >>= (λ outcome. Some (record { number = number.0; code = code; outcome = outcome })))) entry number.2 in
    let code = begun (code_in order second.0.0) (λ code. outcome_at second.0.1 >>= (λ outcome. Some (record { number = number.0; code = code; outcome = outcome }))) entry second.2 in
    let outcome = begun (outcome_at second.0.1) (λ outcome. Some (record { number = number.0; code = code.0; outcome = outcome })) entry code.2 in
    let read : Entry = record { number = number.0; code = code.0; outcome = outcome.0 } in
    let one = word_found (words_of value) first.0 first.1 in
    let two = word_found first.0.1 second.0 second.1 in
    let digits = number_word_found least most number.0 first.0.0 number.1 in
    let hex = code_found order second.0.0 code.0 code.1 in
    let end = outcome_found second.0.1 outcome.0 outcome.1 in
    let is : IsSpelledEntry read = record { code = hex.0; outcome = end.0 } in
    let all : words_of value ≡ decimal number.0 ∷ code_text order code.0 ∷ words_of (outcome_text outcome.0) =
    one.0 ∙ ap (λ word. word ∷ first.0.1) digits.2 ∙ ap (λ rest. decimal number.0 ∷ rest) (two.0 ∙ ap (λ word. word ∷ second.0.1) hex.1 ∙ ap (λ rest. code_text order code.0 ∷ rest) end.1) in
    subst (λ (entry : Entry). IsEntryIn order least most value entry) (same_Some read entry outcome.2) (record {
      from = digits.0;
      to = digits.1;
      is = is;
      words_are = same_words value (entry_words order read) (all ∙ sym (entry_words_are order read (omega (arith, digits.1, small)) is));
    })

-- ---- steps

number_of_step : (n : ℕ) → 1 ≤ n → n ≤ 8 → step_number (step_of n) ≡ n
number_of_step zero least most = absurd (omega (arith, least))
number_of_step (suc zero) least most = refl
number_of_step (suc (suc zero)) least most = refl
number_of_step (suc (suc (suc zero))) least most = refl
number_of_step (suc (suc (suc (suc zero)))) least most = refl
number_of_step (suc (suc (suc (suc (suc zero))))) least most = refl
number_of_step (suc (suc (suc (suc (suc (suc zero)))))) least most = refl
number_of_step (suc (suc (suc (suc (suc (suc (suc zero))))))) least most = refl
number_of_step (suc (suc (suc (suc (suc (suc (suc (suc zero)))))))) least most = refl
number_of_step (suc (suc (suc (suc (suc (suc (suc (suc (suc n))))))))) least most = absurd (omega (arith, most))

pub step_found : (stage : SavedStage) (value : List ℕ) (step : Step) → step_in stage value ≡ Some step → (comes_to stage step ≡ true) × (value ≡ decimal (step_number step))
unfolding step_in
step_found stage value step e =
    let number = begun (number_in 1 8 value) (λ number. cond (comes_to stage (step_of number)) (Some (step_of number)) None) step e in
    let is = number_word_found 1 8 number.0 value number.1 in
    let tests = cond_some (comes_to stage (step_of number.0)) (step_of number.0) step number.2 in
    subst (λ (step : Step). (comes_to stage step ≡ true) × (value ≡ decimal (step_number step))) tests.1
    (tests.0, is.2 ∙ ap decimal (sym (number_of_step number.0 is.0 is.1)))

-- ---- publications

nothing_left : (words : List (List ℕ)) → is_end words ≡ true → words ≡ []
nothing_left [] e = refl
nothing_left (word ∷ words) e = absurd cc

below_bytes : (octets : List ℕ) → IsBytes octets → AllBelowBase 256 octets
below_bytes [] all = tt
below_bytes (octet ∷ octets) all = (all 0, below_bytes octets (λ i. all (suc i)))

memory_is : (n : ℕ) → 3 ≤ n → n ≤ 4 → (n == 3 || n == 4) ≡ true
memory_is zero least most = absurd (omega (arith, least))
memory_is (suc zero) least most = absurd (omega (arith, least))
memory_is (suc (suc zero)) least most = absurd (omega (arith, least))
memory_is (suc (suc (suc zero))) least most = refl
memory_is (suc (suc (suc (suc zero)))) least most = refl
memory_is (suc (suc (suc (suc (suc n))))) least most = absurd (omega (arith, most))

pub fit_publishable : (p : PublicationModel) → IsFit p → is_publishable p ≡ true
fit_publishable p is =
    all_of (p.memory == 3 || p.memory == 4) (nat_lt 0 p.number) (nat_le (length p.text) 512) (nat_le (length p.owner) 127) (nat_le p.beacon 1) (nat_le p.pixel 1) (nat_lt 0 p.run_priority)
    (memory_is p.memory is.low_memory is.memory) (lt-ltb 0 p.number is.low_number) (le-leb (length p.text) 512 is.few_text) (le-leb (length p.owner) 127 is.few_owner)
    (le-leb p.beacon 1 is.beacon) (le-leb p.pixel 1 is.pixel) (lt-ltb 0 p.run_priority is.low_run)
  where
    all_of : (memory number text owner beacon pixel run : Bool) → memory ≡ true → number ≡ true → text ≡ true → owner ≡ true → beacon ≡ true → pixel ≡ true → run ≡ true
        → (memory && number && text && owner && beacon && pixel && run) ≡ true
    all_of memory number text owner beacon pixel run a b c d e f g = grind arith

pub fit_publication : (p : PublicationModel) → IsFit p → IsPublication p
fit_publication p is = record {
  memory = omega (arith, is.memory);
  number = omega (arith, is.number);
  text = below_bytes p.text is.text;
  owner = below_bytes p.owner is.owner;
  beacon = omega (arith, is.beacon);
  pixel = omega (arith, is.pixel);
  run_priority = omega (arith, is.run_priority);
  minutes = omega (arith, is.minutes);
  priority = omega (arith, is.priority);
  address = is.address;
}

-- words that are those of a publication that can be written
pub record Publishes (value : List ℕ) : Type 0 where
  pub publication : PublicationModel
  pub is : IsFit publication
  pub value_is : value ≡ words publication

some_last : (found : Option (List (List ℕ))) → is_last found ≡ true → found ≡ Some []
some_last None e = absurd cc
some_last (Some words) e = ap Some (nothing_left words e)

some_terms : (found : Option (List (List ℕ))) → are_terms found ≡ true → (words : List (List ℕ)) × (found ≡ Some words) × (after_terms words ≡ Some [])
some_terms None e = absurd cc
some_terms (Some words) e = (words, refl, some_last (after_terms words) e)

publishes : (value : List ℕ) → is_publication value ≡ true → Publishes value
unfolding is_publication after_message after_row after_terms
publishes value e =
    let all = words_of value in
    let terms = some_terms (after_message all) e in
    let row = begun (after_row all) (λ words. after_number 0 1 words >>= (λ words. after_number 0 1 words >>= (λ words. after_number 1 255 words))) terms.0 terms.1 in
    let beacon = begun (after_number 0 1 row.0) (λ words. after_number 0 1 words >>= (λ words. after_number 1 255 words)) terms.0 row.2 in
    let pixel = begun (after_number 0 1 beacon.0) (λ words. after_number 1 255 words) terms.0 beacon.2 in
    let memory = begun (after_number 3 4 all) (λ words. after_number 1 65535 words >>= (λ words. after_octets 512 words >>= (λ words. after_octets 127 words))) row.0 row.1 in
    let number = begun (after_number 1 65535 memory.0) (λ words. after_octets 512 words >>= (λ words. after_octets 127 words)) row.0 memory.2 in
    let text = begun (after_octets 512 number.0) (λ words. after_octets 127 words) row.0 number.2 in
    let minutes = begun (after_number 0 65535 terms.0) (λ words. after_number 0 255 words >>= (λ words. after_address words)) [] terms.2 in
    let priority = begun (after_number 0 255 minutes.0) (λ words. after_address words) [] minutes.2 in
    let m = after_number_found 3 4 all memory.0 memory.1 in
    let n = after_number_found 1 65535 memory.0 number.0 number.1 in
    let t = after_octets_found 512 number.0 text.0 text.1 in
    let o = after_octets_found 127 text.0 row.0 text.2 in
    let b = after_number_found 0 1 row.0 beacon.0 beacon.1 in
    let x = after_number_found 0 1 beacon.0 pixel.0 pixel.1 in
    let r = after_number_found 1 255 pixel.0 terms.0 pixel.2 in
    let d = after_number_found 0 65535 terms.0 minutes.0 minutes.1 in
    let y = after_number_found 0 255 minutes.0 priority.0 priority.1 in
    let a = after_address_found priority.0 [] priority.2 in
    let p : PublicationModel = record {
      memory = m.number;
      number = n.number;
      text = t.octets;
      owner = o.octets;
      beacon = b.number;
      pixel = x.number;
      run_priority = r.number;
      minutes = d.number;
      priority = y.number;
      address = a.address;
    } in
    let is : IsFit p = record {
      low_memory = m.least;
      memory = m.most;
      low_number = n.least;
      number = n.most;
      few_text = t.few;
      text = t.bytes;
      few_owner = o.few;
      owner = o.bytes;
      beacon = b.most;
      pixel = x.most;
      low_run = r.least;
      run_priority = r.most;
      minutes = d.most;
      priority = y.most;
      address = a.is;
    } in
    let last : terms.0 ≡ decimal d.number ∷ decimal y.number ∷ dotted a.address ∷ [] =
    d.words_are ∙ ap (λ rest. decimal d.number ∷ rest) (y.words_are ∙ ap (λ rest. decimal y.number ∷ rest) a.words_are) in
    let attributes : row.0 ≡ decimal b.number ∷ decimal x.number ∷ decimal r.number ∷ decimal d.number ∷ decimal y.number ∷ dotted a.address ∷ [] =
    b.words_are ∙ ap (λ rest. decimal b.number ∷ rest) (x.words_are ∙ ap (λ rest. decimal x.number ∷ rest) (r.words_are ∙ ap (λ rest. decimal r.number ∷ rest) last)) in
    let whole : all ≡ decimal m.number ∷ decimal n.number ∷ octets_text t.octets ∷ octets_text o.octets
    ∷ decimal b.number ∷ decimal x.number ∷ decimal r.number ∷ decimal d.number ∷ decimal y.number ∷ dotted a.address ∷ [] =
    m.words_are ∙ ap (λ rest. decimal m.number ∷ rest) (n.words_are ∙ ap (λ rest. decimal n.number ∷ rest) (t.words_are ∙ ap (λ rest. octets_text t.octets ∷ rest)
    (o.words_are ∙ ap (λ rest. octets_text o.octets ∷ rest) attributes))) in
    record { publication = p; is = is; value_is = same_words value (words p) (whole ∙ sym (words_are p is)) }

-- ---- the work of a job

-- a line of work that suits a step
pub record IsWorkLine (order : Order) (step : Step) (text : List ℕ) (x : CommandModel × List ℕ) : Type 0 where
  pub work : Work
  pub is : IsWork work
  pub suit : suits work step ≡ true
  pub command : x.0 ≡ command_back work
  pub text_is : text ≡ work_line order work ++ x.1

publication_found : (order : Order) (step : Step) (text : List ℕ) (x : CommandModel × List ℕ) → publication_at text ≡ Some x → IsWorkLine order step text x
unfolding publication_at
publication_found order step text x e =
    let field = begun (field_at (codes "publish ") text) (λ field. publication_in field.0 >>= (λ command. Some (command, field.1))) x e in
    let command = begun (publication_in field.0.0) (λ command. Some (command, field.0.1)) x field.2 in
    let tests = taken (is_publication field.0.0) (publish_at (words_of field.0.0)) command.0 command.1 in
    let is = publishes field.0.0 tests.0 in
    let p = is.publication in
    let read : Publish p ≡ command.0 = same_Some (Publish p) command.0 (sym (command_read p is.is) ∙ ap (λ value. publish_at (words_of value)) (sym is.value_is) ∙ tests.1) in
    subst (λ (x : CommandModel × List ℕ). IsWorkLine order step text x) (same_Some (command.0, field.0.1) x command.2) (record {
      work = Publishing p;
      is = OfPublishing p (fit_publication p is.is) (fit_publishable p is.is);
      suit = refl;
      command = sym read;
      text_is =
          field_found (codes "publish ") text field.0 field.1
          ∙ ap (λ value. codes "publish " ++ (value ++ 10 ∷ field.0.1)) is.value_is
          ∙ sym (publish_text p field.0.1);
    })
  where
    taken : (b : Bool) (found : Option CommandModel) (command : CommandModel) → cond b found None ≡ Some command → (b ≡ true) × (found ≡ Some command)
    taken true found command e = (refl, e)
    taken false found command e = absurd cc

pub shows : (code : Activation) (step : Step) → is_of_showing step ≡ true → suits (Showing code) step ≡ true
shows code steps.Opening e = absurd cc
shows code steps.Opened e = absurd cc
shows code steps.Filling e = absurd cc
shows code steps.Validating e = absurd cc
shows code steps.Polling e = absurd cc
shows code steps.Comparing e = absurd cc
shows code steps.Activating e = refl
shows code steps.Explaining e = refl

activation_found : (order : Order) (step : Step) (text : List ℕ) (x : CommandModel × List ℕ) → is_of_showing step ≡ true → activation_at order text ≡ Some x → IsWorkLine order step text x
unfolding activation_at
activation_found order step text x showing e =
    let field = begun (field_at (codes "activate ") text) (λ field. code_in order field.0 >>= (λ code. Some (Activate code, field.1))) x e in
    let code = begun (code_in order field.0.0) (λ code. Some (Activate code, field.0.1)) x field.2 in
    let is = code_found order field.0.0 code.0 code.1 in
    subst (λ (x : CommandModel × List ℕ). IsWorkLine order step text x) (same_Some (Activate code.0, field.0.1) x code.2) (record {
      work = Showing code.0;
      is = OfShowing code.0 is.0;
      suit = shows code.0 step showing;
      command = refl;
      text_is =
          field_found (codes "activate ") text field.0 field.1
          ∙ ap (λ value. codes "activate " ++ (value ++ 10 ∷ field.0.1)) is.1
          ∙ ap (λ text. codes "activate " ++ text) (sym (append_assoc (code_text order code.0) (codes "\n") field.0.1));
    })

pub work_found : (order : Order) (step : Step) (text : List ℕ) (x : CommandModel × List ℕ) → work_at order step text ≡ Some x → IsWorkLine order step text x
unfolding work_at
work_found order step text x e =
    elim (cases_Bool (is_activation step text)) [
      | inl shown ↦
          activation_found order step text x (and_parts (is_of_showing step) (is_none (behind (codes "publish ") text)) shown).0
          (ap (λ b. cond b (activation_at order text) (publication_at text)) (sym shown) ∙ e)
      | inr written ↦ publication_found order step text x (ap (λ b. cond b (activation_at order text) (publication_at text)) (sym written) ∙ e)
    ]
