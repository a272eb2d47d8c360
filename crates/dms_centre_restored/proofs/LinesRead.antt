-- A line that is spelled so is read as that, and what comes after is left.
use Rattle.std.proofs.Common.{IsTrue, ◌≡◌, ℕ, ℤ, ◌+◌, ◌-◌, ◌<◌, ◌≤◌, ◌^◌, ◌==◌, cond, List, [], ◌∷◌, ◌++◌, Some, None, decimal, codes, nat_le, refl, ap, ◌∙◌, append_assoc, arith}
use Rattle.std.specs.Fmt.{signed_decimal}
use Rattle.std.specs.List.{list_any}
use Rattle.std.proofs.lemmas.Bool.{and_from, or_from, le-leb, ne_eqb}
use Rattle.std.proofs.lemmas.Fmt.{decimal_digit}
use Rattle.dms_wire_ber.specs.Integer.{in_range}
use Rattle.dms_text.specs.Words.{words_of}
use Rattle.dms_text.specs.Reading.{word_at, ◌>>=◌}
use Rattle.dms_text.proofs.WordLaws.{goes_on, word_only}
use Rattle.dms_text_forms.specs.LineText.{code_text}
use Rattle.dms_text_forms.specs.FieldsReading.{if_last}
use Rattle.dms_codes.specs.declared.codes.Order.{Order}
use Rattle.dms_codes.specs.Codes.{IsActivation}
use Rattle.dms_centre.specs.declared.ended.Ended.{Ended}
use Rattle.dms_centre.specs.declared.ended.Ended.TheVariants as endings
use Rattle.dms_centre.specs.declared.ended.Why.{Why}
use Rattle.dms_centre.specs.declared.ended.Why.TheVariants as reasons
use Rattle.dms_centre.specs.declared.outcome.Outcome.{Outcome}
use Rattle.dms_centre.specs.declared.outcome.Outcome.TheVariants as outcomes
use Rattle.dms_centre.specs.Texts.{outcome_text, why_text}
use Rattle.dms_centre.specs.State.{Entry}
use Rattle.dms_centre_state.specs.CentreText.{last_line, ledger_line}
use Rattle.dms_centre_state.specs.Reached.{IsOutcome, IsEntry, IsWhy, IsEnded}
use Rattle.dms_text_exact.specs.Fronts.{IsFree}
use Rattle.dms_text_exact.specs.ExactWords.{number_in, integer_in}
use Rattle.dms_text_exact.specs.Fronts.{behind}
use Rattle.dms_text_exact.proofs.FrontLaws.{behind_only, cut_only, free_append, part_first, part_only}
use Rattle.dms_text_exact.proofs.NumberLaws.{number_word_only, integer_word_only, decimal_free, decimal_some, signed_some}
use Rattle.dms_centre_restored.specs.WordReading.{line_at, code_in}
use Rattle.dms_centre_restored.specs.LineReading.{field_at, number_line_at, why_alone, why_numbered, why_of_row, why_caused, why_in, step_digit, failed_at, ended_in, known, known_at, refused_at, outcome_at, entry_in, entry_line_at}
use Rattle.dms_centre_restored.proofs.WordsRead.{some, decimal_word, signed_word, code_only, code_word, code_some}

pub field_only : (name value rest : List ℕ) → IsFree 10 value → field_at name (name ++ (value ++ 10 ∷ rest)) ≡ Some (value, rest)
unfolding field_at
field_only name value rest free =
    goes_on (behind name (name ++ (value ++ 10 ∷ rest))) (λ rest. line_at rest) (value ++ 10 ∷ rest) (behind_only name (value ++ 10 ∷ rest)) ∙ cut_only 10 value rest free

pub number_line_only : (name : List ℕ) (low high n : ℕ) (rest : List ℕ) → low ≤ n → n ≤ high → high < 10 ^ 10
    → number_line_at name low high (name ++ ((decimal n ++ codes "\n") ++ rest)) ≡ Some (n, rest)
unfolding number_line_at
number_line_only name low high n rest least most small =
    ap (λ text. number_line_at name low high (name ++ text)) (append_assoc (decimal n) (codes "\n") rest)
    ∙ goes_on (field_at name (name ++ (decimal n ++ 10 ∷ rest))) (λ field. number_in low high field.0 >>= (λ number. some (number, field.1))) (decimal n, rest)
    (field_only name (decimal n) rest (decimal_free 10 n (omega arith) (omega (arith, most, small))))
    ∙ goes_on (number_in low high (decimal n)) (λ number. some (number, rest)) n (number_word_only low high n least most small)

-- ---- how the last job ended

pub why_only : (why : Why) → IsWhy why → why_in (why_text why) ≡ Some why
unfolding why_alone why_numbered why_of_row why_caused behind
why_only (reasons.Status z) is = goes_on (integer_in (signed_decimal z)) (λ n. some (reasons.Status n)) z (integer_word_only z is)
why_only (reasons.WrongStatus z) is = goes_on (integer_in (signed_decimal z)) (λ n. some (reasons.WrongStatus n)) z (integer_word_only z is)
why_only reasons.StillValidating is = refl
why_only reasons.OtherChecksum is = refl
why_only reasons.NoReply is = refl
why_only reasons.NumbersUsedUp is = refl
why_only reasons.OddReply is = refl
why_only (reasons.Cause z) is = goes_on (integer_in (signed_decimal z)) (λ n. some (reasons.Cause n)) z (integer_word_only z is)
why_only reasons.Restarted is = refl

why_free : (why : Why) → IsWhy why → IsFree 10 (why_text why)
why_free (reasons.Status z) is = (signed_word z is).line
why_free (reasons.WrongStatus z) is = (signed_word z is).line
why_free reasons.StillValidating is = refl
why_free reasons.OtherChecksum is = refl
why_free reasons.NoReply is = refl
why_free reasons.NumbersUsedUp is = refl
why_free reasons.OddReply is = refl
why_free (reasons.Cause z) is = (signed_word z is).line
why_free reasons.Restarted is = refl

step_digit_only : (step : ℕ) → 1 ≤ step → step ≤ 8 → step_digit (48 + step) ≡ Some step
step_digit_only step least most =
    let same : 48 + step - 48 ≡ step = omega arith in
    ap (λ b. cond b (some (48 + step - 48)) None) (and_from (nat_le 49 (48 + step)) (nat_le (48 + step) 56) (le-leb 49 (48 + step) (omega (arith, least))) (le-leb (48 + step) 56 (omega (arith, most))))
    ∙ ap some same

abbrev pub failure : ℕ → List ℕ → List ℕ
failure step why = codes "failed at step " ++ ((48 + step) ∷ (codes ": " ++ why))

pub failure_only : (step : ℕ) (why : Why) → 1 ≤ step → step ≤ 8 → IsWhy why → ended_in (failure step (why_text why)) ≡ Some (endings.Failed step why)
unfolding ended_in failed_at behind
failure_only step why least most is =
    goes_on (step_digit (48 + step)) (λ step. why_in (why_text why) >>= (λ why. some (endings.Failed step why))) step (step_digit_only step least most)
    ∙ goes_on (why_in (why_text why)) (λ why. some (endings.Failed step why)) why (why_only why is)

pub failure_free : (step : ℕ) (why : Why) → IsWhy why → IsFree 10 (failure step (why_text why))
failure_free step why is = or_from (48 + step == 10) (list_any (λ octet. octet == 10) (why_text why)) (ne_eqb (48 + step) 10 (λ e. omega (arith, e))) (why_free why is)

pub failure_line : (step : ℕ) (why : Why) (rest : List ℕ) → step ≤ 8 → last_line (endings.Failed step why) ++ rest ≡ codes "last " ++ (failure step (why_text why) ++ 10 ∷ rest)
failure_line step why rest most =
    ap (λ digits. (codes "last failed at step " ++ digits ++ codes ": " ++ (why_text why ++ codes "\n")) ++ rest) (decimal_digit step (omega (arith, most)))
    ∙ ap (λ end. codes "last failed at step " ++ ((48 + step) ∷ (codes ": " ++ end))) (append_assoc (why_text why) (codes "\n") rest)

-- the line of an end, and what is read of it
pub record EndLine (ended : Ended) (rest : List ℕ) : Type 0 where
  pub value : List ℕ
  pub line : field_at (codes "last ") (last_line ended ++ rest) ≡ Some (value, rest)
  pub read : ended_in value ≡ Some ended

pub end_line : (ended : Ended) (rest : List ℕ) → IsEnded ended → EndLine ended rest
unfolding ended_in
end_line endings.Never rest is = record { value = codes "none"; line = field_only (codes "last ") (codes "none") rest refl; read = refl }
end_line endings.Accepted rest is = record { value = codes "accepted"; line = field_only (codes "last ") (codes "accepted") rest refl; read = refl }
end_line (endings.Failed step why) rest is = record {
  value = failure step (why_text why);
  line = ap (λ text. field_at (codes "last ") text) (failure_line step why rest is.1) ∙ field_only (codes "last ") (failure step (why_text why)) rest (failure_free step why is.2);
  read = failure_only step why is.0 is.1 is.2;
}

-- ---- entries of the ledger

-- the number of an error-status that ten digits can spell
abbrev pub IsSpelledOutcome : Outcome → Type 0
IsSpelledOutcome (outcomes.Refused z) = IsTrue (in_range z)
IsSpelledOutcome outcome = Unit {0}

pub record IsSpelledEntry (entry : Entry) : Type 0 where
  pub code : IsActivation entry.code
  pub outcome : IsSpelledOutcome entry.outcome

spelled_outcome : (outcome : Outcome) → IsOutcome outcome → IsSpelledOutcome outcome
spelled_outcome outcomes.Waiting is = tt
spelled_outcome outcomes.Accepted is = tt
spelled_outcome (outcomes.Refused z) is = is
spelled_outcome outcomes.NoReply is = tt
spelled_outcome outcomes.Unknown is = tt

pub spelled_entry : (entry : Entry) → IsEntry entry → IsSpelledEntry entry
spelled_entry entry is = record { code = is.code; outcome = spelled_outcome entry.outcome is.outcome }

refused_only : (z : ℤ) → IsTrue (in_range z) → refused_at (words_of (signed_decimal z)) ≡ Some (outcomes.Refused z)
unfolding refused_at
refused_only z small =
    let word = signed_decimal z in
    ap (λ words. refused_at words) (part_only 32 word (signed_word z small).space)
    ∙ goes_on (word_at (word ∷ [])) (λ found. integer_in found.0 >>= (λ status. if_last (outcomes.Refused status) found.1)) (word, []) (word_only word [] (signed_some z small))
    ∙ goes_on (integer_in word) (λ status. if_last (outcomes.Refused status) []) z (integer_word_only z small)

outcome_only : (outcome : Outcome) → IsSpelledOutcome outcome → outcome_at (words_of (outcome_text outcome)) ≡ Some outcome
unfolding outcome_at known_at known word_at
outcome_only outcomes.Waiting is = refl
outcome_only outcomes.Accepted is = refl
outcome_only (outcomes.Refused z) is = refused_only z is
outcome_only outcomes.NoReply is = refl
outcome_only outcomes.Unknown is = refl

outcome_free : (outcome : Outcome) → IsSpelledOutcome outcome → IsFree 10 (outcome_text outcome)
outcome_free outcomes.Waiting is = refl
outcome_free outcomes.Accepted is = refl
outcome_free (outcomes.Refused z) is = (signed_word z is).line
outcome_free outcomes.NoReply is = refl
outcome_free outcomes.Unknown is = refl

abbrev pub entry_words : Order → Entry → List ℕ
entry_words order entry = decimal entry.number ++ 32 ∷ (code_text order entry.code ++ 32 ∷ outcome_text entry.outcome)

pub entry_grouped : (name s number code outcome end rest : List ℕ)
    → (name ++ number ++ s ++ code ++ s ++ (outcome ++ end)) ++ rest ≡ name ++ ((number ++ (s ++ (code ++ (s ++ outcome)))) ++ (end ++ rest))
entry_grouped name s number code outcome end rest = simp append_assoc

pub entry_free : (order : Order) (entry : Entry) → entry.number < 2 ^ 64 → IsSpelledEntry entry → IsFree 10 (entry_words order entry)
entry_free order entry small is =
    free_append 10 (decimal entry.number) (32 ∷ (code_text order entry.code ++ 32 ∷ outcome_text entry.outcome)) (decimal_free 10 entry.number (omega arith) small)
    (free_append 10 (code_text order entry.code) (32 ∷ outcome_text entry.outcome) (code_word order entry.code is.code).line (outcome_free entry.outcome is.outcome))

pub entry_words_are : (order : Order) (entry : Entry) → entry.number < 2 ^ 64 → IsSpelledEntry entry
    → words_of (entry_words order entry) ≡ decimal entry.number ∷ code_text order entry.code ∷ words_of (outcome_text entry.outcome)
entry_words_are order entry small is =
    part_first 32 (decimal entry.number) (code_text order entry.code ++ 32 ∷ outcome_text entry.outcome) (decimal_word entry.number small).space
    ∙ ap (λ words. decimal entry.number ∷ words) (part_first 32 (code_text order entry.code) (outcome_text entry.outcome) (code_word order entry.code is.code).space)

entry_only : (order : Order) (least most : ℕ) (entry : Entry) → least ≤ entry.number → entry.number ≤ most → most < 10 ^ 10 → IsSpelledEntry entry
    → entry_in order least most (entry_words order entry) ≡ Some entry
unfolding entry_in
entry_only order least most entry low high small is =
    let wide : entry.number < 2 ^ 64 = omega (arith, high, small) in
    let number = decimal entry.number in
    let code = code_text order entry.code in
    let last = words_of (outcome_text entry.outcome) in
    goes_on (word_at (words_of (entry_words order entry)))
    (λ first. number_in least most first.0 >>= (λ number. word_at first.1 >>= (λ second. code_in order second.0 >>= (λ code. outcome_at second.1 >>= (λ outcome.
    some (record { number = number; code = code; outcome = outcome }))))))
    (number, code ∷ last) (ap (λ words. word_at words) (entry_words_are order entry wide is) ∙ word_only number (code ∷ last) (decimal_some entry.number wide))
    ∙ goes_on (number_in least most number)
    (λ number. word_at (code ∷ last) >>= (λ second. code_in order second.0 >>= (λ code. outcome_at second.1 >>= (λ outcome.
    some (record { number = number; code = code; outcome = outcome })))))
    entry.number (number_word_only least most entry.number low high small)
    ∙ goes_on (word_at (code ∷ last))
    (λ second. code_in order second.0 >>= (λ code. outcome_at second.1 >>= (λ outcome. some (record { number = entry.number; code = code; outcome = outcome }))))
    (code, last) (word_only code last (code_some order entry.code is.code))
    ∙ goes_on (code_in order code) (λ code. outcome_at last >>= (λ outcome. some (record { number = entry.number; code = code; outcome = outcome })))
    entry.code (code_only order entry.code is.code)
    ∙ goes_on (outcome_at last) (λ outcome. some (record { number = entry.number; code = entry.code; outcome = outcome }))
    entry.outcome (outcome_only entry.outcome is.outcome)

pub spelled_line_only : (order : Order) (least most : ℕ) (entry : Entry) (rest : List ℕ) → least ≤ entry.number → entry.number ≤ most → most < 10 ^ 10 → IsSpelledEntry entry
    → entry_line_at order least most (ledger_line order entry ++ rest) ≡ Some (entry, rest)
unfolding entry_line_at
spelled_line_only order least most entry rest low high small is =
    let words = entry_words order entry in
    ap (λ text. entry_line_at order least most text)
    (entry_grouped (codes "ledger ") (codes " ") (decimal entry.number) (code_text order entry.code) (outcome_text entry.outcome) (codes "\n") rest)
    ∙ goes_on (field_at (codes "ledger ") (codes "ledger " ++ (words ++ 10 ∷ rest))) (λ field. entry_in order least most field.0 >>= (λ entry. some (entry, field.1))) (words, rest)
    (field_only (codes "ledger ") words rest (entry_free order entry (omega (arith, high, small)) is))
    ∙ goes_on (entry_in order least most words) (λ entry. some (entry, rest)) entry (entry_only order least most entry low high small is)

pub entry_line_only : (order : Order) (least most : ℕ) (entry : Entry) (rest : List ℕ) → least ≤ entry.number → entry.number ≤ most → most < 10 ^ 10 → IsEntry entry
    → entry_line_at order least most (ledger_line order entry ++ rest) ≡ Some (entry, rest)
entry_line_only order least most entry rest low high small is = spelled_line_only order least most entry rest low high small (spelled_entry entry is)
