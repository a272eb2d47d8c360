-- How a job ended, and what became of an activation: their lines tell them apart.
use Rattle.std.proofs.Common.{◌≡◌, ℕ, ℤ, pos, negsuc, ◌<◌, ◌^◌, ◌==◌, Bool, cond, ◌||◌, IsTrue, if◌then◌else◌, List, [], ◌∷◌, ◌++◌, codes, decimal, drop, get_or, refl, sym, ap, ◌∙◌, arith}
use lib.Signed.{mag}
use Rattle.std.proofs.lemmas.Bool.Decides.{nat_tests}
use Rattle.std.specs.Fmt.{signed_decimal}
use Rattle.std.specs.Str.{byte}
use Rattle.dms_wire_ber.specs.Integer.{in_range}
use Rattle.dms_centre.specs.declared.ended.Ended.{Ended}
use Rattle.dms_centre.specs.declared.ended.Ended.TheVariants as endings
use Rattle.dms_centre.specs.declared.ended.Why.{Why}
use Rattle.dms_centre.specs.declared.ended.Why.TheVariants as reasons
use Rattle.dms_centre.specs.declared.outcome.Outcome.{Outcome}
use Rattle.dms_centre.specs.declared.outcome.Outcome.TheVariants as outcomes
use Rattle.dms_centre.specs.Texts.{outcome_text, why_text}
use Rattle.dms_centre_state.specs.CentreText.{last_line}
use Rattle.dms_centre_state.specs.Reached.{IsOutcome, IsWhy, IsEnded}
use Rattle.dms_centre_state.proofs.Tells.{Tells, cases_tell, other_texts, after_tells, pair_tells, digit_tells}
use Rattle.dms_centre_state.proofs.Groupings.{of_failure}

-- a number in the range of a whole number
mag_in_range : (z : ℤ) → IsTrue (in_range z) → mag z < 2 ^ 63
mag_in_range (pos n) is = let less : n < 2 ^ 32 = grind (arith, nat_tests, is) in omega (arith, less)
mag_in_range (negsuc n) is = let less : n < 2 ^ 31 = grind (arith, nat_tests, is) in omega (arith, less)

-- ---- outcomes

abbrev outcome_kind : Outcome → ℕ
outcome_kind outcomes.Waiting = 0
outcome_kind outcomes.Accepted = 1
outcome_kind (outcomes.Refused number) = 2
outcome_kind outcomes.NoReply = 3
outcome_kind outcomes.Unknown = 4

abbrev outcome_number : Outcome → ℤ
outcome_number outcomes.Waiting = pos 0
outcome_number outcomes.Accepted = pos 0
outcome_number (outcomes.Refused number) = number
outcome_number outcomes.NoReply = pos 0
outcome_number outcomes.Unknown = pos 0

abbrev outcome_of : ℕ → ℤ → Outcome
outcome_of kind number =
    if kind == 0 then outcomes.Waiting
    else if kind == 1 then outcomes.Accepted
    else if kind == 2 then outcomes.Refused number
    else if kind == 3 then outcomes.NoReply
    else outcomes.Unknown

abbrev outcome_has_number : ℕ → Bool
outcome_has_number kind = kind == 2

-- the case that a text is of, by octets that tell it
abbrev outcome_kind_at : List ℕ → ℕ
outcome_kind_at text =
    if get_or text 0 0 == byte "w" then 0
    else if get_or text 0 0 == byte "a" then 1
    else if get_or text 0 0 == byte "r" then 2
    else if get_or text 0 0 == byte "n" then 3
    else 4

abbrev outcome_size : ℕ → ℕ
outcome_size kind =
    if kind == 0 then 7
    else if kind == 1 then 8
    else if kind == 2 then 8
    else if kind == 3 then 7
    else 7

outcome_back : (x : Outcome) → outcome_of (outcome_kind x) (outcome_number x) ≡ x
outcome_back outcomes.Waiting = refl
outcome_back outcomes.Accepted = refl
outcome_back (outcomes.Refused number) = refl
outcome_back outcomes.NoReply = refl
outcome_back outcomes.Unknown = refl

outcome_numbered : (x : Outcome) → outcome_number x ≡ cond (outcome_has_number (outcome_kind x)) (outcome_number x) (pos 0)
outcome_numbered outcomes.Waiting = refl
outcome_numbered outcomes.Accepted = refl
outcome_numbered (outcomes.Refused number) = refl
outcome_numbered outcomes.NoReply = refl
outcome_numbered outcomes.Unknown = refl

outcome_small : (x : Outcome) → IsOutcome x → mag (outcome_number x) < 2 ^ 63
outcome_small outcomes.Waiting is = omega arith
outcome_small outcomes.Accepted is = omega arith
outcome_small (outcomes.Refused number) is = mag_in_range number is
outcome_small outcomes.NoReply is = omega arith
outcome_small outcomes.Unknown is = omega arith

outcome_told : (x : Outcome) (r : List ℕ) → outcome_kind_at (outcome_text x ++ byte "\n" ∷ r) ≡ outcome_kind x
outcome_told outcomes.Waiting r = refl
outcome_told outcomes.Accepted r = refl
outcome_told (outcomes.Refused number) r = refl
outcome_told outcomes.NoReply r = refl
outcome_told outcomes.Unknown r = refl

outcome_after : (x : Outcome) (r : List ℕ)
    → drop (outcome_size (outcome_kind x)) (outcome_text x ++ byte "\n" ∷ r) ≡ cond (outcome_has_number (outcome_kind x)) (signed_decimal (outcome_number x)) [] ++ byte "\n" ∷ r
outcome_after outcomes.Waiting r = refl
outcome_after outcomes.Accepted r = refl
outcome_after (outcomes.Refused number) r = refl
outcome_after outcomes.NoReply r = refl
outcome_after outcomes.Unknown r = refl

pub outcome_tells : Tells (λ x. outcome_text x ++ codes "\n") IsOutcome
outcome_tells =
    cases_tell IsOutcome outcome_text (record {
      kind = outcome_kind;
      number = outcome_number;
      of = outcome_of;
      has_number = outcome_has_number;
      kind_at = outcome_kind_at;
      size = outcome_size;
      back = outcome_back;
      numbered = outcome_numbered;
      small = outcome_small;
      told = outcome_told;
      after = outcome_after;
    })

-- ---- why a job failed

abbrev why_kind : Why → ℕ
why_kind (reasons.Status number) = 0
why_kind (reasons.WrongStatus number) = 1
why_kind reasons.StillValidating = 2
why_kind reasons.OtherChecksum = 3
why_kind reasons.NoReply = 4
why_kind reasons.NumbersUsedUp = 5
why_kind reasons.OddReply = 6
why_kind (reasons.Cause number) = 7
why_kind reasons.Restarted = 8

abbrev why_number : Why → ℤ
why_number (reasons.Status number) = number
why_number (reasons.WrongStatus number) = number
why_number reasons.StillValidating = pos 0
why_number reasons.OtherChecksum = pos 0
why_number reasons.NoReply = pos 0
why_number reasons.NumbersUsedUp = pos 0
why_number reasons.OddReply = pos 0
why_number (reasons.Cause number) = number
why_number reasons.Restarted = pos 0

abbrev why_of : ℕ → ℤ → Why
why_of kind number =
    if kind == 0 then reasons.Status number
    else if kind == 1 then reasons.WrongStatus number
    else if kind == 2 then reasons.StillValidating
    else if kind == 3 then reasons.OtherChecksum
    else if kind == 4 then reasons.NoReply
    else if kind == 5 then reasons.NumbersUsedUp
    else if kind == 6 then reasons.OddReply
    else if kind == 7 then reasons.Cause number
    else reasons.Restarted

abbrev why_has_number : ℕ → Bool
why_has_number kind = kind == 0 || kind == 1 || kind == 7

-- the case that a text is of, by octets that tell it
abbrev why_kind_at : List ℕ → ℕ
why_kind_at text =
    if get_or text 0 0 == byte "e" then 0
    else if get_or text 0 0 == byte "n" then (if get_or text 5 0 == byte "p" then 4 else 5)
    else if get_or text 4 0 == byte "s" then 7
    else if get_or text 4 0 == byte "c" then 8
    else if get_or text 5 0 == byte "e" then 6
    else if get_or text 8 0 == byte "i" then 2
    else if get_or text 12 0 == byte "s" then 1
    else 3

abbrev why_size : ℕ → ℕ
why_size kind =
    if kind == 0 then 13
    else if kind == 1 then 19
    else if kind == 2 then 32
    else if kind == 3 then 28
    else if kind == 4 then 8
    else if kind == 5 then 25
    else if kind == 6 then 40
    else if kind == 7 then 42
    else 32

why_back : (x : Why) → why_of (why_kind x) (why_number x) ≡ x
why_back (reasons.Status number) = refl
why_back (reasons.WrongStatus number) = refl
why_back reasons.StillValidating = refl
why_back reasons.OtherChecksum = refl
why_back reasons.NoReply = refl
why_back reasons.NumbersUsedUp = refl
why_back reasons.OddReply = refl
why_back (reasons.Cause number) = refl
why_back reasons.Restarted = refl

why_numbered : (x : Why) → why_number x ≡ cond (why_has_number (why_kind x)) (why_number x) (pos 0)
why_numbered (reasons.Status number) = refl
why_numbered (reasons.WrongStatus number) = refl
why_numbered reasons.StillValidating = refl
why_numbered reasons.OtherChecksum = refl
why_numbered reasons.NoReply = refl
why_numbered reasons.NumbersUsedUp = refl
why_numbered reasons.OddReply = refl
why_numbered (reasons.Cause number) = refl
why_numbered reasons.Restarted = refl

why_small : (x : Why) → IsWhy x → mag (why_number x) < 2 ^ 63
why_small (reasons.Status number) is = mag_in_range number is
why_small (reasons.WrongStatus number) is = mag_in_range number is
why_small reasons.StillValidating is = omega arith
why_small reasons.OtherChecksum is = omega arith
why_small reasons.NoReply is = omega arith
why_small reasons.NumbersUsedUp is = omega arith
why_small reasons.OddReply is = omega arith
why_small (reasons.Cause number) is = mag_in_range number is
why_small reasons.Restarted is = omega arith

why_told : (x : Why) (r : List ℕ) → why_kind_at (why_text x ++ byte "\n" ∷ r) ≡ why_kind x
why_told (reasons.Status number) r = refl
why_told (reasons.WrongStatus number) r = refl
why_told reasons.StillValidating r = refl
why_told reasons.OtherChecksum r = refl
why_told reasons.NoReply r = refl
why_told reasons.NumbersUsedUp r = refl
why_told reasons.OddReply r = refl
why_told (reasons.Cause number) r = refl
why_told reasons.Restarted r = refl

why_after : (x : Why) (r : List ℕ)
    → drop (why_size (why_kind x)) (why_text x ++ byte "\n" ∷ r) ≡ cond (why_has_number (why_kind x)) (signed_decimal (why_number x)) [] ++ byte "\n" ∷ r
why_after (reasons.Status number) r = refl
why_after (reasons.WrongStatus number) r = refl
why_after reasons.StillValidating r = refl
why_after reasons.OtherChecksum r = refl
why_after reasons.NoReply r = refl
why_after reasons.NumbersUsedUp r = refl
why_after reasons.OddReply r = refl
why_after (reasons.Cause number) r = refl
why_after reasons.Restarted r = refl

pub why_tells : Tells (λ x. why_text x ++ codes "\n") IsWhy
why_tells =
    cases_tell IsWhy why_text (record {
      kind = why_kind;
      number = why_number;
      of = why_of;
      has_number = why_has_number;
      kind_at = why_kind_at;
      size = why_size;
      back = why_back;
      numbered = why_numbered;
      small = why_small;
      told = why_told;
      after = why_after;
    })

-- ---- how a job ended

failure_tells : Tells (λ (x : ℕ × Why). codes "last failed at step " ++ (decimal x.0 ++ (codes ": " ++ (why_text x.1 ++ codes "\n"))))
    (λ (x : ℕ × Why). (x.0 < 10) × IsWhy x.1)
failure_tells = after_tells (codes "last failed at step ") (pair_tells digit_tells (after_tells (codes ": ") why_tells))

ended_only : (a b : Ended) (r s : List ℕ) → IsEnded a → IsEnded b → last_line a ++ r ≡ last_line b ++ s → (a ≡ b) × (r ≡ s)
ended_only endings.Never endings.Never r s ga gb e = (refl, ap (drop 10) e)
ended_only endings.Never endings.Accepted r s ga gb e = absurd (other_texts 5 _ _ refl e)
ended_only endings.Never (endings.Failed step why) r s ga gb e = absurd (other_texts 5 _ _ refl e)
ended_only endings.Accepted endings.Never r s ga gb e = absurd (other_texts 5 _ _ refl e)
ended_only endings.Accepted endings.Accepted r s ga gb e = (refl, ap (drop 14) e)
ended_only endings.Accepted (endings.Failed step why) r s ga gb e = absurd (other_texts 5 _ _ refl e)
ended_only (endings.Failed step why) endings.Never r s ga gb e = absurd (other_texts 5 _ _ refl e)
ended_only (endings.Failed step why) endings.Accepted r s ga gb e = absurd (other_texts 5 _ _ refl e)
ended_only (endings.Failed step why) (endings.Failed other because) r s ga gb e =
    let brackets = λ (n : ℕ) (w : Why). of_failure (codes "last failed at step ") (decimal n) (codes ": ") (why_text w ++ codes "\n") in
    let same =
    failure_tells.only (step, why) (other, because) r s (omega (arith, ga.1), ga.2) (omega (arith, gb.1), gb.2)
    (ap (λ x. x ++ r) (brackets step why) ∙ e ∙ ap (λ x. x ++ s) (sym (brackets other because))) in
    (ap (λ (x : ℕ × Why). endings.Failed x.0 x.1) same.0, same.1)

pub ended_tells : Tells last_line IsEnded
ended_tells = record { only = ended_only }
