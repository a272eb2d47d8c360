-- A text goes wrong at one line.
use Rattle.std.proofs.Common.{◌≡◌, ℕ, ◌+◌, ◌≤◌, ◌==◌, ◌⊎◌, cond, count_by, List, [], ◌∷◌, ◌++◌, length, refl, sym, ap, subst, ◌∙◌, append_assoc, arith, inl, inr}
use Rattle.std.specs.Str.{byte}
use Rattle.std.proofs.lemmas.Bool.{or_from, or_parts, eqb-true, cases_Bool, cases_lt}
use Rattle.std.proofs.lemmas.List.{length-append}
use Rattle.std.proofs.lemmas.List.Sums.{sum_by-append, sum_by-cons}
use Rattle.dms_codes.specs.declared.codes.Order.{Order}
use Rattle.dms_centre_jobs.specs.Job.{SettingsModel}
use Rattle.dms_centre.specs.declared.ended.Ended.{Ended}
use Rattle.dms_centre.specs.declared.ended.Ended.TheVariants as endings
use Rattle.dms_centre_state.specs.CentreText.{last_line}
use Rattle.dms_text_exact.specs.Fronts.{IsFree}
use Rattle.dms_centre_restored.specs.declared.refusal.CentreStateField.{CentreStateField}
use Rattle.dms_centre_restored.specs.declared.refusal.CentreStateField.TheVariants as fields
use Rattle.dms_centre_restored.specs.declared.refusal.CentreStateFault.{CentreStateFault}
use Rattle.dms_centre_restored.specs.Faults.{Stands, IsStateText, HasLineOf, IsWrongAt}

-- a text that is parted at two places
splits : (a b c d : List ℕ) → a ++ b ≡ c ++ d → length a ≤ length c → (mid : List ℕ) × (c ≡ a ++ mid) × (b ≡ mid ++ d)
splits [] b c d e few = (c, refl, e)
splits (x ∷ a) b [] d e few = absurd (omega (arith, few))
splits (x ∷ a) b (y ∷ c) d e few =
    let tail : a ++ b ≡ c ++ d = cc in
    let head : x ≡ y = cc in
    let s = splits a b c d tail (omega (arith, few)) in
    (s.0, ap (λ first. first ∷ c) (sym head) ∙ ap (λ c. x ∷ c) s.1, s.2)

-- its first line, where one ends in it
first_line : (text : List ℕ) → IsFree 10 text ⊎ ((line : List ℕ) × (after : List ℕ) × IsFree 10 line × (text ≡ line ++ 10 ∷ after))
first_line [] = inl refl
first_line (x ∷ text) =
    elim (cases_Bool (x == 10)) [
      | inl here ↦ inr ([], text, refl, ap (λ x. x ∷ text) (eqb-true x 10 here))
      | inr other ↦
          elim (first_line text) [
            | inl free ↦ inl (or_from (x == 10) _ other free)
            | inr line ↦ inr (x ∷ line.0, line.1, or_from (x == 10) _ other line.2, ap (λ text. x ∷ text) line.3)
          ]
    ]

abbrev lines_in : List ℕ → ℕ
lines_in text = count_by (λ octet. octet == byte "\n") text

none_in : (text : List ℕ) → IsFree 10 text → lines_in text ≡ 0
none_in [] free = refl
none_in (x ∷ text) free =
    let parts = or_parts (x == 10) _ free in
    let one : lines_in (x ∷ text) ≡ 0 + lines_in text = sum_by-cons (λ octet. cond (octet == 10) 1 0) x text ∙ ap (λ b. cond b 1 0 + lines_in text) parts.0 in
    omega (arith, one, none_in text parts.1)

last_some : (ended : Ended) (rest : List ℕ) → 1 ≤ length (last_line ended ++ rest)
last_some endings.Never rest = omega arith
last_some endings.Accepted rest = omega arith
last_some (endings.Failed step why) rest = omega arith

-- what is wanted is not nothing
some_stands : (order : Order) (wanted : CentreStateField) (text : List ℕ) → Stands order wanted text → 1 ≤ length text
some_stands order fields.Form text s = omega (arith, ap length s.1)
some_stands order fields.Next text s = omega (arith, ap length s.3)
some_stands order fields.Last text s = omega (arith, ap length s.3, last_some s.0 s.2)
some_stands order fields.Phase text s = omega (arith, ap length s.1)
some_stands order fields.PhaseWithoutRequest text s = omega (arith, ap length s.1)
some_stands order fields.Sends text s = omega (arith, ap length s.3)
some_stands order fields.Ticks text s = omega (arith, ap length s.3)
some_stands order fields.Step text s = omega (arith, ap length s.3)
some_stands order fields.StepOfTick text s = omega (arith, ap length s.3)
some_stands order fields.Polls text s = omega (arith, ap length s.3)
some_stands order fields.Publication text s = omega (arith, ap length s.3)
some_stands order fields.Activation text s = omega (arith, ap length s.3)
some_stands order (fields.Entry least most) text s = omega (arith, ap length s.3)
some_stands order fields.End text s = omega (arith, ap length s)
some_stands order fields.Spelling text s = absurd s

-- the one goes wrong no further than the other
one_side : (settings : SettingsModel) (text : List ℕ) (one other : CentreStateFault) (first : IsWrongAt settings text one) (second : IsWrongAt settings text other)
    → length first.before ≤ length second.before → one.line ≡ other.line
one_side settings text one other first second few =
    let parted = splits first.before first.rest second.before second.rest (sym first.parts ∙ second.parts) few in
    let go = second.goes_on in
    elim (first_line parted.0) [
      | inl free ↦
          let sum : lines_in second.before ≡ lines_in first.before + lines_in parted.0 =
          ap lines_in parted.1 ∙ sum_by-append (λ octet. cond (octet == 10) 1 0) first.before parted.0 in
          omega (arith, first.line, second.line, sum, none_in parted.0 free)
      | inr line ↦
          let text_of : IsStateText settings (first.before ++ (parted.0 ++ go.0)) =
          subst (IsStateText settings) (ap (λ before. before ++ go.0) parted.1 ∙ append_assoc first.before parted.0 go.0) go.2 in
          let same : HasLineOf (parted.0 ++ go.0) first.rest = record {
            line = line.0;
            more = line.1 ++ go.0;
            after = line.1 ++ second.rest;
            whole = line.2;
            there = ap (λ mid. mid ++ go.0) line.3 ∙ append_assoc line.0 (10 ∷ line.1) go.0;
            here = parted.2 ∙ ap (λ mid. mid ++ second.rest) line.3 ∙ append_assoc line.0 (10 ∷ line.1) second.rest;
            last = λ none. absurd (omega (arith, ap length none, length-append line.1 go.0, some_stands settings.order other.wanted go.0 go.1));
          } in
          absurd (first.lacks (parted.0 ++ go.0) text_of same)
    ]

pub one_line : (settings : SettingsModel) (text : List ℕ) (one other : CentreStateFault) → IsWrongAt settings text one → IsWrongAt settings text other → one.line ≡ other.line
one_line settings text one other first second =
    elim (cases_lt (length second.before) (length first.before)) [
      | inl less ↦ sym (one_side settings text other one second first (omega (arith, less)))
      | inr more ↦ one_side settings text one other first second more
    ]
