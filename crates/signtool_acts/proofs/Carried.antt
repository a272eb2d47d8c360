-- What is said of octets that were read or taken holds of what the reader gives.
use Rattle.std.proofs.Common.{◌≡◌, ◌==◌, ◌≤◌, ◌<◌, ◌+◌, ◌&&◌, ℕ, cond, List, [], ◌∷◌, ◌++◌, take, drop, length, Option, Some, None, Result, Ok, Err, refl, ap, sym, subst, ◌∙◌, true, false, filter, not, arith}
use Rattle.std.specs.Prelude.{IfSome, IfErr}
use Rattle.std.specs.List.{position, slice_split}
use Rattle.std.specs.Str.Lines.{lines, strip_carriage_return}
use Rattle.std.proofs.lemmas.Bool.Decides.{nat_tests}
use Rattle.std.proofs.lemmas.List.{take_rest}
use Rattle.dms_text.specs.Lines.{is_skipped, kept_lines}
use Rattle.dms_text.proofs.Splits.{first_part, only_part}
use Rattle.dms_text.proofs.LineLaws.{line_first, line_only}
use Rattle.dms_text_streams.specs.DescriptionText.{TakesDescription, lines_through_end, is_end}
use Rattle.dms_sign_text.specs.Before.{NotDescribed, IsRefusedBefore}
use Rattle.dms_sign_text.specs.Description.{Description, SpellsSign}
use Rattle.dms_sign_text.specs.RefusedLine.{all_numbered, IsRefusedLine}
use Rattle.dms_text_streams.specs.DescriptionText.{longest_input}
use Rattle.dms_sign_text.specs.declared.reading_fault.ReplayFault.{ReplayFault}
use Rattle.dms_sign_text.specs.declared.reading_fault.ReplayFault.TheVariants as faults
use Rattle.dms_sign_text.specs.declared.setup.Setup.{Setup}
use Rattle.dms_replay.specs.RefusedScript.{IsRefusedIn}
use Rattle.dms_replay.specs.Replayed.{NoScript}
use Rattle.signtool_acts.specs.declared.refusal.InputRefusal.{InputRefusal}
use Rattle.signtool_acts.specs.Refused.{names_line, says_empty}
use Rattle.signtool_acts.specs.Unseen.{unseen_in}

-- ---- an input that is read to its end: `slice` is lent of the octets that were read, which are all

pub same_line : (made fault : ReplayFault) (number : ℕ) → made ≡ fault
    → ◌≡◌ {A = Result Unit ReplayFault} (Err made) (Err (faults.Line number)) → ◌≡◌ {A = Result Unit ReplayFault} (Err fault) (Err (faults.Line number))
same_line made fault number same is = subst (λ f. ◌≡◌ {A = Result Unit ReplayFault} (Err f) (Err (faults.Line number))) same is

pub no_script : (slice octets : List ℕ) (all : Option (List ℕ)) → slice ≡ octets → length octets ≤ longest_input → IfSome all (λ whole. octets ≡ whole)
    → NoScript slice → IfSome all (λ whole. (length whole ≤ longest_input) × NoScript whole)
no_script slice octets None lent short same none = tt
no_script slice octets (Some whole) lent short same none =
    (subst (λ xs. length xs ≤ longest_input) same short, subst NoScript (lent ∙ same) none)

pub refused_in : (slice octets : List ℕ) (all : Option (List ℕ)) (number : ℕ) → slice ≡ octets → IfSome all (λ whole. octets ≡ whole)
    → IsRefusedIn slice number → IfSome all (λ whole. IsRefusedIn whole number)
refused_in slice octets None number lent same refused = tt
refused_in slice octets (Some whole) number lent same refused = subst (λ xs. IsRefusedIn xs number) (lent ∙ same) refused

-- ---- a text that is taken up to its line `end`

pub refused_before : (slice text : List ℕ) (old new : Option (List ℕ)) (number : ℕ) → slice ≡ text → TakesDescription old text new
    → IsRefusedLine (all_numbered (lines slice)) number → IsRefusedBefore old number
refused_before slice text None new number lent taken refused = tt
refused_before slice text (Some octets) None number lent taken refused = absurd taken
refused_before slice text (Some octets) (Some rest) number lent taken refused =
    subst (λ ls. IsRefusedLine (all_numbered ls) number) (ap lines lent ∙ taken.1) refused

pub not_described_before : (slice text : List ℕ) (old new : Option (List ℕ)) → slice ≡ text → TakesDescription old text new
    → ((it : Description) → SpellsSign (kept_lines slice) it → ⊥) → NotDescribed old
not_described_before slice text None new lent taken none = tt
not_described_before slice text (Some octets) None lent taken none = absurd taken
not_described_before slice text (Some octets) (Some rest) lent taken none = λ it spelled.
    none it (subst (λ ls. SpellsSign ls it)
    (sym (ap kept_lines lent ∙ ap (λ (ls : List (List ℕ)). filter (λ line. not (is_skipped line)) ls) taken.1)) spelled)

some_line : (line : List ℕ) (more : List (List ℕ)) → [] ≡ lines_through_end (line ∷ more) → ⊥
some_line line more = elim (is_end line) as (λ b. [] ≡ cond b (line ∷ []) (line ∷ lines_through_end more) → ⊥) [
  | true ↦ λ never. cc
  | false ↦ λ never. cc
]

some_lines : (octets : List ℕ) → 0 < length octets → (place : Option ℕ) → position (λ (o : ℕ). o == 10) octets ≡ place → [] ≡ lines_through_end (lines octets) → ⊥
some_lines octets some (Some n) found none =
    some_line (strip_carriage_return (take n octets)) (lines (drop (n + 1) octets)) (none ∙ ap lines_through_end (line_first octets (take n octets) (drop (n + 1) octets)
    (first_part (λ (o : ℕ). o == 10) octets n found ∙ ap (λ l. take n octets ∷ slice_split (λ (o : ℕ). o == 10) l) (take_rest octets (n + 1)))))
some_lines octets some None found none =
    some_line octets (lines []) (none ∙ ap lines_through_end (line_only octets (only_part (λ (o : ℕ). o == 10) octets found) some))

-- something is taken where there is something
same_emptiness : (octets text rest : List ℕ) → octets ≡ text ++ rest → lines text ≡ lines_through_end (lines octets) → (length text == 0) ≡ (length octets == 0)
same_emptiness [] [] rest whole same = refl
same_emptiness [] (x ∷ text) rest whole same = absurd (cc)
same_emptiness (y ∷ octets) (x ∷ text) rest whole same = some x text ∙ sym (some y octets)
  where
    some : (first : ℕ) (others : List ℕ) → (length (first ∷ others) == 0) ≡ false
    some first others = grind (arith, nat_tests)
same_emptiness (y ∷ octets) [] rest whole same =
    absurd (some_lines (y ∷ octets) (omega arith) (position (λ (o : ℕ). o == 10) (y ∷ octets)) refl same)

empty_if_taken : (slice text : List ℕ) (old new : Option (List ℕ)) (refusal : InputRefusal) → slice ≡ text → TakesDescription old text new
    → refusal.is_empty ≡ says_empty refusal.fault slice → IfSome old (λ octets. refusal.is_empty ≡ says_empty refusal.fault octets)
empty_if_taken slice text None new refusal lent taken holds = tt
empty_if_taken slice text (Some octets) None refusal lent taken holds = absurd taken
empty_if_taken slice text (Some octets) (Some rest) refusal lent taken holds =
    holds ∙ ap (says_empty refusal.fault) lent ∙ ap (λ b. names_line refusal.fault && b) (same_emptiness octets text rest taken.0 taken.1)

pub empty_of_text : (slice text : List ℕ) (old new : Option (List ℕ)) (result : Result Setup InputRefusal) → slice ≡ text → TakesDescription old text new
    → IfErr result (λ refusal. refusal.is_empty ≡ says_empty refusal.fault slice)
    → IfErr result (λ refusal. IfSome old (λ octets. refusal.is_empty ≡ says_empty refusal.fault octets))
empty_of_text slice text old new (Ok setup) lent taken holds = tt
empty_of_text slice text old new (Err refusal) lent taken holds = empty_if_taken slice text old new refusal lent taken holds

-- ---- what nobody sees in the line: the lines of what is taken are those up to and with the first `end`

unseen_if_taken : (slice text : List ℕ) (old new : Option (List ℕ)) (refusal : InputRefusal) → slice ≡ text → TakesDescription old text new
    → refusal.unseen ≡ unseen_in refusal.fault (lines slice) → IfSome old (λ octets. refusal.unseen ≡ unseen_in refusal.fault (lines_through_end (lines octets)))
unseen_if_taken slice text None new refusal lent taken holds = tt
unseen_if_taken slice text (Some octets) None refusal lent taken holds = absurd taken
unseen_if_taken slice text (Some octets) (Some rest) refusal lent taken holds =
    holds ∙ ap (λ t. unseen_in refusal.fault (lines t)) lent ∙ ap (λ l. unseen_in refusal.fault l) taken.1

pub unseen_of_text : (slice text : List ℕ) (old new : Option (List ℕ)) (result : Result Setup InputRefusal) → slice ≡ text → TakesDescription old text new
    → IfErr result (λ refusal. refusal.unseen ≡ unseen_in refusal.fault (lines slice))
    → IfErr result (λ refusal. IfSome old (λ octets. refusal.unseen ≡ unseen_in refusal.fault (lines_through_end (lines octets))))
unseen_of_text slice text old new (Ok setup) lent taken holds = tt
unseen_of_text slice text old new (Err refusal) lent taken holds = unseen_if_taken slice text old new refusal lent taken holds
