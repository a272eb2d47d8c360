-- The line for which lines are refused is the one that the reader names.
use Rattle.std.proofs.Common.{◌≡◌, ◌⊎◌, ℕ, cond, List, [], ◌∷◌, length, Option, Some, None, Result, Ok, Err, refl, sym, ap, subst, ◌∙◌, inl, inr}
use Rattle.std.specs.Str.Lines.{lines}
use Rattle.std.specs.Option.{is_some, ok_or}
use Rattle.std.specs.Result.{result_err}
use Rattle.std.proofs.lemmas.Option.{same_Some}
use Rattle.dms_text.specs.Lines.{NumberedLine, TextLeft, lines_left, number_after, kept_lines}
use Rattle.dms_sign_text.specs.declared.fault.DescriptionFault.{DescriptionFault}
use Rattle.dms_sign_text.specs.declared.fault.DescriptionFault.TheVariants as faults
use Rattle.dms_sign_text.specs.declared.line_fault.LineFault.{LineFault}
use Rattle.dms_sign_text.specs.Causes.{head_words}
use Rattle.dms_sign_text.specs.declared.setup.Setup.{Setup}
use Rattle.dms_sign_text.specs.Description.{Description, SpellsSign}
use Rattle.dms_sign_text.specs.DescriptionReading.{HeadModel, head_at, rows_from, fonts_at}
use Rattle.dms_sign_text.specs.RefusedLine.{NumberedLines, numbered_left, all_numbered, octets_of, first_number, last_lines, Leaves, first_forms, from_misfit, after_fonts, refused_number, IsRefusedLine, no_sign, line_after, NamesLine}
use Rattle.dms_sign_text.specs.Setups.{octets_left, BeginsWith, IsMade}
use Rattle.dms_sign_text.specs.Views.{HaveForms, IsMisfit}
use Rattle.dms_sign_text.proofs.LastLines.{leaves_then, leaves_rest, last_are}
use Rattle.dms_sign_text.proofs.SetupLaws.{from_start, whole_begins}
use Rattle.dms_sign_text.proofs.DescriptionLaws.{one_prefix}

-- ---- the first lines

-- one of the first seven lines is a misfit
pub misfit_refused : (left : TextLeft) (fault : LineFault) → head_at (octets_left left) ≡ None → IsMisfit first_forms head_words left fault
    → fault.line ≡ refused_number (numbered_left left)
misfit_refused left fault none misfit =
    let from : List NumberedLine = from_misfit first_forms (lines_left left) in
    misfit.is [] ∙ sym (ap (λ some. first_number (cond some (after_fonts from) from) (number_after left)) (ap is_some none))

-- what is left of lines of which the first seven were read, and then the rows and the fonts
pub record ReadTo (left : TextLeft) (found : NumberedLines) : Type 0 where
  pub leaves : Leaves (numbered_left left) found
  pub number : first_number found.lines found.after ≡ refused_number (numbered_left left)

pub read_to : (left mid : TextLeft) (head : HeadModel) (start between found : NumberedLines) → head_at (octets_left left) ≡ Some (head, octets_left mid) → HaveForms first_forms head_words left mid
    → start ≡ numbered_left mid → Leaves start between → octets_of between.lines ≡ (rows_from [] (octets_of start.lines)).1
    → Leaves between found → octets_of found.lines ≡ (fonts_at (octets_of between.lines)).1 → ReadTo left found
read_to left mid head start between found some have starts rows rows_are fonts fonts_are =
    let from : List NumberedLine = from_misfit first_forms (lines_left left) in
    let rest : from ≡ start.lines = have.lines [] ∙ ap (λ (ls : NumberedLines). ls.lines) (sym starts) in
    let later : Leaves start found = leaves_then _ _ _ rows fonts in
    let count : octets_of found.lines ≡ (fonts_at (rows_from [] (octets_of start.lines)).1).1 = fonts_are ∙ ap (λ ls. (fonts_at ls).1) rows_are in
    let last : after_fonts from ≡ found.lines = ap after_fonts rest ∙ ap (λ ls. last_lines (length ls) start.lines) (sym count) ∙ last_are start found later in
    let all : Leaves (numbered_left left) found =
    leaves_then _ _ _ (leaves_rest first_forms head_words left mid have) (subst (λ ls. Leaves ls found) starts later) in
    record {
      leaves = all;
      number =
          sym (ap (λ found_some. first_number (cond found_some (after_fonts from) from) (number_after left)) (ap is_some some)
          ∙ ap (λ ls. first_number ls (number_after left)) last
          ∙ ap (λ after. first_number found.lines after) (sym all.after_is));
    }

-- the line that comes next is no `end`
pub stop_refused : {A : Type 0} (found : Option A) (fault : DescriptionFault) (end number : ℕ) → ◌≡◌ {A = Result A DescriptionFault} (Err fault) (ok_or found (faults.Line end)) → end ≡ number
    → NamesLine (λ line. line ≡ number) fault
stop_refused None fault end number is same = subst (NamesLine (λ line. line ≡ number)) (sym (same_Some _ _ (ap result_err is))) same
stop_refused {A} (Some value) fault end number is same = absurd (let wrong : ◌≡◌ {A = Result A DescriptionFault} (Err fault) (Ok value) = is in cc)

pub ruleset parts = (misfit_refused, read_to)

-- ---- the whole text

all_are : (text : List ℕ) (left : TextLeft) → left ≡ from_start text → numbered_left left ≡ all_numbered (lines text)
all_are text left is = ap numbered_left is

-- the first lines are no sign's
pub none_refused : (text : List ℕ) (left : TextLeft) (fault : DescriptionFault) → left ≡ from_start text
    → (fault ≡ faults.Memory) ⊎ ((it : Description) (rest : List (List ℕ)) → BeginsWith (octets_left left) rest it → ⊥)
    → NamesLine (λ number. number ≡ refused_number (numbered_left left)) fault → NamesLine (IsRefusedLine (all_numbered (lines text))) fault
none_refused text left faults.Memory is none number = tt
none_refused text left (faults.Line n) is (inl memory) number = absurd (cc)
none_refused text left (faults.Line n) is (inr none) number =
    subst (λ all. IsRefusedLine all n) (all_are text left is) (subst (IsRefusedLine (numbered_left left)) (sym number) (no_sign none))

-- a line stands after the sign's own
pub after_refused : (text : List ℕ) (left rest : TextLeft) (setup : Setup) (line : NumberedLine) (others : List NumberedLine) → left ≡ from_start text → lines_left rest ≡ line ∷ others
    → (it : Description) × BeginsWith (octets_left left) (octets_left rest) it × IsMade it setup → Leaves (numbered_left left) (numbered_left rest)
    → IsRefusedLine (all_numbered (lines text)) line.number
after_refused text left rest setup line others is some read leaves =
    let all : NumberedLines = numbered_left left in
    let begins : BeginsWith (octets_left left) (line.octets ∷ octets_of others) read.0 = subst (λ ls. BeginsWith (octets_left left) ls read.0) (ap octets_of some) read.1 in
    let last : last_lines (length (octets_of (line ∷ others))) all.lines ≡ line ∷ others =
    ap (λ ls. last_lines (length (octets_of ls)) all.lines) (sym some) ∙ last_are all (numbered_left rest) leaves ∙ some in
    subst (λ everything. IsRefusedLine everything line.number) (all_are text left is)
    (subst (IsRefusedLine all) (ap (λ ls. first_number ls all.after) last) (line_after read.0 line.octets (octets_of others) begins))

-- ---- one line

pub one_refused : (it : NumberedLines) (one other : ℕ) → IsRefusedLine it one → IsRefusedLine it other → one ≡ other
one_refused it _ _ (no_sign none) (no_sign also) = refl
one_refused it _ _ (no_sign none) (line_after sign line rest begins) = absurd (none sign (line ∷ rest) begins)
one_refused it _ _ (line_after sign line rest begins) (no_sign none) = absurd (none sign (line ∷ rest) begins)
one_refused it _ _ (line_after sign line rest begins) (line_after that another others also) =
    ap (λ left. first_number (last_lines (length left) it.lines) it.after)
    (one_prefix (octets_of it.lines) (line ∷ rest) (another ∷ others) sign that begins also).1

-- none of a sign's own lines is
pub none_of_a_sign : (text : List ℕ) (number : ℕ) (sign : Description) → SpellsSign (kept_lines text) sign → IsRefusedLine (all_numbered (lines text)) number → ⊥
none_of_a_sign text _ sign spelled (no_sign none) = none sign [] (whole_begins text sign spelled)
none_of_a_sign text _ sign spelled (line_after that line rest begins) =
    let wrong : [] ≡ line ∷ rest = (one_prefix (octets_left (from_start text)) [] (line ∷ rest) sign that (whole_begins text sign spelled) begins).1 in absurd (cc)
