-- The first cause for which lines are no sign's is what the reader of the first seven lines, or of those after them, says.
use Rattle.std.proofs.Common.{◌≡◌, ℕ, List, [], Option, Some, None, Result, Ok, Err, sym, ap, subst, ◌∙◌}
use Rattle.std.specs.Prelude.{IfOk, IfNone}
use Rattle.std.specs.Str.Lines.{lines}
use Rattle.std.specs.Option.{option_or}
use Rattle.dms_text.specs.Lines.{TextLeft, kept_lines}
use Rattle.dms_sign_text_causes.specs.declared.cause.LineCause.{LineCause}
use Rattle.dms_sign_text.specs.Causes.{head_words, body_cause, first_cause}
use Rattle.dms_sign_text.proofs.NoCause.{no_cause_is_a_sign}
use Rattle.dms_sign_text.proofs.Refused.{one_refused, none_of_a_sign}
use Rattle.dms_sign_text.specs.Description.{Description, SpellsSign}
use Rattle.dms_sign_text.specs.declared.fault.DescriptionFault.{DescriptionFault}
use Rattle.dms_sign_text.specs.declared.fault.DescriptionFault.TheVariants as faults
use Rattle.dms_sign_text.specs.declared.setup.Setup.{Setup}
use Rattle.dms_sign_text.specs.DescriptionReading.{HeadModel, head_at}
use Rattle.dms_sign_text.specs.RefusedLine.{all_numbered, first_forms, IsRefusedLine, NamesLine}
use Rattle.dms_sign_text.specs.Setups.{octets_left, IsMade}
use Rattle.dms_sign_text.specs.Views.{HaveForms, IsMisfit}
use Rattle.dms_sign_text.specs.declared.line_fault.LineFault.{LineFault}

pub head_told : (left from : TextLeft) (fault : LineFault) → left ≡ from → IsMisfit first_forms head_words left fault → Some fault.cause ≡ first_cause (octets_left from)
unfolding first_cause
head_told left from fault is misfit =
    sym (ap (λ (l : TextLeft). first_cause (octets_left l)) (sym is) ∙ ap (λ cause. option_or cause (body_cause (head_at (octets_left left)))) (misfit.cause []))

pub body_told : (left from rest : TextLeft) (head : HeadModel) → left ≡ from → head_at (octets_left left) ≡ Some (head, octets_left rest) → HaveForms first_forms head_words left rest
    → body_cause (Some (head, octets_left rest)) ≡ first_cause (octets_left from)
unfolding first_cause
body_told left from rest head is read have =
    sym (ap (λ (l : TextLeft). first_cause (octets_left l)) (sym is)
    ∙ ap (λ cause. option_or cause (body_cause (head_at (octets_left left)))) (have.causes [])
    ∙ ap body_cause read)

pub body_told_ok : {E : Type 0} (result : Result (Option LineCause) E) (left from rest : TextLeft) (head : HeadModel) → left ≡ from → head_at (octets_left left) ≡ Some (head, octets_left rest)
    → HaveForms first_forms head_words left rest → IfOk result (λ found. found ≡ body_cause (Some (head, octets_left rest))) → IfOk result (λ found. found ≡ first_cause (octets_left from))
body_told_ok (Ok found) left from rest head is read have same = same ∙ body_told left from rest head is read have
body_told_ok (Err fault) left from rest head is read have same = tt

-- ---- where nothing is said

a_sign : (left from rest : TextLeft) (head : HeadModel) (found : Option LineCause) → left ≡ from → head_at (octets_left left) ≡ Some (head, octets_left rest)
    → found ≡ body_cause (Some (head, octets_left rest)) → IfNone found ((it : Description) × SpellsSign (octets_left from) it)
a_sign left from rest head (Some cause) is read same = tt
a_sign left from rest head None is read same =
    subst (λ (l : TextLeft). (it : Description) × SpellsSign (octets_left l) it) is (no_cause_is_a_sign (octets_left left) (octets_left rest) head read (sym same))

pub a_sign_ok : {E : Type 0} (result : Result (Option LineCause) E) (left from rest : TextLeft) (head : HeadModel) → left ≡ from → head_at (octets_left left) ≡ Some (head, octets_left rest)
    → IfOk result (λ found. found ≡ body_cause (Some (head, octets_left rest))) → IfOk result (λ found. IfNone found ((it : Description) × SpellsSign (octets_left from) it))
a_sign_ok (Ok found) left from rest head is read same = a_sign left from rest head found is read same
a_sign_ok (Err fault) left from rest head is read same = tt

no_line : (octets : List ℕ) (number : ℕ) (found : Option LineCause) → IfNone found ((it : Description) × SpellsSign (kept_lines octets) it)
    → IfNone found (IsRefusedLine (all_numbered (lines octets)) number → ⊥)
no_line octets number (Some cause) told = tt
no_line octets number None told = none_of_a_sign octets number told.0 told.1

pub no_line_ok : {E : Type 0} (result : Result (Option LineCause) E) (octets : List ℕ) (number : ℕ) → IfOk result (λ found. IfNone found ((it : Description) × SpellsSign (kept_lines octets) it))
    → IfOk result (λ found. IfNone found (IsRefusedLine (all_numbered (lines octets)) number → ⊥))
no_line_ok (Ok found) octets number told = no_line octets number found told
no_line_ok (Err fault) octets number told = tt

-- a sign is refused for no line
pub no_line_of_a_sign : (octets : List ℕ) (number : ℕ) (setup : Setup) → (it : Description) × SpellsSign (kept_lines octets) it × IsMade it setup
    → IsRefusedLine (all_numbered (lines octets)) number → ⊥
no_line_of_a_sign octets number setup read refused = none_of_a_sign octets number read.0 read.1 refused

-- and other lines for another one
pub another_line : (octets : List ℕ) (fault : DescriptionFault) (line number : ℕ) → NamesLine (IsRefusedLine (all_numbered (lines octets))) fault → fault ≡ faults.Line line
    → (line ≡ number → ⊥) → IsRefusedLine (all_numbered (lines octets)) number → ⊥
another_line octets fault line number names is other refused =
    other (one_refused (all_numbered (lines octets)) line number (subst (NamesLine (IsRefusedLine (all_numbered (lines octets)))) is names) refused)
