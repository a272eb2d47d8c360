-- What is told where a sign is not put in a state, and what is printed (this profile).
use Rattle.std.specs.Prelude.{ℕ, List, ◌++◌, codes, decimal, Option, None, Some}
use Rattle.dms_table.specs.FaultTexts.{row_fault_text}
use Rattle.dms_sign.specs.Configuration.{config_fault_text}
use Rattle.dms_sign_access.specs.RestoringTexts.{state_fault_text}
use Rattle.dms_sign_restored.specs.declared.restoring.Misfit.{Misfit}
use Rattle.dms_sign_restored.specs.declared.restoring.MisfitCause.{MisfitCause}
use Rattle.dms_sign_restored.specs.declared.restoring.MisfitCause.TheVariants as causes
use Rattle.dms_sign_restored.specs.declared.restoring.SignStateRefusal.{SignStateRefusal}
use Rattle.dms_sign_restored.specs.declared.restoring.SignStateRefusal.TheVariants as refusals
use Rattle.dms_sign_restored.specs.declared.restoring.SignRestoreFault.{SignRestoreFault}
use Rattle.dms_sign_restored.specs.declared.restoring.SignRestoreFault.TheVariants as faults
use Rattle.dms_sign_state.specs.FieldTexts.{error_text}
use Rattle.dms_sign_state.specs.declared.field.StateError.TheVariants as errors

-- the line that is refused
abbrev pub refused_line : SignStateRefusal → Option ℕ
refused_line (refusals.Text errors.Memory) = None
refused_line (refusals.Text (errors.Fault fault)) = Some fault.line
refused_line (refusals.Sign misfit) = Some misfit.line

abbrev pub cause_text : MisfitCause → List ℕ
cause_text (causes.Row fault) = row_fault_text fault
cause_text (causes.Part fault) = state_fault_text fault

abbrev pub misfit_text : Misfit → List ℕ
misfit_text misfit = codes "line " ++ decimal misfit.line ++ codes ": " ++ cause_text misfit.cause

abbrev pub refusal_text : SignStateRefusal → List ℕ
refusal_text (refusals.Text error) = error_text error
refusal_text (refusals.Sign misfit) = misfit_text misfit

abbrev pub restore_fault_text : SignRestoreFault → List ℕ
restore_fault_text (faults.Config fault) = config_fault_text fault
restore_fault_text (faults.State refusal) = refusal_text refusal
