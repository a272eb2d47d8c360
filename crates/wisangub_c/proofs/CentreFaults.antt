-- The line for which a state of a central system is refused is that of its first fault.
use Rattle.std.proofs.Common.{◌≡◌, ℕ, List, Some, sym, ap, arith}
use Rattle.dms_centre_jobs.specs.Job.{SettingsModel}
use Rattle.dms_centre_restored.specs.declared.refusal.CentreStateRefusal.TheVariants as refusals
use Rattle.dms_centre_restored.specs.declared.refusal.CentreRestoreFault.{CentreRestoreFault}
use Rattle.dms_centre_restored.specs.declared.refusal.CentreRestoreFault.TheVariants as faults
use Rattle.dms_centre_restored.specs.Faults.{IsWrong}
use Rattle.dms_centre_restored.specs.FirstFault.{IsFirstFault}
use Rattle.wisangub_c.specs.States.{state_refused}
use Rattle.wisangub_c.specs.CentreStates.{IsRefusedAt, restore_answer, line_after_restore}

pub refused_at : (settings : SettingsModel) (text : List ℕ) (fault : CentreRestoreFault) (line old answer : ℕ) → answer ≡ restore_answer fault → line ≡ line_after_restore fault old
    → IsFirstFault settings text fault → IsWrong settings text fault → answer ≡ state_refused → IsRefusedAt settings text line
refused_at settings text (faults.Settings fault) line old answer is told first wrong refused = absurd (omega (arith, is, refused))
refused_at settings text (faults.State refusals.Memory) line old answer is told first wrong refused = absurd (omega (arith, is, refused))
refused_at settings text (faults.State (refusals.Fault fault)) line old answer is told first wrong refused = (refusals.Fault fault, first, wrong, ap Some (sym told))
