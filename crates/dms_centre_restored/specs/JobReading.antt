-- Reading several lines of a state's text: the first two, and those of the job that is on, or the first of them that is
-- not as it must be. Inner words of the readers (this profile).
use Rattle.std.specs.Prelude.{ℕ, List, codes, Option, Some, None, Result, Ok}
use Rattle.dms_codes.specs.declared.codes.Order.{Order}
use Rattle.dms_centre_jobs.specs.declared.step.Step.{Step}
use Rattle.dms_centre_jobs.specs.Commands.{CommandModel}
use Rattle.dms_centre.specs.declared.restoring.SavedStage.{SavedStage}
use Rattle.dms_centre.specs.declared.restoring.SavedStage.TheVariants as stages
use Rattle.dms_centre_restored.specs.declared.refusal.CentreStateField.TheVariants as fields
use Rattle.dms_centre_restored.specs.declared.refusal.CentreLineLack.{CentreLineLack}
use Rattle.dms_centre_restored.specs.declared.lines.PhaseLine.{PhaseLine}
use Rattle.dms_centre_restored.specs.declared.lines.PhaseLine.TheVariants as phases
use Rattle.dms_centre_restored.specs.Lacks.{wanting, ◌>>=◌}
use Rattle.dms_text_exact.specs.Fronts.{behind}
use Rattle.dms_centre_restored.specs.LineReading.{number_line_at, phase_at, phase_wanted, step_line_at, step_wanted}
use Rattle.dms_centre_restored.specs.LineReading.{work_at, work_wanted}

-- the form, and the number that the next request takes
unfoldable pub first_lines_at : List ℕ → Result (ℕ × List ℕ) CentreLineLack
first_lines_at text = do
  rest ← wanting fields.Form text (behind (codes "state 1 centre\n") text)
  wanting fields.Next rest (number_line_at (codes "next ") 0 4294967295 rest)

-- how many times the request that waits went out, and the ticks since
unfoldable pub waiting_at : List ℕ → Result (SavedStage × List ℕ) CentreLineLack
waiting_at text = do
  sends ← wanting fields.Sends text (number_line_at (codes "sends ") 1 3 text)
  ticks ← wanting fields.Ticks sends.1 (number_line_at (codes "ticks ") 0 2 sends.1)
  Ok (stages.Waits sends.0 ticks.0, ticks.1)

-- a job as its lines say it
pub record JobRead : Type 0 where
  pub command : CommandModel
  pub step : Step
  pub polls : ℕ
  pub stage : SavedStage

unfoldable pub job_at : Order → SavedStage → List ℕ → Result (JobRead × List ℕ) CentreLineLack
job_at order stage text = do
  step ← wanting (step_wanted stage) text (step_line_at stage text)
  polls ← wanting fields.Polls step.1 (number_line_at (codes "polls ") 0 9 step.1)
  work ← wanting (work_wanted step.0 polls.1) polls.1 (work_at order step.0 polls.1)
  Ok (record { command = work.0; step = step.0; polls = polls.0; stage = stage }, work.1)

-- the job of a phase, if one is on
abbrev pub job_in : Order → PhaseLine → List ℕ → Result (Option JobRead × List ℕ) CentreLineLack
job_in order phases.Idle text = Ok (None, text)
job_in order phases.Due text = job_at order stages.Due text >>= (λ job. Ok (Some job.0, job.1))
job_in order phases.Awaits text =
    waiting_at text >>= (λ stage. job_at order stage.0 stage.1 >>= (λ job. Ok (Some job.0, job.1)))

unfoldable pub job_lines_at : Order → ℕ → List ℕ → Result (Option JobRead × List ℕ) CentreLineLack
job_lines_at order next text = do
  phase ← wanting (phase_wanted next) text (phase_at next text)
  job_in order phase.0 phase.1
