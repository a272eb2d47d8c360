-- The first two lines, and those of a job that is on, are read as what they say.
use Rattle.std.proofs.Common.{◌≡◌, ℕ, ◌+◌, ◌<◌, ◌≤◌, ◌^◌, true, cond, List, ◌++◌, nat_le, Option, Some, None, Ok, codes, refl, ap, ◌∙◌, append_assoc, arith}
use Rattle.std.proofs.lemmas.Bool.{and_from, le-leb}
use Rattle.dms_codes.specs.declared.codes.Order.{Order}
use Rattle.dms_centre_jobs.specs.Job.{SettingsModel, Job}
use Rattle.dms_centre_jobs.specs.Steps.{step_number}
use Rattle.dms_centre.specs.declared.restoring.SavedStage.{SavedStage}
use Rattle.dms_centre.specs.declared.restoring.SavedStage.TheVariants as stages
use Rattle.dms_centre.specs.State.{Pending, Phase, Idle, Awaits, Due}
use Rattle.dms_centre.specs.Restoring.{is_sent_by_ticks}
use Rattle.dms_centre_state.specs.CentreText.{number_line, work_line, job_text, phase_text}
use Rattle.dms_centre_state.specs.Reached.{IsJob, IsPhaseOf}
use Rattle.dms_centre_restored.specs.declared.refusal.CentreStateField.TheVariants as fields
use Rattle.dms_centre_restored.specs.declared.lines.PhaseLine.TheVariants as phases
use Rattle.dms_centre_restored.specs.Lacks.{wanting, ◌>>=◌}
use Rattle.dms_text_exact.specs.Fronts.{behind}
use Rattle.dms_text_exact.proofs.FrontLaws.{behind_only}
use Rattle.dms_centre_restored.specs.LineReading.{number_line_at, phase_at, phase_wanted, can_wait, comes_to, step_line_at, step_wanted, work_at, work_wanted}
use Rattle.dms_centre_restored.specs.JobReading.{first_lines_at, waiting_at, JobRead, job_at, job_in, job_lines_at}
use Rattle.dms_centre_restored.proofs.Readings.{done, reads_on, wants_on}
use Rattle.dms_centre_restored.proofs.WordsRead.{some}
use Rattle.dms_centre_restored.proofs.LinesRead.{number_line_only}
use Rattle.dms_centre_restored.proofs.JobsRead.{command_back, step_line_only, work_only}

pub first_lines_only : (next : ℕ) (rest : List ℕ) → next < 2 ^ 32 → first_lines_at (codes "state 1 centre\n" ++ (number_line (codes "next") next ++ rest)) ≡ Ok (next, rest)
unfolding first_lines_at
first_lines_only next rest small =
    let text = number_line (codes "next") next ++ rest in
    wants_on fields.Form (codes "state 1 centre\n" ++ text) (behind (codes "state 1 centre\n") (codes "state 1 centre\n" ++ text))
    (λ rest. wanting fields.Next rest (number_line_at (codes "next ") 0 4294967295 rest)) text (behind_only (codes "state 1 centre\n") text)
    ∙ ap (λ found. wanting fields.Next text found) (number_line_only (codes "next ") 0 4294967295 next rest (omega arith) (omega (arith, small)) (omega arith))

-- ---- jobs

abbrev pub read_of : Job → SavedStage → JobRead
read_of job stage = record { command = command_back job.work; step = job.step; polls = job.polls; stage = stage }

pub job_grouped : (step polls work rest : List ℕ) → (step ++ polls ++ work) ++ rest ≡ step ++ (polls ++ (work ++ rest))
job_grouped step polls work rest = simp append_assoc

pub job_only : (order : Order) (stage : SavedStage) (job : Job) (rest : List ℕ) → IsJob job → comes_to stage job.step ≡ true
    → job_at order stage (job_text order job ++ rest) ≡ Ok (read_of job stage, rest)
unfolding job_at
job_only order stage job rest is comes =
    let work = work_line order job.work in
    let polls = number_line (codes "polls") job.polls in
    let step = number_line (codes "step") (step_number job.step) in
    ap (λ text. job_at order stage text) (job_grouped step polls work rest)
    ∙ wants_on (step_wanted stage) (step ++ (polls ++ (work ++ rest))) (step_line_at stage (step ++ (polls ++ (work ++ rest))))
    (λ step. wanting fields.Polls step.1 (number_line_at (codes "polls ") 0 9 step.1) >>= (λ polls. wanting (work_wanted step.0 polls.1) polls.1 (work_at order step.0 polls.1) >>= (λ work.
    done (record { command = work.0; step = step.0; polls = polls.0; stage = stage }, work.1))))
    (job.step, polls ++ (work ++ rest)) (step_line_only stage job.step (polls ++ (work ++ rest)) comes)
    ∙ wants_on fields.Polls (polls ++ (work ++ rest)) (number_line_at (codes "polls ") 0 9 (polls ++ (work ++ rest)))
    (λ polls. wanting (work_wanted job.step polls.1) polls.1 (work_at order job.step polls.1) >>= (λ work. done (record { command = work.0; step = job.step; polls = polls.0; stage = stage }, work.1)))
    (job.polls, work ++ rest) (number_line_only (codes "polls ") 0 9 job.polls (work ++ rest) (omega arith) (omega (arith, is.polls)) (omega arith))
    ∙ wants_on (work_wanted job.step (work ++ rest)) (work ++ rest) (work_at order job.step (work ++ rest))
    (λ work. done (record { command = work.0; step = job.step; polls = job.polls; stage = stage }, work.1))
    (command_back job.work, rest) (work_only order job.step job.work rest is.work is.step)

-- ---- phases

pub waiting_only : (sends ticks : ℕ) (rest : List ℕ) → 1 ≤ sends → sends ≤ 3 → ticks ≤ 2
    → waiting_at (number_line (codes "sends") sends ++ (number_line (codes "ticks") ticks ++ rest)) ≡ Ok (stages.Waits sends ticks, rest)
unfolding waiting_at
waiting_only sends ticks rest sent most young =
    let after = number_line (codes "ticks") ticks ++ rest in
    let text = number_line (codes "sends") sends ++ after in
    wants_on fields.Sends text (number_line_at (codes "sends ") 1 3 text)
    (λ sends. wanting fields.Ticks sends.1 (number_line_at (codes "ticks ") 0 2 sends.1) >>= (λ ticks. done (stages.Waits sends.0 ticks.0, ticks.1))) (sends, after)
    (number_line_only (codes "sends ") 1 3 sends after sent most (omega arith))
    ∙ wants_on fields.Ticks after (number_line_at (codes "ticks ") 0 2 after) (λ ticks. done (stages.Waits sends ticks.0, ticks.1)) (ticks, rest)
    (number_line_only (codes "ticks ") 0 2 ticks rest (omega arith) young (omega arith))

pub idle_line : (next : ℕ) (rest : List ℕ) → phase_at next (codes "idle\n" ++ rest) ≡ Some (phases.Idle, rest)
unfolding phase_at behind
idle_line next rest = refl

pub due_line : (next : ℕ) (rest : List ℕ) → phase_at next (codes "due\n" ++ rest) ≡ Some (phases.Due, rest)
unfolding phase_at behind
due_line next rest = refl

pub awaits_line : (next : ℕ) (rest : List ℕ) → can_wait next ≡ true → phase_at next (codes "awaits\n" ++ rest) ≡ Some (phases.Awaits, rest)
unfolding phase_at behind
awaits_line next rest can = ap (λ b. cond b (some (phases.Awaits, rest)) None) can

abbrev pub job_of_phase : Phase → Option JobRead
job_of_phase Idle = None
job_of_phase (Awaits job pending) = Some (read_of job (stages.Waits pending.sends pending.age))
job_of_phase (Due job) = Some (read_of job stages.Due)

pub waits_grouped : (name sends ticks job rest : List ℕ) → (name ++ sends ++ ticks ++ job) ++ rest ≡ name ++ (sends ++ (ticks ++ (job ++ rest)))
waits_grouped name sends ticks job rest = simp append_assoc

-- what its lines need
pub record CanWait (next : ℕ) (job : Job) (pending : Pending) : Type 0 where
  pub can : can_wait next ≡ true
  pub good : IsJob job
  pub sent : 1 ≤ pending.sends
  pub sends : pending.sends ≤ 3
  pub age : pending.age ≤ 2

abbrev pub CanBe : ℕ → Phase → Type 0
CanBe next Idle = Unit {0}
CanBe next (Awaits job pending) = CanWait next job pending
CanBe next (Due job) = IsJob job × (is_sent_by_ticks job.step ≡ true)

waits_can : (number next : ℕ) → number + 1 ≡ next → number ≤ 2147483647 → can_wait next ≡ true
waits_can number next is most =
    and_from (nat_le 1 next) (nat_le next 2147483648) (le-leb 1 next (omega (arith, is))) (le-leb next 2147483648 (omega (arith, is, most)))

pub can_be : (settings : SettingsModel) (next : ℕ) (phase : Phase) → IsPhaseOf settings next phase → CanBe next phase
can_be settings next Idle is = tt
can_be settings next (Awaits job pending) is = record {
  can = waits_can pending.number next is.1.newest is.1.number;
  good = is.0;
  sent = is.1.sent;
  sends = is.1.sends;
  age = omega (arith, is.1.age);
}
can_be settings next (Due job) is = is

pub phase_only : (order : Order) (next : ℕ) (phase : Phase) (rest : List ℕ) → CanBe next phase
    → job_lines_at order next (phase_text order phase ++ rest) ≡ Ok (job_of_phase phase, rest)
unfolding job_lines_at
phase_only order next Idle rest is =
    let text = codes "idle\n" ++ rest in
    wants_on (phase_wanted next) text (phase_at next text) (λ phase. job_in order phase.0 phase.1) (phases.Idle, rest) (idle_line next rest)
phase_only order next (Awaits job pending) rest is =
    let sends = number_line (codes "sends") pending.sends in
    let ticks = number_line (codes "ticks") pending.age in
    let lines = job_text order job ++ rest in
    let stage = stages.Waits pending.sends pending.age in
    let behind = sends ++ (ticks ++ lines) in
    let text = codes "awaits\n" ++ behind in
    ap (λ text. job_lines_at order next text) (waits_grouped (codes "awaits\n") sends ticks (job_text order job) rest)
    ∙ wants_on (phase_wanted next) text (phase_at next text) (λ phase. job_in order phase.0 phase.1) (phases.Awaits, behind) (awaits_line next behind is.can)
    ∙ reads_on (waiting_at behind) (λ stage. job_at order stage.0 stage.1 >>= (λ job. done (some job.0, job.1))) (stage, lines)
    (waiting_only pending.sends pending.age lines is.sent is.sends is.age)
    ∙ reads_on (job_at order stage lines) (λ job. done (some job.0, job.1)) (read_of job stage, rest) (job_only order stage job rest is.good refl)
phase_only order next (Due job) rest is =
    let lines = job_text order job ++ rest in
    let text = codes "due\n" ++ lines in
    ap (λ text. job_lines_at order next text) (append_assoc (codes "due\n") (job_text order job) rest)
    ∙ wants_on (phase_wanted next) text (phase_at next text) (λ phase. job_in order phase.0 phase.1) (phases.Due, lines) (due_line next lines)
    ∙ reads_on (job_at order stages.Due lines) (λ job. done (some job.0, job.1)) (read_of job stages.Due, rest) (job_only order stages.Due job rest is.0 is.1)
