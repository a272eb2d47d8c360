-- Where the lines of a job that is on come to an end, and what was read of them.
use Rattle.std.proofs.Common.{◌≡◌, ℕ, ◌-◌, ◌≤◌, Bool, true, false, if◌then◌else◌, List, [], ◌∷◌, ◌++◌, nat_le, Option, Some, None, Result, Ok, Err, codes, refl, sym, ap, subst, ◌∙◌, append_assoc, arith, inl, inr}
use Rattle.std.proofs.lemmas.Bool.{and_parts, leb-true}
use Rattle.dms_wire.specs.Canonical.{canonical}
use Rattle.dms_codes.specs.declared.codes.Order.{Order}
use Rattle.dms_centre_jobs.specs.declared.step.Step.{Step}
use Rattle.dms_centre_jobs.specs.declared.step.Step.TheVariants as steps
use Rattle.dms_centre_jobs.specs.Job.{SettingsModel, PublicationModel, Work, Publishing, Showing, Job}
use Rattle.dms_centre_jobs.specs.Steps.{code_of, request_of}
use Rattle.dms_centre_jobs.specs.Commands.{CommandModel}
use Rattle.dms_centre_jobs.specs.Requests.{IsWork, OfPublishing, OfShowing}
use Rattle.dms_centre_jobs.proofs.Requests.{is_code}
use Rattle.dms_centre.specs.declared.restoring.SavedStage.{SavedStage}
use Rattle.dms_centre.specs.declared.restoring.SavedStage.TheVariants as stages
use Rattle.dms_centre.specs.State.{Pending, Phase, Idle, Awaits, Due}
use Rattle.dms_centre.specs.Restoring.{suits}
use Rattle.dms_centre_state.specs.CentreText.{number_line, work_line, job_text, phase_text}
use Rattle.dms_centre_state.specs.Reached.{IsJob, IsRequestOf, IsPhaseOf}
use Rattle.dms_centre_restored.specs.declared.refusal.CentreStateField.TheVariants as fields
use Rattle.dms_centre_restored.specs.declared.refusal.CentreLineLack.{CentreLineLack}
use Rattle.dms_centre_restored.specs.declared.lines.PhaseLine.{PhaseLine}
use Rattle.dms_centre_restored.specs.declared.lines.PhaseLine.TheVariants as phases
use Rattle.dms_centre_restored.specs.Lacks.{wanting, ◌>>=◌}
use Rattle.dms_centre_restored.specs.LineReading.{number_line_at, phase_wanted, can_wait, comes_to, step_wanted, is_of_showing, is_activation, work_at, work_wanted}
use Rattle.dms_centre_restored.specs.JobReading.{waiting_at, JobRead, job_at, job_in, job_lines_at}
use Rattle.dms_centre_restored.specs.Faults.{Stands}
use Rattle.dms_centre_restored.proofs.Readings.{done, never, ok_is, bind_ok, bind_err}
use Rattle.dms_centre_restored.proofs.WordsFound.{all_four}
use Rattle.dms_centre_restored.proofs.LinesFound.{fit_publication, fit_publishable, shows}
use Rattle.dms_centre_restored.proofs.SingleLines.{number_is, step_line, step_is, line_of, work_is, phase_line, IsPhaseLine, phase_is}
use Rattle.dms_centre_restored.proofs.JobsRead.{IsFit, work_back}
use Rattle.dms_centre_restored.proofs.PhasesRead.{read_of, job_grouped, waiting_only, waits_grouped, job_of_phase}
use Rattle.dms_centre_restored.proofs.Stops.{CanGoOn, Stops, within_stops, behind_stops, line_then, line_read}

-- ---- how many times the request that waits went out, and the ticks since

abbrev after_ticks : ℕ → ℕ × List ℕ → Result (SavedStage × List ℕ) CentreLineLack
after_ticks sends ticks = Ok (stages.Waits sends ticks.0, ticks.1)

abbrev after_sends : ℕ × List ℕ → Result (SavedStage × List ℕ) CentreLineLack
after_sends sends = wanting fields.Ticks sends.1 (number_line_at (codes "ticks ") 0 2 sends.1) >>= after_ticks sends.0

abbrev sends_line : ℕ → List ℕ
sends_line sends = number_line (codes "sends") sends

abbrev ticks_line : ℕ → List ℕ
ticks_line ticks = number_line (codes "ticks") ticks

pub record IsWaiting (text : List ℕ) (x : SavedStage × List ℕ) : Type 0 where
  pub sends : ℕ
  pub ticks : ℕ
  pub sent : 1 ≤ sends
  pub most : sends ≤ 3
  pub young : ticks ≤ 2
  pub stage_is : x.0 ≡ stages.Waits sends ticks
  pub text_is : text ≡ sends_line sends ++ (ticks_line ticks ++ x.1)

waiting_found : (text : List ℕ) (x : SavedStage × List ℕ) → waiting_at text ≡ Ok x → IsWaiting text x
unfolding waiting_at
waiting_found text x e =
    let sends = line_read (number_is (codes "sends ") 1 3 refl (omega arith)) fields.Sends after_sends text x e in
    let ticks = line_read (number_is (codes "ticks ") 0 2 refl (omega arith)) fields.Ticks (after_ticks sends.value) sends.rest x sends.after in
    let same : SavedStage × List ℕ = (stages.Waits sends.value ticks.value, ticks.rest) in
    let is : same ≡ x = ok_is same x ticks.after in
    record {
      sends = sends.value;
      ticks = ticks.value;
      sent = sends.good.0;
      most = sends.good.1;
      young = ticks.good.1;
      stage_is = ap (λ (x : SavedStage × List ℕ). x.0) (sym is);
      text_is = sends.text_is ∙ ap (λ rest. sends_line sends.value ++ rest) ticks.text_is ∙ ap (λ (x : SavedStage × List ℕ). sends_line sends.value ++ (ticks_line ticks.value ++ x.1)) is;
    }

waiting_stops : (order : Order) (Whole : List ℕ → Type 0) (text : List ℕ) (lack : CentreLineLack)
    → ((sends ticks : ℕ) → 1 ≤ sends → sends ≤ 3 → ticks ≤ 2 → (tail : List ℕ) × Whole (sends_line sends ++ (ticks_line ticks ++ tail)))
    → waiting_at text ≡ Err lack → Stops order waiting_at Whole text lack
unfolding waiting_at
waiting_stops order Whole text lack fits e =
    let first = fits 1 0 (omega arith) (omega arith) (omega arith) in
    line_then (number_is (codes "sends ") 1 3 refl (omega arith)) order (λ t. fields.Sends) after_sends Whole text lack e
    (sends_line 1 ++ (ticks_line 0 ++ first.0), (1, (omega arith, omega arith), ticks_line 0 ++ first.0, refl), first.1)
    (λ sends rest good e.
    let second = fits sends 0 good.0 good.1 (omega arith) in
    line_then (number_is (codes "ticks ") 0 2 refl (omega arith)) order (λ t. fields.Ticks) (after_ticks sends) (λ t. Whole (sends_line sends ++ t)) rest lack e
    (ticks_line 0 ++ second.0, (0, (omega arith, omega arith), second.0, refl), second.1)
    (λ ticks rest young e. absurd (never (stages.Waits sends ticks, rest) lack e)))

-- ---- works, as some can be

abbrev pub a_publication : PublicationModel
a_publication = record {
  memory = 3;
  number = 1;
  text = [];
  owner = [];
  beacon = 0;
  pixel = 0;
  run_priority = 1;
  minutes = 0;
  priority = 0;
  address = 0 ∷ 0 ∷ 0 ∷ 0 ∷ [];
}

is_fit : IsFit a_publication
is_fit = record {
  low_memory = omega arith;
  memory = omega arith;
  low_number = omega arith;
  number = omega arith;
  few_text = omega arith;
  text = λ i. omega arith;
  few_owner = omega arith;
  owner = λ i. omega arith;
  beacon = omega arith;
  pixel = omega arith;
  low_run = omega arith;
  run_priority = omega arith;
  minutes = omega arith;
  priority = omega arith;
  address = record { size = refl; octets = all_four 0 0 0 0 (omega arith) (omega arith) (omega arith) (omega arith) };
}

abbrev pub publishing : Work
publishing = Publishing a_publication

pub is_publishing : IsWork publishing
is_publishing = OfPublishing a_publication (fit_publication a_publication is_fit) (fit_publishable a_publication is_fit)

abbrev pub showing : Work
showing = Showing (code_of publishing)

pub is_showing : IsWork showing
is_showing = OfShowing (code_of publishing) (is_code publishing is_publishing)

-- ---- the job

abbrev after_work : SavedStage → Step → ℕ → CommandModel × List ℕ → Result (JobRead × List ℕ) CentreLineLack
after_work stage step polls work = Ok (record { command = work.0; step = step; polls = polls; stage = stage }, work.1)

abbrev after_polls : Order → SavedStage → Step → ℕ × List ℕ → Result (JobRead × List ℕ) CentreLineLack
after_polls order stage step polls = wanting (work_wanted step polls.1) polls.1 (work_at order step polls.1) >>= after_work stage step polls.0

abbrev after_step : Order → SavedStage → Step × List ℕ → Result (JobRead × List ℕ) CentreLineLack
after_step order stage step = wanting fields.Polls step.1 (number_line_at (codes "polls ") 0 9 step.1) >>= after_polls order stage step.0

abbrev polls_line : ℕ → List ℕ
polls_line polls = number_line (codes "polls") polls

pub record IsJobRead (order : Order) (stage : SavedStage) (text : List ℕ) (x : JobRead × List ℕ) : Type 0 where
  pub job : Job
  pub is : IsJob job
  pub comes : comes_to stage job.step ≡ true
  pub job_is : x.0 ≡ read_of job stage
  pub text_is : text ≡ job_text order job ++ x.1

pub job_found : (order : Order) (stage : SavedStage) (text : List ℕ) (x : JobRead × List ℕ) → job_at order stage text ≡ Ok x → IsJobRead order stage text x
unfolding job_at
job_found order stage text x e =
    let step = line_read (step_is stage) (step_wanted stage) (after_step order stage) text x e in
    let polls = line_read (number_is (codes "polls ") 0 9 refl (omega arith)) fields.Polls (after_polls order stage step.value) step.rest x step.after in
    let work = line_read (work_is order step.value) (work_wanted step.value polls.rest) (after_work stage step.value polls.value) polls.rest x polls.after in
    let job : Job = record { work = work.good.work; step = step.value; polls = polls.value } in
    let same : JobRead × List ℕ = (record { command = work.value; step = step.value; polls = polls.value; stage = stage }, work.rest) in
    let is : same ≡ x = ok_is same x work.after in
    let work_text : line_of order work.value ≡ work_line order work.good.work =
    ap (λ command. line_of order command) work.good.command_is ∙ ap (λ work. work_line order work) (work_back work.good.work) in
    record {
      job = job;
      is = record { work = work.good.is; step = work.good.suit; polls = omega (arith, polls.good.1) };
      comes = step.good;
      job_is = ap (λ (x : JobRead × List ℕ). x.0) (sym is) ∙ ap (λ (command : CommandModel). record { command = command; step = step.value; polls = polls.value; stage = stage }) work.good.command_is;
      text_is =
          step.text_is
          ∙ ap (λ rest. step_line step.value ++ rest) (polls.text_is ∙ ap (λ rest. polls_line polls.value ++ rest) (work.text_is ∙ ap (λ line. line ++ work.rest) work_text))
          ∙ sym (job_grouped (step_line step.value) (polls_line polls.value) (work_line order work.good.work) work.rest)
          ∙ ap (λ (x : JobRead × List ℕ). job_text order job ++ x.1) is;
    }

-- a step to which a job comes that goes on so
abbrev some_step : SavedStage → Step
some_step stages.Due = steps.Polling
some_step (stages.Waits sends ticks) = steps.Opening

some_comes : (stage : SavedStage) → comes_to stage (some_step stage) ≡ true
some_comes stages.Due = refl
some_comes (stages.Waits sends ticks) = refl

some_stands : (order : Order) (stage : SavedStage) (rest : List ℕ) → Stands order (step_wanted stage) (step_line (some_step stage) ++ rest)
some_stands order stages.Due rest = (steps.Polling, refl, rest, refl)
some_stands order (stages.Waits sends ticks) rest = (steps.Opening, tt, rest, refl)

module _ (order : Order) (stage : SavedStage) (Whole : List ℕ → Type 0) (fits : (job : Job) → IsJob job → comes_to stage job.step ≡ true → (tail : List ℕ) × Whole (job_text order job ++ tail)) where
  -- a whole text goes on with the lines of a job
  abbrev Lines : Step → ℕ → Work → Type 0
  Lines step polls work = (tail : List ℕ) × Whole (step_line step ++ (polls_line polls ++ (work_line order work ++ tail)))

  lines : (step : Step) (polls : ℕ) (work : Work) → polls ≤ 9 → comes_to stage step ≡ true → IsWork work → suits work step ≡ true → Lines step polls work
  lines step polls work few comes is suit =
      let fit = fits (record { work = work; step = step; polls = polls }) (record { work = is; step = suit; polls = omega (arith, few) }) comes in
      (fit.0, subst Whole (job_grouped (step_line step) (polls_line polls) (work_line order work) fit.0) fit.1)

  abbrev Behind : Step → ℕ → List ℕ → Type 0
  Behind step polls t = Whole (step_line step ++ (polls_line polls ++ t))

  work_can : (step : Step) (polls : ℕ) (text : List ℕ) (shown : Bool) → polls ≤ 9 → comes_to stage step ≡ true → is_activation step text ≡ shown
      → CanGoOn order (if shown then fields.Activation else fields.Publication) (Behind step polls)
  work_can step polls text true few comes is =
      let suit = shows (code_of publishing) step (and_parts (is_of_showing step) _ is).0 in
      let fit = lines step polls showing few comes is_showing suit in
      (work_line order showing ++ fit.0, (code_of publishing, is_showing, fit.0, refl), fit.1)
  work_can step polls text false few comes is =
      let fit = lines step polls publishing few comes is_publishing refl in
      (work_line order publishing ++ fit.0, (a_publication, is_publishing, fit.0, refl), fit.1)

  pub job_stops : (text : List ℕ) (lack : CentreLineLack) → job_at order stage text ≡ Err lack → Stops order (job_at order stage) Whole text lack
  unfolding job_at
  job_stops text lack e =
      let first = lines (some_step stage) 0 publishing (omega arith) (some_comes stage) is_publishing refl in
      let behind = polls_line 0 ++ (work_line order publishing ++ first.0) in
      line_then (step_is stage) order (λ t. step_wanted stage) (after_step order stage) Whole text lack e
      (step_line (some_step stage) ++ behind, some_stands order stage behind, first.1)
      (λ step rest comes e.
      let second = lines step 0 publishing (omega arith) comes is_publishing refl in
      let work = work_line order publishing ++ second.0 in
      line_then (number_is (codes "polls ") 0 9 refl (omega arith)) order (λ t. fields.Polls) (after_polls order stage step) (λ t. Whole (step_line step ++ t)) rest lack e
      (polls_line 0 ++ work, (0, (omega arith, omega arith), work, refl), second.1)
      (λ polls rest few e.
      line_then (work_is order step) order (λ t. work_wanted step t) (after_work stage step polls) (Behind step polls) rest lack e
      (work_can step polls rest (is_activation step rest) few.1 comes refl)
      (λ command rest good e. absurd (never (record { command = command; step = step; polls = polls; stage = stage }, rest) lack e))))

-- ---- whether a job is on

-- the request of a job that waits
abbrev pub pending_of : SettingsModel → ℕ → Job → ℕ → ℕ → Pending
pending_of settings next job sends ticks =
    record { number = next - 1; octets = canonical (request_of settings (next - 1) job.work job.step); sends = sends; age = ticks }

request_is : (settings : SettingsModel) (next : ℕ) (job : Job) (sends ticks : ℕ) → can_wait next ≡ true → 1 ≤ sends → sends ≤ 3 → ticks ≤ 2
    → IsRequestOf settings next job (pending_of settings next job sends ticks)
request_is settings next job sends ticks can sent most young =
    let parts = and_parts (nat_le 1 next) (nat_le next 2147483648) can in
    let least = leb-true 1 next parts.0 in
    let last = leb-true next 2147483648 parts.1 in
    record { newest = omega (arith, least); number = omega (arith, last); octets = refl; sent = sent; sends = most; age = omega (arith, young) }

abbrev pub some_job : JobRead × List ℕ → Result (Option JobRead × List ℕ) CentreLineLack
some_job job = Ok (Some job.0, job.1)

abbrev pub waiting_job : Order → SavedStage × List ℕ → Result (Option JobRead × List ℕ) CentreLineLack
waiting_job order stage = job_at order stage.0 stage.1 >>= some_job

abbrev pub after_phase : Order → PhaseLine × List ℕ → Result (Option JobRead × List ℕ) CentreLineLack
after_phase order phase = job_in order phase.0 phase.1

pub record IsPhaseRead (settings : SettingsModel) (next : ℕ) (text : List ℕ) (x : Option JobRead × List ℕ) : Type 0 where
  pub phase : Phase
  pub is : IsPhaseOf settings next phase
  pub job_is : x.0 ≡ job_of_phase phase
  pub text_is : text ≡ phase_text settings.order phase ++ x.1

in_phase : (settings : SettingsModel) (next : ℕ) (line : PhaseLine) (text rest : List ℕ) (x : Option JobRead × List ℕ) → IsPhaseLine next line → text ≡ phase_line line ++ rest
    → job_in settings.order line rest ≡ Ok x → IsPhaseRead settings next text x
in_phase settings next phases.Idle text rest x good is e =
    let none : Option JobRead × List ℕ = (None, rest) in
    subst (λ (x : Option JobRead × List ℕ). IsPhaseRead settings next text x) (ok_is none x e) (record { phase = Idle; is = tt; job_is = refl; text_is = is })
in_phase settings next phases.Due text rest x good is e =
    let order = settings.order in
    let job = bind_ok (job_at order stages.Due rest) some_job x e in
    let read = job_found order stages.Due rest job.0 job.1 in
    let same : Option JobRead × List ℕ = (Some job.0.0, job.0.1) in
    subst (λ (x : Option JobRead × List ℕ). IsPhaseRead settings next text x) (ok_is same x job.2) (record {
      phase = Due read.job;
      is = (read.is, read.comes);
      job_is = ap (λ (job : JobRead). Some job) read.job_is;
      text_is = is ∙ ap (λ rest. codes "due\n" ++ rest) read.text_is ∙ sym (append_assoc (codes "due\n") (job_text order read.job) job.0.1);
    })
in_phase settings next phases.Awaits text rest x good is e =
    let order = settings.order in
    let stage = bind_ok (waiting_at rest) (waiting_job order) x e in
    let job = bind_ok (job_at order stage.0.0 stage.0.1) some_job x stage.2 in
    let waits = waiting_found rest stage.0 stage.1 in
    let read = job_found order stage.0.0 stage.0.1 job.0 job.1 in
    let sends = sends_line waits.sends in
    let ticks = ticks_line waits.ticks in
    let same : Option JobRead × List ℕ = (Some job.0.0, job.0.1) in
    subst (λ (x : Option JobRead × List ℕ). IsPhaseRead settings next text x) (ok_is same x job.2) (record {
      phase = Awaits read.job (pending_of settings next read.job waits.sends waits.ticks);
      is = (read.is, request_is settings next read.job waits.sends waits.ticks good waits.sent waits.most waits.young);
      job_is = ap (λ (job : JobRead). Some job) (read.job_is ∙ ap (λ stage. read_of read.job stage) waits.stage_is);
      text_is =
          is
          ∙ ap (λ rest. codes "awaits\n" ++ rest) (waits.text_is ∙ ap (λ rest. sends ++ (ticks ++ rest)) read.text_is)
          ∙ sym (waits_grouped (codes "awaits\n") sends ticks (job_text order read.job) job.0.1);
    })

pub phase_found : (settings : SettingsModel) (next : ℕ) (text : List ℕ) (x : Option JobRead × List ℕ) → job_lines_at settings.order next text ≡ Ok x → IsPhaseRead settings next text x
unfolding job_lines_at
phase_found settings next text x e =
    let line = line_read (phase_is next) (phase_wanted next) (after_phase settings.order) text x e in
    in_phase settings next line.value text line.rest x line.good line.text_is line.after

module _ (settings : SettingsModel) (next : ℕ) (Whole : List ℕ → Type 0) (fits : (phase : Phase) → IsPhaseOf settings next phase → (tail : List ℕ) × Whole (phase_text settings.order phase ++ tail)) where
  abbrev order : Order
  order = settings.order

  -- a whole text goes on with the lines of a job that waits
  waits_fit : (job : Job) (sends ticks : ℕ) → can_wait next ≡ true → IsJob job → 1 ≤ sends → sends ≤ 3 → ticks ≤ 2
      → (tail : List ℕ) × Whole (codes "awaits\n" ++ (sends_line sends ++ (ticks_line ticks ++ (job_text order job ++ tail))))
  waits_fit job sends ticks can is sent most young =
      let fit = fits (Awaits job (pending_of settings next job sends ticks)) (is, request_is settings next job sends ticks can sent most young) in
      (fit.0, subst Whole (waits_grouped (codes "awaits\n") (sends_line sends) (ticks_line ticks) (job_text order job) fit.0) fit.1)

  abbrev a_job : Job
  a_job = record { work = publishing; step = steps.Opening; polls = 0 }

  is_job : IsJob a_job
  is_job = record { work = is_publishing; step = refl; polls = omega arith }

  phase_can : (can : Bool) → can_wait next ≡ can → CanGoOn order (if can then fields.Phase else fields.PhaseWithoutRequest) Whole
  phase_can true is =
      let fit = waits_fit a_job 1 0 is is_job (omega arith) (omega arith) (omega arith) in
      let behind = sends_line 1 ++ (ticks_line 0 ++ (job_text order a_job ++ fit.0)) in
      (codes "awaits\n" ++ behind, (behind, refl), fit.1)
  phase_can false is = let fit = fits Idle tt in (codes "idle\n" ++ fit.0, (fit.0, refl), fit.1)

  due_stops : (rest : List ℕ) (lack : CentreLineLack) → job_in order phases.Due rest ≡ Err lack → Stops order (λ t. job_in order phases.Due t) (λ t. Whole (codes "due\n" ++ t)) rest lack
  due_stops rest lack e =
      elim (bind_err (job_at order stages.Due rest) some_job lack e) [
        | inl first ↦
            within_stops order (job_at order stages.Due) some_job (λ t. Whole (codes "due\n" ++ t)) rest lack
            (job_stops order stages.Due (λ t. Whole (codes "due\n" ++ t))
            (λ job is comes. let fit = fits (Due job) (is, comes) in (fit.0, subst Whole (append_assoc (codes "due\n") (job_text order job) fit.0) fit.1))
            rest lack first)
        | inr job ↦ absurd (never (Some job.0.0, job.0.1) lack job.2)
      ]

  abbrev Awaited : List ℕ → Type 0
  Awaited t = Whole (codes "awaits\n" ++ t)

  awaits_stops : (rest : List ℕ) (lack : CentreLineLack) → can_wait next ≡ true → job_in order phases.Awaits rest ≡ Err lack → Stops order (λ t. job_in order phases.Awaits t) Awaited rest lack
  awaits_stops rest lack can e =
      elim (bind_err (waiting_at rest) (waiting_job order) lack e) [
        | inl first ↦
            within_stops order waiting_at (waiting_job order) Awaited rest lack
            (waiting_stops order Awaited rest lack
            (λ sends ticks sent most young. let fit = waits_fit a_job sends ticks can is_job sent most young in (job_text order a_job ++ fit.0, fit.1)) first)
        | inr stage ↦ behind_waiting rest lack can stage.0 (waiting_found rest stage.0 stage.1) stage.2
      ]
    where
      behind_waiting : (rest : List ℕ) (lack : CentreLineLack) → can_wait next ≡ true → (stage : SavedStage × List ℕ) → IsWaiting rest stage → waiting_job order stage ≡ Err lack
          → Stops order (λ t. job_in order phases.Awaits t) Awaited rest lack
      behind_waiting rest lack can stage waits e =
          let front = sends_line waits.sends ++ ticks_line waits.ticks in
          let grouped : (t : List ℕ) → front ++ t ≡ sends_line waits.sends ++ (ticks_line waits.ticks ++ t) = λ t. append_assoc (sends_line waits.sends) (ticks_line waits.ticks) t in
          let Behind : List ℕ → Type 0 = λ t. Awaited (front ++ t) in
          behind_stops order waiting_at (waiting_job order) Awaited rest front stage.1 stage.0 lack (waits.text_is ∙ sym (grouped stage.1))
          (λ more. ap waiting_at (grouped more) ∙ waiting_only waits.sends waits.ticks more waits.sent waits.most waits.young ∙ ap (λ (s : SavedStage). done (s, more)) (sym waits.stage_is))
          (elim (bind_err (job_at order stage.0 stage.1) some_job lack e) [
            | inl first ↦
                within_stops order (job_at order stage.0) some_job Behind stage.1 lack
                (job_stops order stage.0 Behind
                (λ job is comes.
                let fit = waits_fit job waits.sends waits.ticks can is waits.sent waits.most waits.young in
                (fit.0, subst Awaited (sym (grouped (job_text order job ++ fit.0))) fit.1))
                stage.1 lack first)
            | inr job ↦ absurd (never (Some job.0.0, job.0.1) lack job.2)
          ])

  in_phase_stops : (line : PhaseLine) (rest : List ℕ) (lack : CentreLineLack) → IsPhaseLine next line → job_in order line rest ≡ Err lack → Stops order (λ t. job_in order line t) (λ t. Whole (phase_line line ++ t)) rest lack
  in_phase_stops phases.Idle rest lack good e = absurd (let none : Option JobRead × List ℕ = (None, rest) in never none lack e)
  in_phase_stops phases.Due rest lack good e = due_stops rest lack e
  in_phase_stops phases.Awaits rest lack good e = awaits_stops rest lack good e

  pub phase_stops : (text : List ℕ) (lack : CentreLineLack) → job_lines_at order next text ≡ Err lack → Stops order (job_lines_at order next) Whole text lack
  unfolding job_lines_at
  phase_stops text lack e =
      line_then (phase_is next) order (λ t. phase_wanted next) (after_phase order) Whole text lack e (phase_can (can_wait next) refl) (λ line rest good e. in_phase_stops line rest lack good e)
