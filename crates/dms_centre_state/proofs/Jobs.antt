-- The lines of jobs tell them apart.
use Rattle.std.proofs.Common.{◌≡◌, ℕ, ◌<◌, ◌^◌, ◌==◌, if◌then◌else◌, List, ◌++◌, codes, decimal, drop, refl, sym, ap, ◌∙◌, arith}
use Rattle.dms_wire.specs.Canonical.{canonical}
use Rattle.dms_wire_ber.specs.NameText.{dotted}
use Rattle.dms_text_values.specs.ValueText.{octets_text}
use Rattle.dms_codes.specs.declared.codes.Order.{Order}
use Rattle.dms_codes.specs.declared.codes.Activation.{Activation}
use Rattle.dms_codes.specs.Codes.{IsActivation}
use Rattle.dms_centre_jobs.specs.declared.step.Step.{Step}
use Rattle.dms_centre_jobs.specs.declared.step.Step.TheVariants.{Opening, Opened, Filling, Validating, Polling, Comparing, Activating, Explaining}
use Rattle.dms_centre_jobs.specs.Job.{SettingsModel, PublicationModel, Work, Publishing, Showing, Job}
use Rattle.dms_centre_jobs.specs.Steps.{step_number, request_of}
use Rattle.dms_centre_jobs.specs.Commands.{IsPublication}
use Rattle.dms_centre_jobs.specs.Requests.{IsWork, OfPublishing, OfShowing}
use Rattle.dms_centre.specs.State.{Pending, Phase, Idle, Awaits, Due}
use Rattle.dms_centre_state.specs.CentreText.{number_line, publish_line, work_line, job_text, phase_text}
use Rattle.dms_centre_state.specs.Reached.{IsJob, IsPhaseOf}
use Rattle.dms_centre_state.proofs.Tells.{Tells, other_texts, after_tells, pair_tells, made_tells, number_tells}
use Rattle.dms_centre_state.proofs.Groupings.{of_two, of_three, of_publication}
use Rattle.dms_text_exact.proofs.DigitLaws.{bytes_below}
use Rattle.dms_centre_state.proofs.Words.{field_tells, text_tells, code_tells, address_tells}

-- ---- what is to be activated

abbrev Parts : Type 0
Parts = ℕ × (ℕ × (List ℕ × (List ℕ × (ℕ × (ℕ × (ℕ × (ℕ × (ℕ × List ℕ))))))))

abbrev parts_of : PublicationModel → Parts
parts_of p = (p.memory, (p.number, (p.text, (p.owner, (p.beacon, (p.pixel, (p.run_priority, (p.minutes, (p.priority, p.address)))))))))

abbrev publication_of : Parts → PublicationModel
publication_of x = record {
  memory = x.0;
  number = x.1.0;
  text = x.1.1.0;
  owner = x.1.1.1.0;
  beacon = x.1.1.1.1.0;
  pixel = x.1.1.1.1.1.0;
  run_priority = x.1.1.1.1.1.1.0;
  minutes = x.1.1.1.1.1.1.1.0;
  priority = x.1.1.1.1.1.1.1.1.0;
  address = x.1.1.1.1.1.1.1.1.1;
}

word_tells : Tells (λ n. decimal n ++ codes " ") (λ n. n < 2 ^ 64)
word_tells = number_tells 32 (omega arith)

publication_tells : Tells publish_line IsPublication
publication_tells =
    made_tells publication_of parts_of publish_line IsPublication
    (λ p is. (
      (
        omega (arith, is.memory),
        (
          omega (arith, is.number),
          (
            bytes_below p.text is.text,
            (
              bytes_below p.owner is.owner,
              (
                omega (arith, is.beacon),
                (
                  omega (arith, is.pixel),
                  (omega (arith, is.run_priority), (omega (arith, is.minutes), (omega (arith, is.priority), is.address))),
                ),
              ),
            ),
          ),
        ),
      ),
      refl,
      of_publication (codes "publish ") (codes " ") (decimal p.memory) (decimal p.number) (octets_text p.text) (octets_text p.owner) (decimal p.beacon) (decimal p.pixel)
          (decimal p.run_priority) (decimal p.minutes) (decimal p.priority) (dotted p.address ++ codes "\n"),
    ))
    (after_tells (codes "publish ") (pair_tells word_tells (pair_tells word_tells (pair_tells text_tells (pair_tells text_tells
    (pair_tells word_tells (pair_tells word_tells (pair_tells word_tells (pair_tells word_tells (pair_tells word_tells address_tells))))))))))

activation_tells : (order : Order) → Tells (λ code. work_line order (Showing code)) IsActivation
activation_tells order =
    made_tells (λ code. code) (λ code. code) (λ code. work_line order (Showing code)) IsActivation (λ code is. (is, refl, of_two (codes "activate ") _ (codes "\n")))
    (after_tells (codes "activate ") (code_tells order 10 (omega arith)))

published : (p : PublicationModel) → IsWork (Publishing p) → IsPublication p
published p (OfPublishing q is good) = is

shown : (code : Activation) → IsWork (Showing code) → IsActivation code
shown code (OfShowing other is) = is

work_only : (order : Order) (a b : Work) (r s : List ℕ) → IsWork a → IsWork b → work_line order a ++ r ≡ work_line order b ++ s → (a ≡ b) × (r ≡ s)
work_only order (Publishing p) (Publishing q) r s ga gb e = let same = publication_tells.only p q r s (published p ga) (published q gb) e in (ap Publishing same.0, same.1)
work_only order (Publishing p) (Showing d) r s ga gb e = absurd (other_texts 0 _ _ refl e)
work_only order (Showing c) (Publishing q) r s ga gb e = absurd (other_texts 0 _ _ refl e)
work_only order (Showing c) (Showing d) r s ga gb e = let same = (activation_tells order).only c d r s (shown c ga) (shown d gb) e in (ap Showing same.0, same.1)

work_tells : (order : Order) → Tells (work_line order) IsWork
work_tells order = record { only = work_only order }

-- ---- jobs

abbrev step_at : ℕ → Step
step_at n =
    if n == 1 then Opening
    else if n == 2 then Opened
    else if n == 3 then Filling
    else if n == 4 then Validating
    else if n == 5 then Polling
    else if n == 6 then Comparing
    else if n == 7 then Activating
    else Explaining

step_back : (step : Step) → (step_number step < 2 ^ 64) × (step_at (step_number step) ≡ step)
step_back Opening = (omega arith, refl)
step_back Opened = (omega arith, refl)
step_back Filling = (omega arith, refl)
step_back Validating = (omega arith, refl)
step_back Polling = (omega arith, refl)
step_back Comparing = (omega arith, refl)
step_back Activating = (omega arith, refl)
step_back Explaining = (omega arith, refl)

step_tells : Tells (λ step. number_line (codes "step") (step_number step)) (λ step. Unit {0})
step_tells =
    made_tells step_at step_number (λ step. number_line (codes "step") (step_number step)) (λ step. Unit {0})
    (λ step good. let is = step_back step in (is.0, is.1, refl)) (field_tells (codes "step"))

abbrev job_of : Step × (ℕ × Work) → Job
job_of x = record { work = x.1.1; step = x.0; polls = x.1.0 }

job_tells : (order : Order) → Tells (job_text order) IsJob
job_tells order =
    made_tells job_of (λ (job : Job). (job.step, (job.polls, job.work))) (job_text order) IsJob
    (λ job is. ((tt, (omega (arith, is.polls), is.work)), refl, of_two (number_line (codes "step") (step_number job.step)) (number_line (codes "polls") job.polls) (work_line order job.work)))
    (pair_tells step_tells (pair_tells (field_tells (codes "polls")) (work_tells order)))

-- ---- phases

awaiting_tells : (order : Order)
    → Tells (λ (x : ℕ × (ℕ × Job)). codes "awaits\n" ++ (number_line (codes "sends") x.0 ++ (number_line (codes "ticks") x.1.0 ++ job_text order x.1.1)))
    (λ (x : ℕ × (ℕ × Job)). (x.0 < 2 ^ 64) × ((x.1.0 < 2 ^ 64) × IsJob x.1.1))
awaiting_tells order = after_tells (codes "awaits\n") (pair_tells (field_tells (codes "sends")) (pair_tells (field_tells (codes "ticks")) (job_tells order)))

due_tells : (order : Order) → Tells (λ job. codes "due\n" ++ job_text order job) IsJob
due_tells order = after_tells (codes "due\n") (job_tells order)

same_pending : (p q : Pending) → p.number ≡ q.number → p.octets ≡ q.octets → p.sends ≡ q.sends → p.age ≡ q.age → p ≡ q
same_pending p q number octets sends age =
    ap (λ n. record p { number = n }) number ∙ ap (λ o. record p { number = q.number; octets = o }) octets
    ∙ ap (λ n. record p { number = q.number; octets = q.octets; sends = n }) sends ∙ ap (λ n. record q { age = n }) age

module _ (settings : SettingsModel) (next : ℕ) where
  awaits_only : (job kob : Job) (p q : Pending) (r s : List ℕ) → IsPhaseOf settings next (Awaits job p) → IsPhaseOf settings next (Awaits kob q)
      → phase_text settings.order (Awaits job p) ++ r ≡ phase_text settings.order (Awaits kob q) ++ s → (Awaits job p ≡ Awaits kob q) × (r ≡ s)
  awaits_only job kob p q r s ga gb e =
      let order = settings.order in
      let brackets = λ (j : Job) (p : Pending). of_three (codes "awaits\n") (number_line (codes "sends") p.sends) (number_line (codes "ticks") p.age) (job_text order j) in
      let same =
      (awaiting_tells order).only (p.sends, (p.age, job)) (q.sends, (q.age, kob)) r s
      (omega (arith, ga.1.sends), (omega (arith, ga.1.age), ga.0)) (omega (arith, gb.1.sends), (omega (arith, gb.1.age), gb.0))
      (ap (λ x. x ++ r) (brackets job p) ∙ e ∙ ap (λ x. x ++ s) (sym (brackets kob q))) in
      let jobs : job ≡ kob = ap (λ (x : ℕ × (ℕ × Job)). x.1.1) same.0 in
      let number : p.number ≡ q.number = omega (arith, ga.1.newest, gb.1.newest) in
      let octets : p.octets ≡ q.octets =
      ga.1.octets ∙ ap (λ n. canonical (request_of settings n job.work job.step)) number
      ∙ ap (λ (j : Job). canonical (request_of settings q.number j.work j.step)) jobs ∙ sym gb.1.octets in
      let pendings = same_pending p q number octets (ap (λ (x : ℕ × (ℕ × Job)). x.0) same.0) (ap (λ (x : ℕ × (ℕ × Job)). x.1.0) same.0) in
      (ap (λ j. Awaits j p) jobs ∙ ap (λ p. Awaits kob p) pendings, same.1)

  phase_only : (a b : Phase) (r s : List ℕ) → IsPhaseOf settings next a → IsPhaseOf settings next b → phase_text settings.order a ++ r ≡ phase_text settings.order b ++ s
      → (a ≡ b) × (r ≡ s)
  phase_only Idle Idle r s ga gb e = (refl, ap (drop 5) e)
  phase_only Idle (Awaits job pending) r s ga gb e = absurd (other_texts 0 _ _ refl e)
  phase_only Idle (Due job) r s ga gb e = absurd (other_texts 0 _ _ refl e)
  phase_only (Awaits job pending) Idle r s ga gb e = absurd (other_texts 0 _ _ refl e)
  phase_only (Awaits job p) (Awaits kob q) r s ga gb e = awaits_only job kob p q r s ga gb e
  phase_only (Awaits job pending) (Due kob) r s ga gb e = absurd (other_texts 0 _ _ refl e)
  phase_only (Due job) Idle r s ga gb e = absurd (other_texts 0 _ _ refl e)
  phase_only (Due job) (Awaits kob pending) r s ga gb e = absurd (other_texts 0 _ _ refl e)
  phase_only (Due job) (Due kob) r s ga gb e = let same = (due_tells settings.order).only job kob r s ga.0 gb.0 e in (ap Due same.0, same.1)

  pub phase_tells : Tells (phase_text settings.order) (IsPhaseOf settings next)
  phase_tells = record { only = phase_only }
