-- The text of a state that a central system comes to is read as that state.
use Rattle.std.proofs.Common.{◌≡◌, ℕ, ◌+◌, ◌-◌, ◌<◌, ◌≤◌, ◌^◌, ◌==◌, ◌||◌, ◌&&◌, Bool, true, false, IsTrue, not, cond, List, [], ◌∷◌, ◌++◌, length, nat_le, nat_lt, Option, Some, None, Ok, codes, refl, sym, ap, subst, ◌∙◌, append_assoc, append-nil, arith, inl, inr}
use Rattle.std.specs.Prelude.{if◌then◌else◌}
use Rattle.std.specs.Option.{option_or}
use Rattle.std.specs.List.{AllByRecursion}
use Rattle.std.proofs.lemmas.Bool.{and_from, le-leb, lt-ltb, eq-eqb, ne_eqb, cases_Bool, false≢true}
use Rattle.dms_wire.specs.Canonical.{canonical}
use Rattle.dms_codes.specs.declared.codes.Order.{Order}
use Rattle.dms_codes.specs.declared.codes.Activation.{Activation}
use Rattle.dms_centre_jobs.specs.Job.{SettingsModel, Job}
use Rattle.dms_centre_jobs.specs.Steps.{is_activating, code_of, last_number, request_of}
use Rattle.dms_centre_jobs.specs.Commands.{is_good, job_of}
use Rattle.dms_centre_jobs.proofs.Requests.{is_code}
use Rattle.dms_codes.specs.Limits.{has_community_size}
use Rattle.dms_centre.specs.declared.settings.CentreFault.{CentreFault}
use Rattle.dms_centre.specs.declared.ended.Ended.{Ended}
use Rattle.dms_centre.specs.declared.ended.Ended.TheVariants as endings
use Rattle.dms_centre.specs.declared.ended.Why.{Why}
use Rattle.dms_centre.specs.declared.ended.Why.TheVariants as reasons
use Rattle.dms_centre.specs.declared.outcome.Outcome.TheVariants as outcomes
use Rattle.dms_centre.specs.declared.restoring.SavedStage.{SavedStage}
use Rattle.dms_centre.specs.declared.restoring.SavedStage.TheVariants as stages
use Rattle.dms_centre.specs.declared.restoring.EndFault.{EndFault}
use Rattle.dms_centre.specs.declared.restoring.JobFault.{JobFault}
use Rattle.dms_centre.specs.State.{Pending, Phase, Idle, Awaits, Due, Entry, CentreState, is_busy, start}
use Rattle.dms_centre.specs.Restoring.{number_after, suits, is_sent_by_ticks, stage_fault, waits_for_activation, with_job, has_its_number, end_fault, with_last}
use Rattle.dms_centre.specs.Invariant.{Rise}
use Rattle.dms_centre_state.specs.CentreText.{number_line, last_line, phase_text, ledger_line, ledger_lines, text_of_state}
use Rattle.dms_centre_state.specs.Reached.{IsJob, IsRequestOf, IsPhaseOf, IsEntry, is_settled, IsLedgerOf, IsWhy, IsEnded, IsReached}
use Rattle.dms_centre_state.proofs.Groupings.{of_state}
use Rattle.dms_centre_restored.specs.declared.refusal.CentreStateRefusal.{CentreStateRefusal}
use Rattle.dms_centre_restored.specs.declared.refusal.CentreStateRefusal.TheVariants as refusals
use Rattle.dms_centre_restored.specs.declared.refusal.CentreRestoreFault.TheVariants as faults
use Rattle.dms_centre_restored.specs.declared.refusal.UnreadCentreLine.{UnreadCentreLine}
use Rattle.dms_centre_restored.specs.declared.refusal.UnreadCentreLine.TheVariants as unread
use Rattle.dms_centre_restored.specs.declared.refusal.CentreStateField.TheVariants as fields
use Rattle.dms_centre_restored.specs.declared.refusal.CentreLineLack.{CentreLineLack}
use Rattle.dms_centre_restored.specs.Restored.{IsRestored, IsNoneOf, IsSaid}
use Rattle.dms_centre_restored.specs.FirstFault.{IsFirstFault, fault_in, told_of}
use Rattle.dms_centre_restored.specs.Lacks.{here, wanting, unless, Fails, ◌>>=◌}
use Rattle.dms_centre_restored.specs.LineReading.{field_at, ended_in, entry_line_at, end_at}
use Rattle.dms_centre_restored.specs.JobReading.{JobRead, job_lines_at, first_lines_at}
use Rattle.dms_centre_restored.specs.StateReading.{job_of_read, waits, entry_wanted, with_read_job, last_line_at, with_settled, next_entry_at, entries_at, same_codes, has_last_code, is_entered, activation_taken_at, with_job_behind, behind_entries, ledger_at, lines_at, same_front, compared, taken_at, first_number_in}
use Rattle.dms_centre_restored.proofs.Readings.{done, failed, reads_on, wants_on}
use Rattle.dms_text_exact.proofs.FrontLaws.{same_only}
use Rattle.dms_centre_restored.proofs.LinesRead.{end_line, entry_line_only}
use Rattle.dms_centre_restored.proofs.JobsRead.{command_back, work_back, good_back}
use Rattle.dms_centre_restored.proofs.PhasesRead.{first_lines_only, read_of, job_of_phase, can_be, phase_only}
use Rattle.dms_centre_restored.proofs.LedgersRead.{rise_before, least_after, least_below, line_next, with_ledger, entries_only, lines_long}

-- ---- how the last job ended

number_of : (why : Why) → IsWhy why → has_its_number why ≡ true
number_of (reasons.Status status) is = is
number_of (reasons.WrongStatus status) is = is
number_of reasons.StillValidating is = refl
number_of reasons.OtherChecksum is = refl
number_of reasons.NoReply is = refl
number_of reasons.NumbersUsedUp is = refl
number_of reasons.OddReply is = refl
number_of (reasons.Cause cause) is = is
number_of reasons.Restarted is = refl

none_of_two : (step number : Bool) (a b : EndFault) → step ≡ true → number ≡ true → (if not step then Some a else if not number then Some b else None) ≡ None
none_of_two step number a b one two = grind arith

pub end_faultless : (ended : Ended) → IsEnded ended → end_fault ended ≡ None
end_faultless endings.Never is = refl
end_faultless endings.Accepted is = refl
end_faultless (endings.Failed step why) is =
    none_of_two (nat_le 1 step && nat_le step 8) (has_its_number why) _ _ (and_from (nat_le 1 step) (nat_le step 8) (le-leb 1 step is.0) (le-leb step 8 is.1)) (number_of why is.2)

pub last_only : (s : CentreState) (ended : Ended) (rest : List ℕ) → IsEnded ended → last_line_at s (last_line ended ++ rest) ≡ Ok (with_last s ended, rest)
unfolding last_line_at
last_only s ended rest is =
    let line = end_line ended rest is in
    let text = last_line ended ++ rest in
    let lack = here fields.Last text in
    wants_on fields.Last text (field_at (codes "last ") text)
    (λ field. wanting fields.Last text (ended_in field.0) >>= (λ ended. unless lack (end_fault ended) (with_last s ended) >>= (λ t. done (t, field.1)))) (line.value, rest) line.line
    ∙ wants_on fields.Last text (ended_in line.value) (λ ended. unless lack (end_fault ended) (with_last s ended) >>= (λ t. done (t, rest))) ended line.read
    ∙ ap (λ fault. unless lack fault (with_last s ended) >>= (λ t. done (t, rest))) (end_faultless ended is)

-- ---- a job

none_of_job : (busy good suit few taken : Bool) (stage : Option JobFault) (a b c d e : JobFault) → busy ≡ false → stage ≡ None → good ≡ true → suit ≡ true → few ≡ true → taken ≡ false
    → (if busy then Some a else option_or stage (option_or (if not good then Some b else if not suit then Some c else if not few then Some d else None) (if taken then Some e else None))) ≡ None
none_of_job busy good suit few taken stage a b c d e one two three four five six = grind arith

none_of_waits : (numbered sent young : Bool) (a b c : JobFault) → numbered ≡ true → sent ≡ true → young ≡ true
    → (if not numbered then Some a else if not sent then Some b else if not young then Some c else None) ≡ None
none_of_waits numbered sent young a b c one two three = grind arith

pub none_of_tick : (b : Bool) (fault : JobFault) → b ≡ true → (if not b then Some fault else None) ≡ None
none_of_tick b fault is = grind arith

pub waits_faultless : (settings : SettingsModel) (next : ℕ) (job : Job) (pending : Pending) → IsRequestOf settings next job pending
    → stage_fault next job.step (stages.Waits pending.sends pending.age) ≡ None
waits_faultless settings next job pending is =
    none_of_waits (nat_le 1 next && nat_le next (last_number + 1)) (nat_le 1 pending.sends && nat_le pending.sends 3) (nat_lt pending.age 3) _ _ _
    (and_from (nat_le 1 next) (nat_le next (last_number + 1)) (le-leb 1 next (omega (arith, is.newest))) (le-leb next (last_number + 1) (omega (arith, is.newest, is.number))))
    (and_from (nat_le 1 pending.sends) (nat_le pending.sends 3) (le-leb 1 pending.sends is.sent) (le-leb pending.sends 3 is.sends))
    (lt-ltb pending.age 3 is.age)

free_number : (b : Bool) (after next : ℕ) → (b ≡ true → after < next) → (b && not (nat_lt after next)) ≡ false
free_number false after next free = refl
free_number true after next free = ap (λ b. not b) (lt-ltb after next (free refl))

-- the work of a job that was read is that of the job
taken_as : (job : Job) (stage : SavedStage) → job_of_read (read_of job stage) ≡ job
taken_as job stage = ap (λ work. record job { work = work }) (work_back job.work)

pub job_taken : (lack : CentreLineLack) (s : CentreState) (job : Job) (stage : SavedStage) → is_busy s.phase ≡ false → stage_fault s.next job.step stage ≡ None → IsJob job
    → (waits_for_activation stage job.step ≡ true → number_after s.ledger < s.next) → with_read_job lack s (read_of job stage) ≡ Ok (with_job s job stage)
job_taken lack s job stage idle none is free =
    let suit : suits (job_of (command_back job.work)).work job.step ≡ true = ap (λ work. suits work job.step) (work_back job.work) ∙ is.step in
    ap (λ fault. unless lack fault (with_job s (job_of_read (read_of job stage)) stage))
    (none_of_job (is_busy s.phase) (is_good (command_back job.work)) (suits (job_of (command_back job.work)).work job.step) (nat_lt job.polls 10)
    (waits_for_activation stage job.step && not (nat_lt (number_after s.ledger) s.next)) (stage_fault s.next job.step stage) _ _ _ _ _
    idle none (good_back job.work is.work) suit (lt-ltb job.polls 10 is.polls) (free_number (waits_for_activation stage job.step) (number_after s.ledger) s.next free))
    ∙ ap (λ job. done (with_job s job stage)) (taken_as job stage)

-- ---- the code of the last entry

same_code : (code : Activation) → same_codes code code ≡ true
same_code code =
    and_from _ _ (eq-eqb code.minutes code.minutes refl) (and_from _ _ (eq-eqb code.priority code.priority refl) (and_from _ _ (eq-eqb code.id.memory code.id.memory refl)
    (and_from _ _ (eq-eqb code.id.number code.id.number refl) (and_from _ _ (eq-eqb code.id.crc code.id.crc refl) (same_only code.address)))))

last_code : (ledger : List Entry) (entry : Entry) → has_last_code (ledger ++ entry ∷ []) entry.code ≡ true
last_code [] entry = same_code entry.code
last_code (first ∷ []) entry = same_code entry.code
last_code (first ∷ second ∷ ledger) entry = last_code (second ∷ ledger) entry

pub all_before : {A : Type 0} (P : A → Type 0) (xs : List A) (x : A) → AllByRecursion P (xs ++ x ∷ []) → AllByRecursion P xs
all_before P [] x all = tt
all_before P (y ∷ xs) x all = (all.0, all_before P xs x all.1)

pub lines_push : (order : Order) (ledger : List Entry) (entry : Entry) → ledger_lines order (ledger ++ entry ∷ []) ≡ ledger_lines order ledger ++ ledger_line order entry
lines_push order [] entry = append-nil (ledger_line order entry)
lines_push order (first ∷ ledger) entry =
    ap (λ lines. ledger_line order first ++ lines) (lines_push order ledger entry) ∙ sym (append_assoc (ledger_line order first) (ledger_lines order ledger) (ledger_line order entry))

-- ---- the ledger and the job

abbrev pub end : List ℕ
end = codes "end\n"

-- where nothing of a ledger follows
ends : (order : Order) (waits : Bool) (s : CentreState) (least : ℕ) → next_entry_at order waits s least end ≡ Ok (s, None)
unfolding next_entry_at
ends order waits s least =
    ap (λ b. cond b (done (s, None)) (wanting (entry_wanted s least) end (entry_line_at order least (s.next - 1) end) >>= with_settled waits (here (entry_wanted s least) end) s))
    (or_last (nat_le s.next least))
  where
    or_last : (b : Bool) → (b || true) ≡ true
    or_last true = refl
    or_last false = refl

abbrev pub of_parts : SettingsModel → ℕ → Phase → List Entry → Ended → CentreState
of_parts settings next phase ledger last = record { settings = settings; next = next; phase = phase; ledger = ledger; last = last }

module _ (settings : SettingsModel) (next : ℕ) (last : Ended) (small : next < 2 ^ 32) where
  abbrev pub begun : CentreState
  begun = of_parts settings next Idle [] last

  abbrev order : Order
  order = settings.order

  -- all entries are read, where none waits
  all_read : (waits : Bool) (ledger : List Entry) → waits ≡ false → Rise 0 next ledger → AllByRecursion IsEntry ledger → AllByRecursion is_settled ledger
      → entries_at order waits (length (ledger_lines order ledger ++ end)) begun 0 (ledger_lines order ledger ++ end) ≡ Ok (with_ledger begun ledger, (least_after 0 ledger, end))
  all_read waits ledger none rise are settled =
      entries_only order waits next next end small (omega arith) (λ n less. ap (λ b. b && n + 1 == next) none) (λ s least same idle low after. ends order waits s least)
      (length (ledger_lines order ledger ++ end)) begun 0 ledger refl refl (omega arith) (lines_long order ledger end) rise are settled

  -- with no job, and with one whose activation does not wait
  no_job : (ledger : List Entry) → IsLedgerOf next Idle ledger → ledger_at order None begun (ledger_lines order ledger ++ end) ≡ Ok (of_parts settings next Idle ledger last, end)
  unfolding ledger_at
  no_job ledger is =
      let same : ledger ≡ is.settled = is.is ∙ append-nil is.settled in
      reads_on (entries_at order false (length (ledger_lines order ledger ++ end)) begun 0 (ledger_lines order ledger ++ end)) (λ read. behind_entries order None read)
      (with_ledger begun ledger, (least_after 0 ledger, end)) (all_read false ledger refl is.rise is.entries (subst (AllByRecursion is_settled) (sym same) is.are_settled))

  quiet_job : (ledger : List Entry) (job : Job) (stage : SavedStage) → waits_for_activation stage job.step ≡ false → IsLedgerOf next Idle ledger → IsJob job → stage_fault next job.step stage ≡ None
      → ledger_at order (Some (read_of job stage)) begun (ledger_lines order ledger ++ end) ≡ Ok (with_job (of_parts settings next Idle ledger last) job stage, end)
  unfolding ledger_at
  quiet_job ledger job stage quiet is good none =
      let same : ledger ≡ is.settled = is.is ∙ append-nil is.settled in
      let lines = ledger_lines order ledger ++ end in
      let s = of_parts settings next Idle ledger last in
      let read = read_of job stage in
      reads_on (entries_at order (waits read) (length lines) begun 0 lines) (λ found. with_job_behind order read found) (s, (least_after 0 ledger, end))
      (all_read (waits read) ledger quiet is.rise is.entries (subst (AllByRecursion is_settled) (sym same) is.are_settled))
      ∙ ap (λ b. cond b (activation_taken_at order s read (least_after 0 ledger) end) (with_read_job (here fields.End end) s read >>= (λ t. done (t, end)))) quiet
      ∙ reads_on (with_read_job (here fields.End end) s read) (λ t. done (t, end)) (with_job s job stage) (job_taken (here fields.End end) s job stage refl none good (λ waits. absurd (false≢true (sym quiet ∙ waits))))

  -- a job whose activation waits, with its entry
  abbrev pub waiting : Job → Entry
  waiting job = record { number = next - 1; code = code_of job.work; outcome = outcomes.Waiting }

  module _ (settled : List Entry) (job : Job) (sends ticks : ℕ) (activates : is_activating job.step ≡ true) (some_next : 1 ≤ next)
      (rise : Rise 0 next (settled ++ waiting job ∷ [])) (are : AllByRecursion IsEntry settled) (are_settled : AllByRecursion is_settled settled)
      (good : IsJob job) (none : stage_fault next job.step (stages.Waits sends ticks) ≡ None) where
    abbrev stage : SavedStage
    stage = stages.Waits sends ticks

    abbrev read : JobRead
    read = read_of job stage

    abbrev line : List ℕ
    line = ledger_line order (waiting job) ++ end

    is_entry : IsEntry (waiting job)
    is_entry = record { code = is_code job.work good.work; outcome = tt }

    before : Rise 0 (next - 1) settled
    before = rise_before 0 next settled (waiting job) rise

    -- the entry that waits is left
    left : (s : CentreState) (least : ℕ) → s.next ≡ next → is_busy s.phase ≡ false → least ≤ next - 1 → number_after s.ledger ≤ least → next_entry_at order true s least line ≡ Ok (s, None)
    left s least same idle low after =
        line_next order true s least (waiting job) end (record {
          idle = idle;
          small = omega (arith, same, small);
          after = omega (arith, after, low);
          from = low;
          below = omega (arith, same, some_next);
          is = is_entry;
        })
        ∙ ap (λ b. cond b (done (s, None)) (with_settled false (here (entry_wanted s least) line) s (waiting job, end))) (eq-eqb (next - 1 + 1) s.next (omega (arith, same, some_next)))

    settled_read : entries_at order (waits read) (length (ledger_lines order settled ++ line)) begun 0 (ledger_lines order settled ++ line)
        ≡ Ok (with_ledger begun settled, (least_after 0 settled, line))
    settled_read =
        ap (λ waits. entries_at order waits (length (ledger_lines order settled ++ line)) begun 0 (ledger_lines order settled ++ line)) activates
        ∙ entries_only order true next (next - 1) line small (omega arith) (λ n less. ne_eqb (n + 1) next (λ e. omega (arith, less, e))) left
        (length (ledger_lines order settled ++ line)) begun 0 settled refl refl (omega arith) (lines_long order settled line) before are are_settled

    abbrev t : CentreState
    t = of_parts settings next Idle settled last

    free : number_after settled < next
    free = omega (arith, number_below settled (next - 1) before, some_next)
      where
        number_from : (least : ℕ) (entry : Entry) (ledger : List Entry) (top : ℕ) → Rise least top (entry ∷ ledger) → number_after (entry ∷ ledger) ≤ top
        number_from least entry [] top rise = rise.1
        number_from least entry (next ∷ ledger) top rise = number_from (entry.number + 1) next ledger top rise.1

        number_below : (ledger : List Entry) (top : ℕ) → Rise 0 top ledger → number_after ledger ≤ top
        number_below [] top rise = omega arith
        number_below (entry ∷ ledger) top rise = number_from 0 entry ledger top rise

    entered_all : (with_job t job stage).ledger ≡ settled ++ waiting job ∷ []
    entered_all = ap (λ b. cond b (settled ++ waiting job ∷ []) settled) activates

    activation_only : activation_taken_at order t read (least_after 0 settled) line ≡ Ok (with_job t job stage, end)
    unfolding activation_taken_at
    activation_only =
        let low = least_below 0 (next - 1) settled before in
        let entered : has_last_code (with_job t job stage).ledger (code_of job.work) ≡ true = ap (λ ledger. has_last_code ledger (code_of job.work)) entered_all ∙ last_code settled (waiting job) in
        let wanted = entry_wanted t (least_after 0 settled) in
        let lack = here wanted line in
        wants_on wanted line (entry_line_at order (least_after 0 settled) (next - 1) line) (λ found. with_read_job lack t read >>= (λ t. cond (is_entered t found.0) (done (t, found.1)) (failed lack))) (waiting job, end)
        (entry_line_only order (least_after 0 settled) (next - 1) (waiting job) end low (omega arith) (omega (arith, small)) is_entry)
        ∙ reads_on (with_read_job lack t read) (λ t. cond (is_entered t (waiting job)) (done (t, end)) (failed lack)) (with_job t job stage) (job_taken lack t job stage refl none good (λ waits. free))
        ∙ ap (λ b. cond b (done (with_job t job stage, end)) (failed lack)) entered

    waiting_job : ledger_at order (Some read) begun (ledger_lines order settled ++ line) ≡ Ok (with_job t job stage, end)
    unfolding ledger_at
    waiting_job =
        reads_on (entries_at order (waits read) (length (ledger_lines order settled ++ line)) begun 0 (ledger_lines order settled ++ line)) (λ found. with_job_behind order read found)
        (t, (least_after 0 settled, line)) settled_read
        ∙ ap (λ b. cond b (activation_taken_at order t read (least_after 0 settled) line) (with_read_job (here fields.End line) t read >>= (λ t. done (t, line)))) activates
        ∙ activation_only

  -- ---- each phase

  pending_is : (job : Job) (pending : Pending) → IsRequestOf settings next job pending
      → pending ≡ record { number = next - 1; octets = canonical (request_of settings (next - 1) job.work job.step); sends = pending.sends; age = pending.age }
  pending_is job pending is =
      let number : pending.number ≡ next - 1 = omega (arith, is.newest) in
      ap (λ octets. record pending { octets = octets }) is.octets
      ∙ ap (λ n. record pending { number = n; octets = canonical (request_of settings n job.work job.step) }) number

  abbrev quietly : (job : Job) (pending : Pending) (ledger : List Entry) → Type 0
  quietly job pending ledger =
      ledger_at order (job_of_phase (Awaits job pending)) begun (ledger_lines order ledger ++ end) ≡ Ok (of_parts settings next (Awaits job pending) ledger last, end)

  abbrev again : Job → Pending → Pending
  again job pending = record { number = next - 1; octets = canonical (request_of settings (next - 1) job.work job.step); sends = pending.sends; age = pending.age }

  awaits_quietly : (job : Job) (pending : Pending) (ledger : List Entry) → is_activating job.step ≡ false → IsPhaseOf settings next (Awaits job pending) → IsLedgerOf next (Awaits job pending) ledger
      → quietly job pending ledger
  awaits_quietly job pending ledger quiet is l =
      let none : ledger ≡ l.settled ++ [] = l.is ∙ ap (λ b. l.settled ++ cond b (record { number = pending.number; code = code_of job.work; outcome = outcomes.Waiting } ∷ []) []) quiet in
      quiet_job ledger job (stages.Waits pending.sends pending.age) quiet (record { rise = l.rise; entries = l.entries; settled = l.settled; are_settled = l.are_settled; is = none }) is.0
      (waits_faultless settings next job pending is.1)
      ∙ ap (λ b. done (of_parts settings next (Awaits job (again job pending)) (cond b (ledger ++ waiting job ∷ []) ledger) last, end)) quiet
      ∙ ap (λ pending. done (of_parts settings next (Awaits job pending) ledger last, end)) (sym (pending_is job pending is.1))

  awaits_entered : (job : Job) (pending : Pending) (ledger : List Entry) → is_activating job.step ≡ true → IsPhaseOf settings next (Awaits job pending) → IsLedgerOf next (Awaits job pending) ledger
      → quietly job pending ledger
  awaits_entered job pending ledger activates is l =
      let number : pending.number ≡ next - 1 = omega (arith, is.1.newest) in
      let all : ledger ≡ l.settled ++ waiting job ∷ [] =
      l.is ∙ ap (λ b. l.settled ++ cond b (record { number = pending.number; code = code_of job.work; outcome = outcomes.Waiting } ∷ []) []) activates
      ∙ ap (λ n. l.settled ++ record { number = n; code = code_of job.work; outcome = outcomes.Waiting } ∷ []) number in
      let text : ledger_lines order ledger ++ end ≡ ledger_lines order l.settled ++ (ledger_line order (waiting job) ++ end) =
      ap (λ ledger. ledger_lines order ledger ++ end) all
      ∙ ap (λ lines. lines ++ end) (lines_push order l.settled (waiting job))
      ∙ append_assoc (ledger_lines order l.settled) (ledger_line order (waiting job)) end in
      ap (λ text. ledger_at order (job_of_phase (Awaits job pending)) begun text) text
      ∙ waiting_job l.settled job pending.sends pending.age activates (omega (arith, is.1.newest)) (subst (Rise 0 next) all l.rise) (all_before IsEntry l.settled (waiting job) (subst (AllByRecursion IsEntry) all l.entries))
      l.are_settled is.0 (waits_faultless settings next job pending is.1)
      ∙ ap (λ b. done (of_parts settings next (Awaits job (again job pending)) (cond b (l.settled ++ waiting job ∷ []) l.settled) last, end)) activates
      ∙ ap (λ ledger. done (of_parts settings next (Awaits job (again job pending)) ledger last, end)) (sym all)
      ∙ ap (λ pending. done (of_parts settings next (Awaits job pending) ledger last, end)) (sym (pending_is job pending is.1))

  pub phase_taken : (phase : Phase) (ledger : List Entry) → IsPhaseOf settings next phase → IsLedgerOf next phase ledger
      → ledger_at order (job_of_phase phase) begun (ledger_lines order ledger ++ end) ≡ Ok (of_parts settings next phase ledger last, end)
  phase_taken Idle ledger is l = no_job ledger l
  phase_taken (Awaits job pending) ledger is l =
      elim (cases_Bool (is_activating job.step)) [
        | inl activates ↦ awaits_entered job pending ledger activates is l
        | inr quiet ↦ awaits_quietly job pending ledger quiet is l
      ]
  phase_taken (Due job) ledger is l =
      quiet_job ledger job stages.Due refl (record { rise = l.rise; entries = l.entries; settled = l.settled; are_settled = l.are_settled; is = l.is }) is.0
      (none_of_tick (is_sent_by_ticks job.step) _ is.1)

  pub lines_only : (phase : Phase) (ledger : List Entry) → IsPhaseOf settings next phase → IsLedgerOf next phase ledger → IsEnded last
      → lines_at (start settings next) (last_line last ++ (phase_text order phase ++ (ledger_lines order ledger ++ end))) ≡ Ok (of_parts settings next phase ledger last)
  unfolding lines_at
  lines_only phase ledger is l ended =
      let lines = ledger_lines order ledger ++ end in
      reads_on (last_line_at (start settings next) (last_line last ++ (phase_text order phase ++ lines)))
      (λ last. job_lines_at order next last.1 >>= (λ job. ledger_at order job.0 last.0 job.1 >>= (λ ledger. wanting fields.End ledger.1 (end_at ledger.1) >>= (λ end. done ledger.0))))
      (begun, phase_text order phase ++ lines) (last_only (start settings next) last (phase_text order phase ++ lines) ended)
      ∙ reads_on (job_lines_at order next (phase_text order phase ++ lines)) (λ job. ledger_at order job.0 begun job.1 >>= (λ ledger. wanting fields.End ledger.1 (end_at ledger.1) >>= (λ end. done ledger.0)))
      (job_of_phase phase, lines) (phase_only order next phase lines (can_be settings next phase is))
      ∙ reads_on (ledger_at order (job_of_phase phase) begun lines) (λ ledger. wanting fields.End ledger.1 (end_at ledger.1) >>= (λ end. done ledger.0)) (of_parts settings next phase ledger last, end)
      (phase_taken phase ledger is l)

-- ---- the whole

abbrev pub behind_number : CentreState → List ℕ
behind_number s = last_line s.last ++ (phase_text s.settings.order s.phase ++ (ledger_lines s.settings.order s.ledger ++ end))

pub text_is : (s : CentreState) → text_of_state s ≡ codes "state 1 centre\n" ++ (number_line (codes "next") s.next ++ behind_number s)
unfolding text_of_state
text_is s =
    sym (append-nil (text_of_state s))
    ∙ of_state (codes "state 1 centre\n") (number_line (codes "next") s.next) (last_line s.last) (phase_text s.settings.order s.phase)
    (ledger_lines s.settings.order s.ledger) (codes "end\n") []

pub first_of : (s : CentreState) → s.next < 2 ^ 32 → first_lines_at (text_of_state s) ≡ Ok (s.next, behind_number s)
first_of s small = ap (λ text. first_lines_at text) (text_is s) ∙ first_lines_only s.next (behind_number s) small

pub taken_only : (s : CentreState) → IsReached s → taken_at (start s.settings s.next) (text_of_state s) ≡ Ok s
unfolding taken_at
taken_only s is =
    let text = text_of_state s in
    reads_on (first_lines_at text) (λ first. lines_at (start s.settings s.next) first.1 >>= (λ t. compared (text_of_state t) text >>= (λ same. done t)))
    (s.next, behind_number s) (first_of s is.next)
    ∙ reads_on (lines_at (start s.settings s.next) (behind_number s)) (λ t. compared (text_of_state t) text >>= (λ same. done t)) s
    (lines_only s.settings s.next s.last is.next s.phase s.ledger is.phase is.ledger is.last)
    ∙ reads_on (compared text text) (λ same. done s) true
    (ap (λ b. cond b (done true) (failed (record { wanted = fields.Spelling; left = length text - same_front text text }))) (same_only text))

-- ---- what is answered

pub taken_of : (settings : SettingsModel) (text : List ℕ) (s state : CentreState) → s ≡ start settings (first_number_in (first_lines_at text)) → IsRestored settings text state
    → taken_at s text ≡ Ok state
taken_of settings text s state begins is =
    let first : first_number_in (first_lines_at text) ≡ state.next = ap (λ text. first_number_in (first_lines_at text)) (sym is.text) ∙ ap (λ found. first_number_in found) (first_of state is.reached.next) in
    let same : s ≡ start state.settings state.next = begins ∙ ap (λ n. start settings n) first ∙ ap (λ settings. start settings state.next) (sym is.settings) in
    ap (λ s. taken_at s text) same ∙ ap (λ text. taken_at (start state.settings state.next) text) (sym is.text) ∙ taken_only state is.reached

pub none_taken : (settings : SettingsModel) (text : List ℕ) (s : CentreState) (error : UnreadCentreLine) (refusal : CentreStateRefusal) → s ≡ start settings (first_number_in (first_lines_at text))
    → Fails error (taken_at s text) → IsSaid error refusal → IsNoneOf settings text (faults.State refusal)
none_taken settings text s unread.Memory refusals.Memory begins fails said = tt
none_taken settings text s unread.Memory (refusals.Fault fault) begins fails said = absurd said
none_taken settings text s (unread.Lacks lack) refusals.Memory begins fails said = absurd said
none_taken settings text s (unread.Lacks lack) (refusals.Fault fault) begins fails said =
    λ state is. absurd (let never : failed lack ≡ done state = sym fails ∙ taken_of settings text s state begins is in cc)

pub none_set : (settings : SettingsModel) (text : List ℕ) (fault : CentreFault) → (IsTrue (has_community_size settings.community) → ⊥) → IsNoneOf settings text (faults.Settings fault)
none_set settings text fault none = λ state is. none (subst (λ (settings : SettingsModel). IsTrue (has_community_size settings.community)) is.settings is.reached.settings.size)

-- the fault that is told is the first one
pub first_taken : (settings : SettingsModel) (text : List ℕ) (s : CentreState) (error : UnreadCentreLine) (refusal : CentreStateRefusal) → s ≡ start settings (first_number_in (first_lines_at text))
    → Fails error (taken_at s text) → refusal ≡ told_of text error → IsFirstFault settings text (faults.State refusal)
first_taken settings text s error refusal begins fails told =
    subst (λ refusal. IsFirstFault settings text (faults.State refusal)) (sym told) (of_error error fails)
  where
    of_error : (error : UnreadCentreLine) → Fails error (taken_at s text) → IsFirstFault settings text (faults.State (told_of text error))
    of_error unread.Memory fails = tt
    of_error (unread.Lacks lack) fails = ap (λ s. fault_in text (taken_at s text)) (sym begins) ∙ ap (λ read. fault_in text read) fails
