-- Where the reading of a whole text comes to an end, and that what is read is spelled so.
use Rattle.std.proofs.Common.{◌≡◌, ℕ, ◌+◌, ◌-◌, ◌<◌, ◌≤◌, ◌^◌, ◌==◌, Bool, true, false, cond, count_by, List, [], ◌∷◌, ◌++◌, length, take, Option, Some, None, Result, Ok, Err, codes, refl, sym, ap, subst, ◌∙◌, arith, inl, inr}
use Rattle.std.specs.Prelude.{if◌then◌else◌}
use Rattle.std.specs.List.{AllByRecursion}
use Rattle.std.specs.Str.{byte}
use Rattle.std.proofs.lemmas.List.{take_at, length-append}
use Rattle.dms_codes.specs.declared.codes.Order.{Order}
use Rattle.dms_centre_jobs.specs.Job.{SettingsModel}
use Rattle.dms_centre_jobs.specs.Steps.{is_activating, code_of}
use Rattle.dms_centre_jobs.specs.Requests.{AreSettings}
use Rattle.dms_centre_jobs.proofs.Requests.{is_code}
use Rattle.dms_centre.specs.declared.ended.Ended.{Ended}
use Rattle.dms_centre.specs.declared.ended.Ended.TheVariants as endings
use Rattle.dms_centre.specs.declared.outcome.Outcome.TheVariants as outcomes
use Rattle.dms_centre.specs.declared.restoring.EndFault.{EndFault}
use Rattle.dms_centre.specs.State.{Phase, Idle, Awaits, Due, Entry, CentreState, start}
use Rattle.dms_centre.specs.Restoring.{end_fault, with_last}
use Rattle.dms_centre.specs.Invariant.{Rise}
use Rattle.dms_centre_state.specs.CentreText.{number_line, last_line, phase_text, ledger_lines, text_of_state}
use Rattle.dms_centre_state.specs.Reached.{IsPhaseOf, IsEntry, IsLedgerOf, waiting_entries, IsEnded, IsReached}
use Rattle.dms_centre_restored.specs.declared.refusal.CentreStateField.TheVariants as fields
use Rattle.dms_centre_restored.specs.declared.refusal.CentreLineLack.{CentreLineLack}
use Rattle.dms_centre_restored.specs.declared.refusal.CentreStateRefusal.{CentreStateRefusal}
use Rattle.dms_centre_restored.specs.declared.refusal.CentreRestoreFault.TheVariants as faults
use Rattle.dms_centre_restored.specs.declared.refusal.UnreadCentreLine.{UnreadCentreLine}
use Rattle.dms_centre_restored.specs.declared.refusal.UnreadCentreLine.TheVariants as unread
use Rattle.dms_centre_restored.specs.Faults.{IsStateText, IsWrongAt, IsWrong}
use Rattle.dms_centre_restored.specs.FirstFault.{fault_of, told_of}
use Rattle.dms_centre_restored.specs.Lacks.{here, wanting, unless, Fails, ◌>>=◌}
use Rattle.dms_text_exact.specs.Fronts.{behind}
use Rattle.dms_centre_restored.specs.LineReading.{field_at, number_line_at, ended_in}
use Rattle.dms_centre_restored.specs.JobReading.{first_lines_at, JobRead, job_lines_at}
use Rattle.dms_centre_restored.specs.StateReading.{last_line_at, ledger_at, lines_at, first_number_in, same_front, compared, taken_at}
use Rattle.dms_centre_restored.proofs.Readings.{done, failed, never, reads_on, bind_ok, bind_err, ok_is}
use Rattle.dms_text_exact.proofs.FrontLaws.{same_only}
use Rattle.dms_centre_restored.proofs.SingleLines.{number_is, form_or, form_line, form_is, end_of, end_or, faultless, ended_line, ended_is}
use Rattle.dms_centre_restored.proofs.PhasesRead.{can_be, job_of_phase, phase_only}
use Rattle.dms_centre_restored.proofs.PhasesStop.{IsPhaseRead, phase_found, phase_stops}
use Rattle.dms_centre_restored.proofs.Stops.{Stops, within_stops, behind_stops, line_then, line_read}
use Rattle.dms_centre_restored.proofs.LedgersStop.{State, state_and, after_ledger, ledger_read, ledger_found, ledger_stops}
use Rattle.dms_centre_restored.proofs.StatesRead.{of_parts, end, end_faultless, lines_only, text_is, first_of}

-- ---- texts of states

abbrev form : List ℕ
form = codes "state 1 centre\n"

abbrev next_line : ℕ → List ℕ
next_line next = number_line (codes "next") next

-- a text of these parts is that of a state
complete : (settings : SettingsModel) (next : ℕ) (ended : Ended) (phase : Phase) (ledger : List Entry) → AreSettings settings → next < 2 ^ 32 → IsEnded ended → IsPhaseOf settings next phase
    → IsLedgerOf next phase ledger
    → IsStateText settings (form ++ (next_line next ++ (last_line ended ++ (phase_text settings.order phase ++ (ledger_lines settings.order ledger ++ end)))))
complete settings next ended phase ledger are small is_ended is_phase is_ledger =
    let state = of_parts settings next phase ledger ended in
    (state, record { settings = refl; text = text_is state; reached = record { settings = are; next = small; phase = is_phase; ledger = is_ledger; last = is_ended } })

rise_one : (b : Bool) (next : ℕ) (entry : Entry) → entry.number + 1 ≤ next → Rise 0 next (if b then entry ∷ [] else [])
rise_one true next entry less = (omega arith, less)
rise_one false next entry less = omega arith

all_one : (b : Bool) (entry : Entry) → IsEntry entry → AllByRecursion IsEntry (if b then entry ∷ [] else [])
all_one true entry is = (is, tt)
all_one false entry is = tt

-- the least ledger of a phase
least_ledger : (settings : SettingsModel) (next : ℕ) (phase : Phase) → IsPhaseOf settings next phase → IsLedgerOf next phase (waiting_entries phase)
least_ledger settings next Idle is = record { rise = omega arith; entries = tt; settled = []; are_settled = tt; is = refl }
least_ledger settings next (Awaits job pending) is =
    let entry : Entry = record { number = pending.number; code = code_of job.work; outcome = outcomes.Waiting } in
    record {
      rise = rise_one (is_activating job.step) next entry (omega (arith, is.1.newest));
      entries = all_one (is_activating job.step) entry (record { code = is_code job.work is.0.work; outcome = tt });
      settled = [];
      are_settled = tt;
      is = refl;
    }
least_ledger settings next (Due job) is = record { rise = omega arith; entries = tt; settled = []; are_settled = tt; is = refl }

-- ---- reading, line by line

abbrev after_job : SettingsModel → (next : ℕ) → next < 2 ^ 32 → Ended → Option JobRead × List ℕ → Result CentreState CentreLineLack
after_job settings next small ended job = ledger_read settings next ended small job.0 job.1

abbrev after_last : SettingsModel → (next : ℕ) → next < 2 ^ 32 → Ended × List ℕ → Result CentreState CentreLineLack
after_last settings next small x = job_lines_at settings.order next x.1 >>= after_job settings next small x.0

abbrev with_end : CentreState → Ended × List ℕ → State
with_end s x = state_and (with_last s x.0) x.1

last_is : (s : CentreState) (text : List ℕ) → last_line_at s text ≡ (wanting fields.Last text (ended_line text) >>= (λ x. done (with_end s x)))
unfolding last_line_at
last_is s text = of_field (field_at (codes "last ") text)
  where
    of_fault : (fault : Option EndFault) (ended : Ended) (rest : List ℕ)
        → (unless (here fields.Last text) fault (with_last s ended) >>= (λ t. done (state_and t rest))) ≡ (wanting fields.Last text (faultless fault ended rest) >>= (λ x. done (with_end s x)))
    of_fault None ended rest = refl
    of_fault (Some fault) ended rest = refl

    of_end : (found : Option Ended) (rest : List ℕ)
        → (wanting fields.Last text found >>= (λ ended. unless (here fields.Last text) (end_fault ended) (with_last s ended) >>= (λ t. done (state_and t rest))))
        ≡ (wanting fields.Last text (end_or rest found) >>= (λ x. done (with_end s x)))
    of_end None rest = refl
    of_end (Some ended) rest = of_fault (end_fault ended) ended rest

    of_field : (found : Option (List ℕ × List ℕ))
        → (wanting fields.Last text found >>= (λ field. wanting fields.Last text (ended_in field.0) >>= (λ ended. unless (here fields.Last text) (end_fault ended) (with_last s ended) >>= (λ t. done (state_and t field.1)))))
        ≡ (wanting fields.Last text (end_of found) >>= (λ x. done (with_end s x)))
    of_field None = refl
    of_field (Some field) = of_end (ended_in field.0) field.1

abbrev behind_last : SettingsModel → ℕ → State → Result CentreState CentreLineLack
behind_last settings next last = job_lines_at settings.order next last.1 >>= (λ job. ledger_at settings.order job.0 last.0 job.1 >>= after_ledger)

lines_is : (settings : SettingsModel) (next : ℕ) (small : next < 2 ^ 32) (text : List ℕ) → lines_at (start settings next) text ≡ (wanting fields.Last text (ended_line text) >>= after_last settings next small)
unfolding lines_at
lines_is settings next small text = ap (λ last. last >>= behind_last settings next) (last_is (start settings next) text) ∙ of_end (ended_line text)
  where
    of_end : (found : Option (Ended × List ℕ))
        → ((wanting fields.Last text found >>= (λ x. done (with_end (start settings next) x))) >>= behind_last settings next) ≡ (wanting fields.Last text found >>= after_last settings next small)
    of_end None = refl
    of_end (Some x) = refl

-- all of a text
abbrev after_next : SettingsModel → ℕ × List ℕ → Result CentreState CentreLineLack
after_next settings x = lines_at (start settings x.0) x.1

abbrev after_form : SettingsModel → Unit {0} × List ℕ → Result CentreState CentreLineLack
after_form settings x = wanting fields.Next x.1 (number_line_at (codes "next ") 0 4294967295 x.1) >>= after_next settings

abbrev whole : SettingsModel → List ℕ → Result CentreState CentreLineLack
whole settings text = first_lines_at text >>= after_next settings

whole_is : (settings : SettingsModel) (text : List ℕ) → whole settings text ≡ (wanting fields.Form text (form_line text) >>= after_form settings)
unfolding first_lines_at
whole_is settings text = of_form (behind form text)
  where
    of_next : (rest : List ℕ) (found : Option (ℕ × List ℕ)) → (wanting fields.Next rest found >>= after_next settings) ≡ (wanting fields.Next rest found >>= after_next settings)
    of_next rest found = refl

    of_form : (found : Option (List ℕ)) → ((wanting fields.Form text found >>= (λ rest. wanting fields.Next rest (number_line_at (codes "next ") 0 4294967295 rest))) >>= after_next settings)
        ≡ (wanting fields.Form text (form_or found) >>= after_form settings)
    of_form None = refl
    of_form (Some rest) = refl

whole_only : (s : CentreState) → IsReached s → whole s.settings (text_of_state s) ≡ Ok s
whole_only s is =
    reads_on (first_lines_at (text_of_state s)) (after_next s.settings) _ (first_of s is.next) ∙ lines_only s.settings s.next s.last is.next s.phase s.ledger is.phase is.ledger is.last

-- ---- what is read is spelled so

small_of : (n : ℕ) → n ≤ 4294967295 → n < 2 ^ 32
small_of n most = omega (arith, most)

whole_found : (settings : SettingsModel) (text : List ℕ) (t : CentreState) → whole settings text ≡ Ok t → text ≡ text_of_state t
whole_found settings text t e =
    let one = line_read form_is fields.Form (after_form settings) text t (sym (whole_is settings text) ∙ e) in
    let two = line_read (number_is (codes "next ") 0 4294967295 refl (omega arith)) fields.Next (after_next settings) one.rest t one.after in
    let small = small_of two.value two.good.1 in
    let three = line_read (ended_is end_faultless) fields.Last (after_last settings two.value small) two.rest t (sym (lines_is settings two.value small two.rest) ∙ two.after) in
    let job = bind_ok (job_lines_at settings.order two.value three.rest) (after_job settings two.value small three.value) t three.after in
    let four = phase_found settings two.value three.rest job.0 job.1 in
    let read : ledger_read settings two.value three.value small (job_of_phase four.phase) job.0.1 ≡ Ok t =
    ap (λ (found : Option JobRead). ledger_read settings two.value three.value small found job.0.1) (sym four.job_is) ∙ job.2 in
    let five = ledger_found settings two.value three.value small four.phase four.is job.0.1 t read in
    let behind_phase = ledger_lines settings.order five.0 ++ end in
    let behind_last = phase_text settings.order four.phase ++ behind_phase in
    let behind_next = last_line three.value ++ behind_last in
    let state = of_parts settings two.value four.phase five.0 three.value in
    let rest : two.rest ≡ behind_next =
    three.text_is ∙ ap (λ rest. last_line three.value ++ rest) (four.text_is ∙ ap (λ rest. phase_text settings.order four.phase ++ rest) five.2) in
    let same : t ≡ state =
    ok_is t state (sym two.after ∙ ap (λ text. lines_at (start settings two.value) text) rest ∙ lines_only settings two.value three.value small four.phase five.0 four.is five.1 three.good) in
    one.text_is ∙ ap (λ rest. form ++ rest) (two.text_is ∙ ap (λ rest. next_line two.value ++ rest) rest) ∙ sym (text_is state) ∙ ap text_of_state (sym same)

-- ---- where it comes to an end

stops_as : (order : Order) (one other : List ℕ → Result CentreState CentreLineLack) (Whole : List ℕ → Type 0) (text : List ℕ) (lack : CentreLineLack) → ((t : List ℕ) → one t ≡ other t)
    → Stops order one Whole text lack → Stops order other Whole text lack
stops_as order one other Whole text lack same stop = record {
  before = stop.before;
  rest = stop.rest;
  parts = stop.parts;
  left = stop.left;
  goes_on = stop.goes_on;
  lacks = λ others y h e. stop.lacks others y h (same (stop.before ++ others) ∙ e);
}

module _ (settings : SettingsModel) (are : AreSettings settings) where
  abbrev order : Order
  order = settings.order

  abbrev Text : List ℕ → Type 0
  Text t = IsStateText settings t

  -- behind the last line, with no job
  abbrev no_job : List ℕ
  no_job = codes "idle\n" ++ end

  blank : (next : ℕ) (ended : Ended) → next < 2 ^ 32 → IsEnded ended → Text (form ++ (next_line next ++ (last_line ended ++ no_job)))
  blank next ended small is = complete settings next ended Idle [] are small is tt (least_ledger settings next Idle tt)

  module _ (next : ℕ) (small : next < 2 ^ 32) where
    abbrev Behind : List ℕ → Type 0
    Behind t = Text (form ++ (next_line next ++ t))

    job_stops : (ended : Ended) (text : List ℕ) (lack : CentreLineLack) → IsEnded ended → after_last settings next small (ended, text) ≡ Err lack
        → Stops order (λ t. after_last settings next small (ended, t)) (λ t. Behind (last_line ended ++ t)) text lack
    job_stops ended text lack is e =
        elim (bind_err (job_lines_at order next text) (after_job settings next small ended) lack e) [
          | inl first ↦
              within_stops order (job_lines_at order next) (after_job settings next small ended) (λ t. Behind (last_line ended ++ t)) text lack
              (phase_stops settings next (λ t. Behind (last_line ended ++ t))
              (λ phase is_phase. (ledger_lines order (waiting_entries phase) ++ end, complete settings next ended phase (waiting_entries phase) are small is is_phase (least_ledger settings next phase is_phase)))
              text lack first)
          | inr x ↦ behind_job ended text lack is x.0 (phase_found settings next text x.0 x.1) x.2
        ]
      where
        behind_job : (ended : Ended) (text : List ℕ) (lack : CentreLineLack) → IsEnded ended → (x : Option JobRead × List ℕ) → IsPhaseRead settings next text x → after_job settings next small ended x ≡ Err lack
            → Stops order (λ t. after_last settings next small (ended, t)) (λ t. Behind (last_line ended ++ t)) text lack
        behind_job ended text lack is x p e =
            let front = phase_text order p.phase in
            let After : List ℕ → Type 0 = λ t. Behind (last_line ended ++ (front ++ t)) in
            behind_stops order (job_lines_at order next) (after_job settings next small ended) (λ t. Behind (last_line ended ++ t)) text front x.1 x.0 lack p.text_is
            (λ more. phase_only order next p.phase more (can_be settings next p.phase p.is) ∙ ap (λ (found : Option JobRead). done (found, more)) (sym p.job_is))
            (subst (λ (found : Option JobRead). Stops order (ledger_read settings next ended small found) After x.1 lack) (sym p.job_is)
            (ledger_stops settings next ended small p.phase p.is After (λ ledger is_ledger. complete settings next ended p.phase ledger are small is p.is is_ledger) x.1 lack
            (ap (λ (found : Option JobRead). ledger_read settings next ended small found x.1) (sym p.job_is) ∙ e)))

    last_stops : (text : List ℕ) (lack : CentreLineLack) → lines_at (start settings next) text ≡ Err lack → Stops order (λ t. lines_at (start settings next) t) Behind text lack
    last_stops text lack e =
        stops_as order (λ t. wanting fields.Last t (ended_line t) >>= after_last settings next small) (λ t. lines_at (start settings next) t) Behind text lack
        (λ t. sym (lines_is settings next small t))
        (line_then (ended_is end_faultless) order (λ t. fields.Last) (after_last settings next small) Behind text lack (sym (lines_is settings next small text) ∙ e)
        (last_line endings.Never ++ no_job, (endings.Never, tt, no_job, refl), blank next endings.Never small tt)
        (λ ended rest is e. job_stops ended rest lack is e))

  abbrev never_ended : List ℕ
  never_ended = last_line endings.Never ++ no_job

  first_number : 0 < 2 ^ 32
  first_number = omega arith

  pub whole_stops : (text : List ℕ) (lack : CentreLineLack) → whole settings text ≡ Err lack → Stops order (whole settings) Text text lack
  whole_stops text lack e =
      stops_as order (λ t. wanting fields.Form t (form_line t) >>= after_form settings) (whole settings) Text text lack (λ t. sym (whole_is settings t))
      (line_then form_is order (λ t. fields.Form) (after_form settings) Text text lack (sym (whole_is settings text) ∙ e)
      (form ++ (next_line 0 ++ never_ended), (next_line 0 ++ never_ended, refl), blank 0 endings.Never first_number tt)
      (λ u rest good e.
      line_then (number_is (codes "next ") 0 4294967295 refl (omega arith)) order (λ t. fields.Next) (after_next settings) (λ t. Text (form ++ t)) rest lack e
      (next_line 0 ++ never_ended, (0, (omega arith, omega arith), never_ended, refl), blank 0 endings.Never first_number tt)
      (λ next rest few e. last_stops next (small_of next few.1) rest lack e)))

  -- ---- what is answered

  -- what is taken up comes to an end where reading does
  ends_so : (s : CentreState) (text : List ℕ) (lack : CentreLineLack) → s ≡ start settings (first_number_in (first_lines_at text)) → taken_at s text ≡ Err lack → whole settings text ≡ Err lack
  unfolding taken_at
  ends_so s text lack begins e =
      elim (bind_err (first_lines_at text) (λ first. lines_at s first.1 >>= compare_to text) lack e) [
        | inl first ↦ ap (λ first. first >>= after_next settings) first
        | inr first ↦
            let number : s ≡ start settings first.0.0 = begins ∙ ap (λ found. start settings (first_number_in found)) first.1 in
            let same : whole settings text ≡ lines_at s first.0.1 = reads_on (first_lines_at text) (after_next settings) first.0 first.1 ∙ ap (λ (s : CentreState). lines_at s first.0.1) (sym number) in
            elim (bind_err (lines_at s first.0.1) (compare_to text) lack first.2) [
              | inl lines ↦ same ∙ lines
              | inr t ↦
                  let is = whole_found settings text t.0 (same ∙ t.1) in
                  absurd (never t.0 lack (sym (compared_same t.0 text is) ∙ t.2))
            ]
      ]
    where
      compare_to : List ℕ → CentreState → Result CentreState CentreLineLack
      compare_to text t = compared (text_of_state t) text >>= (λ same. done t)

      compared_same : (t : CentreState) (text : List ℕ) → text ≡ text_of_state t → compare_to text t ≡ Ok t
      compared_same t text is =
          ap (λ text. compared (text_of_state t) text >>= (λ same. done t)) is
          ∙ ap (λ b. cond b (done true) (failed (record { wanted = fields.Spelling; left = length (text_of_state t) - same_front (text_of_state t) (text_of_state t) })) >>= (λ same. done t)) (same_only (text_of_state t))

  pub is_wrong : (text : List ℕ) (lack : CentreLineLack) → whole settings text ≡ Err lack → IsWrongAt settings text (fault_of text lack)
  is_wrong text lack e =
      let stop = whole_stops text lack e in
      let size : length text ≡ length stop.before + length stop.rest = ap length stop.parts ∙ length-append stop.before stop.rest in
      let cut : length text - lack.left ≡ length stop.before = omega (arith, size, stop.left) in
      let front : take (length text - lack.left) text ≡ stop.before =
      ap (λ n. take n text) cut ∙ ap (λ text. take (length stop.before) text) stop.parts ∙ take_at stop.before stop.rest (length stop.before) refl in
      record {
        before = stop.before;
        rest = stop.rest;
        parts = stop.parts;
        line = ap (λ front. count_by (λ octet. octet == byte "\n") front + 1) front;
        goes_on = stop.goes_on;
        lacks = λ other state h.
            let s = state.1 in
            let read : whole settings (stop.before ++ other) ≡ Ok state.0 =
            ap (λ settings. whole settings (stop.before ++ other)) (sym s.settings) ∙ ap (λ text. whole state.0.settings text) (sym s.text) ∙ whole_only state.0 s.reached in
            stop.lacks other state.0 h read;
      }

pub wrong_taken : (settings : SettingsModel) (text : List ℕ) (s : CentreState) (error : UnreadCentreLine) (refusal : CentreStateRefusal) → s ≡ start settings (first_number_in (first_lines_at text))
    → AreSettings s.settings → Fails error (taken_at s text) → refusal ≡ told_of text error → IsWrong settings text (faults.State refusal)
wrong_taken settings text s error refusal begins is fails told =
    subst (λ refusal. IsWrong settings text (faults.State refusal)) (sym told) (of_error error fails)
  where
    are : AreSettings settings
    are = subst (λ (s : CentreState). AreSettings s.settings) begins is

    of_error : (error : UnreadCentreLine) → Fails error (taken_at s text) → IsWrong settings text (faults.State (told_of text error))
    of_error unread.Memory fails = tt
    of_error (unread.Lacks lack) fails = is_wrong settings are text lack (ends_so settings are s text lack begins fails)
