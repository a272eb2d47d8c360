-- Where the lines behind a job come to an end: the ledger and the last line.
use Rattle.std.proofs.Common.{◌≡◌, ℕ, suc, ◌+◌, ◌-◌, ◌<◌, ◌≤◌, ◌^◌, ◌==◌, ◌||◌, ◌&&◌, Bool, true, false, not, cond, List, [], ◌∷◌, ◌++◌, length, nat_le, Option, Some, None, Result, Ok, Err, codes, refl, sym, ap, subst, ◌∙◌, append_assoc, append-nil, arith, inl, inr}
use Rattle.std.specs.Prelude.{if◌then◌else◌}
use Rattle.std.specs.List.{AllByRecursion}
use Rattle.std.proofs.lemmas.Bool.{and_parts, eqb-true, ne_eqb, cases_Bool, false≢true}
use Rattle.std.proofs.lemmas.Bool.Decides.{nat_tests}
use Rattle.std.proofs.lemmas.Option.{none-some, same_Some, cond_some}
use Rattle.std.proofs.lemmas.List.{length-append}
use Rattle.dms_text.specs.Reading.{same_octets}
use Rattle.dms_text.proofs.WordLaws.{same_found}
use Rattle.dms_codes.specs.declared.codes.Order.{Order}
use Rattle.dms_codes.specs.declared.codes.Activation.{Activation}
use Rattle.dms_centre_jobs.specs.Job.{SettingsModel, Job}
use Rattle.dms_centre_jobs.specs.Steps.{is_activating, code_of}
use Rattle.dms_centre_jobs.proofs.Requests.{is_code}
use Rattle.dms_centre.specs.declared.ended.Ended.{Ended}
use Rattle.dms_centre.specs.declared.outcome.Outcome.{Outcome}
use Rattle.dms_centre.specs.declared.outcome.Outcome.TheVariants as outcomes
use Rattle.dms_centre.specs.declared.restoring.SavedStage.{SavedStage}
use Rattle.dms_centre.specs.declared.restoring.SavedStage.TheVariants as stages
use Rattle.dms_centre.specs.State.{Pending, Phase, Idle, Awaits, Due, Entry, CentreState}
use Rattle.dms_centre.specs.Resending.{is_waiting}
use Rattle.dms_centre.specs.Restoring.{number_after, is_sent_by_ticks, with_job}
use Rattle.dms_centre.specs.Invariant.{Rise}
use Rattle.dms_centre.proofs.Rising.{rise_behind}
use Rattle.dms_centre_state.specs.CentreText.{ledger_line, ledger_lines}
use Rattle.dms_centre_state.specs.Reached.{IsPhaseOf, IsEntry, is_settled, IsLedgerOf, waiting_entries}
use Rattle.dms_centre_restored.specs.declared.refusal.CentreStateField.TheVariants as fields
use Rattle.dms_centre_restored.specs.declared.refusal.CentreLineLack.{CentreLineLack}
use Rattle.dms_centre_restored.specs.Lacks.{here, wanting, ◌>>=◌}
use Rattle.dms_text_exact.specs.Fronts.{starts_with}
use Rattle.dms_centre_restored.specs.LineReading.{entry_line_at, end_at}
use Rattle.dms_centre_restored.specs.JobReading.{JobRead}
use Rattle.dms_centre_restored.specs.StateReading.{job_waits, entry_wanted, with_read_job, next_entry_at, or_these, entries_at, same_codes, has_last_code, is_entered, activation_taken_at, behind_entries, ledger_at}
use Rattle.dms_centre_restored.specs.Faults.{HasLineOf}
use Rattle.dms_centre_restored.proofs.Readings.{done, failed, never, reads_on, wants_on, bind_ok, bind_err, ok_is, err_is, wanting_ok, wanting_err}
use Rattle.dms_centre_restored.proofs.SingleLines.{IsLine, follows, same_line, IsEntryWithin, entry_is}
use Rattle.dms_centre_restored.proofs.PhasesRead.{read_of, job_of_phase}
use Rattle.dms_centre_restored.proofs.PhasesStop.{publishing, is_publishing}
use Rattle.dms_centre_restored.proofs.Stops.{CanGoOn, Stops}
use Rattle.dms_centre_restored.proofs.LedgersRead.{least_after, least_below, entries_skip, lines_long}
use Rattle.dms_centre_restored.proofs.EntriesStop.{Alike, Next, entry_and, nothing, read_to, Passed, none_next, waits_next, passed, lacked, lack_alike, pass_alike, IsSplit, Ending, none_more, one_wrong, split_of}
use Rattle.dms_centre_restored.proofs.StatesRead.{of_parts, end, lines_push, job_taken, waits_faultless, none_of_tick}
use Rattle.dms_centre_restored.proofs.TakenUp.{all_push}

alike : (other rest : List ℕ) → HasLineOf other rest → Alike rest other
alike other rest h = record { line = h.line; more = h.after; after = h.more; free = h.whole; there = h.here; here = h.there }

some_octets : (other rest : List ℕ) → HasLineOf other rest → 1 ≤ length other
some_octets other rest h = omega (arith, ap length h.there, length-append h.line (10 ∷ h.more))

-- ---- the last line

end_found : (text : List ℕ) (x : List ℕ) → end_at text ≡ Some x → text ≡ end
end_found text x e = same_found text end (cond_some (same_octets text end) [] x e).0

end_alike : (other rest x : List ℕ) → HasLineOf other rest → end_at other ≡ Some x → end_at rest ≡ Some []
end_alike other rest x h e =
    let same = same_line h.line (codes "end") h.more [] h.whole refl (sym h.there ∙ end_found other x e) in
    ap end_at (h.here ∙ ap (λ line. line ++ 10 ∷ h.after) same.0 ∙ ap (λ after. codes "end" ++ 10 ∷ after) (h.last same.1))

abbrev pub State : Type 0
State = CentreState × List ℕ

abbrev pub state_and : CentreState → List ℕ → State
state_and t rest = (t, rest)

abbrev pub after_ledger : State → Result CentreState CentreLineLack
after_ledger ledger = wanting fields.End ledger.1 (end_at ledger.1) >>= (λ end. done ledger.0)

after_ok : (x : State) (y : CentreState) → after_ledger x ≡ Ok y → (z : List ℕ) × (end_at x.1 ≡ Some z) × (x.0 ≡ y)
after_ok x y e =
    let read = bind_ok (wanting fields.End x.1 (end_at x.1)) (λ end. done x.0) y e in
    (read.0, wanting_ok fields.End x.1 (end_at x.1) read.0 read.1, ok_is x.0 y read.2)

after_lacks : (x : State) (lack : CentreLineLack) → after_ledger x ≡ Err lack → (end_at x.1 ≡ None) × (lack ≡ here fields.End x.1)
after_lacks x lack e =
    elim (bind_err (wanting fields.End x.1 (end_at x.1)) (λ end. done x.0) lack e) [
      | inl first ↦ wanting_err fields.End x.1 (end_at x.1) lack first
      | inr z ↦ absurd (never x.0 lack z.2)
    ]

rise_more : (least top next : ℕ) (ledger : List Entry) → top ≤ next → Rise least top ledger → Rise least next ledger
rise_more least top next [] within rise = omega (arith, within, rise)
rise_more least top next (entry ∷ ledger) within rise = (rise.0, rise_more (entry.number + 1) top next ledger within rise.1)

is_below : (next least : ℕ) (b : Bool) → (nat_le next least || b) ≡ false → least < next
is_below next least b e = grind (arith, nat_tests)

-- ---- the ledger

module _ (settings : SettingsModel) (next : ℕ) (last : Ended) (small : next < 2 ^ 32) where
  abbrev order : Order
  order = settings.order

  abbrev pub with_entries : List Entry → CentreState
  with_entries entries = of_parts settings next Idle entries last

  abbrev begun : CentreState
  begun = with_entries []

  abbrev pub ledger_read : Option JobRead → List ℕ → Result CentreState CentreLineLack
  ledger_read job text = ledger_at order job begun text >>= after_ledger

  -- entries that are taken up
  pub record Are (top : ℕ) (entries : List Entry) : Type 0 where
    pub are : AllByRecursion IsEntry entries
    pub settled : AllByRecursion is_settled entries
    pub rise : Rise 0 top entries
    pub after : number_after entries ≤ least_after 0 entries

  module _ (job : Option JobRead) (top : ℕ) (within : top ≤ next) (apart : (n : ℕ) → n < top → (job_waits job && n + 1 == next) ≡ false) where
    abbrev Read : Type 0
    Read = CentreState × (ℕ × List ℕ)

    abbrev lines : List Entry → List ℕ
    lines entries = ledger_lines order entries

    abbrev entries_of : List ℕ → Result Read CentreLineLack
    entries_of text = entries_at order (job_waits job) (length text) begun 0 text

    abbrev next_of : List Entry → List ℕ → Result Next CentreLineLack
    next_of entries rest = next_entry_at order (job_waits job) (with_entries entries) (least_after 0 entries) rest

    -- the entries are read, and then what stands behind them
    reach : (entries : List Entry) (rest : List ℕ) → Are top entries → 1 ≤ length rest
        → (more : ℕ) × (entries_of (lines entries ++ rest) ≡ (next_of entries rest >>= (λ found. or_these found.1 (done (read_to found.0 (least_after 0 entries) rest)) (entries_at order (job_waits job) more found.0))))
    unfolding entries_at
    reach entries rest is some =
        let text = lines entries ++ rest in
        let long = length-append (lines entries) rest in
        let few = lines_long order entries [] in
        let all = length-append (lines entries) [] in
        let more = length text - length entries - 1 in
        let count : length text ≡ length entries + suc more = omega (arith, long, few, all, some) in (
          more,
          entries_skip order (job_waits job) next top rest small within apart (length text) (suc more) begun 0 entries count refl refl (omega arith) is.rise is.are is.settled,
        )

    at_pass : (entries : List Entry) (rest : List ℕ) → Are top entries → 1 ≤ length rest → next_of entries rest ≡ Ok (nothing (with_entries entries))
        → entries_of (lines entries ++ rest) ≡ Ok (read_to (with_entries entries) (least_after 0 entries) rest)
    at_pass entries rest is some pass =
        let r = reach entries rest is some in
        r.1
        ∙ reads_on (next_of entries rest) (λ found. or_these found.1 (done (read_to found.0 (least_after 0 entries) rest)) (entries_at order (job_waits job) r.0 found.0)) (nothing (with_entries entries)) pass

    at_ok : (entries : List Entry) (rest : List ℕ) (read : Read) → Are top entries → 1 ≤ length rest → entries_of (lines entries ++ rest) ≡ Ok read → (x : Next) × (next_of entries rest ≡ Ok x)
    at_ok entries rest read is some e =
        let r = reach entries rest is some in
        let x = bind_ok (next_of entries rest) (λ found. or_these found.1 (done (read_to found.0 (least_after 0 entries) rest)) (entries_at order (job_waits job) r.0 found.0)) read (sym r.1 ∙ e) in
        (x.0, x.1)

    pub record Parts (text : List ℕ) (y : CentreState) : Type 0 where
      pub read : Read
      pub entries : entries_of text ≡ Ok read
      pub found : State
      pub behind : behind_entries order job read ≡ Ok found
      pub after : after_ledger found ≡ Ok y

    pub parts_of : (text : List ℕ) (y : CentreState) → ledger_read job text ≡ Ok y → Parts text y
    unfolding ledger_at
    parts_of text y e =
        let ledger = bind_ok (ledger_at order job begun text) after_ledger y e in
        let read = bind_ok (entries_of text) (behind_entries order job) ledger.0 ledger.1 in
        record { read = read.0; entries = read.1; found = ledger.0; behind = read.2; after = ledger.2 }

    pub data Fails (text : List ℕ) (lack : CentreLineLack) : Type 0 where
      in_entries : entries_of text ≡ Err lack → Fails text lack
      in_job : (read : Read) → entries_of text ≡ Ok read → behind_entries order job read ≡ Err lack → Fails text lack
      in_end : (read : Read) (x : State) → entries_of text ≡ Ok read → behind_entries order job read ≡ Ok x → after_ledger x ≡ Err lack → Fails text lack

    pub fails_of : (text : List ℕ) (lack : CentreLineLack) → ledger_read job text ≡ Err lack → Fails text lack
    unfolding ledger_at
    fails_of text lack e =
        elim (bind_err (ledger_at order job begun text) after_ledger lack e) [
          | inl first ↦
              elim (bind_err (entries_of text) (behind_entries order job) lack first) [
                | inl entries ↦ in_entries entries
                | inr read ↦ in_job read.0 read.1 read.2
              ]
          | inr x ↦ let read = bind_ok (entries_of text) (behind_entries order job) x.0 x.1 in in_end read.0 x.0 read.1 read.2 x.2
        ]

    -- an entry is not as it must be
    pub wrong_stops : (Whole : List ℕ → Type 0) (entries : List Entry) (text rest : List ℕ) (lack : CentreLineLack) → Are top entries → text ≡ lines entries ++ rest → next_of entries rest ≡ Err lack
        → (least_after 0 entries < next → CanGoOn order (fields.Entry (least_after 0 entries) (next - 1)) (λ other. Whole (lines entries ++ other))) → Stops order (ledger_read job) Whole text lack
    wrong_stops Whole entries text rest lack is text_is wrong can =
        let l = lacked order (job_waits job) (with_entries entries) (least_after 0 entries) small rest lack wrong in
        record {
          before = lines entries;
          rest = rest;
          parts = text_is;
          left = ap (λ (l : CentreLineLack). l.left) l.lack_is;
          goes_on = subst (λ (l : CentreLineLack). CanGoOn order l.wanted (λ other. Whole (lines entries ++ other))) (sym l.lack_is) (can (is_below next (least_after 0 entries) _ l.go));
          lacks = λ other y h e.
              let parts = parts_of (lines entries ++ other) y e in
              let x = at_ok entries other parts.read is (some_octets other rest h) parts.entries in
              lack_alike order (job_waits job) (with_entries entries) (least_after 0 entries) small rest other lack x.0 (alike other rest h) wrong x.1;
        }

    passes_on : (entries : List Entry) (other rest : List ℕ) → Are top entries → HasLineOf other rest → next_of entries rest ≡ Ok (nothing (with_entries entries))
        → entries_of (lines entries ++ other) ≡ Ok (read_to (with_entries entries) (least_after 0 entries) other)
    passes_on entries other rest is h pass =
        let p = passed order (job_waits job) (with_entries entries) (least_after 0 entries) small rest (with_entries entries) pass in
        at_pass entries other is (some_octets other rest h)
        (pass_alike order (job_waits job) (with_entries entries) (least_after 0 entries) small rest other (alike other rest h) p.1)

    -- what was read behind entries after which no other one is next
    behind_other : (entries : List Entry) (other rest : List ℕ) (y : CentreState) → Are top entries → HasLineOf other rest → next_of entries rest ≡ Ok (nothing (with_entries entries))
        → ledger_read job (lines entries ++ other) ≡ Ok y → (x : State) × (behind_entries order job (read_to (with_entries entries) (least_after 0 entries) other) ≡ Ok x) × (after_ledger x ≡ Ok y)
    behind_other entries other rest y is h pass e =
        let parts = parts_of (lines entries ++ other) y e in
        let same = ok_is parts.read (read_to (with_entries entries) (least_after 0 entries) other) (sym parts.entries ∙ passes_on entries other rest is h pass) in
        (parts.found, ap (behind_entries order job) (sym same) ∙ parts.behind, parts.after)

    -- the last line is not as it must be, where no job comes with an entry
    pub end_stops : (Whole : List ℕ → Type 0) (entries : List Entry) (text rest : List ℕ) (t : CentreState) (lack : CentreLineLack) → Are top entries → text ≡ lines entries ++ rest
        → next_of entries rest ≡ Ok (nothing (with_entries entries))
        → ((other : List ℕ) → behind_entries order job (read_to (with_entries entries) (least_after 0 entries) other) ≡ Ok (state_and t other))
        → after_ledger (state_and t rest) ≡ Err lack → Whole (lines entries ++ end) → Stops order (ledger_read job) Whole text lack
    end_stops Whole entries text rest t lack is text_is pass behind e whole =
        let l = after_lacks (state_and t rest) lack e in
        record {
          before = lines entries;
          rest = rest;
          parts = text_is;
          left = ap (λ (l : CentreLineLack). l.left) l.1;
          goes_on = subst (λ (l : CentreLineLack). CanGoOn order l.wanted (λ other. Whole (lines entries ++ other))) (sym l.1) (end, refl, whole);
          lacks = λ other y h e.
              let x = behind_other entries other rest y is h pass e in
              let same = ok_is (state_and t other) x.0 (sym (behind other) ∙ x.1) in
              let z = after_ok (state_and t other) y (ap after_ledger same ∙ x.2) in
              none-some [] (sym l.0 ∙ end_alike other rest z.0 h z.1);
        }

-- ---- with no job, or one that comes with no entry

quiet_behind : (settings : SettingsModel) (next : ℕ) (last : Ended) (phase : Phase) → IsPhaseOf settings next phase → job_waits (job_of_phase phase) ≡ false → (entries : List Entry) (least : ℕ)
    → (t : CentreState) × ((other : List ℕ) → behind_entries settings.order (job_of_phase phase) (read_to (of_parts settings next Idle entries last) least other) ≡ Ok (state_and t other))
quiet_behind settings next last Idle is quiet entries least = (of_parts settings next Idle entries last, λ other. refl)
quiet_behind settings next last (Awaits job pending) is quiet entries least =
    let s = of_parts settings next Idle entries last in
    let stage = stages.Waits pending.sends pending.age in
    let read = read_of job stage in
    let t = with_job s job stage in (
      t,
      λ other.
          ap (λ b. cond b (activation_taken_at settings.order s read least other) (with_read_job (here fields.End other) s read >>= (λ t. done (state_and t other)))) quiet
          ∙ reads_on (with_read_job (here fields.End other) s read) (λ t. done (state_and t other)) t
          (job_taken (here fields.End other) s job stage refl (waits_faultless settings next job pending is.1) is.0 (λ waits. absurd (false≢true (sym quiet ∙ waits)))),
    )
quiet_behind settings next last (Due job) is quiet entries least =
    let s = of_parts settings next Idle entries last in
    let read = read_of job stages.Due in
    let t = with_job s job stages.Due in (
      t,
      λ other.
          reads_on (with_read_job (here fields.End other) s read) (λ t. done (state_and t other)) t
          (job_taken (here fields.End other) s job stages.Due refl (none_of_tick (is_sent_by_ticks job.step) _ is.1) is.0 (λ waits. absurd (false≢true waits))),
    )

none_waits : (phase : Phase) → job_waits (job_of_phase phase) ≡ false → waiting_entries phase ≡ []
none_waits Idle quiet = refl
none_waits (Awaits job pending) quiet = ap (λ b. if b then record { number = pending.number; code = code_of job.work; outcome = outcomes.Waiting } ∷ [] else []) quiet
none_waits (Due job) quiet = refl

-- an entry that can be the last of a ledger
abbrev settled_entry : ℕ → Entry
settled_entry number = record { number = number; code = code_of publishing; outcome = outcomes.Accepted }

is_entry_of : (number : ℕ) → IsEntry (settled_entry number)
is_entry_of number = record { code = is_code publishing is_publishing; outcome = tt }

module _ (settings : SettingsModel) (next : ℕ) (last : Ended) (small : next < 2 ^ 32) (phase : Phase) (is : IsPhaseOf settings next phase)
    (quiet : job_waits (job_of_phase phase) ≡ false) where
  abbrev job : Option JobRead
  job = job_of_phase phase

  abbrev Taken : List Entry → Type 0
  Taken entries = Are settings next last small next entries

  quiet_apart : (n : ℕ) → n < next → (job_waits job && n + 1 == next) ≡ false
  quiet_apart n less = ap (λ b. b && n + 1 == next) quiet

  quiet_ledger : (entries : List Entry) → AllByRecursion IsEntry entries → AllByRecursion is_settled entries → Rise 0 next entries → IsLedgerOf next phase entries
  quiet_ledger entries are settled rise =
      record { rise = rise; entries = are; settled = entries; are_settled = settled; is = sym (append-nil entries) ∙ ap (λ waiting. entries ++ waiting) (sym (none_waits phase quiet)) }

  quiet_split : (text : List ℕ) → IsSplit settings.order (job_waits job) next next small (λ n less apart. omega (arith, less)) (with_entries settings next last small []) 0 text
      (entries_at settings.order (job_waits job) (length text) (with_entries settings next last small []) 0 text)
  quiet_split text =
      split_of settings.order (job_waits job) next next small (λ n less apart. omega (arith, less)) (length text) (with_entries settings next last small []) 0 text refl refl (omega arith) (omega arith) (omega arith)

  -- the ledger that was read
  pub quiet_found : (text : List ℕ) (y : CentreState) → ledger_read settings next last small job text ≡ Ok y → (ledger : List Entry) × IsLedgerOf next phase ledger × (text ≡ ledger_lines settings.order ledger ++ end)
  quiet_found text y e =
      let split = quiet_split text in
      let parts = parts_of settings next last small job next (omega arith) quiet_apart text y e in
      of_ending split parts split.ending
    where
      of_ending : (split : IsSplit settings.order (job_waits job) next next small (λ n less apart. omega (arith, less)) (with_entries settings next last small []) 0 text
          (entries_at settings.order (job_waits job) (length text) (with_entries settings next last small []) 0 text))
          → Parts settings next last small job next (omega arith) quiet_apart text y
          → Ending settings.order (job_waits job) next next small (λ n less apart. omega (arith, less)) split.state (least_after 0 split.entries) split.rest
          (entries_at settings.order (job_waits job) (length text) (with_entries settings next last small []) 0 text)
          → (ledger : List Entry) × IsLedgerOf next phase ledger × (text ≡ ledger_lines settings.order ledger ++ end)
      of_ending split parts (none_more pass read) =
          let q = quiet_behind settings next last phase is quiet split.entries (least_after 0 split.entries) in
          let same = ok_is (read_to split.state (least_after 0 split.entries) split.rest) parts.read (sym read ∙ parts.entries) in
          let behind = sym (q.1 split.rest) ∙ ap (λ (s : CentreState). behind_entries settings.order job (read_to s (least_after 0 split.entries) split.rest)) (sym split.state_is)
          ∙ ap (behind_entries settings.order job) same ∙ parts.behind in
          let state = ok_is (state_and q.0 split.rest) parts.found behind in
          let z = after_ok (state_and q.0 split.rest) y (ap after_ledger state ∙ parts.after) in (
            split.entries,
            quiet_ledger split.entries split.are split.settled split.rise,
            split.text_is ∙ ap (λ rest. ledger_lines settings.order split.entries ++ rest) (end_found split.rest z.0 z.1),
          )
      of_ending split parts (one_wrong other wrong read) = absurd (never parts.read other (sym parts.entries ∙ read))

  module _ (Whole : List ℕ → Type 0) (fits : (ledger : List Entry) → IsLedgerOf next phase ledger → Whole (ledger_lines settings.order ledger ++ end)) where
    entry_can : (entries : List Entry) → Taken entries → least_after 0 entries < next
        → CanGoOn settings.order (fields.Entry (least_after 0 entries) (next - 1)) (λ other. Whole (ledger_lines settings.order entries ++ other))
    entry_can entries are less =
        let one = settled_entry (next - 1) in
        let line = ledger_line settings.order one in
        let ledger = quiet_ledger (entries ++ one ∷ []) (all_push IsEntry entries one are.are (is_entry_of (next - 1))) (all_push is_settled entries one are.settled refl)
        (rise_behind next entries one are.rise (omega (arith, are.after, less)) (omega (arith, less))) in (
          line ++ end,
          (one, (omega (arith, less), omega arith, is_entry_of (next - 1)), end, refl),
          subst Whole (ap (λ lines. lines ++ end) (lines_push settings.order entries one) ∙ append_assoc (ledger_lines settings.order entries) line end) (fits (entries ++ one ∷ []) ledger),
        )

    -- where entries that are taken up come to an end
    quiet_ends : (text : List ℕ) (lack : CentreLineLack) (entries : List Entry) (rest : List ℕ) → Taken entries → text ≡ ledger_lines settings.order entries ++ rest
        → Ending settings.order (job_waits job) next next small (λ n less apart. omega (arith, less)) (with_entries settings next last small entries) (least_after 0 entries) rest
        (entries_at settings.order (job_waits job) (length text) (with_entries settings next last small []) 0 text)
        → Fails settings next last small job next (omega arith) quiet_apart text lack → Stops settings.order (ledger_read settings next last small job) Whole text lack
    quiet_ends text lack entries rest are text_is (none_more pass read) (in_entries e) = absurd (never (read_to (with_entries settings next last small entries) (least_after 0 entries) rest) lack (sym read ∙ e))
    quiet_ends text lack entries rest are text_is (none_more pass read) (in_job found e behind) =
        let q = quiet_behind settings next last phase is quiet entries (least_after 0 entries) in
        let same = ok_is (read_to (with_entries settings next last small entries) (least_after 0 entries) rest) found (sym read ∙ e) in
        absurd (never (state_and q.0 rest) lack (sym (q.1 rest) ∙ ap (behind_entries settings.order job) same ∙ behind))
    quiet_ends text lack entries rest are text_is (none_more pass read) (in_end found x e behind after) =
        let q = quiet_behind settings next last phase is quiet entries (least_after 0 entries) in
        let same = ok_is (read_to (with_entries settings next last small entries) (least_after 0 entries) rest) found (sym read ∙ e) in
        let state = ok_is (state_and q.0 rest) x (sym (q.1 rest) ∙ ap (behind_entries settings.order job) same ∙ behind) in
        end_stops settings next last small job next (omega arith) quiet_apart Whole entries text rest q.0 lack are text_is pass q.1 (ap after_ledger state ∙ after)
        (fits entries (quiet_ledger entries are.are are.settled are.rise))
    quiet_ends text lack entries rest are text_is (one_wrong other wrong read) (in_entries e) =
        let same = err_is {A = CentreState × (ℕ × List ℕ)} other lack (sym read ∙ e) in
        wrong_stops settings next last small job next (omega arith) quiet_apart Whole entries text rest lack are text_is (wrong ∙ ap (λ l. failed {A = Next} l) same) (entry_can entries are)
    quiet_ends text lack entries rest are text_is (one_wrong other wrong read) (in_job found e behind) = absurd (never found other (sym e ∙ read))
    quiet_ends text lack entries rest are text_is (one_wrong other wrong read) (in_end found x e behind after) = absurd (never found other (sym e ∙ read))

    pub quiet_stops : (text : List ℕ) (lack : CentreLineLack) → ledger_read settings next last small job text ≡ Err lack → Stops settings.order (ledger_read settings next last small job) Whole text lack
    quiet_stops text lack e =
        let split = quiet_split text in
        let are : Taken split.entries = record {
          are = split.are;
          settled = split.settled;
          rise = split.rise;
          after = omega (arith, ap (λ (s : CentreState). number_after s.ledger) split.state_is, split.after);
        } in
        quiet_ends text lack split.entries split.rest are split.text_is
        (subst (λ (s : CentreState). Ending settings.order (job_waits job) next next small (λ n less apart. omega (arith, less)) s (least_after 0 split.entries) split.rest
        (entries_at settings.order (job_waits job) (length text) (with_entries settings next last small []) 0 text)) split.state_is split.ending)
        (fails_of settings next last small job next (omega arith) quiet_apart text lack e)

-- ---- with a job whose activation waits

differs : (n next : ℕ) (b : Bool) → b ≡ true → n < next → (b && n + 1 == next) ≡ false → n + 1 ≤ next - 1
differs n next b is less e = grind (arith, nat_tests)

last_pushed : (ledger : List Entry) (entry : Entry) (code : Activation) → has_last_code (ledger ++ entry ∷ []) code ≡ same_codes entry.code code
last_pushed [] entry code = refl
last_pushed (first ∷ []) entry code = refl
last_pushed (first ∷ next ∷ ledger) entry code = last_pushed (next ∷ ledger) entry code

abbrev code_of_parts : ℕ → ℕ → ℕ → ℕ → ℕ → List ℕ → Activation
code_of_parts minutes priority memory number crc address =
    record { minutes = minutes; priority = priority; id = record { memory = memory; number = number; crc = crc }; address = address }

codes_are_same : (one other : Activation) → same_codes one other ≡ true → one ≡ other
codes_are_same one other e =
    let minutes = and_parts (one.minutes == other.minutes) _ e in
    let priority = and_parts (one.priority == other.priority) _ minutes.1 in
    let memory = and_parts (one.id.memory == other.id.memory) _ priority.1 in
    let number = and_parts (one.id.number == other.id.number) _ memory.1 in
    let crc = and_parts (one.id.crc == other.id.crc) _ number.1 in
    let a : one.minutes ≡ other.minutes = eqb-true one.minutes other.minutes minutes.0 in
    let b : one.priority ≡ other.priority = eqb-true one.priority other.priority priority.0 in
    let c : one.id.memory ≡ other.id.memory = eqb-true one.id.memory other.id.memory memory.0 in
    let d : one.id.number ≡ other.id.number = eqb-true one.id.number other.id.number number.0 in
    let f : one.id.crc ≡ other.id.crc = eqb-true one.id.crc other.id.crc crc.0 in
    let g : one.address ≡ other.address = same_found one.address other.address crc.1 in
    ap (λ n. code_of_parts n one.priority one.id.memory one.id.number one.id.crc one.address) a
    ∙ ap (λ n. code_of_parts other.minutes n one.id.memory one.id.number one.id.crc one.address) b
    ∙ ap (λ n. code_of_parts other.minutes other.priority n one.id.number one.id.crc one.address) c
    ∙ ap (λ n. code_of_parts other.minutes other.priority other.id.memory n one.id.crc one.address) d
    ∙ ap (λ n. code_of_parts other.minutes other.priority other.id.memory other.id.number n one.address) f
    ∙ ap (λ xs. code_of_parts other.minutes other.priority other.id.memory other.id.number other.id.crc xs) g

waits_only : (outcome : Outcome) → is_waiting outcome ≡ true → outcome ≡ outcomes.Waiting
waits_only outcomes.Waiting e = refl
waits_only outcomes.Accepted e = absurd cc
waits_only (outcomes.Refused status) e = absurd cc
waits_only outcomes.NoReply e = absurd cc
waits_only outcomes.Unknown e = absurd cc

cond_ok : (b : Bool) (x y : State) (lack : CentreLineLack) → cond b (done x) (failed lack) ≡ Ok y → (b ≡ true) × (x ≡ y)
cond_ok true x y lack e = (refl, ok_is x y e)
cond_ok false x y lack e = absurd cc

cond_err : (b : Bool) (x : State) (lack other : CentreLineLack) → cond b (done x) (failed lack) ≡ Err other → other ≡ lack
cond_err true x lack other e = absurd (never x other e)
cond_err false x lack other e = sym (err_is {A = State} lack other e)

module _ (settings : SettingsModel) (next : ℕ) (last : Ended) (small : next < 2 ^ 32) (job : Job) (pending : Pending) (is : IsPhaseOf settings next (Awaits job pending))
    (activates : is_activating job.step ≡ true) where
  abbrev stage : SavedStage
  stage = stages.Waits pending.sends pending.age

  abbrev read_job : JobRead
  read_job = read_of job stage

  abbrev on : Option JobRead
  on = Some read_job

  abbrev Entered : List Entry → Type 0
  Entered entries = Are settings next last small (next - 1) entries

  some_next : 1 ≤ next
  some_next = omega (arith, is.1.newest)

  active_apart : (n : ℕ) → n < next - 1 → (job_waits on && n + 1 == next) ≡ false
  active_apart n less = ap (λ b. b && n + 1 == next) activates ∙ ne_eqb (n + 1) next (λ e. omega (arith, less, e))

  below_top : (n : ℕ) → n < next → (job_waits on && n + 1 == next) ≡ false → n + 1 ≤ next - 1
  below_top n less apart = differs n next (job_waits on) activates less apart

  active_split : (text : List ℕ) → IsSplit settings.order (job_waits on) next (next - 1) small below_top (with_entries settings next last small []) 0 text
      (entries_at settings.order (job_waits on) (length text) (with_entries settings next last small []) 0 text)
  active_split text = split_of settings.order (job_waits on) next (next - 1) small below_top (length text) (with_entries settings next last small []) 0 text refl refl (omega arith) (omega arith) (omega arith)

  abbrev waiting_one : Entry
  waiting_one = record { number = next - 1; code = code_of job.work; outcome = outcomes.Waiting }

  is_waiting_one : IsEntry waiting_one
  is_waiting_one = record { code = is_code job.work is.0.work; outcome = tt }

  entered_ledger : (entries : List Entry) → Entered entries → IsLedgerOf next (Awaits job pending) (entries ++ waiting_one ∷ [])
  entered_ledger entries are =
      let low = least_below 0 (next - 1) entries are.rise in
      let number : pending.number ≡ next - 1 = omega (arith, is.1.newest) in
      record {
        rise = rise_behind next entries waiting_one (rise_more 0 (next - 1) next entries (omega arith) are.rise) (omega (arith, are.after, low)) (omega (arith, some_next));
        entries = all_push IsEntry entries waiting_one are.are is_waiting_one;
        settled = entries;
        are_settled = are.settled;
        is =
            ap (λ n. entries ++ record { number = n; code = code_of job.work; outcome = outcomes.Waiting } ∷ []) (sym number)
            ∙ ap (λ b. entries ++ (if b then record { number = pending.number; code = code_of job.work; outcome = outcomes.Waiting } ∷ [] else [])) (sym activates);
      }

  abbrev state_of : List Entry → CentreState
  state_of entries = with_entries settings next last small entries

  abbrev with_it : List Entry → CentreState
  with_it entries = with_job (state_of entries) job stage

  it_is_taken : (lack : CentreLineLack) (entries : List Entry) → Entered entries → with_read_job lack (state_of entries) read_job ≡ Ok (with_it entries)
  it_is_taken lack entries are =
      let low = least_below 0 (next - 1) entries are.rise in
      job_taken lack (state_of entries) job stage refl (waits_faultless settings next job pending is.1) is.0 (λ waits. omega (arith, are.after, low, some_next))

  ledger_with_it : (entries : List Entry) → (with_it entries).ledger ≡ entries ++ waiting_one ∷ []
  ledger_with_it entries = ap (λ b. if b then entries ++ waiting_one ∷ [] else entries) activates

  abbrev line_at : List Entry → List ℕ → Option (Entry × List ℕ)
  line_at entries text = entry_line_at settings.order (least_after 0 entries) (next - 1) text

  abbrev wanted_at : List Entry → List ℕ → CentreLineLack
  wanted_at entries text = here (entry_wanted (state_of entries) (least_after 0 entries)) text

  abbrev taken_at : List Entry → List ℕ → Result State CentreLineLack
  taken_at entries text = activation_taken_at settings.order (state_of entries) read_job (least_after 0 entries) text

  behind_is : (entries : List Entry) (text : List ℕ) → behind_entries settings.order on (read_to (state_of entries) (least_after 0 entries) text) ≡ taken_at entries text
  behind_is entries text =
      ap (λ b. cond b (taken_at entries text) (with_read_job (here fields.End text) (state_of entries) read_job >>= (λ t. done (state_and t text)))) activates

  -- what the entry of the activation has to be
  pub record IsTaken (entries : List Entry) (text : List ℕ) (x : State) : Type 0 where
    pub entry : Entry
    pub line : entry_line_at settings.order (least_after 0 entries) (next - 1) text ≡ Some (entry_and entry x.1)
    pub entered : is_entered (with_it entries) entry ≡ true
    pub state : x.0 ≡ with_it entries

  taken_found : (entries : List Entry) (text : List ℕ) (x : State) → Entered entries → taken_at entries text ≡ Ok x → IsTaken entries text x
  unfolding activation_taken_at
  taken_found entries text x are e =
      let lack = wanted_at entries text in
      let wanted = entry_wanted (state_of entries) (least_after 0 entries) in
      let found = bind_ok (wanting wanted text (line_at entries text)) (λ found. with_read_job lack (state_of entries) read_job >>= (λ t. cond (is_entered t found.0) (done (state_and t found.1)) (failed lack))) x e in
      let t = bind_ok (with_read_job lack (state_of entries) read_job) (λ t. cond (is_entered t found.0.0) (done (state_and t found.0.1)) (failed lack)) x found.2 in
      let same : t.0 ≡ with_it entries = ok_is t.0 (with_it entries) (sym t.1 ∙ it_is_taken lack entries are) in
      let tests = cond_ok (is_entered t.0 found.0.0) (state_and t.0 found.0.1) x lack t.2 in
      record {
        entry = found.0.0;
        line = wanting_ok wanted text (line_at entries text) found.0 found.1 ∙ ap (λ (x : State). Some (entry_and found.0.0 x.1)) tests.1;
        entered = ap (λ (t : CentreState). is_entered t found.0.0) (sym same) ∙ tests.0;
        state = ap (λ (x : State). x.0) (sym tests.1) ∙ same;
      }

  taken_again : (entries : List Entry) (text after : List ℕ) (entry : Entry) → Entered entries → line_at entries text ≡ Some (entry_and entry after) → is_entered (with_it entries) entry ≡ true
      → taken_at entries text ≡ Ok (state_and (with_it entries) after)
  unfolding activation_taken_at
  taken_again entries text after entry are line entered =
      let lack = wanted_at entries text in
      let wanted = entry_wanted (state_of entries) (least_after 0 entries) in
      wants_on wanted text (line_at entries text) (λ found. with_read_job lack (state_of entries) read_job >>= (λ t. cond (is_entered t found.0) (done (state_and t found.1)) (failed lack))) (entry_and entry after) line
      ∙ reads_on (with_read_job lack (state_of entries) read_job) (λ t. cond (is_entered t entry) (done (state_and t after)) (failed lack)) (with_it entries) (it_is_taken lack entries are)
      ∙ ap (λ b. cond b (done (state_and (with_it entries) after)) (failed lack)) entered

  taken_lacks : (entries : List Entry) (text : List ℕ) (other : CentreLineLack) → Entered entries → taken_at entries text ≡ Err other → other ≡ wanted_at entries text
  unfolding activation_taken_at
  taken_lacks entries text other are e =
      let lack = wanted_at entries text in
      let wanted = entry_wanted (state_of entries) (least_after 0 entries) in
      elim (bind_err (wanting wanted text (line_at entries text)) (λ found. with_read_job lack (state_of entries) read_job >>= (λ t. cond (is_entered t found.0) (done (state_and t found.1)) (failed lack))) other e) [
        | inl first ↦ (wanting_err wanted text (line_at entries text) other first).1
        | inr found ↦
            cond_err (is_entered (with_it entries) found.0.0) (state_and (with_it entries) found.0.1) lack other
            (sym (reads_on (with_read_job lack (state_of entries) read_job) (λ t. cond (is_entered t found.0.0) (done (state_and t found.0.1)) (failed lack)) (with_it entries) (it_is_taken lack entries are)) ∙ found.2)
      ]

  line_reads : (entries : List Entry) → IsLine (ledger_line settings.order) (IsEntryWithin (least_after 0 entries) (next - 1)) (line_at entries)
  line_reads entries = entry_is settings.order (least_after 0 entries) (next - 1) (omega (arith, small))

  -- an entry stands there
  stands : (least : ℕ) (c : Bool) → least ≤ next - 1 → c ≡ true → (nat_le next least || not c) ≡ true → ⊥
  stands least c low is pass = let never_so : next ≤ least = reaches next least c is pass in omega (arith, some_next, low, never_so)
    where
      reaches : (next least : ℕ) (c : Bool) → c ≡ true → (nat_le next least || not c) ≡ true → next ≤ least
      reaches next least c is pass = grind (arith, nat_tests)

  number_of : (entries : List Entry) (text after : List ℕ) (entry : Entry) → Entered entries → line_at entries text ≡ Some (entry_and entry after)
      → Passed settings.order (job_waits on) (state_of entries) (least_after 0 entries) small text → entry.number ≡ next - 1
  number_of entries text after entry are line (none_next pass) =
      let low = least_below 0 (next - 1) entries are.rise in
      let found = (line_reads entries).found text (entry_and entry after) line in
      absurd (stands (least_after 0 entries) (starts_with (codes "ledger ") text) low (ap (λ text. starts_with (codes "ledger ") text) found.1) pass)
  number_of entries text after entry are line (waits_next x go other apart) =
      let same : x.0 ≡ entry = ap (λ (x : Entry × List ℕ). x.0) (same_Some x (entry_and entry after) (sym other ∙ line)) in
      let is_next = eqb-true (x.0.number + 1) next (and_parts (job_waits on) (x.0.number + 1 == next) apart).1 in
      omega (arith, is_next, ap (λ (e : Entry). e.number) same)

  -- it is the entry of the activation
  is_the_one : (entries : List Entry) (text : List ℕ) (x : State) → Entered entries
      → Passed settings.order (job_waits on) (state_of entries) (least_after 0 entries) small text → (t : IsTaken entries text x) → t.entry ≡ waiting_one
  is_the_one entries text x are pass t =
      let tests = and_parts (is_waiting t.entry.outcome) (has_last_code (with_it entries).ledger t.entry.code) t.entered in
      let outcome : t.entry.outcome ≡ outcomes.Waiting = waits_only t.entry.outcome tests.0 in
      let code : code_of job.work ≡ t.entry.code =
      codes_are_same (code_of job.work) t.entry.code (sym (ap (λ ledger. has_last_code ledger t.entry.code) (ledger_with_it entries) ∙ last_pushed entries waiting_one t.entry.code) ∙ tests.1) in
      let number : t.entry.number ≡ next - 1 = number_of entries text x.1 t.entry are t.line pass in
      ap (λ n. record { number = n; code = t.entry.code; outcome = t.entry.outcome }) number
      ∙ ap (λ code. record { number = next - 1; code = code; outcome = t.entry.outcome }) (sym code)
      ∙ ap (λ outcome. record { number = next - 1; code = code_of job.work; outcome = outcome }) outcome

  abbrev one_line : List ℕ
  one_line = ledger_line settings.order waiting_one

  abbrev entries_line : List Entry → List ℕ
  entries_line entries = ledger_lines settings.order entries

  -- the entry of the activation stands there
  rest_is : (entries : List Entry) (rest : List ℕ) (x : State) → Entered entries
      → Passed settings.order (job_waits on) (state_of entries) (least_after 0 entries) small rest → IsTaken entries rest x
      → IsEntryWithin (least_after 0 entries) (next - 1) waiting_one × (rest ≡ one_line ++ x.1)
  rest_is entries rest x are pass t =
      let one = is_the_one entries rest x are pass t in
      let found = (line_reads entries).found rest (entry_and t.entry x.1) t.line in
      (subst (λ (e : Entry). IsEntryWithin (least_after 0 entries) (next - 1) e) one found.0, found.1 ∙ ap (λ (e : Entry). ledger_line settings.order e ++ x.1) one)

  abbrev Passing : List Entry → List ℕ → Type 0
  Passing entries rest = next_entry_at settings.order (job_waits on) (state_of entries) (least_after 0 entries) rest ≡ Ok (nothing (state_of entries))

  pass_of : (entries : List Entry) (rest : List ℕ) → Passing entries rest → Passed settings.order (job_waits on) (state_of entries) (least_after 0 entries) small rest
  pass_of entries rest pass = (passed settings.order (job_waits on) (state_of entries) (least_after 0 entries) small rest (state_of entries) pass).1

  abbrev reading : List ℕ → Result CentreState CentreLineLack
  reading text = ledger_read settings next last small on text

  -- the ledger that was read
  pub active_found : (text : List ℕ) (y : CentreState) → reading text ≡ Ok y → (ledger : List Entry) × IsLedgerOf next (Awaits job pending) ledger × (text ≡ entries_line ledger ++ end)
  active_found text y e =
      let split = active_split text in
      let parts = parts_of settings next last small on (next - 1) (omega arith) active_apart text y e in
      of_ending split parts split.ending
    where
      of_ending : (split : IsSplit settings.order (job_waits on) next (next - 1) small below_top (with_entries settings next last small []) 0 text
          (entries_at settings.order (job_waits on) (length text) (with_entries settings next last small []) 0 text))
          → Parts settings next last small on (next - 1) (omega arith) active_apart text y
          → Ending settings.order (job_waits on) next (next - 1) small below_top split.state (least_after 0 split.entries) split.rest
          (entries_at settings.order (job_waits on) (length text) (with_entries settings next last small []) 0 text)
          → (ledger : List Entry) × IsLedgerOf next (Awaits job pending) ledger × (text ≡ entries_line ledger ++ end)
      of_ending split parts (none_more pass read) =
          let entries = split.entries in
          let rest = split.rest in
          let are : Entered entries = record {
            are = split.are;
            settled = split.settled;
            rise = split.rise;
            after = omega (arith, ap (λ (s : CentreState). number_after s.ledger) split.state_is, split.after);
          } in
          let same = ok_is (read_to split.state (least_after 0 entries) rest) parts.read (sym read ∙ parts.entries) in
          let behind : taken_at entries rest ≡ Ok parts.found =
          sym (behind_is entries rest) ∙ ap (λ (s : CentreState). behind_entries settings.order on (read_to s (least_after 0 entries) rest)) (sym split.state_is)
          ∙ ap (behind_entries settings.order on) same ∙ parts.behind in
          let t = taken_found entries rest parts.found are behind in
          let passes : Passing entries rest =
          subst (λ (s : CentreState). next_entry_at settings.order (job_waits on) s (least_after 0 entries) rest ≡ Ok (nothing s)) split.state_is pass in
          let one = rest_is entries rest parts.found are (pass_of entries rest passes) t in
          let z = after_ok parts.found y parts.after in (
            entries ++ waiting_one ∷ [],
            entered_ledger entries are,
            split.text_is
                ∙ ap (λ rest. entries_line entries ++ rest) (one.1 ∙ ap (λ rest. one_line ++ rest) (end_found parts.found.1 z.0 z.1))
                ∙ sym (append_assoc (entries_line entries) one_line end)
                ∙ ap (λ lines. lines ++ end) (sym (lines_push settings.order entries waiting_one)),
          )
      of_ending split parts (one_wrong other wrong read) = absurd (never parts.read other (sym parts.entries ∙ read))

  module _ (Whole : List ℕ → Type 0) (fits : (ledger : List Entry) → IsLedgerOf next (Awaits job pending) ledger → Whole (ledger_lines settings.order ledger ++ end)) where
    whole_of : (entries : List Entry) → Entered entries → Whole ((entries_line entries ++ one_line) ++ end)
    whole_of entries are = subst Whole (ap (λ lines. lines ++ end) (lines_push settings.order entries waiting_one)) (fits (entries ++ waiting_one ∷ []) (entered_ledger entries are))

    one_can : (entries : List Entry) → Entered entries → CanGoOn settings.order (fields.Entry (least_after 0 entries) (next - 1)) (λ other. Whole (entries_line entries ++ other))
    one_can entries are = (
      one_line ++ end,
      (waiting_one, (least_below 0 (next - 1) entries are.rise, omega arith, is_waiting_one), end, refl),
      subst Whole (append_assoc (entries_line entries) one_line end) (whole_of entries are),
    )

    -- the entry of the activation is not as it must be
    job_wrong : (text : List ℕ) (lack : CentreLineLack) (entries : List Entry) (rest : List ℕ) → Entered entries → text ≡ entries_line entries ++ rest → Passing entries rest
        → taken_at entries rest ≡ Err lack → Stops settings.order reading Whole text lack
    job_wrong text lack entries rest are text_is pass e =
        let l = taken_lacks entries rest lack are e in
        record {
          before = entries_line entries;
          rest = rest;
          parts = text_is;
          left = ap (λ (l : CentreLineLack). l.left) l;
          goes_on = subst (λ (l : CentreLineLack). CanGoOn settings.order l.wanted (λ other. Whole (entries_line entries ++ other))) (sym l) (one_can entries are);
          lacks = λ other y h read.
              let x = behind_other settings next last small on (next - 1) (omega arith) active_apart entries other rest y are h pass read in
              let t = taken_found entries other x.0 are (sym (behind_is entries other) ∙ x.1) in
              let again = (follows (line_reads entries) other rest h.line h.more h.after (entry_and t.entry x.0.1) h.whole h.there h.here t.line).again in
              never (state_and (with_it entries) h.after) lack (sym (taken_again entries rest h.after t.entry are again t.entered) ∙ e);
        }

    -- the last line is not as it must be
    end_wrong : (text : List ℕ) (lack : CentreLineLack) (entries : List Entry) (rest : List ℕ) (x : State) → Entered entries → text ≡ entries_line entries ++ rest → Passing entries rest
        → taken_at entries rest ≡ Ok x → after_ledger x ≡ Err lack → Stops settings.order reading Whole text lack
    end_wrong text lack entries rest x are text_is pass e after =
        let t = taken_found entries rest x are e in
        let one = rest_is entries rest x are (pass_of entries rest pass) t in
        let l = after_lacks x lack after in
        let front = entries_line entries ++ one_line in
        let line = (line_reads entries).line waiting_one one.0 in
        record {
          before = front;
          rest = x.1;
          parts = text_is ∙ ap (λ rest. entries_line entries ++ rest) one.1 ∙ sym (append_assoc (entries_line entries) one_line x.1);
          left = ap (λ (l : CentreLineLack). l.left) l.1;
          goes_on = subst (λ (l : CentreLineLack). CanGoOn settings.order l.wanted (λ other. Whole (front ++ other))) (sym l.1) (end, refl, whole_of entries are);
          lacks = λ other y h read.
              let same : HasLineOf (one_line ++ other) rest = record {
                line = line.word;
                more = other;
                after = x.1;
                whole = line.free;
                there = ap (λ text. text ++ other) line.is ∙ append_assoc line.word (10 ∷ []) other;
                here = one.1 ∙ ap (λ text. text ++ x.1) line.is ∙ append_assoc line.word (10 ∷ []) x.1;
                last = λ none. absurd (omega (arith, some_octets other x.1 h, ap length none));
              } in
              let z = behind_other settings next last small on (next - 1) (omega arith) active_apart entries (one_line ++ other) rest y are same pass
              (ap reading (sym (append_assoc (entries_line entries) one_line other)) ∙ read) in
              let u = taken_found entries (one_line ++ other) z.0 are (sym (behind_is entries (one_line ++ other)) ∙ z.1) in
              let found = same_Some (entry_and waiting_one other) (entry_and u.entry z.0.1) (sym ((line_reads entries).only waiting_one other one.0) ∙ u.line) in
              let rest_same : z.0.1 ≡ other = ap (λ (x : Entry × List ℕ). x.1) (sym found) in
              let w = after_ok z.0 y z.2 in
              none-some [] (sym l.0 ∙ end_alike other x.1 w.0 h (ap end_at (sym rest_same) ∙ w.1));
        }

    active_ends : (text : List ℕ) (lack : CentreLineLack) (entries : List Entry) (rest : List ℕ) → Entered entries → text ≡ entries_line entries ++ rest
        → Ending settings.order (job_waits on) next (next - 1) small below_top (state_of entries) (least_after 0 entries) rest
        (entries_at settings.order (job_waits on) (length text) (with_entries settings next last small []) 0 text)
        → Fails settings next last small on (next - 1) (omega arith) active_apart text lack → Stops settings.order reading Whole text lack
    active_ends text lack entries rest are text_is (none_more pass read) (in_entries e) = absurd (never (read_to (state_of entries) (least_after 0 entries) rest) lack (sym read ∙ e))
    active_ends text lack entries rest are text_is (none_more pass read) (in_job found e behind) =
        let same = ok_is (read_to (state_of entries) (least_after 0 entries) rest) found (sym read ∙ e) in
        job_wrong text lack entries rest are text_is pass (sym (behind_is entries rest) ∙ ap (behind_entries settings.order on) same ∙ behind)
    active_ends text lack entries rest are text_is (none_more pass read) (in_end found x e behind after) =
        let same = ok_is (read_to (state_of entries) (least_after 0 entries) rest) found (sym read ∙ e) in
        end_wrong text lack entries rest x are text_is pass (sym (behind_is entries rest) ∙ ap (behind_entries settings.order on) same ∙ behind) after
    active_ends text lack entries rest are text_is (one_wrong other wrong read) (in_entries e) =
        let same = err_is {A = CentreState × (ℕ × List ℕ)} other lack (sym read ∙ e) in
        wrong_stops settings next last small on (next - 1) (omega arith) active_apart Whole entries text rest lack are text_is (wrong ∙ ap (λ l. failed {A = Next} l) same) (λ less. one_can entries are)
    active_ends text lack entries rest are text_is (one_wrong other wrong read) (in_job found e behind) = absurd (never found other (sym e ∙ read))
    active_ends text lack entries rest are text_is (one_wrong other wrong read) (in_end found x e behind after) = absurd (never found other (sym e ∙ read))

    pub active_stops : (text : List ℕ) (lack : CentreLineLack) → reading text ≡ Err lack → Stops settings.order reading Whole text lack
    active_stops text lack e =
        let split = active_split text in
        let are : Entered split.entries = record {
          are = split.are;
          settled = split.settled;
          rise = split.rise;
          after = omega (arith, ap (λ (s : CentreState). number_after s.ledger) split.state_is, split.after);
        } in
        active_ends text lack split.entries split.rest are split.text_is
        (subst (λ (s : CentreState). Ending settings.order (job_waits on) next (next - 1) small below_top s (least_after 0 split.entries) split.rest
        (entries_at settings.order (job_waits on) (length text) (with_entries settings next last small []) 0 text)) split.state_is split.ending)
        (fails_of settings next last small on (next - 1) (omega arith) active_apart text lack e)

-- ---- whichever job is on

module _ (settings : SettingsModel) (next : ℕ) (last : Ended) (small : next < 2 ^ 32) where
  pub ledger_found : (phase : Phase) → IsPhaseOf settings next phase → (text : List ℕ) (y : CentreState) → ledger_read settings next last small (job_of_phase phase) text ≡ Ok y
      → (ledger : List Entry) × IsLedgerOf next phase ledger × (text ≡ ledger_lines settings.order ledger ++ end)
  ledger_found Idle is text y e = quiet_found settings next last small Idle is refl text y e
  ledger_found (Due job) is text y e = quiet_found settings next last small (Due job) is refl text y e
  ledger_found (Awaits job pending) is text y e =
      elim (cases_Bool (is_activating job.step)) [
        | inl activates ↦ active_found settings next last small job pending is activates text y e
        | inr quiet ↦ quiet_found settings next last small (Awaits job pending) is quiet text y e
      ]

  pub ledger_stops : (phase : Phase) → IsPhaseOf settings next phase → (Whole : List ℕ → Type 0)
      → ((ledger : List Entry) → IsLedgerOf next phase ledger → Whole (ledger_lines settings.order ledger ++ end)) → (text : List ℕ) (lack : CentreLineLack)
      → ledger_read settings next last small (job_of_phase phase) text ≡ Err lack → Stops settings.order (ledger_read settings next last small (job_of_phase phase)) Whole text lack
  ledger_stops Idle is Whole fits text lack e = quiet_stops settings next last small Idle is refl Whole fits text lack e
  ledger_stops (Due job) is Whole fits text lack e = quiet_stops settings next last small (Due job) is refl Whole fits text lack e
  ledger_stops (Awaits job pending) is Whole fits text lack e =
      elim (cases_Bool (is_activating job.step)) [
        | inl activates ↦ active_stops settings next last small job pending is activates Whole fits text lack e
        | inr quiet ↦ quiet_stops settings next last small (Awaits job pending) is quiet Whole fits text lack e
      ]
