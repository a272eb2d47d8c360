-- The lines of a ledger are read as its entries, and each is taken up.
use Rattle.std.proofs.Common.{◌≡◌, ℕ, zero, suc, ◌+◌, ◌-◌, ◌<◌, ◌≤◌, ◌^◌, ◌==◌, ◌||◌, ◌&&◌, Bool, true, false, not, cond, List, [], ◌∷◌, ◌++◌, length, nat_le, nat_lt, Option, Some, None, Result, Ok, codes, refl, sym, ap, ◌∙◌, append_assoc, append-nil, arith}
use Rattle.std.specs.Prelude.{if◌then◌else◌}
use Rattle.std.specs.List.{AllByRecursion}
use Rattle.std.proofs.lemmas.Bool.{and_from, le-leb, lt-ltb}
use Rattle.std.proofs.lemmas.Bool.Decides.{nat_tests}
use Rattle.std.proofs.lemmas.List.{length-append}
use Rattle.dms_codes.specs.declared.codes.Order.{Order}
use Rattle.dms_centre.specs.declared.outcome.Outcome.{Outcome}
use Rattle.dms_centre.specs.declared.outcome.Outcome.TheVariants as outcomes
use Rattle.dms_centre.specs.declared.restoring.EntryFault.{EntryFault}
use Rattle.dms_centre.specs.State.{Entry, CentreState, is_busy}
use Rattle.dms_centre.specs.Resending.{is_waiting}
use Rattle.dms_centre.specs.Restoring.{number_after, has_its_status, entry_fault, with_entry}
use Rattle.dms_centre.specs.Invariant.{Rise}
use Rattle.dms_centre_state.specs.CentreText.{ledger_line, ledger_lines}
use Rattle.dms_centre_state.specs.Reached.{IsOutcome, IsEntry, is_settled}
use Rattle.dms_centre_restored.specs.declared.refusal.UnreadCentreLine.{UnreadCentreLine}
use Rattle.dms_centre_restored.specs.declared.refusal.UnreadCentreLine.TheVariants as unread
use Rattle.dms_centre_restored.specs.declared.refusal.CentreLineLack.{CentreLineLack}
use Rattle.dms_centre_restored.specs.Lacks.{here, wanting, unless, Fails, ◌>>=◌}
use Rattle.dms_text_exact.specs.Fronts.{starts_with}
use Rattle.dms_centre_restored.specs.LineReading.{entry_line_at}
use Rattle.dms_centre_restored.specs.StateReading.{entry_wanted, with_read_entry, with_settled, next_entry_at, or_these, entries_at}
use Rattle.dms_centre_restored.proofs.Readings.{done, reads_on, wants_on}
use Rattle.dms_centre_restored.proofs.WordsRead.{some}
use Rattle.dms_centre_restored.proofs.LinesRead.{entry_line_only}

-- ---- numbers that rise

pub rise_least : (least top : ℕ) (ledger : List Entry) → Rise least top ledger → least ≤ top
rise_least least top [] rise = rise
rise_least least top (entry ∷ ledger) rise = omega (arith, rise.0, rise_least (entry.number + 1) top ledger rise.1)

pub rise_before : (least top : ℕ) (ledger : List Entry) (entry : Entry) → Rise least top (ledger ++ entry ∷ []) → Rise least entry.number ledger
rise_before least top [] entry rise = rise.0
rise_before least top (first ∷ ledger) entry rise = (rise.0, rise_before (first.number + 1) top ledger entry rise.1)

pub number_push : (ledger : List Entry) (entry : Entry) → number_after (ledger ++ entry ∷ []) ≡ entry.number + 1
number_push [] entry = refl
number_push (first ∷ []) entry = refl
number_push (first ∷ second ∷ ledger) entry = number_push (second ∷ ledger) entry

-- the least number after the entries
abbrev pub least_after : ℕ → List Entry → ℕ
least_after least [] = least
least_after least (entry ∷ ledger) = least_after (entry.number + 1) ledger

pub least_below : (least top : ℕ) (ledger : List Entry) → Rise least top ledger → least_after least ledger ≤ top
least_below least top [] rise = rise
least_below least top (entry ∷ ledger) rise = least_below (entry.number + 1) top ledger rise.1

-- ---- one entry

status_of : (outcome : Outcome) → IsOutcome outcome → has_its_status outcome ≡ true
status_of outcomes.Waiting is = refl
status_of outcomes.Accepted is = refl
status_of (outcomes.Refused status) is = is
status_of outcomes.NoReply is = refl
status_of outcomes.Unknown is = refl

none_of : (busy within waits good : Bool) (a b c d : EntryFault) → busy ≡ false → within ≡ true → waits ≡ false → good ≡ true
    → (if busy then Some a else if not within then Some b else if waits then Some c else if not good then Some d else None) ≡ None
none_of busy within waits good a b c d one two three four = grind arith

entry_faultless : (s : CentreState) (entry : Entry) → is_busy s.phase ≡ false → number_after s.ledger ≤ entry.number → entry.number < s.next → IsEntry entry → is_settled entry
    → entry_fault s entry.number entry.outcome ≡ None
entry_faultless s entry idle after below is settled =
    none_of (is_busy s.phase) (nat_le (number_after s.ledger) entry.number && nat_lt entry.number s.next) (is_waiting entry.outcome) (has_its_status entry.outcome) _ _ _ _ idle
    (and_from (nat_le (number_after s.ledger) entry.number) (nat_lt entry.number s.next) (le-leb (number_after s.ledger) entry.number after) (lt-ltb entry.number s.next below))
    settled (status_of entry.outcome is.outcome)

goes_further : (next least : ℕ) (begins : Bool) → least < next → begins ≡ true → (nat_le next least || not begins) ≡ false
goes_further next least begins less is = grind (arith, nat_tests)

-- what an entry that is read next needs
pub record IsNext (s : CentreState) (least : ℕ) (entry : Entry) : Type 0 where
  pub idle : is_busy s.phase ≡ false
  pub small : s.next < 2 ^ 32
  pub after : number_after s.ledger ≤ entry.number
  pub from : least ≤ entry.number
  pub below : entry.number < s.next
  pub is : IsEntry entry

pub line_next : (order : Order) (waits : Bool) (s : CentreState) (least : ℕ) (entry : Entry) (rest : List ℕ) → IsNext s least entry
    → next_entry_at order waits s least (ledger_line order entry ++ rest) ≡ with_settled waits (here (entry_wanted s least) (ledger_line order entry ++ rest)) s (entry, rest)
unfolding next_entry_at
line_next order waits s least entry rest is =
    let text = ledger_line order entry ++ rest in
    let lack = here (entry_wanted s least) text in
    ap (λ b. cond b (done (s, None)) (wanting (entry_wanted s least) text (entry_line_at order least (s.next - 1) text) >>= with_settled waits lack s))
    (goes_further s.next least (starts_with (codes "ledger ") text) (omega (arith, is.from, is.below)) refl)
    ∙ wants_on (entry_wanted s least) text (entry_line_at order least (s.next - 1) text) (λ found. with_settled waits lack s found) (entry, rest)
    (entry_line_only order least (s.next - 1) entry rest is.from (omega (arith, is.below)) (omega (arith, is.small)) is.is)

pub one_entry : (order : Order) (waits : Bool) (s : CentreState) (least : ℕ) (entry : Entry) (rest : List ℕ) → IsNext s least entry → is_settled entry
    → (waits && entry.number + 1 == s.next) ≡ false
    → next_entry_at order waits s least (ledger_line order entry ++ rest) ≡ Ok (with_entry s entry, Some (entry.number, rest))
one_entry order waits s least entry rest is settled other =
    let lack = here (entry_wanted s least) (ledger_line order entry ++ rest) in
    line_next order waits s least entry rest is
    ∙ ap (λ b. cond b (done (s, None)) (with_read_entry lack s entry >>= (λ t. done (t, some (entry.number, rest))))) other
    ∙ reads_on (with_read_entry lack s entry) (λ t. done (t, some (entry.number, rest))) (with_entry s entry)
    (ap (λ fault. unless lack fault (with_entry s entry)) (entry_faultless s entry is.idle is.after is.below is.is settled))

-- ---- all of them

abbrev pub with_ledger : CentreState → List Entry → CentreState
with_ledger s ledger = record s { ledger = s.ledger ++ ledger }

none_with : (s : CentreState) → s ≡ with_ledger s []
none_with s = ap (λ ledger. record s { ledger = ledger }) (sym (append-nil s.ledger))

module _ (order : Order) (waits : Bool) (next top : ℕ) (rest : List ℕ) (small : next < 2 ^ 32) (within : top ≤ next)
    (apart : (n : ℕ) → n < top → (waits && n + 1 == next) ≡ false)
    (stop : (s : CentreState) (least : ℕ) → s.next ≡ next → is_busy s.phase ≡ false → least ≤ top → number_after s.ledger ≤ least → next_entry_at order waits s least rest ≡ Ok (s, None)) where
  abbrev pub onwards : ℕ → ℕ → List ℕ → CentreState × Option (ℕ × List ℕ) → Result (CentreState × (ℕ × List ℕ)) CentreLineLack
  onwards more least text found = or_these found.1 (done (found.0, (least, text))) (entries_at order waits more found.0)

  pub entries_only : (more : ℕ) (s : CentreState) (least : ℕ) (ledger : List Entry) → s.next ≡ next → is_busy s.phase ≡ false → number_after s.ledger ≤ least → length ledger ≤ more
      → Rise least top ledger → AllByRecursion IsEntry ledger → AllByRecursion is_settled ledger
      → entries_at order waits more s least (ledger_lines order ledger ++ rest) ≡ Ok (with_ledger s ledger, (least_after least ledger, rest))
  unfolding entries_at
  entries_only zero s least [] same idle after few rise are settled = ap (λ s. done (s, (least, rest))) (none_with s)
  entries_only zero s least (entry ∷ ledger) same idle after few rise are settled = absurd (omega (arith, few))
  entries_only (suc more) s least [] same idle after few rise are settled =
      reads_on (next_entry_at order waits s least rest) (λ found. onwards more least rest found) (s, None) (stop s least same idle rise after)
      ∙ ap (λ s. done (s, (least, rest))) (none_with s)
  entries_only (suc more) s least (entry ∷ ledger) same idle after few rise are settled =
      let others = ledger_lines order ledger ++ rest in
      let text = ledger_line order entry ++ others in
      let below : entry.number < top = omega (arith, rise_least (entry.number + 1) top ledger rise.1) in
      let is : IsNext s least entry = record {
        idle = idle;
        small = omega (arith, same, small);
        after = omega (arith, after, rise.0);
        from = rise.0;
        below = omega (arith, below, within, same);
        is = are.0;
      } in
      let other : (waits && entry.number + 1 == s.next) ≡ false = ap (λ n. waits && entry.number + 1 == n) same ∙ apart entry.number below in
      let pushed : number_after (s.ledger ++ entry ∷ []) ≤ entry.number + 1 = omega (arith, number_push s.ledger entry) in
      ap (λ text. entries_at order waits (suc more) s least text) (append_assoc (ledger_line order entry) (ledger_lines order ledger) rest)
      ∙ reads_on (next_entry_at order waits s least text) (λ found. onwards more least text found) (with_entry s entry, some (entry.number, others))
      (one_entry order waits s least entry others is settled.0 other)
      ∙ entries_only more (with_entry s entry) (entry.number + 1) ledger same idle pushed (omega (arith, few)) rise.1 are.1 settled.1
      ∙ ap (λ all. done (record s { ledger = all }, (least_after (entry.number + 1) ledger, rest))) (append_assoc s.ledger (entry ∷ []) ledger)

-- entries that are read leave what stands behind them
module _ (order : Order) (waits : Bool) (next top : ℕ) (rest : List ℕ) (small : next < 2 ^ 32) (within : top ≤ next) (apart : (n : ℕ) → n < top → (waits && n + 1 == next) ≡ false) where
  pub entries_skip : (all more : ℕ) (s : CentreState) (least : ℕ) (ledger : List Entry) → all ≡ length ledger + more → s.next ≡ next → is_busy s.phase ≡ false → number_after s.ledger ≤ least
      → Rise least top ledger → AllByRecursion IsEntry ledger → AllByRecursion is_settled ledger
      → entries_at order waits all s least (ledger_lines order ledger ++ rest) ≡ entries_at order waits more (with_ledger s ledger) (least_after least ledger) rest
  unfolding entries_at
  entries_skip all more s least [] count same idle after rise are settled =
      let k : all ≡ more = omega (arith, count) in
      ap (λ k. entries_at order waits k s least rest) k ∙ ap (λ s. entries_at order waits more s least rest) (none_with s)
  entries_skip zero more s least (entry ∷ ledger) count same idle after rise are settled = absurd (omega (arith, count))
  entries_skip (suc all) more s least (entry ∷ ledger) count same idle after rise are settled =
      let others = ledger_lines order ledger ++ rest in
      let text = ledger_line order entry ++ others in
      let below : entry.number < top = omega (arith, rise_least (entry.number + 1) top ledger rise.1) in
      let is : IsNext s least entry = record {
        idle = idle;
        small = omega (arith, same, small);
        after = omega (arith, after, rise.0);
        from = rise.0;
        below = omega (arith, below, within, same);
        is = are.0;
      } in
      let other : (waits && entry.number + 1 == s.next) ≡ false = ap (λ n. waits && entry.number + 1 == n) same ∙ apart entry.number below in
      let pushed : number_after (s.ledger ++ entry ∷ []) ≤ entry.number + 1 = omega (arith, number_push s.ledger entry) in
      ap (λ text. entries_at order waits (suc all) s least text) (append_assoc (ledger_line order entry) (ledger_lines order ledger) rest)
      ∙ reads_on (next_entry_at order waits s least text) (λ found. or_these found.1 (done (found.0, (least, text))) (entries_at order waits all found.0)) (with_entry s entry, some (entry.number, others))
      (one_entry order waits s least entry others is settled.0 other)
      ∙ entries_skip all more (with_entry s entry) (entry.number + 1) ledger (omega (arith, count)) same idle pushed rise.1 are.1 settled.1
      ∙ ap (λ all. entries_at order waits more (record s { ledger = all }) (least_after (entry.number + 1) ledger) rest) (append_assoc s.ledger (entry ∷ []) ledger)

-- ---- as a loop reads them

abbrev onward : Order → Bool → ℕ → ℕ → List ℕ → CentreState × Option (ℕ × List ℕ) → Result (CentreState × (ℕ × List ℕ)) CentreLineLack
onward order waits more least text found = or_these found.1 (done (found.0, (least, text))) (entries_at order waits more found.0)

module _ (order : Order) (waits : Bool) (count i : ℕ) (s : CentreState) (least : ℕ) (text : List ℕ) (total : Result (CentreState × (ℕ × List ℕ)) CentreLineLack)
    (so_far : entries_at order waits (count - i) s least text ≡ total) where
  one_of : i < count → entries_at order waits (count - i) s least text ≡ (next_entry_at order waits s least text >>= (λ found. onward order waits (count - (i + 1)) least text found))
  unfolding entries_at
  one_of less =
      let k : count - i ≡ suc (count - (i + 1)) = omega (arith, less) in
      ap (λ k. entries_at order waits k s least text) k

  pub one_more : (t : CentreState) (number : ℕ) (after : List ℕ) → i < count → next_entry_at order waits s least text ≡ Ok (t, Some (number, after))
      → entries_at order waits (count - (i + 1)) t (number + 1) after ≡ total
  one_more t number after less read =
      sym (one_of less ∙ reads_on (next_entry_at order waits s least text) (λ found. onward order waits (count - (i + 1)) least text found) (t, some (number, after)) read) ∙ so_far

  pub no_more : (t : CentreState) → i < count → next_entry_at order waits s least text ≡ Ok (t, None) → total ≡ Ok (t, (least, text))
  no_more t less read =
      sym so_far ∙ one_of less ∙ reads_on (next_entry_at order waits s least text) (λ found. onward order waits (count - (i + 1)) least text found) (t, None) read

  pub one_lacks : (error : UnreadCentreLine) → i < count → Fails error (next_entry_at order waits s least text) → Fails error total
  one_lacks unread.Memory less fails = tt
  one_lacks (unread.Lacks lack) less fails =
      sym so_far ∙ one_of less ∙ ap (λ found. found >>= (λ found. onward order waits (count - (i + 1)) least text found)) fails

  pub all_done : count ≤ i → total ≡ Ok (s, (least, text))
  unfolding entries_at
  all_done past = let k : count - i ≡ 0 = omega (arith, past) in sym so_far ∙ ap (λ k. entries_at order waits k s least text) k

-- ---- the room for them

pub lines_long : (order : Order) (ledger : List Entry) (rest : List ℕ) → length ledger ≤ length (ledger_lines order ledger ++ rest)
lines_long order [] rest = omega arith
lines_long order (entry ∷ ledger) rest =
    let others = ledger_lines order ledger ++ rest in
    let one : 1 ≤ length (ledger_line order entry) = omega arith in
    omega (arith, ap length (append_assoc (ledger_line order entry) (ledger_lines order ledger) rest), length-append (ledger_line order entry) others, one, lines_long order ledger rest)
