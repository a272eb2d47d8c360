-- The laws on the ledger, under any list of inputs.
use Rattle.std.proofs.Common.{◌≡◌, ℕ, ◌+◌, ◌<◌, ◌≤◌, inl, inr, List, [], ◌∷◌, ◌++◌, length, Some, slice_get, refl, sym, ◌∙◌, subst, arith, option_to_list}
use Rattle.std.specs.List.{AllByRecursion}
use Rattle.std.proofs.lemmas.Option.{none-some, same_Some, slice_get_within}
use Rattle.dms_codes.specs.declared.codes.Activation.{Activation}
use Rattle.dms_centre_jobs.specs.declared.step.Step.TheVariants.{Activating}
use Rattle.dms_centre_jobs.specs.Job.{SettingsModel, Showing}
use Rattle.dms_centre.specs.State.{Entry}
use Rattle.dms_centre_jobs.specs.Steps.{request_of}
use Rattle.dms_centre.specs.Sending.{Move}
use Rattle.dms_centre_jobs.specs.Requests.{AreSettings}
use Rattle.dms_centre.specs.History.{Input, IsInput, History, made, move_at, with_move, after_input, after_inputs}
use Rattle.dms_centre_laws.specs.RequestNumbers.{HasNumber, AreRequests, EqualNumbersMeanEqualOctets, Sends, Nothing, Again, New}
use Rattle.dms_centre_laws.specs.Numbered.{HistoryIsNumbered, Keeps}
use Rattle.dms_centre_laws.specs.Ledger.{EntryMoves, PutsUp, IsNewEntry, LedgerMoves, WasSent, LedgerIsSent, NumbersPutUpTheirCodes}
use Rattle.dms_centre_laws.proofs.Lists.{on_left, at_end}
use Rattle.dms_centre_laws.proofs.Numbers.{below_next}
use Rattle.dms_centre_laws.proofs.Keeping.{keeps_input, numbered_made}
use Rattle.dms_centre_laws.proofs.LedgerKeeping.{IsOpen, AreBelow, Ready, LedgerKept, kept_input}
use Rattle.dms_centre_laws.proofs.NumberLaws.{settings_are}

-- ---- what is kept up

pub record HistoryIsKept (history : History) : Type 0 where
  pub numbered : HistoryIsNumbered history
  pub ledger : LedgerIsSent history.state.settings history.state.next history.state.ledger history.sent
  pub open_entry : IsOpen history.state.phase history.state.ledger

ready : (history : History) → HistoryIsKept history → Ready history.state
ready history kept = record { settings = kept.numbered.settings_fine; below = kept.ledger.below; open_entry = kept.open_entry }

-- ---- numbers

pub puts_up_number : (settings : SettingsModel) (number : ℕ) (code : Activation) (octets : List ℕ) → PutsUp settings number code octets → HasNumber number octets
unfolding request_of
puts_up_number settings number code octets e = record { message = request_of settings number (Showing code) Activating; spelled = e; is = refl }

-- the next number never falls
pub next_grows : (settings : SettingsModel) (next : ℕ) (sent : List (List ℕ)) (move : Move) → Sends settings next sent move → next ≤ move.state.next
next_grows settings next sent move (Nothing none same) = omega (arith, same)
next_grows settings next sent move (Again octets k out there same) = omega (arith, same)
next_grows settings next sent move (New octets out is more) = omega (arith, more)

-- a new entry took the next number
number_taken : (settings : SettingsModel) (next : ℕ) (sent : List (List ℕ)) (move : Move) (entry : Entry) → AreRequests settings next sent → Sends settings next sent move
    → IsNewEntry settings next move entry → move.state.next ≡ next + 1
number_taken settings next sent move entry requests (Nothing none same) new = absurd (none-some new.octets (sym none ∙ new.sent))
number_taken settings next sent move entry requests (Again octets k out there same) new =
    let same_octets : octets ≡ new.octets = same_Some octets new.octets (sym out ∙ new.sent) in
    let has = puts_up_number settings next entry.code new.octets new.puts_up in
    absurd (omega (arith, below_next settings next next k sent octets requests there (subst (HasNumber next) (sym same_octets) has)))
number_taken settings next sent move entry requests (New octets out is more) new = more

-- ---- one input

-- a move that keeps the numbers and the ledger
record Both (settings : SettingsModel) (next : ℕ) (before : List Entry) (sent : List (List ℕ)) (move : Move) : Type 0 where
  old : LedgerIsSent settings next before sent
  requests : AreRequests settings next sent
  sends : Sends settings next sent move

below_after : (settings : SettingsModel) (next : ℕ) (before : List Entry) (sent : List (List ℕ)) (input : Input) (move : Move) → Both settings next before sent move
    → LedgerMoves settings next before input move → AreBelow move.state.next move.state.ledger
below_after settings next before sent input move both moves k later e =
    elim (moves.each k later e) [
      | inl was ↦ omega (arith, both.old.below k was.0 was.1, was.2.number, next_grows settings next sent move both.sends)
      | inr new ↦ omega (arith, new.1.number, number_taken settings next sent move later both.requests both.sends new.1)
    ]

rise_after : (settings : SettingsModel) (next : ℕ) (before : List Entry) (sent : List (List ℕ)) (input : Input) (move : Move) → Both settings next before sent move
    → LedgerMoves settings next before input move
    → (j k : ℕ) (earlier later : Entry) → j < k → slice_get move.state.ledger j ≡ Some earlier → slice_get move.state.ledger k ≡ Some later → earlier.number < later.number
rise_after settings next before sent input move both moves j k earlier later less a b =
    elim (moves.each j earlier a) [
      | inl first ↦
          (elim (moves.each k later b) [
            | inl second ↦ omega (arith, both.old.rise j k first.0 second.0 less first.1 second.1, first.2.number, second.2.number)
            | inr new ↦ omega (arith, both.old.below j first.0 first.1, first.2.number, new.1.number)
          ])
      | inr new ↦
          (elim (moves.each k later b) [
            | inl second ↦ absurd (omega (arith, less, new.0, slice_get_within before k second.0 second.1))
            | inr newer ↦ absurd (omega (arith, less, new.0, newer.0))
          ])
    ]

-- an entry whose number and code are as they were
still_sent : (settings : SettingsModel) (sent more : List (List ℕ)) (input : Input) (entry later : Entry) → EntryMoves settings input entry later → WasSent settings sent entry
    → WasSent settings (sent ++ more) later
still_sent settings sent more input entry later moves was = grind (arith, on_left)

newly_sent : (settings : SettingsModel) (next : ℕ) (sent : List (List ℕ)) (move : Move) (entry : Entry) → IsNewEntry settings next move entry
    → WasSent settings (sent ++ option_to_list move.sent) entry
newly_sent settings next sent move entry new = record {
  place = length sent;
  octets = new.octets;
  there = subst (λ o. slice_get (sent ++ option_to_list o) (length sent) ≡ Some new.octets) (sym new.sent) (at_end sent new.octets);
  puts_up = subst (λ n. PutsUp settings n entry.code new.octets) (sym new.number) new.puts_up;
}

sent_after : (settings : SettingsModel) (next : ℕ) (before : List Entry) (sent : List (List ℕ)) (input : Input) (move : Move) → Both settings next before sent move
    → LedgerMoves settings next before input move
    → (k : ℕ) (later : Entry) → slice_get move.state.ledger k ≡ Some later → WasSent settings (sent ++ option_to_list move.sent) later
sent_after settings next before sent input move both moves k later e =
    elim (moves.each k later e) [
      | inl was ↦ still_sent settings sent (option_to_list move.sent) input was.0 later was.2 (both.old.was_sent k was.0 was.1)
      | inr new ↦ newly_sent settings next sent move later new.1
    ]

kept_move : (history : History) (input : Input) (move : Move) → HistoryIsKept history → Keeps history.state.settings history.state.next history.sent move
    → LedgerKept history.state.settings history.state.next history.state.ledger input move → HistoryIsKept (with_move history move)
kept_move history input move kept keeps moved =
    let settings = history.state.settings in
    let both : Both settings history.state.next history.state.ledger history.sent move =
    record { old = kept.ledger; requests = kept.numbered.requests; sends = keeps.sends } in
    let after : LedgerIsSent settings move.state.next move.state.ledger (history.sent ++ option_to_list move.sent) = record {
      below = below_after settings history.state.next history.state.ledger history.sent input move both moved.moves;
      rise = rise_after settings history.state.next history.state.ledger history.sent input move both moved.moves;
      was_sent = sent_after settings history.state.next history.state.ledger history.sent input move both moved.moves;
    } in
    record {
      numbered = keeps.numbered;
      ledger = subst (λ s. LedgerIsSent s move.state.next move.state.ledger (history.sent ++ option_to_list move.sent)) (sym keeps.settings_stay) after;
      open_entry = moved.open_entry;
    }

pub ledger_move : (history : History) (input : Input) → HistoryIsKept history → IsInput input
    → LedgerKept history.state.settings history.state.next history.state.ledger input (move_at history.state input)
ledger_move history input kept is = kept_input history.state input (ready history kept) kept.numbered.work is

pub is_kept_input : (history : History) (input : Input) → HistoryIsKept history → IsInput input → HistoryIsKept (after_input history input)
is_kept_input history input kept is =
    kept_move history input (move_at history.state input) kept (keeps_input history input kept.numbered is) (ledger_move history input kept is)

-- ---- one input after another

pub is_kept_made : (settings : SettingsModel) (first : ℕ) → AreSettings settings → HistoryIsKept (made settings first)
is_kept_made settings first fine = record {
  numbered = numbered_made settings first fine;
  ledger = record {
    below = λ k entry e. absurd (none-some entry e);
    rise = λ j k earlier later less a b. absurd (none-some earlier a);
    was_sent = λ k entry e. absurd (none-some entry e);
  };
  open_entry = tt;
}

kept_after : (inputs : List Input) (history : History) → HistoryIsKept history → AllByRecursion IsInput inputs → HistoryIsKept (after_inputs history inputs)
kept_after [] history kept are = kept
kept_after (input ∷ inputs) history kept are = kept_after inputs (after_input history input) (is_kept_input history input kept are.0) are.1

kept : (settings : SettingsModel) (first : ℕ) (inputs : List Input) → AreSettings settings → AllByRecursion IsInput inputs → HistoryIsKept (after_inputs (made settings first) inputs)
kept settings first inputs fine are = kept_after inputs (made settings first) (is_kept_made settings first fine) are

pub ledger_moves : (settings : SettingsModel) (first : ℕ) (inputs : List Input) (input : Input) → AreSettings settings → AllByRecursion IsInput inputs → IsInput input
    → LedgerMoves settings (after_inputs (made settings first) inputs).state.next (after_inputs (made settings first) inputs).state.ledger input
    (move_at (after_inputs (made settings first) inputs).state input)
ledger_moves settings first inputs input fine are is = grind (arith, settings_are, ledger_move, kept)

pub ledger_is_sent : (settings : SettingsModel) (first : ℕ) (inputs : List Input) → AreSettings settings → AllByRecursion IsInput inputs
    → LedgerIsSent settings (after_inputs (made settings first) inputs).state.next (after_inputs (made settings first) inputs).state.ledger
    (after_inputs (made settings first) inputs).sent
ledger_is_sent settings first inputs fine are = grind (arith, settings_are, kept)

-- a datagram of an entry's number is the one that put its code up
pub put_up_by : (settings : SettingsModel) (next : ℕ) (ledger : List Entry) (sent : List (List ℕ)) → LedgerIsSent settings next ledger sent → EqualNumbersMeanEqualOctets sent
    → NumbersPutUpTheirCodes settings ledger sent
put_up_by settings next ledger sent is same k j entry octets e there has =
    let was = is.was_sent k entry e in
    let equal = same was.place j entry.number was.octets octets was.there there (puts_up_number settings entry.number entry.code was.octets was.puts_up) has in
    subst (PutsUp settings entry.number entry.code) equal was.puts_up

pub codes_put_up : (settings : SettingsModel) (first : ℕ) (inputs : List Input) → AreSettings settings → AllByRecursion IsInput inputs
    → NumbersPutUpTheirCodes settings (after_inputs (made settings first) inputs).state.ledger (after_inputs (made settings first) inputs).sent
codes_put_up settings first inputs fine are =
    let history = after_inputs (made settings first) inputs in
    put_up_by settings history.state.next history.state.ledger history.sent (ledger_is_sent settings first inputs fine are)
    (kept settings first inputs fine are).numbered.same
