-- What each event makes of a centre's ledger, and that each code of it is that of a command which the centre took.
use Rattle.std.proofs.Common.{◌≡◌, ◌⊎◌, inr, ℕ, zero, suc, List, length, Option, Some, None, option_map, slice_get, refl, sym, ap, ◌∙◌, subst, arith}
use Rattle.std.proofs.lemmas.Option.{none-some}
use Rattle.dms_centre_jobs.specs.Job.{Work}
use Rattle.dms_centre.specs.State.{Entry, CentreState}
use Rattle.dms_centre_jobs.specs.Steps.{code_of}
use Rattle.dms_centre_jobs.specs.Commands.{CommandModel, job_of}
use Rattle.dms_centre.specs.Commands.{refusal_of}
use Rattle.dms_centre.specs.History.{Input, Hears, IsInput, History, move_at, after_input}
use Rattle.dms_centre_laws.specs.Ledger.{LedgerMoves}
use Rattle.dms_centre_laws.proofs.LedgerLaws.{HistoryIsKept, ledger_move}
use Rattle.dms_centre_laws.proofs.Working.{OfTaken, AreOf, are_of_input}
use Rattle.dms_world.specs.Event.{EventModel, command, sign_tick, centre_tick, to_sign, to_centre, power_lost, power_back, centre_restart, forge_sign, forge_centre}
use Rattle.dms_world.specs.World.{WorldModel, world_at, IsFresh}
use Rattle.dms_world.specs.Headline.{AreEvents}
use Rattle.dms_world.specs.Honest.{WasOrdered, LedgerWasOrdered}
use Rattle.dms_world.proofs.WorldInputs.{history_of, input_if, input_after, after_if, moves_at, IsInputIf, is_input_after}
use Rattle.dms_world.proofs.WorldNumbers.{kept_at, settings_at}

-- ---- one event

-- an event that gives the centre nothing leaves its history
pub rests_at : (world : WorldModel) (events : List EventModel) (count : ℕ) → input_after world events count ≡ None
    → history_of (world_at world events (suc count)) ≡ history_of (world_at world events count)
rests_at world events count e = moves_at world events count ∙ ap (after_if (history_of (world_at world events count))) e

-- the centre does at an input what it is to do
pub acts_at : (world : WorldModel) (events : List EventModel) (count : ℕ) (input : Input) → input_after world events count ≡ Some input
    → history_of (world_at world events (suc count)) ≡ after_input (history_of (world_at world events count)) input
acts_at world events count input e = moves_at world events count ∙ ap (after_if (history_of (world_at world events count))) e

pub is_input_at : (world : WorldModel) (events : List EventModel) (count : ℕ) (input : Input) → AreEvents events → input_after world events count ≡ Some input
    → IsInput input
is_input_at world events count input are e = subst IsInputIf e (is_input_after world events count are)

-- the ledger after the event is `(world_at world events (suc count)).centre.ledger`, by `acts_at`
pub ledger_at : (world : WorldModel) (events : List EventModel) → IsFresh world → AreEvents events → (count : ℕ) (input : Input)
    → input_after world events count ≡ Some input
    → LedgerMoves world.centre.settings (world_at world events count).centre.next (world_at world events count).centre.ledger input
    (move_at (world_at world events count).centre input)
ledger_at world events fresh are count input e =
    let at = world_at world events count in
    subst (λ settings. LedgerMoves settings at.centre.next at.centre.ledger input (move_at at.centre input)) (settings_at world events fresh are count)
    (ledger_move (history_of at) input (kept_at world events fresh are count).kept (is_input_at world events count input are e)).moves

-- ---- where an input comes from

-- a datagram that was handed over or forged
pub record WasHandedOver (world : WorldModel) (o : Option EventModel) (datagram : List ℕ) : Type 0 where
  pub place : ℕ
  pub event : o ≡ Some (to_centre place)
  pub there : slice_get world.to_centre place ≡ Some datagram

abbrev pub CameBy : WorldModel → Option EventModel → List ℕ → Type 0
CameBy world o datagram = WasHandedOver world o datagram ⊎ (o ≡ Some (forge_centre datagram))

handed : (world : WorldModel) (place : ℕ) (datagram : List ℕ) (o : Option (List ℕ)) → slice_get world.to_centre place ≡ o → option_map Hears o ≡ Some (Hears datagram)
    → CameBy world (Some (to_centre place)) datagram
handed world place datagram o e same = grind arith

heard_if : (world : WorldModel) (o : Option EventModel) (datagram : List ℕ) → input_if world o ≡ Some (Hears datagram) → CameBy world o datagram
heard_if world None datagram e = absurd (none-some (Hears datagram) e)
heard_if world (Some (command asked)) datagram e = absurd (cc e)
heard_if world (Some sign_tick) datagram e = absurd (cc e)
heard_if world (Some centre_tick) datagram e = absurd (cc e)
heard_if world (Some (to_sign place)) datagram e = absurd (cc e)
heard_if world (Some (to_centre place)) datagram e = handed world place datagram (slice_get world.to_centre place) refl e
heard_if world (Some power_lost) datagram e = absurd (cc e)
heard_if world (Some (power_back seconds)) datagram e = absurd (cc e)
heard_if world (Some centre_restart) datagram e = absurd (cc e)
heard_if world (Some (forge_sign other)) datagram e = absurd (cc e)
heard_if world (Some (forge_centre other)) datagram e =
    let one : other ≡ datagram = cc e in
    inr (ap (λ x. Some (forge_centre x)) one)

-- ---- whose codes

-- the work of a command that was taken
pub record WasTaken (world : WorldModel) (events : List EventModel) (work : Work) : Type 0 where
  pub before : ℕ
  pub asked : CommandModel
  pub event : slice_get events before ≡ Some (command asked)
  pub taken : refusal_of (world_at world events before).centre asked ≡ None
  pub work_is : (job_of asked).work ≡ work

abbrev OfTakenIf : (Work → Type 0) → CentreState → Option Input → Type 0
OfTakenIf P state None = Unit {0}
OfTakenIf P state (Some input) = OfTaken P state input

taken_if : (world : WorldModel) (events : List EventModel) (count : ℕ) (o : Option EventModel) → slice_get events count ≡ o
    → OfTakenIf (WasTaken world events) (world_at world events count).centre (input_if (world_at world events count) o)
taken_if world events count o e = grind arith

are_if : (P : Work → Type 0) (history : History) (o : Option Input) → HistoryIsKept history → IsInputIf o → AreOf P history.state → OfTakenIf P history.state o
    → AreOf P (after_if history o).state
are_if P history None kept is are taken = are
are_if P history (Some input) kept is are taken = are_of_input P history input kept is are taken

are_fresh : (P : Work → Type 0) (world : WorldModel) → IsFresh world → AreOf P world.centre
are_fresh P world fresh = grind arith

-- the centre's job and each entry are of commands that were taken
pub taken_at : (world : WorldModel) (events : List EventModel) → IsFresh world → AreEvents events → (count : ℕ)
    → AreOf (WasTaken world events) (world_at world events count).centre
taken_at world events fresh are zero = are_fresh (WasTaken world events) world fresh
taken_at world events fresh are (suc count) =
    subst (λ (history : History). AreOf (WasTaken world events) history.state) (sym (moves_at world events count))
    (are_if (WasTaken world events) (history_of (world_at world events count)) (input_after world events count)
    (kept_at world events fresh are count).kept (is_input_after world events count are) (taken_at world events fresh are count)
    (taken_if world events count (slice_get events count) refl))

-- ---- the law

was_ordered : (world : WorldModel) (events : List EventModel) (entry : Entry) (work : Work) → WasTaken world events work → entry.code ≡ code_of work
    → WasOrdered world events entry
was_ordered world events entry work was e = grind arith

pub ordered_at : (world : WorldModel) (events : List EventModel) → IsFresh world → AreEvents events → (count place : ℕ) (entry : Entry)
    → slice_get (world_at world events count).centre.ledger place ≡ Some entry → WasOrdered world events entry
ordered_at world events fresh are count place entry e = grind (arith, taken_at, was_ordered)

pub ledger_was_ordered : (world : WorldModel) (events : List EventModel) → IsFresh world → AreEvents events → LedgerWasOrdered world events
ledger_was_ordered world events fresh are entry there = ordered_at world events fresh are (length events) there.0 entry there.1
