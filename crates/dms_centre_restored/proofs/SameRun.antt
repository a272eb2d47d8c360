-- A run in which a central system is saved is that without.
use Rattle.std.proofs.Common.{◌≡◌, List, [], ◌∷◌, subst}
use Rattle.std.specs.List.{AllByRecursion}
use Rattle.dms_centre.specs.State.{CentreState}
use Rattle.dms_centre.specs.History.{Input, IsInput, History, move_at, after_input, after_inputs}
use Rattle.dms_centre_state.specs.CentreText.{text_of_state}
use Rattle.dms_centre_state.specs.Reached.{IsReached}
use Rattle.dms_centre_restored.specs.Saves.{Event, Takes, Saves, Goes, inputs_of}

-- texts tell states apart, and inputs leave states that a central system comes to
abbrev pub TellApart : Type 0
TellApart = (one other : CentreState) → IsReached one → IsReached other → one.settings ≡ other.settings → text_of_state one ≡ text_of_state other → one ≡ other

abbrev pub AreKept : Type 0
AreKept = (state : CentreState) (input : Input) → IsReached state → IsInput input → IsReached (move_at state input).state

pub same_run : TellApart → AreKept → (events : List Event) (before after : History) → IsReached before.state → AllByRecursion IsInput (inputs_of events) → Goes events before after
    → after ≡ after_inputs before (inputs_of events)
same_run apart kept [] before after reached are goes = goes
same_run apart kept (Takes input ∷ events) before after reached are goes =
    same_run apart kept events (after_input before input) after (kept before.state input reached are.0) are.1 goes
same_run apart kept (Saves ∷ events) before after reached are goes =
    let same : goes.0 ≡ before.state = apart goes.0 before.state goes.1.reached reached goes.1.settings goes.1.text in
    same_run apart kept events before after reached are (subst (λ again. Goes events (record before { state = again }) after) same goes.2)
