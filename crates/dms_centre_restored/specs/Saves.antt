-- Runs of a central system that is saved now and then, so that another goes on from its text (this profile).
use Rattle.std.specs.Prelude.{◌≡◌, List, [], ◌∷◌}
use Rattle.dms_centre.specs.State.{CentreState}
use Rattle.dms_centre.specs.History.{Input, History, after_input}
use Rattle.dms_centre_state.specs.CentreText.{text_of_state}
use Rattle.dms_centre_restored.specs.Restored.{IsRestored}

-- an input, or the central system is saved, and one of the same settings is restored of its text
pub data Event : Type 0 where
  Takes : Input → Event
  Saves : Event

-- the central system that goes on after it has what was sent before
abbrev pub Goes : List Event → History → History → Type 0
Goes [] before after = after ≡ before
Goes (Takes input ∷ events) before after = Goes events (after_input before input) after
Goes (Saves ∷ events) before after =
    (again : CentreState) × IsRestored before.state.settings (text_of_state before.state) again
    × Goes events (record before { state = again }) after

-- without the saves
abbrev pub inputs_of : List Event → List Input
inputs_of [] = []
inputs_of (Takes input ∷ events) = input ∷ inputs_of events
inputs_of (Saves ∷ events) = inputs_of events
