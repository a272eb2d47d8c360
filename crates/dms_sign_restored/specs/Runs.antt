-- What comes to a sign, and runs in which it is saved and restored (this profile).
use Rattle.std.specs.Prelude.{◌≡◌, ℕ, List, [], ◌∷◌}
use Rattle.dms_sign.specs.declared.config.Config.{Config}
use Rattle.dms_sign.specs.State.{SignState}
use Rattle.dms_sign.specs.Reply.{received, after_get}
use Rattle.dms_sign.specs.Events.{after_tick, after_power_loss, after_power_return}
use Rattle.dms_sign_state.specs.StateText.{text_of_state}
use Rattle.dms_sign_restored.specs.Restored.{IsRestored}

-- a datagram, a second, a Get that something else answers for it, a loss of power, or its return after so many seconds
pub data SignEvent : Type 0 where
  datagram : (octets : List ℕ) → SignEvent
  second : SignEvent
  heard : SignEvent
  power_lost : SignEvent
  power_back : (seconds : ℕ) → SignEvent

-- the sign after it
abbrev pub after_event : SignState → SignEvent → SignState
after_event s (datagram octets) = (received s octets).after
after_event s second = after_tick s
after_event s heard = after_get s
after_event s power_lost = after_power_loss s
after_event s (power_back seconds) = after_power_return s seconds

-- the sign after all of these, one after another
abbrev pub after_events : SignState → List SignEvent → SignState
after_events s [] = s
after_events s (event ∷ events) = after_events (after_event s event) events

-- ---- runs over saves

-- something comes to the sign; or it is saved, and one that is restored of its text goes on in its place
pub data RunStep : Type 0 where
  comes : SignEvent → RunStep
  saves : RunStep

-- all that comes in these steps
abbrev pub events_in : List RunStep → List SignEvent
events_in [] = []
events_in (comes event ∷ steps) = event ∷ events_in steps
events_in (saves ∷ steps) = events_in steps

-- These steps lead from a sign to another, where each restored sign is one of this configuration.
abbrev pub Lead : Config → SignState → List RunStep → SignState → Type 0
Lead config s [] last = last ≡ s
Lead config s (comes event ∷ steps) last = Lead config (after_event s event) steps last
Lead config s (saves ∷ steps) last =
    (again : SignState) × IsRestored config (text_of_state s) again × Lead config again steps last
