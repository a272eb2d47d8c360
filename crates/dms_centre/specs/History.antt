-- The central system under one input after another, with all that it sent (this profile).
use Rattle.std.specs.Prelude.{ℕ, List, [], ◌∷◌, ◌++◌, option_to_list}
use Rattle.dms_centre_jobs.specs.Job.{SettingsModel}
use Rattle.dms_centre.specs.State.{CentreState, start}
use Rattle.dms_centre.specs.Sending.{Move, rests}
use Rattle.dms_centre_jobs.specs.Commands.{CommandModel, IsCommand}
use Rattle.dms_centre.specs.Commands.{commanded}
use Rattle.dms_centre.specs.Inputs.{received, ticked, restarted}

-- a command of the operator, a datagram whoever sent it, a tick, or a restart
pub data Input : Type 0 where
  Commands : CommandModel → Input
  Hears : List ℕ → Input
  Ticks : Input
  Restarts : Input

abbrev pub move_at : CentreState → Input → Move
move_at state (Commands command) = commanded state command
move_at state (Hears octets) = received state octets
move_at state Ticks = ticked state
move_at state Restarts = rests (restarted state)

-- sent: the datagrams that it ever sent, the oldest first
pub record History : Type 0 where
  pub state : CentreState
  pub sent : List (List ℕ)

-- as it is made
abbrev pub made : SettingsModel → ℕ → History
made settings first = record { state = start settings first; sent = [] }

abbrev pub with_move : History → Move → History
with_move history move = record { state = move.state; sent = history.sent ++ option_to_list move.sent }

abbrev pub after_input : History → Input → History
after_input history input = with_move history (move_at history.state input)

abbrev pub after_inputs : History → List Input → History
after_inputs history [] = history
after_inputs history (input ∷ inputs) = after_inputs (after_input history input) inputs

-- ---- the values of inputs

-- whatever is heard
pub data IsInput : Input → Type 0 where
  OfCommand : (command : CommandModel) → IsCommand command → IsInput (Commands command)
  OfDatagram : (octets : List ℕ) → IsInput (Hears octets)
  OfTick : IsInput Ticks
  OfRestart : IsInput Restarts
