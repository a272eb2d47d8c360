-- A sign and a centre, with every datagram that was ever sent between them, under any list of events (this profile).
use Rattle.std.specs.Prelude.{◌≡◌, ℕ, zero, suc, List, [], ◌∷◌, ◌++◌, length, slice_get, Option, Some, None}
use Rattle.std.specs.Prelude.{option_to_list}
use Rattle.dms_codes.specs.declared.codes.Activation.{Activation}
use Rattle.dms_table.specs.Rows.{TableModel}
use Rattle.dms_sign.specs.State.{ConfigModel, SignState, start as sign_start}
use Rattle.dms_sign.specs.Reply.{Received, received as sign_received}
use Rattle.dms_sign.specs.InRange.{IsMadeOfOctets}
use Rattle.dms_sign.specs.Events.{after_tick, after_power_loss, after_power_return}
use Rattle.dms_centre_jobs.specs.Job.{SettingsModel}
use Rattle.dms_centre.specs.State.{CentreState, start as centre_start}
use Rattle.dms_centre.specs.Sending.{Move}
use Rattle.dms_centre.specs.Commands.{commanded}
use Rattle.dms_centre_jobs.specs.Requests.{AreSettings}
use Rattle.dms_centre.specs.Inputs.{received as centre_received, ticked, restarted}
use Rattle.dms_sign.specs.Construction.{CanBeMade}
use Rattle.dms_world.specs.Event.{EventModel, command, sign_tick, centre_tick, to_sign, to_centre, power_lost}
use Rattle.dms_world.specs.Event.{power_back, centre_restart, forge_sign, forge_centre}

-- The lists hold all datagrams that the ends ever sent, the oldest first; each activation that the sign accepted stands
-- beside the number of its event, from 1.
pub record WorldModel : Type 0 where
  pub sign : SignState
  pub centre : CentreState
  pub to_sign : List (List ℕ)
  pub to_centre : List (List ℕ)
  pub accepted : List (ℕ × Activation)

-- ---- events

abbrev pub noted : ℕ → Option Activation → List (ℕ × Activation)
noted number None = []
noted number (Some code) = (number, code) ∷ []

-- the sign did this at the event of this number
abbrev pub by_sign : ℕ → WorldModel → Received → WorldModel
by_sign number world did = record world {
  sign = did.after;
  to_centre = world.to_centre ++ option_to_list did.reply;
  accepted = world.accepted ++ noted number did.accepted;
}

-- the centre did this
abbrev pub by_centre : WorldModel → Move → WorldModel
by_centre world move = record world { centre = move.state; to_sign = world.to_sign ++ option_to_list move.sent }

-- a datagram is handed to the sign; none is handed where none was sent
abbrev pub at_sign : ℕ → WorldModel → Option (List ℕ) → WorldModel
at_sign number world None = world
at_sign number world (Some datagram) = by_sign number world (sign_received world.sign datagram)

abbrev pub at_centre : WorldModel → Option (List ℕ) → WorldModel
at_centre world None = world
at_centre world (Some datagram) = by_centre world (centre_received world.centre datagram)

abbrev pub with_sign : WorldModel → SignState → WorldModel
with_sign world state = record world { sign = state }

abbrev pub with_centre : WorldModel → CentreState → WorldModel
with_centre world state = record world { centre = state }

-- The event of this number happens. Forged datagrams enter no list; what an end sends on them does.
abbrev pub happens : ℕ → WorldModel → EventModel → WorldModel
happens number world (command asked) = by_centre world (commanded world.centre asked)
happens number world sign_tick = with_sign world (after_tick world.sign)
happens number world centre_tick = by_centre world (ticked world.centre)
happens number world (to_sign place) = at_sign number world (slice_get world.to_sign place)
happens number world (to_centre place) = at_centre world (slice_get world.to_centre place)
happens number world power_lost = with_sign world (after_power_loss world.sign)
happens number world (power_back seconds) = with_sign world (after_power_return world.sign seconds)
happens number world centre_restart = with_centre world (restarted world.centre)
happens number world (forge_sign datagram) = at_sign number world (Some datagram)
happens number world (forge_centre datagram) = at_centre world (Some datagram)

abbrev pub happens_if : ℕ → WorldModel → Option EventModel → WorldModel
happens_if number world None = world
happens_if number world (Some event) = happens number world event

-- the world after so many of the events
abbrev pub world_at : WorldModel → List EventModel → ℕ → WorldModel
world_at world events zero = world
world_at world events (suc count) = happens_if (suc count) (world_at world events count) (slice_get events count)

-- the world after all of them
abbrev pub world_after : WorldModel → List EventModel → WorldModel
world_after world events = world_at world events (length events)

-- ---- worlds in which nothing happened yet

abbrev pub beginning : SignState → CentreState → WorldModel
beginning sign_state centre_state = record {
  sign = sign_state;
  centre = centre_state;
  to_sign = [];
  to_centre = [];
  accepted = [];
}

-- both ends are as they are made, of octets, and nothing was sent
pub record IsFresh (world : WorldModel) : Type 0 where
  pub config : ConfigModel
  pub table : TableModel
  pub settings : SettingsModel
  pub first : ℕ
  pub can_be_made : CanBeMade config table
  pub made_of_octets : IsMadeOfOctets config table
  pub are_settings : AreSettings settings
  pub is_beginning : world ≡ beginning (sign_start config table) (centre_start settings first)
