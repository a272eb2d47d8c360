-- What can happen to a sign and a centre that send datagrams to each other (this profile).
use Rattle.std.specs.Prelude.{ℕ, List}
use Rattle.dms_centre_jobs.specs.Commands.{CommandModel}

-- A datagram is its octets. `to_sign` hands over the datagram of this place, from 0, among all that the centre ever
-- sent, and `to_centre` one of the sign's. A datagram that no event names is lost, and one that two events name is
-- repeated.
pub data EventModel : Type 0 where
  command : CommandModel → EventModel
  sign_tick : EventModel
  centre_tick : EventModel
  to_sign : (place : ℕ) → EventModel
  to_centre : (place : ℕ) → EventModel
  power_lost : EventModel
  power_back : (seconds : ℕ) → EventModel
  centre_restart : EventModel
  forge_sign : (datagram : List ℕ) → EventModel
  forge_centre : (datagram : List ℕ) → EventModel
