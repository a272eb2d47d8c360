-- Which events may want memory (this profile).
use Rattle.std.specs.Prelude.{◌≡◌, ℕ, Bool, true, false, nat_lt, is_none, List, length, slice_get, Some}
use Rattle.dms_centre.specs.Commands.{refusal_of}
use Rattle.dms_world.specs.Event.{EventModel, command, sign_tick, centre_tick, to_sign, to_centre, power_lost}
use Rattle.dms_world.specs.Event.{power_back, centre_restart, forge_sign, forge_centre}
use Rattle.dms_world.specs.World.{WorldModel}

-- A command that the centre takes, a tick of the centre, a forged datagram, and the delivery of a datagram that was
-- sent: what an end sends on them enters a list. A command that is refused for another reason than memory wants none.
abbrev pub may_grow : WorldModel → EventModel → Bool
may_grow world (command asked) = is_none (refusal_of world.centre asked)
may_grow world sign_tick = false
may_grow world centre_tick = true
may_grow world (to_sign place) = nat_lt place (length world.to_sign)
may_grow world (to_centre place) = nat_lt place (length world.to_centre)
may_grow world power_lost = false
may_grow world (power_back seconds) = false
may_grow world centre_restart = false
may_grow world (forge_sign datagram) = true
may_grow world (forge_centre datagram) = true

-- The event that follows on so many others is there, and may want memory in this world.
abbrev pub StopsAt : WorldModel → List EventModel → ℕ → Type 0
StopsAt world events count =
    (event : EventModel) × (slice_get events count ≡ Some event) × (may_grow world event ≡ true)
