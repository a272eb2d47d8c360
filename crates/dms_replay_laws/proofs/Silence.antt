-- A loss of communications on the bench sign, computed.
use Rattle.std.proofs.Common.{◌≡◌, ℕ, List, [], ◌∷◌, ◌++◌, refl}
use Rattle.std.specs.Prelude.{pos, codes}
use Rattle.dms_wire.specs.declared.message.Kind.TheVariants.{Get, GetNext, Response}
use Rattle.dms_wire.specs.Message.{octet_string, null}
use Rattle.dms_wire.specs.Canonical.{canonical}
use Rattle.dms_mib.specs.Names.{object_name}
use Rattle.dms_world.specs.Event.{EventModel, power_lost, power_back, forge_sign}
use Rattle.dms_replay_laws.proofs.BenchWorld.{bench, after, report, hex, seconds, request, set_number, set_code, sets, Seen, seen}

-- the only seconds of silence that are a loss: one minute
abbrev one_minute : EventModel
one_minute = forge_sign (hex (codes "302b020100040561646d696ea31f02010902010002010030143012060d2b060104018936040203060d00020101"))

-- the report of so many events, after which the blank message is up with this mode
abbrev blank_report : (events mode : List ℕ) → List ℕ
blank_report events mode =
    codes "events " ++ events ++ codes "\nsent 0 1\nshown 7 1 0000 mode " ++ mode
    ++ codes " priority 1 remaining 65535 text -\n"

before_a_minute : report (one_minute ∷ seconds 59)
    ≡ blank_report (codes "60") (codes "10")
unfolding report hex
before_a_minute = refl

after_a_minute : report (one_minute ∷ seconds 60)
    ≡ blank_report (codes "61") (codes "12")
unfolding report hex
after_a_minute = refl

-- ---- a datagram that is dropped does not break the silence

abbrev octets_of_nothing : EventModel
octets_of_nothing = forge_sign (codes "nothing")

abbrev a_response : EventModel
a_response = request Response []

dropped_before : report (one_minute ∷ seconds 30 ++ octets_of_nothing ∷ a_response ∷ seconds 29)
    ≡ blank_report (codes "62") (codes "10")
unfolding report hex request
dropped_before = refl

dropped_after : report (one_minute ∷ seconds 30 ++ octets_of_nothing ∷ a_response ∷ seconds 30)
    ≡ blank_report (codes "63") (codes "12")
unfolding report hex request
dropped_after = refl

-- ---- a datagram that is answered does

-- the blank message is up with this mode
abbrev blank_up : ℕ → Seen
blank_up mode = record { memory = 7; number = 1; text = []; mode = mode; minutes = 65535 }

abbrev asks : EventModel
asks = request Get (record { name = object_name 6 7; value = null } ∷ [])

answered_before : seen (after bench (one_minute ∷ seconds 59 ++ asks ∷ seconds 59)) ≡ blank_up 10
unfolding after hex request
answered_before = refl

answered_after : seen (after bench (one_minute ∷ seconds 59 ++ asks ∷ seconds 60)) ≡ blank_up 12
unfolding after hex request
answered_after = refl

-- a request that is refused too
refused_before : seen (after bench (one_minute ∷ seconds 59 ++ sets (set_number 6 7 1) ∷ seconds 59)) ≡ blank_up 10
unfolding after hex request
refused_before = refl

-- ---- what comes up

-- the permanent message, for five minutes
abbrev permanent_for_five : EventModel
permanent_for_five = sets (set_code 6 3 (codes "0005640200017502c0000201"))

-- a code of what is shown keeps it, without an end
kept : seen (after bench (permanent_for_five ∷ one_minute ∷ sets (set_code 6 12 (codes "0500010000")) ∷ seconds 60))
    ≡ record { memory = 2; number = 1; text = codes "B"; mode = 12; minutes = 65535 }
unfolding after hex request
kept = refl

-- the permanent message, for one minute
abbrev permanent_for_one : EventModel
permanent_for_one = sets (set_code 6 3 (codes "0001640200017502c0000201"))

-- where the duration ends in the same second, the silence comes after it
both_at_once : seen (after bench (one_minute ∷ permanent_for_one ∷ seconds 60)) ≡ blank_up 12
unfolding after hex request
both_at_once = refl

-- It acts once: what is put up then stays.
acts_once : (after bench (one_minute ∷ seconds 70)).sign.silent_seconds ≡ 60
unfolding after hex
acts_once = refl

-- ---- the return of the power begins the silence again, where the power was off

power_breaks_it : seen (after bench (one_minute ∷ seconds 59 ++ power_lost ∷ power_back 1 ∷ seconds 59)) ≡ blank_up 10
unfolding after hex
power_breaks_it = refl

power_that_was_on : seen (after bench (one_minute ∷ seconds 59 ++ power_back 1 ∷ seconds 1)) ≡ blank_up 12
unfolding after hex
power_that_was_on = refl

-- ---- its objects

-- after dmsShortPowerLossTime.0 comes dmsCommunicationsLossMessage.0
walks_on : (after bench (request GetNext (record { name = object_name 6 10; value = null } ∷ []) ∷ [])).to_centre
    ≡ (canonical (record {
      community = codes "admin";
      kind = Response;
      request = pos 9;
      status = pos 0;
      index = pos 0;
      bindings = record { name = object_name 6 12; value = octet_string (hex (codes "0700010000")) } ∷ [];
    })) ∷ []
unfolding after request hex
walks_on = refl
