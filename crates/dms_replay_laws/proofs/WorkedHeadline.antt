-- The parts of the headline on given runs of the bench sign, each with its witnesses.
use Rattle.std.proofs.Common.{◌≡◌, List, [], ◌∷◌, ◌++◌, slice_get, Some, refl, arith}
use Rattle.std.specs.Prelude.{pos, codes}
use Rattle.dms_wire.specs.declared.error_status.ErrorStatus.TheVariants.{GenErr}
use Rattle.dms_codes.specs.declared.codes.Order.TheVariants.{High}
use Rattle.dms_codes.specs.declared.codes.Activation.{Activation}
use Rattle.dms_codes.specs.declared.status.Status.TheVariants.{Valid}
use Rattle.dms_codes.specs.Codes.{activation_of, octets_of_activation}
use Rattle.dms_sign.specs.Requests.{answer_of_any_size}
use Rattle.dms_centre.specs.declared.outcome.Outcome.TheVariants.{Accepted, Refused}
use Rattle.dms_centre.specs.State.{Entry}
use Rattle.dms_wire.specs.declared.message.Kind.TheVariants.{Set}
use Rattle.dms_wire.specs.Message.{octet_string, SnmpMessage}
use Rattle.dms_wire.specs.Canonical.{canonical}
use Rattle.dms_mib.specs.Names.{activate_message}
use Rattle.dms_table.specs.Rows.{RowModel}
use Rattle.dms_world.specs.Event.{EventModel, sign_tick, centre_tick, to_sign, to_centre}
use Rattle.dms_world.specs.World.{world_at, world_after}
use Rattle.dms_world.specs.Backed.{WasPutUp, WasHeld}
use Rattle.dms_world.specs.Honest.{WasSent, WasOrdered, Carries, shown_checksum}
use Rattle.dms_replay_laws.proofs.BenchWorld.{bench, after, hex, publication, publish, activate, both}

-- ---- "A" is published

abbrev published : List EventModel
published =
    publish (codes "A") 255 (192 ∷ 0 ∷ 2 ∷ 1 ∷ []) ∷ both 0 ++ both 1 ++ both 2 ++ both 3 ++ sign_tick ∷ both 4 ++ both 5 ++ centre_tick ∷ both 6

abbrev code : Activation
code = activation_of High (hex (codes "ffffff0300019a66c0000201"))

abbrev entry : Entry
entry = record { number = 7; code = code; outcome = Accepted }

-- the seventh request
abbrev asked : SnmpMessage
asked = record {
  community = codes "admin";
  kind = Set;
  request = pos 7;
  status = pos 0;
  index = pos 0;
  bindings = record { name = activate_message; value = octet_string (hex (codes "ffffff0300019a66c0000201")) } ∷ [];
}

abbrev row : RowModel
row = record { text = codes "A"; owner = []; beacon = 0; pixel = 0; priority = 200; status = Valid }

-- the ledger has the entry
in_the_ledger : slice_get (world_after bench published).centre.ledger 0 ≡ Some entry
unfolding after hex
in_the_ledger = refl

-- which is that of a command that the centre took
was_ordered : WasOrdered bench published entry
unfolding after hex
was_ordered = record { before = 0; asked = publication (codes "A") 255 (192 ∷ 0 ∷ 2 ∷ 1 ∷ []); event = refl; taken = refl; code = refl }

-- its request was sent by the fifteenth event
was_sent : WasSent bench published 7 15
unfolding after hex
was_sent = record { datagram = canonical asked; there = (6, refl); has_number = record { message = asked; spelled = refl; is = refl } }

-- it carries the code
carried : Carries asked (octets_of_activation High code)
unfolding hex
carried = refl

-- what is shown came by the activation that was accepted at the sixteenth
was_put_up : WasPutUp bench published 17 (world_after bench published).sign.shown.source
unfolding after hex
was_put_up = (16, code, (0, refl), refl)

-- its row held it, once it was valid
was_held : WasHeld bench published 17 (world_after bench published).sign.shown
unfolding after hex
was_held = (10, row, omega arith, refl, record { valid = refl; text = refl; owner = refl; beacon = refl; pixel = refl; priority = refl })

-- what was put up then has its checksum
was_shown : shown_checksum (world_at bench published 16).sign.shown ≡ code.id.crc
unfolding after hex
was_shown = refl

-- ---- an activation that comes twice

abbrev twice : List EventModel
twice = activate (codes "000532020001750200000000") ∷ to_sign 0 ∷ to_sign 0 ∷ to_centre 1 ∷ to_centre 0 ∷ []

abbrev asked_twice : SnmpMessage
asked_twice = record asked { request = pos 1; bindings = record { name = activate_message; value = octet_string (hex (codes "000532020001750200000000")) } ∷ [] }

-- the first is accepted
first_accepted : (world_after bench twice).accepted ≡ (2, activation_of High (hex (codes "000532020001750200000000"))) ∷ []
unfolding after hex
first_accepted = refl

-- the second is refused, since its message is up by then
second_refused : (answer_of_any_size (world_at bench twice 2).sign asked_twice).status ≡ GenErr
unfolding after hex
second_refused = refl

-- and this is what the centre records
recorded : slice_get (world_after bench twice).centre.ledger 0
    ≡ Some (record { number = 1; code = activation_of High (hex (codes "000532020001750200000000")); outcome = Refused (pos 5) })
unfolding after hex
recorded = refl
