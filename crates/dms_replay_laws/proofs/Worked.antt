-- Runs on the bench sign, computed to the octets of their reports.
use Rattle.std.proofs.Common.{◌≡◌, ℕ, List, [], ◌∷◌, ◌++◌, refl}
use Rattle.std.specs.Prelude.{pos, codes}
use Rattle.dms_centre.specs.declared.ended.Ended.TheVariants.{Failed}
use Rattle.dms_centre.specs.declared.ended.Why.TheVariants.{OtherChecksum, Cause}
use Rattle.dms_world.specs.Event.{EventModel, sign_tick, centre_tick, to_sign, to_centre, forge_centre}
use Rattle.dms_replay_laws.proofs.BenchWorld.{bench, after, report, hex, publish, activate, both}

-- ---- a message is published: seven requests, and seven replies

abbrev nobody : List ℕ
nobody = 0 ∷ 0 ∷ 0 ∷ 0 ∷ []

abbrev office : List ℕ
office = 192 ∷ 0 ∷ 2 ∷ 1 ∷ []

-- what follows on the command, up to the acceptance
abbrev up_to_acceptance : List EventModel
up_to_acceptance = both 0 ++ both 1 ++ both 2 ++ both 3 ++ sign_tick ∷ both 4 ++ both 5 ++ centre_tick ∷ both 6

publishing : report (publish (codes "A") 255 office ∷ up_to_acceptance)
    ≡ codes "events 17\n"
    ++ codes "sent 7 7\n"
    ++ codes "shown 3 1 9a66 mode 8 priority 200 remaining 65535 text 41\n"
    ++ codes "accepted 16 ffffff0300019a66c0000201\n"
    ++ codes "ledger 7 ffffff0300019a66c0000201 accepted\n"
unfolding report hex
publishing = refl

-- ---- an old datagram comes between: the row is validated with its old text, and the centre sees the other checksum

abbrev then_another : List EventModel
then_another =
    publish (codes "A") 255 office ∷ both 7 ++ both 8 ++ to_sign 9 ∷ to_sign 2 ∷ to_centre 9 ∷ to_sign 10 ∷ to_centre 11 ∷ sign_tick
    ∷ to_sign 11 ∷ to_centre 12 ∷ to_sign 12 ∷ to_centre 13 ∷ []

abbrev overtaken : List EventModel
overtaken = publish (codes "B") 255 office ∷ up_to_acceptance ++ then_another

sees_the_old_text : (after bench overtaken).centre.last ≡ Failed 6 OtherChecksum
unfolding after
sees_the_old_text = refl

-- its own code is refused then
abbrev insisted : List EventModel
insisted = overtaken ++ activate (codes "ffffff0300019a66c0000201") ∷ to_sign 13 ∷ to_centre 14 ∷ to_sign 14 ∷ to_centre 15 ∷ []

is_refused : report insisted
    ≡ codes "events 37\n"
    ++ codes "sent 15 16\n"
    ++ codes "shown 3 1 7502 mode 8 priority 200 remaining 65535 text 42\n"
    ++ codes "accepted 16 ffffff0300017502c0000201\n"
    ++ codes "ledger 7 ffffff0300017502c0000201 accepted\n"
    ++ codes "ledger 14 ffffff0300019a66c0000201 refused 5\n"
unfolding report hex
is_refused = refl

for_its_checksum : (after bench insisted).sign.reports.activate_error ≡ 7
unfolding after hex
for_its_checksum = refl

as_the_centre_reads : (after bench insisted).centre.last ≡ Failed 7 (Cause (pos 7))
unfolding after hex
as_the_centre_reads = refl

-- ---- an activation that comes twice is accepted once, and the reply that comes first is recorded

twice : report (publish (codes "A") 0 nobody ∷ up_to_acceptance ++ both 7
    ++ activate (codes "00050a0300019a66c0000201") ∷ to_sign 8 ∷ to_sign 8 ∷ to_centre 9 ∷ to_centre 8 ∷ [])
    ≡ codes "events 24\n"
    ++ codes "sent 10 10\n"
    ++ codes "shown 3 1 9a66 mode 8 priority 200 remaining 5 text 41\n"
    ++ codes "accepted 21 00050a0300019a66c0000201\n"
    ++ codes "ledger 7 ffff000300019a6600000000 refused 5\n"
    ++ codes "ledger 9 00050a0300019a66c0000201 refused 5\n"
unfolding report hex
twice = refl

-- ---- a forged reply makes the centre record what never was: so the ledger is true only where nothing is forged

forged : report (activate (codes "ffffff0300019a6600000000") ∷ forge_centre (hex (codes "3017020100040561646d696ea20b0201010201000201003000")) ∷ [])
    ≡ codes "events 2\n"
    ++ codes "sent 1 0\n"
    ++ codes "shown 7 1 0000 mode 10 priority 1 remaining 65535 text -\n"
    ++ codes "ledger 1 ffffff0300019a6600000000 accepted\n"
unfolding report hex
forged = refl
