-- Reading computes the message that octets spell, and no other.
use Rattle.std.proofs.Common.{◌≡◌, ◌↔◌, ℕ, Bool, true, cond, List, [], ◌∷◌, Some, None, Result, Ok, refl, ltb, ltb-true, lt-ltb, arith}
use Rattle.std.specs.Result.{result_ok}
use Rattle.std.proofs.lemmas.Bool.{and_parts, and_from}
use Rattle.std.specs.Int.Digits.{AllBelowBase}
use Rattle.dms_wire_ber.specs.declared.fault.WireFault.{WireFault}
use Rattle.dms_wire.specs.Message.{SnmpMessage}
use Rattle.dms_wire.specs.Spelling.{Spells}
use Rattle.dms_wire.specs.Reading.{message_at}
use Rattle.dms_wire.specs.MessageOf.{are_octets, message_of}
use Rattle.dms_wire.proofs.Messages.{message_found, message_only}

octets_tested : (bytes : List ℕ) → are_octets bytes ≡ true → AllBelowBase 256 bytes
octets_tested [] test = tt
octets_tested (b ∷ bs) test =
    let parts = and_parts (ltb b 256) (are_octets bs) test in (ltb-true b 256 parts.0, octets_tested bs parts.1)

octets_pass : (bytes : List ℕ) → AllBelowBase 256 bytes → are_octets bytes ≡ true
octets_pass [] below = refl
octets_pass (b ∷ bs) below = and_from (ltb b 256) (are_octets bs) (lt-ltb b 256 below.0) (octets_pass bs below.1)

message_of_is : (bytes : List ℕ) → message_of bytes ≡ cond (are_octets bytes) (result_ok (message_at bytes)) None
unfolding message_of
message_of_is bytes = refl

-- octets that are below 256 need no test
pub message_of_octets : (bytes : List ℕ) → AllBelowBase 256 bytes → message_of bytes ≡ result_ok (message_at bytes)
message_of_octets bytes below = rw (message_of_is, octets_pass bytes below) refl

-- a test that was passed, and a result that is no error
some_parts : (test : Bool) (read : Result SnmpMessage WireFault) (m : SnmpMessage) → cond test (result_ok read) None ≡ Some m → (test ≡ true) × (read ≡ Ok m)
some_parts test read m e = grind arith

read_spells : (octets : List ℕ) (m : SnmpMessage) → message_of octets ≡ Some m → Spells m octets
read_spells octets m read =
    let parts = some_parts (are_octets octets) (message_at octets) m (rw message_of_is at read) in
    message_found octets m (octets_tested octets parts.0) parts.1

spelled_read : (octets : List ℕ) (m : SnmpMessage) → Spells m octets → message_of octets ≡ Some m
spelled_read octets m spells = rw (message_of_is, octets_pass octets spells.octets, message_only octets m spells)

pub read_is_spelled : (octets : List ℕ) (m : SnmpMessage) → (message_of octets ≡ Some m) ↔ Spells m octets
read_is_spelled octets m = (read_spells octets m, spelled_read octets m)
