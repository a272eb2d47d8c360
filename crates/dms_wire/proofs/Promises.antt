-- What the exact clause of the reading says in the words of `read`'s contract.
use Rattle.std.proofs.Common.{◌≡◌, ℕ, ◌<◌, suc, List, [], ◌∷◌, get_or, Result, Ok, Err, IfOk, OnErr, Option, IfSome, sym, ap, ◌∙◌, arith}
use Rattle.std.specs.Option.{option_map}
use Rattle.std.specs.Result.{result_ok}
use Rattle.std.specs.Int.Digits.{AllBelowBase}
use Rattle.dms_wire_ber.specs.declared.fault.WireFault.{WireFault}
use Rattle.dms_wire.specs.declared.message.Message.{Message}
use Rattle.dms_wire.specs.Message.{SnmpMessage}
use Rattle.dms_wire.specs.Spelling.{Spells}
use Rattle.dms_wire_ber.specs.Reading.{Gives}
use Rattle.dms_wire.specs.Reading.{message_at}
use Rattle.dms_wire.specs.View.{snmp_message}
use Rattle.dms_wire.specs.MessageOf.{message_of}
use Rattle.dms_wire_ber.proofs.Elements.{ok_is, not_ok}
use Rattle.dms_wire.proofs.Messages.{message_found, message_only}
use Rattle.dms_wire.proofs.MessageOfLaws.{message_of_octets}

pub octets_fit : (bs : List ℕ) → ((i : ℕ) → get_or bs i 0 < 256) → AllBelowBase 256 bs
octets_fit [] fit = tt
octets_fit (b ∷ bs) fit = (fit 0, octets_fit bs (λ i. fit (suc i)))

pub is_found : (bytes : List ℕ) (r : Result Message WireFault) → AllBelowBase 256 bytes → Gives snmp_message r (message_at bytes)
    → IfOk r (λ m. Spells (snmp_message m) bytes)
is_found bytes r octets gives = grind (arith, message_found)

pub is_only : (bytes : List ℕ) (r : Result Message WireFault) → Gives snmp_message r (message_at bytes) → (m : SnmpMessage) → Spells m bytes
    → Gives snmp_message r (Ok m)
is_only bytes (Ok x) gives m s = sym (message_only bytes m s) ∙ gives
is_only bytes (Err f) gives m s = sym (message_only bytes m s) ∙ gives

pub is_none : (bytes : List ℕ) (r : Result Message WireFault) → Gives snmp_message r (message_at bytes)
    → OnErr r ((m : SnmpMessage) → Spells m bytes → ⊥)
is_none bytes (Ok x) gives = tt
is_none bytes (Err f) gives = λ m s. not_ok f m (sym gives ∙ message_only bytes m s)

abbrev refused : WireFault → Result SnmpMessage WireFault
refused f = Err f

abbrev refusal : WireFault → Result Message WireFault
refusal f = Err f

same_fault : (g f : WireFault) → refused g ≡ refused f → refusal g ≡ refusal f
same_fault g f h = cc

pub is_fault : (bytes : List ℕ) (r : Result Message WireFault) (f : WireFault) → Gives snmp_message r (message_at bytes)
    → message_at bytes ≡ Err f → r ≡ Err f
is_fault bytes r f gives h = grind arith

-- octets spell one message at most
pub one_spelled : (m n : SnmpMessage) (bytes : List ℕ) → Spells m bytes → Spells n bytes → m ≡ n
one_spelled m n bytes first second = ok_is m n (sym (message_only bytes m first) ∙ message_only bytes n second)

-- a reading as an option: the message, or none
heard_is : (r : Result Message WireFault) (read : Result SnmpMessage WireFault) → Gives snmp_message r read → option_map snmp_message (result_ok r) ≡ result_ok read
heard_is r read gives = grind arith

pub is_heard : (bytes : List ℕ) (r : Result Message WireFault) (o : Option Message) → o ≡ result_ok r → AllBelowBase 256 bytes
    → Gives snmp_message r (message_at bytes) → option_map snmp_message o ≡ message_of bytes
is_heard bytes r o is octets gives = ap (option_map snmp_message) is ∙ heard_is r (message_at bytes) gives ∙ sym (message_of_octets bytes octets)

spelled_if : (bytes : List ℕ) (r : Result Message WireFault) → IfOk r (λ m. Spells (snmp_message m) bytes) → IfSome (result_ok r) (λ m. Spells (snmp_message m) bytes)
spelled_if bytes r found = grind arith

pub is_heard_spelled : (bytes : List ℕ) (r : Result Message WireFault) (o : Option Message) → o ≡ result_ok r
    → IfOk r (λ m. Spells (snmp_message m) bytes) → IfSome o (λ m. Spells (snmp_message m) bytes)
is_heard_spelled bytes r o is found = rw is (spelled_if bytes r found)
