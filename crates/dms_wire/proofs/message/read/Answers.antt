use Rattle.std.proofs.Common.{◌↔◌, ℕ, List, Result, IsOk, arith}
use Rattle.std.specs.Int.Digits.{AllBelowBase}
use Rattle.dms_wire_ber.specs.declared.fault.WireFault.{WireFault}
use Rattle.dms_wire.specs.declared.message.Message.{Message}
use Rattle.dms_wire.specs.Message.{SnmpMessage}
use Rattle.dms_wire_ber.specs.Reading.{Gives}
use Rattle.dms_wire.specs.Reading.{message_at}
use Rattle.dms_wire.specs.Spelling.{Spells}
use Rattle.dms_wire.specs.View.{snmp_message}
use Rattle.dms_wire.proofs.Messages.{message_too_long, message_trailing, message_truncated}
use Rattle.dms_wire.proofs.Promises.{octets_fit, is_found, is_only, is_none, is_fault}
use Rattle.dms_wire.proofs.message.read.Goals as goal

is_accepted : (bytes : List ℕ) (r : Result Message WireFault) → AllBelowBase 256 bytes → Gives snmp_message r (message_at bytes)
    → IsOk r ↔ ((m : SnmpMessage) × Spells m bytes)
is_accepted bytes r octets gives = grind (arith, is_found, is_none)

pub returns-clause-accepts : goal.returns-clause-accepts
returns-clause-accepts c = grind (arith, is_accepted, octets_fit)

pub returns-clause-found : goal.returns-clause-found
returns-clause-found c = is_found c.args.octets.now _ (octets_fit _ (λ i. (c.type_inv.octets i).fits)) c.read_message.ensures

pub returns-clause-only : goal.returns-clause-only
returns-clause-only c = is_only c.args.octets.now _ c.read_message.ensures

pub returns-clause-none : goal.returns-clause-none
returns-clause-none c = is_none c.args.octets.now _ c.read_message.ensures

pub returns-clause-too_long : goal.returns-clause-too_long
returns-clause-too_long c = λ long. is_fault c.args.octets.now _ _ c.read_message.ensures (message_too_long _ long)

pub returns-clause-truncated : goal.returns-clause-truncated
returns-clause-truncated c = λ m more some spelled. is_fault c.args.octets.now _ _ c.read_message.ensures (message_truncated _ more m spelled some)

pub returns-clause-trailing : goal.returns-clause-trailing
returns-clause-trailing c = λ m front more parts some small spelled.
    is_fault c.args.octets.now _ _ c.read_message.ensures
    (rw parts (message_trailing front more m spelled some (rw parts at small)))
