use Rattle.std.proofs.Common.{◌≡◌}
use Rattle.dms_wire.specs.Message.{SnmpMessage}
use Rattle.dms_wire.specs.Spelling.{Spells}
use Rattle.dms_measures.proofs.dms_measures_walk.Given as goal

-- where the octets spell no message, nothing is summed
abbrev pub invariant-loop : goal.invariant-loop
invariant-loop l = ((m : SnmpMessage) → Spells m l.datagram → ⊥) → l.sum ≡ 0
