use Rattle.std.proofs.Common.{ℕ, length, take, flat_map}
use Rattle.dms_codes.specs.Checksum.{octet_bits}
use Rattle.dms_codes.specs.Register.{TakesIn}
use Rattle.dms_codes.proofs.checksum.crc.Given as goal

-- whatever the rest leaves, the text leaves
abbrev pub invariant-loop-rest : goal.invariant-loop-rest
invariant-loop-rest l = (after : ℕ) → TakesIn (flat_map octet_bits l.rest) l.register after → TakesIn (flat_map octet_bits l.text) 65535 after

abbrev pub decreases-loop-rest : goal.decreases-loop-rest
decreases-loop-rest l = length l.rest

abbrev pub invariant-loop-octet : goal.invariant-loop-octet
invariant-loop-octet l = TakesIn (flat_map octet_bits (take l.octet-index l.octet-items)) l.initial.register l.register
