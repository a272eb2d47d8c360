use Rattle.std.proofs.Common.{◌≡◌, find, drop}
use Rattle.dms_mib_instances.specs.Objects.{every_memory}
use Rattle.dms_mib_instances.specs.Places.{is_past}
use Rattle.dms_mib_instances.proofs.counts.Counts.memory_past.Given as goal

abbrev pub invariant-loop-memory : goal.invariant-loop-memory
invariant-loop-memory l =
    find (is_past l.self l.number) (drop l.memory-index l.memory-items) ≡ find (is_past l.self l.number) every_memory
