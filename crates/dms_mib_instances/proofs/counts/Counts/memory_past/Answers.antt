use Rattle.std.proofs.Common.{◌≡◌, ◌+◌, ◌<◌, ℕ, Bool, false, List, drop, find, get_or, length, refl, sym, ◌∙◌, drop-cons, add-one, arith}
use Rattle.dms_codes.specs.declared.memory.Memory.{Memory}
use Rattle.dms_mib_instances.specs.Objects.{every_memory}
use Rattle.dms_mib_instances.specs.Places.{is_past}
use Rattle.dms_mib_instances.proofs.counts.Counts.memory_past.Goals as goal

one_less : (test : Memory → Bool) (memories : List Memory) (i : ℕ) (other : Memory) → i < length memories → test (get_or memories i other) ≡ false
    → find test (drop (i + 1) memories) ≡ find test (drop i memories)
one_less test memories i other within not = rw (drop-cons memories i other, not, add-one) refl

pub loop-memory-preserved : goal.loop-memory-preserved
loop-memory-preserved c =
    one_less (is_past c.args.self.now c.args.number) every_memory c.loop-memory.memory-index _ (omega arith) (sym c.is_past.ensures ∙ c.if-is_past.false)
    ∙ c.loop-memory.invariant
