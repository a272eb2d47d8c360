use Rattle.std.proofs.Common.{arith, append_assoc}
use Rattle.dms_wire.specs.View.{binding_of}
use Rattle.dms_wire.proofs.ShortPrefixes.{small_binding}
use Rattle.dms_wire.proofs.binding.put_small_binding.Goals as goal

pub returns : goal.returns
returns c =
    rw (small_binding (binding_of c.args.name.now c.args._value.now) c.args.octet c.requires.value c.requires.small c.requires.short)
    (grind (arith, append_assoc))
