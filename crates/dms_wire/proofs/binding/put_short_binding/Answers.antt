use Rattle.std.proofs.Common.{arith, append_assoc}
use Rattle.dms_wire.specs.View.{binding_of}
use Rattle.dms_wire.proofs.ShortPrefixes.{short_binding}
use Rattle.dms_wire.proofs.binding.put_short_binding.Goals as goal

pub returns : goal.returns
returns c =
    rw (short_binding (binding_of c.args.name.now c.args.value.now) c.args.content c.requires.content c.requires.short) (grind (arith, append_assoc))
