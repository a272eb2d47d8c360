use Rattle.std.proofs.Common.{refl, arith}
use Rattle.dms_mib.proofs.NameLaws.{cell_named}
use Rattle.dms_mib.proofs.SubIdentifiers.{one_octet}
use Rattle.dms_mib.proofs.name.of_short_cell.Goals as goal

pub invariant_of-result : goal.invariant_of-result
invariant_of-result c = (
  omega arith,
  cell_named c.args.column (record { memory = c.args.memory; number = c.from.result }) _ (omega arith) (omega arith)
      (rw (c.number-entry.ensures, c.from.ensures, one_octet c.args.memory c.requires.memory, one_octet c.args.number c.requires.number) refl),
)
