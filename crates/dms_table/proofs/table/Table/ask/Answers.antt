use Rattle.std.proofs.Common.{length, ap, arith}
use Rattle.dms_table.specs.Rows.{asked_row}
use Rattle.dms_table.proofs.EmptyRows.{asked_empty, both_changed}
use Rattle.dms_table.proofs.Places.{asked_place}
use Rattle.dms_table.proofs.Writables.{are_lent, table_by}
use Rattle.dms_table.proofs.table.Table.ask.Goals as goal

pub invariant_of-self-2 : goal.invariant_of-self-2
invariant_of-self-2 c =
    let all = c.self.inside.writable in
    let lent = are_lent c.in-Some.memory all c.ask.new.self in
    let changed = rw c.of_mut.ensures.value at c.in_ok-index.ensures.ok in
    let empty = both_changed c.in-Some.memory all.changeable all.volatile c.ask.new.self c.args.id.number (asked_row c.args.ask) (asked_empty c.args.ask)
    c.self.invariant.changeable_empty c.self.invariant.volatile_empty changed in
    rw (lent.changeable, lent.volatile) (record {
      placed = grind (arith, table_by, asked_place);
      changeable_empty = empty.changeable_empty;
      volatile_empty = empty.volatile_empty;
    })
