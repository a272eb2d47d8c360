use Rattle.std.proofs.Common.{length, ap, arith}
use Rattle.dms_table.specs.RowsView.{field_of}
use Rattle.dms_table.proofs.Places.{written_place}
use Rattle.dms_table.proofs.EmptyRows.{both_written}
use Rattle.dms_table.proofs.Writables.{are_lent}
use Rattle.dms_table.proofs.table.Table.write.Goals as goal

pub invariant_of-self : goal.invariant_of-self
invariant_of-self c =
    let lent = are_lent c.in-Some.memory c.self.inside.writable c.write.new.self in
    let all = c.self.inside.writable in
    let ok = rw c.of_mut.ensures.value at c.write.ensures.ok in
    let unchanged = rw c.of_mut.ensures.value at c.write.ensures.unchanged in
    let empty = both_written c.in-Some.memory (field_of c.args.field) all.changeable all.volatile c.write.new.self c.args.id.number c.write.result
    ok unchanged c.self.invariant.changeable_empty c.self.invariant.volatile_empty in
    rw (lent.changeable, lent.volatile) (record {
      placed = written_place c.in-Some.memory c.self.inside.validating (field_of c.args.field) all.changeable all.volatile c.write.new.self c.args.id.number
          c.write.result ok unchanged c.self.invariant.placed;
      changeable_empty = empty.changeable_empty;
      volatile_empty = empty.volatile_empty;
    })
