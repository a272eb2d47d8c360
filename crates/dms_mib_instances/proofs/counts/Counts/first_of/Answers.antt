use Rattle.std.proofs.Common.{refl, arith, ◌∙◌}
use Rattle.dms_codes.specs.declared.memory.Memory.TheVariants.{Blank}
use Rattle.dms_mib.specs.Names.{column_number}
use Rattle.dms_mib_instances.proofs.Cells.{cell_next, column_itself}
use Rattle.dms_mib_instances.proofs.counts.Counts.first_of.Goals as goal

-- there is blank message 1
pub returns-in_err-row : goal.returns-in_err-row
returns-in_err-row c =
    absurd (omega (
      arith,
      c.in_err-row.ensures.none (record { memory = 7; number = 1 })
          (record { memory = Blank; of_memory = refl; from_1 = omega arith; to = omega arith }),
    ))

pub returns : goal.returns
returns c = λ table has.
    cell_next table c.args.self.now has c.are_octets.ensures
    c.args.column 0 255 (omega arith) c.in_ok-row.row c.in_ok-row.ensures.some
    ∙ column_itself table c.args.self.now has (column_number c.args.column) 255
