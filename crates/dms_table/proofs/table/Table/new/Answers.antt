use Rattle.std.proofs.Common.{sym, ◌∙◌}
use Rattle.dms_table.proofs.Stands.{all_ranges, permanent_rows_are_good}
use Rattle.dms_table.proofs.table.Table.new.Goals as goal

pub of_stock-requires : goal.of_stock-requires
of_stock-requires c = all_ranges c.args.face.now c.args.stock (sym c.fault.ensures.first ∙ c.in_default.is)

pub returns-in-Ok-clause-good : goal.returns-in-Ok-clause-good
returns-in-Ok-clause-good c =
    permanent_rows_are_good c.args.face.now c.args.stock c.in-Ok.table (sym c.fault.ensures.first ∙ c.in_default.is) c.in_default.ensures.good c.in-Ok.ensures.made
