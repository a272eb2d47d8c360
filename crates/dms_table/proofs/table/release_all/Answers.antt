use Rattle.std.proofs.Common.{◌∙◌, arith}
use Rattle.dms_table.specs.Rows.{released}
use Rattle.dms_codes.proofs.Loops.{mapped_more, mapped_all}
use Rattle.dms_table.proofs.table.release_all.Goals as goal

pub loop-row-preserved : goal.loop-row-preserved
loop-row-preserved c =
    mapped_more released c.loop-row.row-index c.args.rows.now c.loop-row.rows c.row-item.result c.release.new.self c.loop-row.invariant c.release.ensures

pub returns : goal.returns
returns c = c.loop-row.invariant ∙ mapped_all released c.loop-row.row-index c.args.rows.now (omega arith)
