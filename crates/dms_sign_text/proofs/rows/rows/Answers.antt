use Rattle.std.proofs.Common.{ap, sym, ◌∙◌}
use Rattle.std.specs.Prelude.{option_map}
use Rattle.dms_sign_text.specs.Views.{row_seen}
use Rattle.dms_sign_text.proofs.LastLines.{leaves_after}
use Rattle.dms_sign_text.proofs.RowReading.{row_on}
use Rattle.dms_sign_text.proofs.rows.rows.Goals as goal

pub loop-line-preserved : goal.loop-line-preserved
loop-line-preserved c = (
  row_on _ _ c.in-Some-2.row _ _ _ _ c.in-Some.line.now c.loop-line.invariant.0 c.in-Some.ensures.line (ap (option_map row_seen) (sym c.in-Some-2.is) ∙ c.in_ok-row.ensures)
      c.in_ok-push-in-Some-2.ensures.items c.advance.ensures.octets,
  leaves_after _ _ _ c.loop-line.invariant.1 c.advance.ensures.lines,
)
