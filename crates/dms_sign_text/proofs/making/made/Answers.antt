use Rattle.std.proofs.Common.{subst, ap, map, ◌∙◌}
use Rattle.std.specs.Prelude.{IfOk}
use Rattle.dms_table.specs.Stock.{permanent_row}
use Rattle.dms_sign_text.specs.Description.{Description}
use Rattle.dms_sign_text.specs.Views.{MadeOrRefused}
use Rattle.dms_sign_text.proofs.MadeLaws.{described_alike}
use Rattle.dms_sign_text.proofs.making.made.Goals as goal

pub returns-in_ok-permanent-in-Ok : goal.returns-in_ok-permanent-in-Ok
returns-in_ok-permanent-in-Ok c =
    subst (λ (it : Description). IfOk c.made_of.result (MadeOrRefused it))
    (described_alike c.args.head.now c.as_slice.result.now c.args.rows.now c.args.fonts.items c.in-Ok.face c.in-Ok.ensures (ap (map permanent_row) c.as_slice.ensures.value ∙ c.in_ok-permanent-in-Ok.ensures))
    c.made_of.ensures
