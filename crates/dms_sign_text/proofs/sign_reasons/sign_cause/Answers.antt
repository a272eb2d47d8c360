use Rattle.std.proofs.Common.{map, ap, ◌∙◌}
use Rattle.dms_table.specs.Stock.{permanent_row}
use Rattle.dms_sign_text.specs.Description.{Description}
use Rattle.dms_sign_text.specs.DescriptionReading.{described}
use Rattle.dms_sign_text.specs.Views.{head_seen, row_seen}
use Rattle.dms_sign_text.specs.Causes.{table_cause, face_then}
use Rattle.dms_sign_text.proofs.MadeLaws.{described_alike}
use Rattle.dms_sign_text.proofs.sign_reasons.sign_cause.Goals as goal

pub returns-in_ok-permanent-in-Ok : goal.returns-in_ok-permanent-in-Ok
returns-in_ok-permanent-in-Ok c =
    let it : Description = described (head_seen c.args.head.now) (map row_seen c.args.rows.now) c.args.fonts.items in
    c.table_cause.ensures
    ∙ ap table_cause (described_alike c.args.head.now c.as_slice-in-Ok.result.now c.args.rows.now c.args.fonts.items c.in-Ok.face c.in-Ok.ensures (ap (map permanent_row) c.as_slice-in-Ok.ensures.value ∙ c.in_ok-permanent-in-Ok.ensures))
    ∙ ap (face_then it) c.in-Ok.ensures
