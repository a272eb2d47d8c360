use Rattle.std.proofs.Common.{◌∙◌, ap}
use Rattle.dms_wire.specs.Written.{octets_of_bindings}
use Rattle.dms_centre_jobs.proofs.Written.{pushed_five, published_fields}
use Rattle.dms_centre_jobs.proofs.request.push_fields.Goals as goal

pub returns : goal.returns
returns c =
    let pushed = pushed_five _ _ _ _ _ _ _ _ _ _ _ c.requires c.push_octets.ensures c.push_octets-2.ensures c.push_number.ensures c.push_number-2.ensures c.push_number-3.ensures in
    pushed ∙ ap octets_of_bindings
    (published_fields _ _ c.work.inside.fields _ c.row-row.result _ _ c.if-not-work.false c.work.view_is c.row-row.ensures c.as_slice.ensures.value c.as_slice-2.ensures.value)
