use Rattle.std.proofs.Common.{◌≤◌, List, length, refl, sym, ap, subst, ◌∙◌}
use Rattle.dms_wire.specs.Message.{VarBind}
use Rattle.dms_wire.specs.declared.message.Kind.TheVariants as kinds
use Rattle.dms_wire.specs.Canonical.{canonical}
use Rattle.dms_wire_ber.specs.Limits.{longest_datagram}
use Rattle.dms_centre_jobs.specs.CodeView.{asking}
use Rattle.dms_centre_jobs.proofs.Written.{published_fields}
use Rattle.dms_centre_jobs.proofs.request.put_fields.Goals as goal

pub put_short_fields-requires-clause-fits : goal.put_short_fields-requires-clause-fits
put_short_fields-requires-clause-fits c =
    let same = published_fields _ _ c.work.inside.fields _ c.row-row.result _ _ c.if-work.true c.work.view_is c.row-row.ensures refl refl in
    subst (λ (bindings : List VarBind). length (canonical (asking c.args.community.now kinds.Set c.args.number bindings)) ≤ longest_datagram) (sym same) c.requires

pub returns-then-is_short : goal.returns-then-is_short
returns-then-is_short c =
    let same = published_fields _ _ c.work.inside.fields _ c.row-row.result _ _ c.if-work.true c.work.view_is c.row-row.ensures refl refl in
    c.put_short_fields.ensures ∙ ap (λ (bindings : List VarBind). canonical (asking c.args.community.now kinds.Set c.args.number bindings)) same
