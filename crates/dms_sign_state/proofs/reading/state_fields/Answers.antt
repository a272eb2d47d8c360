use Rattle.std.proofs.Common.{◌≡◌, subst}
use Rattle.dms_sign_state.specs.declared.field.UnreadSignField.{UnreadSignField}
use Rattle.dms_sign_state.specs.declared.field.UnreadSignField.TheVariants as unread
use Rattle.dms_sign_state.specs.WordReading.{Fails}
use Rattle.dms_sign_state.specs.FieldReading.{fields_at}
use Rattle.dms_sign_state.proofs.StateForms.{fields_found, only_these, none_lacks, fault_is}
use Rattle.dms_sign_state.proofs.reading.state_fields.Goals as goal

pub fault_of-requires : goal.fault_of-requires
fault_of-requires c =
    let error : c.in-Err-Lacks.field-0 ≡ unread.Lacks c.in-Err-Lacks.lack = cc (c.in-Err-Lacks.is, c.in-Err-Lacks.field-0-is, c.in-Err-Lacks.lack-is) in
    let e = subst (λ (u : UnreadSignField). Fails u (fields_at c.args.text.now)) error c.in-Err-Lacks.ensures in
    (fault_is c.args.text.now c.in-Err-Lacks.lack e).within

pub returns-in-Ok-clause-found : goal.returns-in-Ok-clause-found
returns-in-Ok-clause-found c = fields_found c.args.text.now c.in-Ok.fields c.in-Ok.ensures

pub returns-in-Ok-clause-only : goal.returns-in-Ok-clause-only
returns-in-Ok-clause-only c = only_these c.args.text.now c.in-Ok.fields c.in-Ok.ensures

pub returns-in-Err-Lacks : goal.returns-in-Err-Lacks
returns-in-Err-Lacks c =
    let error : c.in-Err-Lacks.field-0 ≡ unread.Lacks c.in-Err-Lacks.lack = cc (c.in-Err-Lacks.is, c.in-Err-Lacks.field-0-is, c.in-Err-Lacks.lack-is) in
    let e = subst (λ (u : UnreadSignField). Fails u (fields_at c.args.text.now)) error c.in-Err-Lacks.ensures in
    record {
      found = tt;
      only = none_lacks c.args.text.now c.in-Err-Lacks.lack e;
      fault = (fault_is c.args.text.now c.in-Err-Lacks.lack e).fault c.fault_of.result c.fault_of.ensures.wanted c.fault_of.ensures.line;
    }
