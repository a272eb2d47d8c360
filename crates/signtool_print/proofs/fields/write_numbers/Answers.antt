use Rattle.std.proofs.Common.{codes, rules, w64, SFits}
use Rattle.signtool_print.specs.DatagramLines.{field_line}
use Rattle.signtool_print.proofs.Appended.{three, field_written}
use Rattle.signtool_print.proofs.fields.write_numbers.Goals as goal

pub returns : goal.returns
returns c =
    let request : SFits w64 c.args.message.now.request = search rules in
    let status : SFits w64 c.args.message.now.status = search rules in
    let index : SFits w64 c.args.message.now.index = search rules in
    three c.args.lines.now.items c.write_field.new.lines.items c.write_field-2.new.lines.items c.write_field-3.new.lines.items
    (field_line (codes "request-id") c.args.message.now.request) (field_line (codes "error-status") c.args.message.now.status)
    (field_line (codes "error-index") c.args.message.now.index)
    (field_written _ _ (codes "request-id") c.args.message.now.request request c.in_ok-write_field.ensures)
    (field_written _ _ (codes "error-status") c.args.message.now.status status c.in_ok-write_field-2.ensures)
    (field_written _ _ (codes "error-index") c.args.message.now.index index c.in_ok-write_field-3.ensures)
