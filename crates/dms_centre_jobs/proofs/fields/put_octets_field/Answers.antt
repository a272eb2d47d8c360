use Rattle.std.proofs.Common.{ℕ, List, [], ◌++◌, length, ap, ◌∙◌, arith, length-append}
use Rattle.dms_wire.specs.Message.{octet_string}
use Rattle.dms_wire_ber.specs.Element.{element}
use Rattle.dms_centre_jobs.proofs.ShortFields.{named, field_size, field_room, field_put}
use Rattle.dms_centre_jobs.proofs.fields.put_octets_field.Goals as goal

pub put_head-requires : goal.put_head-requires
put_head-requires c =
    omega (arith, c.requires.room, field_size c.args.column c.args.row (octet_string c.args.octets.now) _ c.requires.short (c.size_of_octets.ensures.exact 4))

pub put_content-requires : goal.put_content-requires
put_content-requires c =
    omega (arith, field_room _ c.args.column c.args.row _ (octet_string c.args.octets.now) _ c.requires.short (c.size_of_octets.ensures.exact 4) c.requires.room c.put_head.ensures)

pub put_octets-requires : goal.put_octets-requires
put_octets-requires c =
    let room = field_room _ c.args.column c.args.row _ (octet_string c.args.octets.now) _ c.requires.short (c.size_of_octets.ensures.exact 4) c.requires.room c.put_head.ensures in
    omega (
      arith,
      room,
      c.size_of_octets.ensures.exact 4,
      ap length c.put_content.ensures,
      length-append c.put_head.new.out.items (named c.number.result c.args.row []),
    )

pub returns : goal.returns
returns c =
    c.put_octets.ensures
    ∙ ap (λ (before : List ℕ). before ++ element 4 c.args.octets.now)
    (c.put_content.ensures ∙ ap (λ (before : List ℕ). before ++ named c.number.result c.args.row []) c.put_head.ensures)
    ∙ field_put c.args.out.now.items c.args.column c.args.row c.number.result _ (octet_string c.args.octets.now) c.number.ensures c.requires.short
    (c.size_of_octets.ensures.exact 4)
