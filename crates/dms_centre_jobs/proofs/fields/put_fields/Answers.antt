use Rattle.std.proofs.Common.{◌∙◌, ℕ, List, ◌++◌, ap}
use Rattle.dms_wire.specs.Message.{octet_string}
use Rattle.dms_wire.specs.Canonical.{binding_octets}
use Rattle.dms_mib.specs.declared.column.Column.TheVariants.{MultiString, Owner}
use Rattle.dms_centre_jobs.specs.CodeView.{field_of}
use Rattle.dms_centre_jobs.proofs.ShortFields.{room_more, room_one}
use Rattle.dms_centre_jobs.proofs.fields.put_fields.Goals as goal

pub put_number_field-requires-clause-room : goal.put_number_field-requires-clause-room
put_number_field-requires-clause-room c =
    let text = c.put_octets_field.ensures
    ∙ ap (λ (text : List ℕ). c.args.out.now.items ++ binding_octets (field_of c.args.row MultiString (octet_string text))) c.as_slice.ensures.value in
    let owner = c.put_octets_field-2.ensures
    ∙ ap (λ (owner : List ℕ). c.put_octets_field.new.out.items ++ binding_octets (field_of c.args.row Owner (octet_string owner))) c.as_slice-2.ensures.value in
    room_one _ _ _ (room_more _ _ _ _ owner (room_more _ _ _ _ text c.requires.room))

pub put_number_field-requires-2-clause-room : goal.put_number_field-requires-2-clause-room
put_number_field-requires-2-clause-room c =
    let text = c.put_octets_field.ensures
    ∙ ap (λ (text : List ℕ). c.args.out.now.items ++ binding_octets (field_of c.args.row MultiString (octet_string text))) c.as_slice.ensures.value in
    let owner = c.put_octets_field-2.ensures
    ∙ ap (λ (owner : List ℕ). c.put_octets_field.new.out.items ++ binding_octets (field_of c.args.row Owner (octet_string owner))) c.as_slice-2.ensures.value in
    room_one _ _ _ (room_more _ _ _ _ c.put_number_field.ensures (room_more _ _ _ _ owner (room_more _ _ _ _ text c.requires.room)))

pub put_number_field-requires-3-clause-room : goal.put_number_field-requires-3-clause-room
put_number_field-requires-3-clause-room c =
    let text = c.put_octets_field.ensures
    ∙ ap (λ (text : List ℕ). c.args.out.now.items ++ binding_octets (field_of c.args.row MultiString (octet_string text))) c.as_slice.ensures.value in
    let owner = c.put_octets_field-2.ensures
    ∙ ap (λ (owner : List ℕ). c.put_octets_field.new.out.items ++ binding_octets (field_of c.args.row Owner (octet_string owner))) c.as_slice-2.ensures.value in
    room_one _ _ _
    (room_more _ _ _ _ c.put_number_field-2.ensures (room_more _ _ _ _ c.put_number_field.ensures (room_more _ _ _ _ owner (room_more _ _ _ _ text c.requires.room))))
