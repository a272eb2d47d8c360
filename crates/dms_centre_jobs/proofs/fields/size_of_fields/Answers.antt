use Rattle.std.proofs.Common.{ℕ, List, pos, length, ap, ◌∙◌, arith}
use Rattle.dms_wire.specs.Message.{integer, octet_string}
use Rattle.dms_wire.specs.Canonical.{binding_octets}
use Rattle.dms_mib.specs.declared.column.Column.TheVariants.{MultiString, Owner, Beacon, PixelService, RunTimePriority}
use Rattle.dms_centre_jobs.specs.CodeView.{field_of}
use Rattle.dms_centre_jobs.proofs.ShortFields.{sum_five}
use Rattle.dms_centre_jobs.proofs.fields.size_of_fields.Goals as goal

pub returns-clause-exact : goal.returns-clause-exact
returns-clause-exact c row short =
    let written = c.args.fields.now in
    let text = c.size_of_octets_field.ensures.exact row MultiString short
    ∙ ap (λ (text : List ℕ). length (binding_octets (field_of row MultiString (octet_string text)))) c.as_slice.ensures.value in
    let owner = c.size_of_octets_field-2.ensures.exact row Owner short
    ∙ ap (λ (owner : List ℕ). length (binding_octets (field_of row Owner (octet_string owner)))) c.as_slice-2.ensures.value in
    let all = sum_five (binding_octets (field_of row MultiString (octet_string written.text.items))) (binding_octets (field_of row Owner (octet_string written.owner.items)))
    (binding_octets (field_of row Beacon (integer (pos written.attributes.beacon)))) (binding_octets (field_of row PixelService (integer (pos written.attributes.pixel))))
    (binding_octets (field_of row RunTimePriority (integer (pos written.attributes.run_priority)))) in
    omega (
      arith,
      text,
      owner,
      c.size_of_number_field.ensures.exact row Beacon short,
      c.size_of_number_field-2.ensures.exact row PixelService short,
      c.size_of_number_field-3.ensures.exact row RunTimePriority short,
      all,
    )
