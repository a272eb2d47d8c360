use Rattle.std.proofs.Common.{◌∙◌}
use Rattle.dms_wire.specs.Message.{octet_string}
use Rattle.dms_centre_jobs.proofs.ShortFields.{field_size}
use Rattle.dms_centre_jobs.proofs.fields.size_of_octets_field.Goals as goal

pub returns-clause-exact : goal.returns-clause-exact
returns-clause-exact c row column short =
    c.size_of_element.ensures.exact ∙ field_size column row (octet_string c.args.octets.now) _ short (c.size_of_octets.ensures.exact 4)
