use Rattle.std.proofs.Common.{◌∙◌, ap}
use Rattle.signtool_print.specs.ObjectNames.{name_among}
use Rattle.dms_mib.specs.Objects.{objects}
use Rattle.signtool_print.proofs.Named.{is_name, has_none}
use Rattle.signtool_print.proofs.names.object_name.Goals as goal

-- the table of the code is that of the definitions
pub returns-clause-named : goal.returns-clause-named
returns-clause-named c =
    is_name objects c.args.group c.args.number c.name_among.result
    (c.name_among.ensures ∙ ap (λ rows. name_among rows c.args.group c.args.number) c.objects_are_the_table.ensures)

pub returns-clause-none : goal.returns-clause-none
returns-clause-none c =
    has_none objects c.args.group c.args.number c.name_among.result
    (c.name_among.ensures ∙ ap (λ rows. name_among rows c.args.group c.args.number) c.objects_are_the_table.ensures)

pub returns-clause-first : goal.returns-clause-first
returns-clause-first c = c.name_among.ensures ∙ ap (λ rows. name_among rows c.args.group c.args.number) c.objects_are_the_table.ensures
