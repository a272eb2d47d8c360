use Rattle.std.proofs.Common.{sym, ◌∙◌, arith}
use Rattle.dms_wire.specs.View.{object_value}
use Rattle.dms_sign_access.proofs.WrittenObjects.{number_setting, code_setting}
use Rattle.dms_sign_access.proofs.access.setting.Goals as goal

pub returns-in-Range-clause-exact : goal.returns-in-Range-clause-exact
returns-in-Range-clause-exact c =
    c.number.ensures.exact
    ∙ number_setting c.args.face.now c.args.object (object_value c.args.value.now) c.in-Range.low c.in-Range.high (grind arith) c.requires
    (sym c.in-Range.is ∙ c.value_syntax.ensures)

pub returns-in-Octets-clause-exact : goal.returns-in-Octets-clause-exact
returns-in-Octets-clause-exact c =
    c.code.ensures.exact
    ∙ code_setting c.args.face.now c.args.object (object_value c.args.value.now) c.in-Octets.field-0 c.in-Octets.field-1 c.requires
    (sym c.in-Octets.is ∙ c.value_syntax.ensures)
