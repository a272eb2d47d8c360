-- A decision is a judgement, and then what the code puts up.
use Rattle.std.proofs.Common.{◌≡◌, Option, Some, None, Ok, Err, refl, arith}
use Rattle.dms_face.specs.declared.defaults.Defaults.{Defaults}
use Rattle.dms_face.specs.Face.{FaceModel}
use Rattle.dms_codes.specs.declared.codes.Activation.{Activation}
use Rattle.dms_table.specs.declared.activation.Cause.{Cause}
use Rattle.dms_table.specs.Rows.{TableModel}
use Rattle.dms_table.specs.Activation.{ShownModel, refusal, shown_by, unless_refused, decided}

accepted_by : {A B : Type 0} (a : A) (b : B) (o : Option Cause) → Ok a ≡ unless_refused a o → Ok b ≡ unless_refused b o
accepted_by a b o e = grind arith

-- a code that is let pass puts its message up
pub accepted_decision : {A : Type 0} (a : A) (face : FaceModel) (defaults : Defaults) (table : TableModel) (shown : ShownModel) (code : Activation)
    → Ok a ≡ unless_refused a (refusal face defaults table shown code) → Ok (shown_by defaults table shown code) ≡ decided face defaults table shown code
accepted_decision a face defaults table shown code e = grind arith

-- one that is refused is so for this cause
pub refused_decision : {A : Type 0} (a : A) (face : FaceModel) (defaults : Defaults) (table : TableModel) (shown : ShownModel) (code : Activation)
    (cause : Cause) → Err cause ≡ unless_refused a (refusal face defaults table shown code) → Err cause ≡ decided face defaults table shown code
refused_decision a face defaults table shown code cause e = grind arith

passed : {x y : ShownModel} (o : Option Cause) → Ok x ≡ unless_refused y o → Ok y ≡ unless_refused y o
passed None e = refl
passed (Some cause) e = cc

-- where it is decided on alike over another table, what that one has is up
pub accepted_elsewhere : (face : FaceModel) (defaults : Defaults) (shown x : ShownModel) (table : TableModel) (code : Activation)
    → Ok x ≡ decided face defaults table shown code → Ok (shown_by defaults table shown code) ≡ decided face defaults table shown code
accepted_elsewhere face defaults shown x table code e = grind arith
