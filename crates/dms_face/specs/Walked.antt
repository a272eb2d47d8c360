-- What holds while the items of a text are walked (this profile).
use Rattle.std.specs.Prelude.{◌≡◌, ℕ, List, Result}
use Rattle.dms_multi.specs.declared.spots.Spot.{Spot}
use Rattle.dms_multi.specs.declared.fault.SyntaxFault.{SyntaxFault}
use Rattle.dms_face.specs.declared.multi_fault.MultiFault.{MultiFault}
use Rattle.dms_face.specs.declared.totals.Totals.{Totals}
use Rattle.dms_face.specs.Face.{FaceModel}
use Rattle.dms_face.specs.Layout.{Layout}
use Rattle.dms_face.specs.OnePass.{walked}
use Rattle.dms_face.specs.Totals.{Holds, AreSmall}

-- the sums match a layout after which this rest gives the answer
pub record IsWalkedTo (face : FaceModel) (end : ℕ) (totals : Totals) (rest : List (Result Spot SyntaxFault))
    (answer : Result ℕ MultiFault) : Type 0 where
  pub layout : Layout
  pub holds : Holds face totals layout
  pub small : AreSmall totals
  pub same : answer ≡ walked face end layout rest
