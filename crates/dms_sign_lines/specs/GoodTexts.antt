-- What a sign shows can be drawn (this profile).
use Rattle.std.specs.Prelude.{IsTrue}
use Rattle.dms_face.specs.Face.{FaceModel, fit}
use Rattle.dms_face.specs.Layout.{under}
use Rattle.dms_face.specs.Fit.{IsGood}
use Rattle.dms_table.specs.Activation.{ShownModel}
use Rattle.dms_sign.specs.State.{SignState}
use Rattle.dms_sign.specs.Transitions.{HasFitDefaults}

-- its copy of the defaults fits the face, and its text is good under them
pub record CanBeDrawn (face : FaceModel) (shown : ShownModel) : Type 0 where
  pub defaults : IsTrue (fit face.fonts shown.defaults)
  pub text : IsGood (under face shown.defaults) shown.text

-- what is shown can be drawn, and what was shown when the power was lost; and the sign's own defaults fit its face
pub record ShowsGoodTexts (s : SignState) : Type 0 where
  pub own : HasFitDefaults s
  pub shown : CanBeDrawn s.config.face s.shown
  pub shown_at_power_loss : CanBeDrawn s.config.face s.shown_at_power_loss
