use Rattle.std.proofs.Common.{ℕ, take, ap, ◌∙◌}
use Rattle.dms_face.specs.Fit.{most_pages}
use Rattle.dms_face_picture.specs.Picture.{picture_of}
use Rattle.signtool_print.proofs.texts.picture_on.Goals as goal

-- the picture is of the face's size
pub returns-in-Ok : goal.returns-in-Ok
returns-in-Ok c =
    c.in-Ok.ensures
    ∙ ap (λ (w : ℕ). picture_of w c.height.result c.args.text.now (take most_pages c.args.pages.now)) c.width.ensures.value
    ∙ ap (λ (h : ℕ). picture_of c.args.face.now.width h c.args.text.now (take most_pages c.args.pages.now)) c.height.ensures.value
