use Rattle.std.proofs.Common.{◌≡◌, true, false, Some, None, cond, ap, sym, ◌∙◌}
use Rattle.std.specs.Prelude.{option_and_then, is_some}
use Rattle.dms_face.specs.Face.{has_font}
use Rattle.dms_sign_access.proofs.Found.{font_found}
use Rattle.dms_sign_access.proofs.access.font_in.Goals as goal

pub returns-in-Some-clause-exact : goal.returns-in-Some-clause-exact
returns-in-Some-clause-exact c =
    let has : has_font c.args.face.now.fonts c.in_ok-number.number ≡ true = font_found c.args.face.now c.in_ok-number.number ∙ sym (ap is_some c.in-Some.ensures) in
    ap (λ b. cond b (Some c.in_ok-number.number) None) (sym has)
    ∙ ap (option_and_then (λ number. cond (has_font c.args.face.now.fonts number) (Some number) None)) c.in_ok-number.ensures.exact

pub returns-in-None-clause-exact : goal.returns-in-None-clause-exact
returns-in-None-clause-exact c =
    let has : has_font c.args.face.now.fonts c.in_ok-number.number ≡ false = font_found c.args.face.now c.in_ok-number.number ∙ sym (ap is_some c.in-None.ensures) in
    ap (λ b. cond b (Some c.in_ok-number.number) None) (sym has)
    ∙ ap (option_and_then (λ number. cond (has_font c.args.face.now.fonts number) (Some number) None)) c.in_ok-number.ensures.exact
