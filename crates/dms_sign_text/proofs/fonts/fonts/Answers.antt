use Rattle.std.proofs.lemmas.Result.{IfOk-weaker}
use Rattle.dms_sign_text.proofs.LastLines.{leaves_all, leaves_after, leaves_then}
use Rattle.dms_sign_text.proofs.fonts.fonts.Goals as goal

pub returns-in-Some-from_header-clause-last : goal.returns-in-Some-from_header-clause-last
returns-in-Some-from_header-clause-last c =
    IfOk-weaker _ _ _ (λ x leaves. leaves_then _ _ _ (leaves_after _ _ _ (leaves_all c.args.lines) c.advance.ensures.lines) leaves) c.fonts_from.ensures.last
