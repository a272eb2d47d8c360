use Rattle.std.proofs.Common.{◌++◌, ◌∙◌, codes, sym, ap, FitsSigned, rules, w64}
use Rattle.std.specs.Fmt.{signed_decimal}
use Rattle.std.proofs.lemmas.Int.{to_z-of_z}
use Rattle.dms_text_filling.proofs.Parts.{same}
use Rattle.dms_centre.specs.Texts.{why_text}
use Rattle.dms_centre_state.proofs.saving.put_reason.Goals as goal

pub returns-in-Status : goal.returns-in-Status
returns-in-Status c =
    let fits : FitsSigned w64 c.in-Status.status = search rules in
    same (ap (λ z. codes "error-status " ++ signed_decimal z) (to_z-of_z w64 c.in-Status.status fits) ∙ ap why_text (sym c.in-Status.is)) c.put_signed.ensures

pub returns-in-WrongStatus : goal.returns-in-WrongStatus
returns-in-WrongStatus c =
    let fits : FitsSigned w64 c.in-WrongStatus.status = search rules in
    same (ap (λ z. codes "the row has status " ++ signed_decimal z) (to_z-of_z w64 c.in-WrongStatus.status fits) ∙ ap why_text (sym c.in-WrongStatus.is)) c.put_signed-in-WrongStatus.ensures

pub returns-in-StillValidating : goal.returns-in-StillValidating
returns-in-StillValidating c = same (ap why_text (sym c.in-StillValidating.is)) c.put_text.ensures.octets

pub returns-in-OtherChecksum : goal.returns-in-OtherChecksum
returns-in-OtherChecksum c = same (ap why_text (sym c.in-OtherChecksum.is)) c.put_text-in-OtherChecksum.ensures.octets

pub returns-in-NumbersUsedUp : goal.returns-in-NumbersUsedUp
returns-in-NumbersUsedUp c = same (ap why_text (sym c.in-NumbersUsedUp.is)) c.put_text-in-NumbersUsedUp.ensures.octets

pub returns-in-OddReply : goal.returns-in-OddReply
returns-in-OddReply c = same (ap why_text (sym c.in-OddReply.is)) c.put_text-in-OddReply.ensures.octets

pub returns-in-Cause : goal.returns-in-Cause
returns-in-Cause c =
    let fits : FitsSigned w64 c.in-Cause.cause = search rules in
    same (ap (λ z. codes "the sign refused the activation for cause " ++ signed_decimal z) (to_z-of_z w64 c.in-Cause.cause fits) ∙ ap why_text (sym c.in-Cause.is)) c.put_signed-in-Cause.ensures

pub returns-in-Restarted : goal.returns-in-Restarted
returns-in-Restarted c = same (ap why_text (sym c.in-Restarted.is)) c.put_text-in-Restarted.ensures.octets
