use Rattle.std.proofs.Common.{◌≡◌, ℕ, List, subst}
use Rattle.std.specs.Prelude.{IfOk, IfNone}
use Rattle.std.specs.Str.Lines.{lines}
use Rattle.dms_text.proofs.LineFilter.{octets-numbered}
use Rattle.dms_sign_text.specs.Causes.{first_cause}
use Rattle.dms_sign_text.specs.Description.{Description, SpellsSign}
use Rattle.dms_sign_text.proofs.reasons.first_cause.Goals as goal

pub returns-clause-cause : goal.returns-clause-cause
returns-clause-cause c =
    subst (λ (kept : List (List ℕ)). IfOk c.cause_of.result (λ found. found ≡ first_cause kept)) (octets-numbered 1 (lines c.args.octets.now)) c.cause_of.ensures.cause

pub returns-clause-told : goal.returns-clause-told
returns-clause-told c =
    subst (λ (kept : List (List ℕ)). IfOk c.cause_of.result (λ found. IfNone found ((it : Description) × SpellsSign kept it))) (octets-numbered 1 (lines c.args.octets.now)) c.cause_of.ensures.told
