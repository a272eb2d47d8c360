use Rattle.std.proofs.Common.{sym, ap, ◌∙◌}
use Rattle.dms_sign_text.specs.Causes.{last_font}
use Rattle.dms_sign_text.proofs.LastFont.{last_is}
use Rattle.dms_sign_text.proofs.reasons.last_font.Goals as goal

pub returns-in-Some : goal.returns-in-Some
returns-in-Some c = sym (ap last_font c.in-Some.ensures.items ∙ last_is c.pop.new.self.items c.in-Some.font)
