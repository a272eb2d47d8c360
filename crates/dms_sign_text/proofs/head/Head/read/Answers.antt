use Rattle.dms_sign_text.proofs.Misfits.{fits_next, fits_after_four}
use Rattle.dms_sign_text.proofs.head.Head.read.Goals as goal

pub returns-clause-forms : goal.returns-clause-forms
returns-clause-forms c =
    fits_after_four _ _ _ _ _ c.in_ok-beginning.ensures.forms
    (fits_next _ _ _ _ _ _ _ c.in_ok-services.ensures.found.forms (fits_next _ _ _ _ _ _ _ c.in_ok-defaults.ensures.found.forms c.in_ok-first.ensures.found.forms))
