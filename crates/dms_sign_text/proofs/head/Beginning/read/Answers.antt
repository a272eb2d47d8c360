use Rattle.dms_sign_text.proofs.Misfits.{fits_next}
use Rattle.dms_sign_text.proofs.head.Beginning.read.Goals as goal

pub returns-clause-forms : goal.returns-clause-forms
returns-clause-forms c =
    fits_next _ _ _ _ _ _ _ c.in_ok-size.ensures.found.forms
    (fits_next _ _ _ _ _ _ _ c.in_ok-communities.ensures.found.forms (fits_next _ _ _ _ _ _ _ c.in_ok-rows.ensures.found.forms c.in_ok-order.ensures.found.forms))
