-- The numbers of names below dms, by the octets after those of dms.
use Rattle.std.proofs.Common.{◌≡◌, ℕ, true, List, sym, ap, ◌∙◌}
use Rattle.dms_wire_ber.specs.ObjectIdentifier.{under_dms}
use Rattle.dms_wire_ber.specs.NameReading.{is_name, sub_identifiers_after}
use Rattle.dms_wire_ber.specs.NameOrder.{numbers_cmp}
use Rattle.dms_wire_ber.specs.NameWalk.{fits_after}
use Rattle.dms_wire_ber.proofs.NameWalk.{fits}

pub fits_below : (content rest : List ℕ) → is_name content ≡ true → content ≡ under_dms rest → fits_after 0 rest ≡ true
fits_below content rest named e = sym (ap (fits_after 0) e) ∙ fits content 0 0 named

-- two names below dms are in the order of what follows dms
pub order_below : (x y left right : List ℕ) → x ≡ under_dms left → y ≡ under_dms right
    → numbers_cmp (sub_identifiers_after 0 left) (sub_identifiers_after 0 right) ≡ numbers_cmp (sub_identifiers_after 0 x) (sub_identifiers_after 0 y)
order_below x y left right e f = λ i. numbers_cmp (sub_identifiers_after 0 (sym e i)) (sub_identifiers_after 0 (sym f i))
