use Rattle.std.proofs.Common.{◌≡◌, ◌∷◌, ap, sym, ◌∙◌, arith}
use Rattle.dms_mib_instances.proofs.Beginnings.{one_number, two_number, great_number}
use Rattle.dms_mib_instances.proofs.octets.row_number.Goals as goal

pub returns-then-number-lt128 : goal.returns-then-number-lt128
returns-then-number-lt128 c = λ numbers e.
    one_number numbers c.in-Some.number c.in-Some.rest.now (e ∙ c.in-Some.ensures.some) c.if-number-lt128.true

pub returns-in-Some-first_octet : goal.returns-in-Some-first_octet
returns-in-Some-first_octet c = λ numbers e.
    two_number numbers c.in-Some.number c.in-Some-first_octet.low c.in-Some-first_octet.field-0-1.now
    (e ∙ c.in-Some.ensures.some ∙ ap (λ xs. c.in-Some.number ∷ xs) c.in-Some-first_octet.ensures.some) c.if-number.true c.if-low-lt128.true

pub returns-in_default-first_octet : goal.returns-in_default-first_octet
returns-in_default-first_octet c = λ numbers e.
    great_number numbers c.in-Some.number c.in-Some.rest.now (e ∙ c.in-Some.ensures.some) (omega (arith, c.if-number-lt128.false)) λ low rest more is few.
    let same : c.in-Some-first_octet.low ∷ c.in-Some-first_octet.field-0-1.now ≡ low ∷ rest = sym c.in-Some-first_octet.ensures.some ∙ more in
    let first : c.in-Some-first_octet.low ≡ low = cc in
    absurd (omega (arith, first, few, c.if-low-lt128.false))

pub returns-in_default-first_octet-2 : goal.returns-in_default-first_octet-2
returns-in_default-first_octet-2 c = λ numbers e.
    great_number numbers c.in-Some.number c.in-Some.rest.now (e ∙ c.in-Some.ensures.some) (omega (arith, c.if-number-lt128.false)) λ low rest more is few.
    absurd (omega (arith, is, c.if-number.false))
