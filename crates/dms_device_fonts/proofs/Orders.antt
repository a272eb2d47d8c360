-- The order of two names by their first numbers.
use Rattle.std.proofs.Common.{◌≡◌, ℕ, ◌<◌, true, false, Less, Equal, Greater, List, ◌∷◌, refl, sym}
use Rattle.std.specs.Ordering.{nat_cmp}
use Rattle.std.specs.Cmp.{nat_cmp_is}
use Rattle.dms_wire_ber.specs.NameOrder.{is_before}

cmp_less : (x y : ℕ) → x < y → Less ≡ nat_cmp x y
cmp_less x y h = nat_cmp_is x y Less h

cmp_greater : (x y : ℕ) → y < x → Greater ≡ nat_cmp x y
cmp_greater x y h = nat_cmp_is x y Greater h

cmp_equal : (x : ℕ) → Equal ≡ nat_cmp x x
cmp_equal x = nat_cmp_is x x Equal refl

-- the smaller first number decides
pub lower_first : (x y : ℕ) (xs ys : List ℕ) → x < y → is_before (x ∷ xs) (y ∷ ys) ≡ true
lower_first x y xs ys h = rw (sym (cmp_less x y h)) refl

pub higher_first : (x y : ℕ) (xs ys : List ℕ) → y < x → is_before (x ∷ xs) (y ∷ ys) ≡ false
higher_first x y xs ys h = rw (sym (cmp_greater x y h)) refl

pub same_first : (x : ℕ) (xs ys : List ℕ) → is_before (x ∷ xs) (x ∷ ys) ≡ is_before xs ys
same_first x xs ys = rw (sym (cmp_equal x)) refl
