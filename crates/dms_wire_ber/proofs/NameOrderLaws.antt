-- The order of names is strict.
use Rattle.std.proofs.Common.{◌≡◌, ℕ, true, false, Less, Ordering, List, ap, arith}
use Rattle.std.specs.Ordering.{is_lt}
use Rattle.std.proofs.lemmas.Cmp.{nat_list_cmp_total, tied_itself}
use Rattle.dms_wire_ber.specs.NameOrder.{numbers_cmp, is_before}

less : (o : Ordering) → is_lt o ≡ true → o ≡ Less
less o h = grind arith

pub before_trans : (a b c : List ℕ) → is_before a b ≡ true → is_before b c ≡ true → is_before a c ≡ true
before_trans a b c h g =
    let total = nat_list_cmp_total in
    ap is_lt (total.trans a b c (less (numbers_cmp a b) h) (less (numbers_cmp b c) g))

pub not_before_itself : (a : List ℕ) → is_before a a ≡ false
not_before_itself a = ap is_lt (tied_itself nat_list_cmp_total a)
