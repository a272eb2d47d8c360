-- The walk of a name's numbers.
use Rattle.std.proofs.Common.{◌≡◌, ℕ, ◌+◌, ◌*◌, ◌%◌, ◌^◌, Bool, true, false, cond, ◌&&◌, List, [], ◌∷◌, refl, arith}
use Rattle.std.specs.Prelude.{nat_lt}
use Rattle.std.specs.Option.{option_map_or}
use Rattle.std.proofs.lemmas.Bool.Decides.{nat_tests}
use Rattle.dms_wire_ber.specs.ObjectIdentifier.{numbers_from}
use Rattle.dms_wire_ber.specs.NameReading.{part_after, goes_on, is_name}
use Rattle.dms_wire_ber.specs.NameWalk.{fits_after}
use Rattle.dms_wire_ber.specs.NameOrder.{numbers_cmp}

-- a step of the walk, where last and more say the same of what follows
fits_more : (f : ℕ × ℕ → Bool) (count n b : ℕ) (last more : Bool) → option_map_or f (part_after count n b) false ≡ true
    → (f (count + 1, 0) ≡ true → last ≡ true) → (f (count, n * 128 + b % 128) ≡ true → more ≡ true)
    → (nat_lt (n * 128 + b % 128) (2 ^ 32) && cond (nat_lt b 128) last more) ≡ true
fits_more f count n b last more h l m = grind (arith, nat_tests)

-- the sub-identifiers of a name are below 2^32
pub fits : (bs : List ℕ) (count n : ℕ) → goes_on count n bs ≡ true → fits_after n bs ≡ true
unfolding goes_on
fits [] count n h = refl
fits (b ∷ bs) count n h = grind (arith, fits_more, fits bs (count + 1) 0, fits bs count (n * 128 + b % 128))

-- the octets of dms are nine sub-identifiers
pub below_dms : (octets rest : List ℕ) → octets ≡ 43 ∷ 6 ∷ 1 ∷ 4 ∷ 1 ∷ 137 ∷ 54 ∷ 4 ∷ 2 ∷ 3 ∷ rest
    → is_name octets ≡ goes_on 9 0 rest
unfolding goes_on
below_dms octets rest e = rw e refl

first_order : (m n : ℕ) (ms ns : List ℕ) → numbers_cmp (m ∷ ms) (n ∷ ns) ≡ numbers_cmp (numbers_from (m ∷ ms)) (numbers_from (n ∷ ns))
first_order m n ms ns = grind (arith, nat_tests)

-- the order of the sub-identifiers is that of the numbers
pub same_order : (ms ns : List ℕ) → numbers_cmp ms ns ≡ numbers_cmp (numbers_from ms) (numbers_from ns)
same_order ms ns = grind (arith, first_order)
