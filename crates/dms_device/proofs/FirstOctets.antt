-- The order of names by the first octets that differ.
use Rattle.std.proofs.Common.{◌≡◌, ℕ, zero, suc, ◌+◌, ◌*◌, ◌%◌, ◌<◌, ◌≤◌, ◌⊎◌, inl, inr, Bool, true, false, ◌||◌, ◌==◌, List, [], ◌∷◌, take, drop, length, min, get_or, refl, sym, ap, ap₂, ◌∙◌, arith, lt-ltb, le-ltb}
use Rattle.std.specs.Prelude.{nat_lt}
use Rattle.std.specs.Ordering.{is_lt}
use Rattle.std.specs.Option.{option_map_or}
use Rattle.std.proofs.lemmas.Bool.Decides.{nat_tests}
use Rattle.std.proofs.lemmas.Bool.{cases_lt}
use Rattle.dms_wire_ber.specs.ObjectIdentifier.{IsName}
use Rattle.dms_wire_ber.specs.NameReading.{part_after, goes_on, numbers_of, sub_identifiers_after}
use Rattle.dms_wire_ber.specs.NameOrder.{numbers_cmp, is_before}
use Rattle.dms_wire_ber.proofs.Names.{name_only}
use Rattle.dms_wire_ber.proofs.NameWalk.{same_order}

-- ---- a step over an octet

-- what a step that goes on says of its octet: it is the last of its number, or one more follows
step : (f : ℕ × ℕ → Bool) (count n b : ℕ) → option_map_or f (part_after count n b) false ≡ true
    → (b < 256) × (b ≡ 128 → n ≡ 0 → ⊥) × (((128 ≤ b) × (f (count, n * 128 + b % 128) ≡ true)) ⊎ ((b < 128) × (f (count + 1, 0) ≡ true)))
step f count n b e = grind arith

last_of : (n b : ℕ) (bs : List ℕ) → b < 128 → sub_identifiers_after n (b ∷ bs) ≡ (n * 128 + b) ∷ sub_identifiers_after 0 bs
last_of n b bs low = rw (lt-ltb b 128 low) refl

more_of : (n b : ℕ) (bs : List ℕ) → 128 ≤ b → sub_identifiers_after n (b ∷ bs) ≡ sub_identifiers_after (n * 128 + b % 128) bs
more_of n b bs high = rw (le-ltb b 128 high) refl

-- what came of a number that goes on is not nothing
some_came : (n b : ℕ) → 128 ≤ b → b < 256 → (b ≡ 128 → n ≡ 0 → ⊥) → 0 < n * 128 + b % 128
some_came n b high octet some = grind arith

-- ---- the number that comes next

-- a number that has begun ends, and is greater than what came of it
record Begun (n : ℕ) (bs : List ℕ) : Type 0 where
  first : ℕ
  others : List ℕ
  is : sub_identifiers_after n bs ≡ first ∷ others
  large : n * 128 ≤ first

not_ended : (n count : ℕ) → 0 < n → goes_on count n [] ≡ true → ⊥
unfolding goes_on
not_ended n count some e = grind (arith, nat_tests)

begun : (bs : List ℕ) (count n : ℕ) → 0 < n → goes_on count n bs ≡ true → Begun n bs
unfolding goes_on
begun [] count n some e = absurd (not_ended n count some e)
begun (b ∷ bs) count n some e =
    let s = step (λ p. goes_on p.0 p.1 bs) count n b e in
    elim s.2 [
      | inl h ↦
          let rest = begun bs count (n * 128 + b % 128) (omega arith) h.1 in
          record { first = rest.first; others = rest.others; is = more_of n b bs h.0 ∙ rest.is; large = omega (arith, rest.large) }
      | inr h ↦ record { first = n * 128 + b; others = sub_identifiers_after 0 bs; is = last_of n b bs h.0; large = omega arith }
    ]

-- an octet is of a number
some_number : (b : ℕ) (bs : List ℕ) (count n : ℕ) → goes_on count n (b ∷ bs) ≡ true → Begun n (b ∷ bs)
unfolding goes_on
some_number b bs count n e =
    let s = step (λ p. goes_on p.0 p.1 bs) count n b e in
    elim s.2 [
      | inl h ↦
          let rest = begun bs count (n * 128 + b % 128) (some_came n b h.0 s.0 s.1) h.1 in
          record { first = rest.first; others = rest.others; is = more_of n b bs h.0 ∙ rest.is; large = omega (arith, rest.large) }
      | inr h ↦ record { first = n * 128 + b; others = sub_identifiers_after 0 bs; is = last_of n b bs h.0; large = omega arith }
    ]

-- ---- octets that differ

lower_first : (a b : ℕ) (us bs : List ℕ) → a < b → is_lt (numbers_cmp (a ∷ us) (b ∷ bs)) ≡ true
lower_first a b us bs lt = grind (arith, nat_tests)

greater_first : (a b : ℕ) (us bs : List ℕ) → b < a → is_lt (numbers_cmp (a ∷ us) (b ∷ bs)) ≡ false
greater_first a b us bs lt = grind (arith, nat_tests)

both_last : (n x y : ℕ) (us bs : List ℕ) → (x == y) ≡ false → is_lt (numbers_cmp ((n * 128 + x) ∷ us) ((n * 128 + y) ∷ bs)) ≡ nat_lt x y
both_last n x y us bs other = grind (arith, nat_tests, lower_first, greater_first)

one_goes_on : (x y : ℕ) → 128 ≤ x → 128 ≤ y → (nat_lt x 128 || nat_lt y 128) ≡ true → ⊥
one_goes_on x y high too one = grind (arith, nat_tests)

pub below : (x y : ℕ) → x < y → nat_lt x y ≡ true
below x y lt = grind (arith, nat_tests)

pub above : (x y : ℕ) → y < x → nat_lt x y ≡ false
above x y lt = grind (arith, nat_tests)

differ_at_once : (x y : ℕ) (xs ys : List ℕ) (c d n : ℕ) → goes_on c n (x ∷ xs) ≡ true → goes_on d n (y ∷ ys) ≡ true → (x == y) ≡ false
    → (nat_lt x 128 || nat_lt y 128) ≡ true
    → is_lt (numbers_cmp (sub_identifiers_after n (x ∷ xs)) (sub_identifiers_after n (y ∷ ys))) ≡ nat_lt x y
unfolding goes_on
differ_at_once x y xs ys c d n left right other one =
    let s = step (λ p. goes_on p.0 p.1 xs) c n x left in
    let t = step (λ p. goes_on p.0 p.1 ys) d n y right in
    elim s.2 [
      | inl h ↦
          elim t.2 [
            | inl k ↦ absurd (one_goes_on x y h.0 k.0 one)
            | inr k ↦
                let rest = begun xs c (n * 128 + x % 128) (some_came n x h.0 s.0 s.1) h.1 in
                ap₂ (λ (us bs : List ℕ). is_lt (numbers_cmp us bs)) (more_of n x xs h.0 ∙ rest.is) (last_of n y ys k.0)
                ∙ greater_first rest.first (n * 128 + y) rest.others (sub_identifiers_after 0 ys) (omega (arith, rest.large, some_came n x h.0 s.0 s.1))
                ∙ sym (above x y (omega arith))
          ]
      | inr h ↦
          elim t.2 [
            | inl k ↦
                let rest = begun ys d (n * 128 + y % 128) (some_came n y k.0 t.0 t.1) k.1 in
                ap₂ (λ (us bs : List ℕ). is_lt (numbers_cmp us bs)) (last_of n x xs h.0) (more_of n y ys k.0 ∙ rest.is)
                ∙ lower_first (n * 128 + x) rest.first (sub_identifiers_after 0 xs) rest.others (omega (arith, rest.large, some_came n y k.0 t.0 t.1))
                ∙ sym (below x y (omega arith))
            | inr k ↦
                ap₂ (λ (us bs : List ℕ). is_lt (numbers_cmp us bs)) (last_of n x xs h.0) (last_of n y ys k.0)
                ∙ both_last n x y (sub_identifiers_after 0 xs) (sub_identifiers_after 0 ys) other
          ]
    ]

-- ---- octets that are the same

same_first : (a : ℕ) (us bs : List ℕ) → numbers_cmp (a ∷ us) (a ∷ bs) ≡ numbers_cmp us bs
same_first a us bs = grind (arith, nat_tests)

-- what is left of both behind an octet that is the same
record Over (b : ℕ) (xs ys : List ℕ) (n : ℕ) : Type 0 where
  c : ℕ
  d : ℕ
  n' : ℕ
  left : goes_on c n' xs ≡ true
  right : goes_on d n' ys ≡ true
  is : numbers_cmp (sub_identifiers_after n (b ∷ xs)) (sub_identifiers_after n (b ∷ ys)) ≡ numbers_cmp (sub_identifiers_after n' xs) (sub_identifiers_after n' ys)

not_both : (b : ℕ) → 128 ≤ b → b < 128 → ⊥
not_both b high low = omega arith

over : (b : ℕ) (xs ys : List ℕ) (c d n : ℕ) → goes_on c n (b ∷ xs) ≡ true → goes_on d n (b ∷ ys) ≡ true → Over b xs ys n
unfolding goes_on
over b xs ys c d n left right =
    let s = step (λ p. goes_on p.0 p.1 xs) c n b left in
    let t = step (λ p. goes_on p.0 p.1 ys) d n b right in
    elim s.2 [
      | inl h ↦
          elim t.2 [
            | inl k ↦ record {
              c = c;
              d = d;
              n' = n * 128 + b % 128;
              left = h.1;
              right = k.1;
              is = ap₂ numbers_cmp (more_of n b xs h.0) (more_of n b ys k.0);
            }
            | inr k ↦ absurd (not_both b h.0 k.0)
          ]
      | inr h ↦
          elim t.2 [
            | inl k ↦ absurd (not_both b k.0 h.0)
            | inr k ↦ record {
              c = c + 1;
              d = d + 1;
              n' = 0;
              left = h.1;
              right = k.1;
              is = ap₂ numbers_cmp (last_of n b xs h.0) (last_of n b ys k.0) ∙ same_first (n * 128 + b) (sub_identifiers_after 0 xs) (sub_identifiers_after 0 ys);
            }
          ]
    ]

head_of : (x y : ℕ) (xs ys : List ℕ) → x ∷ xs ≡ y ∷ ys → x ≡ y
head_of x y xs ys e = ap (λ (l : List ℕ). get_or l 0 0) e

rest_of : (x y : ℕ) (xs ys : List ℕ) → x ∷ xs ≡ y ∷ ys → xs ≡ ys
rest_of x y xs ys e = ap (λ (l : List ℕ). drop 1 l) e

differ : (xs ys : List ℕ) (k c d n : ℕ) → goes_on c n xs ≡ true → goes_on d n ys ≡ true → take k xs ≡ take k ys → k < length xs
    → k < length ys → (get_or xs k 0 == get_or ys k 0) ≡ false → (nat_lt (get_or xs k 0) 128 || nat_lt (get_or ys k 0) 128) ≡ true
    → is_lt (numbers_cmp (sub_identifiers_after n xs) (sub_identifiers_after n ys)) ≡ nat_lt (get_or xs k 0) (get_or ys k 0)
differ [] ys k c d n left right same less lower other one = absurd (omega arith)
differ (x ∷ xs) [] k c d n left right same less lower other one = absurd (omega arith)
differ (x ∷ xs) (y ∷ ys) zero c d n left right same less lower other one = differ_at_once x y xs ys c d n left right other one
differ (x ∷ xs) (y ∷ ys) (suc k) c d n left right same less lower other one =
    let e = head_of x y (take k xs) (take k ys) same in
    let o = over x xs ys c d n left (ap (λ b. goes_on d n (b ∷ ys)) e ∙ right) in
    ap (λ b. is_lt (numbers_cmp (sub_identifiers_after n (x ∷ xs)) (sub_identifiers_after n (b ∷ ys)))) (sym e)
    ∙ ap is_lt o.is
    ∙ differ xs ys k o.c o.d o.n' o.left o.right (rest_of x y (take k xs) (take k ys) same) (omega arith) (omega arith) other one

-- one name ends where the other goes on, or both end
end : (xs ys : List ℕ) (k c d n : ℕ) → goes_on c n xs ≡ true → goes_on d n ys ≡ true → take k xs ≡ take k ys
    → (k ≡ length xs) ⊎ (k ≡ length ys) → k ≤ length xs → k ≤ length ys
    → is_lt (numbers_cmp (sub_identifiers_after n xs) (sub_identifiers_after n ys)) ≡ nat_lt (length xs) (length ys)
end [] [] k c d n left right same ends less lower = refl
end [] (y ∷ ys) k c d n left right same ends less lower =
    let some = some_number y ys d n right in
    ap (λ (bs : List ℕ). is_lt (numbers_cmp [] bs)) some.is ∙ sym (below 0 (length (y ∷ ys)) (omega arith))
end (x ∷ xs) [] k c d n left right same ends less lower =
    let some = some_number x xs c n left in
    ap (λ (us : List ℕ). is_lt (numbers_cmp us [])) some.is ∙ sym (above (length (x ∷ xs)) 0 (omega arith))
end (x ∷ xs) (y ∷ ys) zero c d n left right same ends less lower =
    elim ends [ inl e ↦ absurd (omega arith) | inr e ↦ absurd (omega arith) ]
end (x ∷ xs) (y ∷ ys) (suc k) c d n left right same ends less lower =
    let e = head_of x y (take k xs) (take k ys) same in
    let o = over x xs ys c d n left (ap (λ b. goes_on d n (b ∷ ys)) e ∙ right) in
    ap (λ b. is_lt (numbers_cmp (sub_identifiers_after n (x ∷ xs)) (sub_identifiers_after n (b ∷ ys)))) (sym e)
    ∙ ap is_lt o.is
    ∙ end xs ys k o.c o.d o.n' o.left o.right (rest_of x y (take k xs) (take k ys) same) (shorter (length xs) (length ys) k ends) (omega arith) (omega arith)
    ∙ grind (arith, nat_tests)
  where
    shorter : (m n k : ℕ) → (suc k ≡ suc m) ⊎ (suc k ≡ suc n) → (k ≡ m) ⊎ (k ≡ n)
    shorter m n k ends = elim ends [ inl e ↦ inl (omega arith) | inr e ↦ inr (omega arith) ]

-- ---- names

in_order : (xs ys : List ℕ) → is_lt (numbers_cmp (sub_identifiers_after 0 xs) (sub_identifiers_after 0 ys)) ≡ is_before (numbers_of xs) (numbers_of ys)
in_order xs ys = ap is_lt (same_order (sub_identifiers_after 0 xs) (sub_identifiers_after 0 ys))

named : (xs : List ℕ) → IsName (numbers_of xs) xs → goes_on 0 0 xs ≡ true
named xs name = (name_only (numbers_of xs) xs name).0

octet_at : (bs : List ℕ) (count n k : ℕ) → goes_on count n bs ≡ true → get_or bs k 0 < 256
unfolding goes_on
octet_at [] count n k e = omega arith
octet_at (b ∷ bs) count n zero e = (step (λ p. goes_on p.0 p.1 bs) count n b e).0
octet_at (b ∷ bs) count n (suc k) e =
    elim (step (λ p. goes_on p.0 p.1 bs) count n b e).2 [
      | inl h ↦ octet_at bs count (n * 128 + b % 128) k h.1
      | inr h ↦ octet_at bs (count + 1) 0 k h.1
    ]

pub are_octets : (xs : List ℕ) → IsName (numbers_of xs) xs → (k : ℕ) → get_or xs k 0 < 256
are_octets xs name k = octet_at xs 0 0 k (named xs name)

one_low : (x y : ℕ) → (x < 128) ⊎ (y < 128) → (nat_lt x 128 || nat_lt y 128) ≡ true
one_low x y low = grind (arith, nat_tests)

not_same : (x y : ℕ) → (x ≡ y → ⊥) → (x == y) ≡ false
not_same x y other = grind (arith, nat_tests)

pub octets_differ : (xs ys : List ℕ) (k : ℕ) → IsName (numbers_of xs) xs → IsName (numbers_of ys) ys → take k xs ≡ take k ys
    → k < length xs → k < length ys → (get_or xs k 0 ≡ get_or ys k 0 → ⊥) → (get_or xs k 0 < 128) ⊎ (get_or ys k 0 < 128)
    → nat_lt (get_or xs k 0) (get_or ys k 0) ≡ is_before (numbers_of xs) (numbers_of ys)
octets_differ xs ys k left right same less lower other low =
    sym (differ xs ys k 0 0 0 (named xs left) (named ys right) same less lower
    (not_same (get_or xs k 0) (get_or ys k 0) other)
    (one_low (get_or xs k 0) (get_or ys k 0) low))
    ∙ in_order xs ys

first_ended : (k m n : ℕ) → k ≡ min m n → (k ≡ m) ⊎ (k ≡ n)
first_ended k m n e = elim (cases_lt m n) [ inl lt ↦ inl (omega arith) | inr le ↦ inr (omega arith) ]

pub octets_end : (xs ys : List ℕ) (k : ℕ) → IsName (numbers_of xs) xs → IsName (numbers_of ys) ys → take k xs ≡ take k ys
    → k ≡ min (length xs) (length ys) → nat_lt (length xs) (length ys) ≡ is_before (numbers_of xs) (numbers_of ys)
octets_end xs ys k left right same e =
    sym (end xs ys k 0 0 0 (named xs left) (named ys right) same (first_ended k (length xs) (length ys) e) (omega arith) (omega arith))
    ∙ in_order xs ys
