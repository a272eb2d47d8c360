-- Reading the length, the content and the tag of an element, on lists.
use Rattle.std.proofs.Common.{◌≡◌, ℕ, ◌-◌, ◌<◌, ◌≤◌, ◌⊎◌, inl, inr, Bool, true, false, cond, ltb, eqb, List, [], ◌∷◌, ◌++◌, length, take, drop, Result, Ok, Err, refl, sym, ap, ◌∙◌, arith, append_assoc, length-append, length-take-le, take-append-drop, ltb-true, ltb-false, lt-ltb, le-ltb, eqb-true, eq-eqb, ne_eqb}
use Rattle.std.proofs.Math.Seq.{take-append_seam, drop-append_seam}
use Rattle.std.proofs.lemmas.Bool.{eqb-false}
use Rattle.std.specs.Int.Digits.{number_from_digits}
use Rattle.dms_wire_ber.specs.declared.fault.WireFault.{WireFault}
use Rattle.dms_wire_ber.specs.Length.{IsLength}
use Rattle.dms_wire_ber.specs.Reading.{◌>>=◌, length_at, content_at, element_at}

-- the value of a step that did not fail
pub bind_ok : {A B : Type 0} (r : Result A WireFault) (f : A → Result B WireFault) (y : B) → (r >>= f) ≡ Ok y
    → (x : A) × (r ≡ Ok x) × (f x ≡ Ok y)
bind_ok r f y e = grind arith

-- the test that an if-chain took
pub chosen : {A : Type 0} (b : Bool) (x y z : A) → cond b x y ≡ z → ((b ≡ true) × (x ≡ z)) ⊎ ((b ≡ false) × (y ≡ z))
chosen b x y z e = grind arith

-- a value that was read, whose type names the faults
abbrev pub done : {A : Type 0} → A → Result A WireFault
done x = Ok x

pub ok_is : {A : Type 0} (x y : A) → done x ≡ done y → x ≡ y
ok_is x y e = cc

pub not_ok : {A : Type 0} {P : Type 0} (f : WireFault) (y : A) → Err f ≡ done y → P
not_ok f y e = absurd (cc)

-- a test that led to no fault
pub guarded : {A : Type 0} (b : Bool) (d : WireFault) (r : Result A WireFault) (y : A) → cond b (Err d) r ≡ Ok y
    → (b ≡ false) × (r ≡ Ok y)
guarded b d r y e = grind arith

-- the same, where the fault stands in the other branch
pub tested : {A : Type 0} (b : Bool) (d : WireFault) (r : Result A WireFault) (y : A) → cond b r (Err d) ≡ Ok y
    → (b ≡ true) × (r ≡ Ok y)
tested b d r y e = grind arith

-- a length in the long form
long_found : (b : ℕ) (bs : List ℕ) (x : ℕ × List ℕ) → b < 133 → (b ≡ 128 → ⊥) → 128 ≤ b → b - 128 ≤ length bs
    → done (number_from_digits 256 (take (b - 128) bs), drop (b - 128) bs) ≡ Ok x
    → (front : List ℕ) × IsLength front x.0 × (b ∷ bs ≡ front ++ x.1)
long_found b bs x small some long room e =
    let is = ok_is _ x e in
    let count : length (take (b - 128) bs) ≡ b - 128 = length-take-le (b - 128) bs room in (
      b ∷ take (b - 128) bs,
      inr (omega arith, omega arith, omega arith, sym (ap (λ (p : ℕ × List ℕ). p.0) is)),
      ap (λ t. b ∷ t) (sym (take-append-drop (b - 128) bs)) ∙ ap (λ (p : ℕ × List ℕ). b ∷ (take (b - 128) bs ++ p.1)) is,
    )

-- the octets of a length
pub length_found : (end : ℕ) (bytes : List ℕ) (x : ℕ × List ℕ) → length_at end bytes ≡ Ok x
    → (front : List ℕ) × IsLength front x.0 × (bytes ≡ front ++ x.1)
unfolding length_at
length_found end [] x e = not_ok _ x e
length_found end (b ∷ bs) x e =
    elim (chosen (ltb b 128) _ _ _ e) [
      | inl h ↦
          let is = ok_is _ x h.1 in
          (b ∷ [], inl (ltb-true b 128 h.0, refl, sym (ap (λ (p : ℕ × List ℕ). p.0) is)), ap (λ (p : ℕ × List ℕ). b ∷ p.1) is)
      | inr h ↦
          let four = guarded (ltb 132 b) _ _ x h.1 in
          let some = guarded (eqb b 128) _ _ x four.1 in
          let room = guarded (ltb (length bs) (b - 128)) _ _ x some.1 in
          let below : b ≤ 132 = ltb-false 132 b four.0 in
          let above : 128 ≤ b = ltb-false b 128 h.0 in
          long_found b bs x (omega arith) (eqb-false b 128 some.0) above (ltb-false (length bs) (b - 128) room.0) room.1
    ]

pub length_only : (end n : ℕ) (front rest : List ℕ) → IsLength front n → length_at end (front ++ rest) ≡ Ok (n, rest)
unfolding length_at
length_only end n [] rest h = absurd h
length_only end n (b ∷ bs) rest (inl h) = grind (arith, lt-ltb, length-append, le-ltb, ne_eqb, take-append_seam, drop-append_seam)
length_only end n (b ∷ bs) rest (inr h) =
    let count : b - 128 ≡ length bs = omega arith in
    let room : length bs ≤ length (bs ++ rest) = omega (arith, length-append bs rest) in
    rw (le-ltb b 128 (omega arith), le-ltb 132 b (omega arith), ne_eqb b 128 (λ e. omega arith), count, le-ltb (length (bs ++ rest)) (length bs) room, take-append_seam bs rest, drop-append_seam bs rest)
    (ap (λ m. done (m, rest)) (sym h.3))

-- a length and its content
pub content_found : (end : ℕ) (bytes : List ℕ) (x : List ℕ × List ℕ) → content_at end bytes ≡ Ok x
    → (len : List ℕ) × IsLength len (length x.0) × (bytes ≡ (len ++ x.0) ++ x.1)
unfolding content_at
content_found end bytes x e = grind (arith, bind_ok, length_found, guarded, ok_is, ltb-false, length-take-le, take-append-drop, append_assoc)

pub content_only : (end : ℕ) (len content rest : List ℕ) → IsLength len (length content)
    → content_at end ((len ++ content) ++ rest) ≡ Ok (content, rest)
unfolding content_at
content_only end len content rest h = grind (arith, length-append, append_assoc, length_only, le-ltb, take-append_seam, drop-append_seam)

-- the same after its tag
pub element_found : (tag end : ℕ) (bytes : List ℕ) (x : List ℕ × List ℕ) → element_at tag end bytes ≡ Ok x
    → (len : List ℕ) × IsLength len (length x.0) × (bytes ≡ (tag ∷ (len ++ x.0)) ++ x.1)
unfolding element_at
element_found tag end bytes x e = grind (arith, not_ok, tested, content_found, eqb-true)

pub element_only : (tag end : ℕ) (len content rest : List ℕ) → IsLength len (length content)
    → element_at tag end ((tag ∷ (len ++ content)) ++ rest) ≡ Ok (content, rest)
unfolding element_at
element_only tag end len content rest h = rw (eq-eqb tag tag refl) (content_only end len content rest h)
