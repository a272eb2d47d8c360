-- The slots of the names that a SET has given.
use Rattle.std.proofs.Common.{◌≡◌, ℕ, ◌*◌, ◌/◌, ◌%◌, ◌<◌, ◌==◌, ◌≢◌, ◌^◌, ◌||◌, Bool, true, false, List, [], ◌∷◌, ◌++◌, length, inl, inr, refl, sym, ap, subst, ◌∙◌, true≢false, arith}
use Rattle.std.specs.Prelude.{nat_eq, slice_index_or, slice_set, bit_or}
use Rattle.std.specs.Int.{bit_at, w64}
use Rattle.std.proofs.lemmas.Bool.{cases_eq, eqb-true, eq-eqb}
use Rattle.std.proofs.lemmas.Nat.Bits.{bit_at_set_same, bit_at_set_other}
use Rattle.std.proofs.lemmas.Grind.{get_or-set_at}
use Rattle.std.specs.List.{list_any}
use Rattle.std.specs.Cmp.Lexicographic.{pointwise, bytes_decides}
use Rattle.std.proofs.lemmas.List.{get_or-set_same, get_or-set_other}
use Rattle.dms_wire.specs.Message.{VarBind}
use Rattle.dms_sign_access.specs.MetNames.{is_among}
use Rattle.dms_sign_access.specs.Slots.{slot_of, is_taken, AreTaken}

taken_by : (words : List ℕ) (name other : List ℕ) (among same : Bool) → (among ≡ true → is_taken words (slot_of other) ≡ true)
    → (same ≡ true → name ≡ other) → is_taken words (slot_of name) ≡ true → (among || same) ≡ true → is_taken words (slot_of other) ≡ true
taken_by words name other true same taken equal here e = taken refl
taken_by words name other false true taken equal here e = subst (λ n. is_taken words (slot_of n) ≡ true) (equal refl) here
taken_by words name other false false taken equal here e = absurd (true≢false (sym e))

-- ---- lists with one element more

pub any_push : {X : Type 0} (p : X → Bool) (xs : List X) (x : X) → list_any p (xs ++ x ∷ []) ≡ (list_any p xs || p x)
any_push p [] x = or_false (p x)
  where
    or_false : (b : Bool) → (b || false) ≡ b
    or_false true = refl
    or_false false = refl
any_push p (y ∷ xs) x = ap (λ b. p y || b) (any_push p xs x) ∙ or_assoc (p y) (list_any p xs) (p x)
  where
    or_assoc : (a b c : Bool) → (a || (b || c)) ≡ ((a || b) || c)
    or_assoc true b c = refl
    or_assoc false b c = refl

-- ---- a bit that is set

-- the word at k with its bit m set, at another word or bit
bit_stays : (words : List ℕ) (k m word bit : ℕ) → m < 64 → k < length words → bit_at (slice_index_or words word 0) bit ≡ 1
    → bit_at (slice_index_or (slice_set words k (bit_or (slice_index_or words k 0) (1 * 2 ^ m % 18446744073709551616))) word 0) bit ≡ 1
bit_stays words k m word bit small there old =
    let new = bit_or (slice_index_or words k 0) (1 * 2 ^ m % 18446744073709551616) in
    elim (cases_eq word k) [
      | inl same ↦
          ap (λ w. bit_at w bit) (get_or-set_at words k word new 0 same there)
          ∙ elim (cases_eq bit m) [
            | inl here ↦ ap (bit_at new) here ∙ bit_at_set_same w64 (slice_index_or words k 0) m small
            | inr other ↦ bit_at_set_other w64 (slice_index_or words k 0) m small bit other
                ∙ ap (λ w. bit_at (slice_index_or words w 0) bit) (sym same) ∙ old
          ]
      | inr other ↦ ap (λ w. bit_at w bit) (get_or-set_other words k word new 0 other) ∙ old
    ]

bit_there : (words : List ℕ) (k m : ℕ) → m < 64 → k < length words
    → bit_at (slice_index_or (slice_set words k (bit_or (slice_index_or words k 0) (1 * 2 ^ m % 18446744073709551616))) k 0) m ≡ 1
bit_there words k m small there =
    ap (λ w. bit_at w m) (get_or-set_same words k (bit_or (slice_index_or words k 0) (1 * 2 ^ m % 18446744073709551616)) 0 there)
    ∙ bit_at_set_same w64 (slice_index_or words k 0) m small

-- another bit of a word, or a bit of another word
bit_as_before : (words : List ℕ) (k m word bit : ℕ) → m < 64 → k < length words → (word ≡ k → bit ≡ m → ⊥)
    → bit_at (slice_index_or (slice_set words k (bit_or (slice_index_or words k 0) (1 * 2 ^ m % 18446744073709551616))) word 0) bit
    ≡ bit_at (slice_index_or words word 0) bit
bit_as_before words k m word bit small there apart =
    let new = bit_or (slice_index_or words k 0) (1 * 2 ^ m % 18446744073709551616) in
    elim (cases_eq word k) [
      | inl same ↦ elim (cases_eq bit m) [
        | inl here ↦ absurd (apart same here)
        | inr other ↦
            ap (λ w. bit_at w bit) (get_or-set_at words k word new 0 same there)
            ∙ bit_at_set_other w64 (slice_index_or words k 0) m small bit other
            ∙ ap (λ w. bit_at (slice_index_or words w 0) bit) (sym same)
      ]
      | inr other ↦ ap (λ w. bit_at w bit) (get_or-set_other words k word new 0 other)
    ]

abbrev pub marked : List ℕ → ℕ → List ℕ
marked words slot = slice_set words (slot / 64) (bit_or (slice_index_or words (slot / 64) 0) (1 * 2 ^ (slot % 64) % 18446744073709551616))

-- a slot that is taken stays so, and the one that is marked is taken
pub taken_stays : (words : List ℕ) (slot other : ℕ) → slot % 64 < 64 → slot / 64 < length words → is_taken words other ≡ true → is_taken (marked words slot) other ≡ true
taken_stays words slot other small there e =
    eq-eqb (bit_at (slice_index_or (marked words slot) (other / 64) 0) (other % 64)) 1
    (bit_stays words (slot / 64) (slot % 64) (other / 64) (other % 64) small there
    (eqb-true (bit_at (slice_index_or words (other / 64) 0) (other % 64)) 1 e))

pub marked_taken : (words : List ℕ) (slot : ℕ) → slot % 64 < 64 → slot / 64 < length words → is_taken (marked words slot) slot ≡ true
marked_taken words slot small there =
    eq-eqb (bit_at (slice_index_or (marked words slot) (slot / 64) 0) (slot % 64)) 1 (bit_there words (slot / 64) (slot % 64) small there)

-- another slot is as it was
pub others_stay : (words : List ℕ) (slot other : ℕ) → slot % 64 < 64 → slot / 64 < length words → other ≢ slot → is_taken (marked words slot) other ≡ is_taken words other
others_stay words slot other small there apart =
    ap (λ bit. bit == 1)
    (bit_as_before words (slot / 64) (slot % 64) (other / 64) (other % 64) small there (λ high low. apart (omega (arith, high, low))))

-- ---- names

-- one name more
pub more_taken : (old new : List ℕ) (bindings : List VarBind) (b : VarBind) → ((slot : ℕ) → is_taken old slot ≡ true → is_taken new slot ≡ true)
    → is_taken new (slot_of b.name) ≡ true → AreTaken old bindings → AreTaken new (bindings ++ b ∷ [])
more_taken old new bindings b stays here taken other among =
    taken_by new b.name other (is_among other bindings) (pointwise nat_eq b.name other) (λ h. stays (slot_of other) (taken other h))
    ((bytes_decides b.name other).0) here
    (sym (any_push (λ (b : VarBind). pointwise nat_eq b.name other) bindings b) ∙ among)
