-- Octets laid into a buffer.
use Rattle.std.proofs.Common.{◌≡◌, ℕ, zero, suc, ◌+◌, ◌-◌, ◌<◌, ◌≤◌, min, List, [], ◌∷◌, ◌++◌, length, take, drop, ◌⊎◌, inl, inr, refl, sym, ap, ◌∙◌, arith, length-drop}
use Rattle.std.proofs.lemmas.List.{take_all, drop_all}
use borrow.Rule.Slice.PartMut.{put_mid}
use Rattle.dms_text_filling.specs.Filling.{laid}

-- from a place beyond the buffer on
pub laid_beyond : (place : ℕ) (octets buffer : List ℕ) → length buffer ≤ place → buffer ≡ laid place octets buffer
laid_beyond place octets [] far = refl
laid_beyond zero octets (x ∷ buffer) far = absurd (omega (arith, far))
laid_beyond (suc place) octets (x ∷ buffer) far = ap (λ xs. x ∷ xs) (laid_beyond place octets buffer (omega (arith, far)))

-- from the first place on
pub laid_first : (octets buffer : List ℕ) → laid 0 octets buffer ≡ take (length buffer) octets ++ drop (length octets) buffer
laid_first [] [] = refl
laid_first (octet ∷ octets) [] = refl
laid_first [] (x ∷ buffer) = refl
laid_first (octet ∷ octets) (x ∷ buffer) = ap (λ xs. octet ∷ xs) (laid_first octets buffer)

laid_at : (place : ℕ) (octets buffer : List ℕ) → laid place octets buffer ≡ take place buffer ++ laid 0 octets (drop place buffer)
laid_at zero octets buffer = refl
laid_at (suc place) octets [] = refl
laid_at (suc place) octets (x ∷ buffer) = ap (λ xs. x ∷ xs) (laid_at place octets buffer)

-- one number is at most the other
pub either : (a b : ℕ) → (a ≤ b) ⊎ (b ≤ a)
either zero b = inl (omega arith)
either (suc a) zero = inr (omega arith)
either (suc a) (suc b) = elim (either a b) [ inl less ↦ inl (omega (arith, less)) | inr more ↦ inr (omega (arith, more)) ]

-- as many as have a place
cut : (octets room : List ℕ) (fits : ℕ) → fits ≡ min (length octets) (length room) → take fits octets ++ drop fits room ≡ laid 0 octets room
cut octets room fits is = cases (either (length octets) (length room)) ∙ sym (laid_first octets room)
  where
    cases : (length octets ≤ length room) ⊎ (length room ≤ length octets) → take fits octets ++ drop fits room ≡ take (length room) octets ++ drop (length octets) room
    cases (inl less) =
        let same : fits ≡ length octets = omega (arith, is, less) in
        ap (λ n. take n octets ++ drop n room) same
        ∙ ap (λ xs. xs ++ drop (length octets) room) (take_all (length octets) octets (omega arith) ∙ sym (take_all (length room) octets less))
    cases (inr more) =
        let same : fits ≡ length room = omega (arith, is, more) in
        ap (λ n. take n octets ++ drop n room) same
        ∙ ap (λ xs. take (length room) octets ++ xs) (drop_all (length room) room (omega arith) ∙ sym (drop_all (length octets) room more))

-- what a part of a buffer becomes
pub laid_within : (place fits size : ℕ) (octets buffer : List ℕ) → place < length buffer → fits ≡ min (length octets) (length buffer - place)
    → size ≡ fits → put_mid place size buffer (take fits octets) ≡ laid place octets buffer
laid_within place fits size octets buffer within is part =
    let room : length (drop place buffer) ≡ length buffer - place = omega (arith, length-drop place buffer) in
    ap (λ n. take place buffer ++ (take fits octets ++ drop n (drop place buffer))) part
    ∙ ap (λ xs. take place buffer ++ xs) (cut octets (drop place buffer) fits (is ∙ ap (min (length octets)) (sym room)))
    ∙ sym (laid_at place octets buffer)

-- a buffer keeps its length
pub length-laid : (place : ℕ) (octets buffer : List ℕ) → length (laid place octets buffer) ≡ length buffer
length-laid place octets [] = refl
length-laid zero [] (x ∷ buffer) = refl
length-laid zero (octet ∷ octets) (x ∷ buffer) = ap suc (length-laid zero octets buffer)
length-laid (suc place) octets (x ∷ buffer) = ap suc (length-laid place octets buffer)

-- octets, and others after them
pub laid_more : (place to : ℕ) (first second buffer : List ℕ) → to ≡ place + length first
    → laid to second (laid place first buffer) ≡ laid place (first ++ second) buffer
laid_more place to first second [] is = refl
laid_more zero zero [] second (x ∷ buffer) is = refl
laid_more zero (suc to) [] second (x ∷ buffer) is = absurd (omega (arith, is))
laid_more zero zero (octet ∷ first) second (x ∷ buffer) is = absurd (omega (arith, is))
laid_more zero (suc to) (octet ∷ first) second (x ∷ buffer) is = ap (λ xs. octet ∷ xs) (laid_more zero to first second buffer (omega (arith, is)))
laid_more (suc place) zero first second (x ∷ buffer) is = absurd (omega (arith, is))
laid_more (suc place) (suc to) first second (x ∷ buffer) is = ap (λ xs. x ∷ xs) (laid_more place to first second buffer (omega (arith, is)))

-- none
pub laid_none : (place : ℕ) (buffer : List ℕ) → buffer ≡ laid place [] buffer
laid_none place [] = refl
laid_none zero (x ∷ buffer) = refl
laid_none (suc place) (x ∷ buffer) = ap (λ xs. x ∷ xs) (laid_none place buffer)

-- octets that all have a place
pub laid_whole : (octets buffer : List ℕ) → length octets ≤ length buffer → laid 0 octets buffer ≡ octets ++ drop (length octets) buffer
laid_whole octets buffer fits = laid_first octets buffer ∙ ap (λ xs. xs ++ drop (length octets) buffer) (take_all (length buffer) octets fits)
