-- The octets of a picture, with zeros after its last bit.
use Rattle.std.proofs.Common.{◌≡◌, ℕ, zero, suc, ◌+◌, ◌-◌, ◌*◌, ◌/◌, ◌%◌, ◌^◌, ◌==◌, ◌<◌, ◌≤◌, Bool, if◌then◌else◌, List, [], ◌∷◌, ◌++◌, length, map, take, drop, set, get_or, refl, sym, ap, ◌∙◌, arith, length-take}
use Rattle.std.specs.Int.Digits.{AllBelowBase}
use Rattle.std.proofs.Math.Nat.{div-mul-le_self}
use Rattle.std.proofs.Math.Seq.{take-append-add, take-append_seam, drop-append_seam}
use Rattle.dms_face_font.specs.Glyph.{octet_bits, bits_of, rows_of, octet_from, octets_holding}
use Rattle.dms_face_font.proofs.RowLaws.{length-bits_of}

-- an octet with zeros in the place of its last bits
abbrev Cleared : ℕ → ℕ → Type 0
Cleared octet padding = octet_from 8 (take (8 - padding) (octet_bits octet)) ≡ octet / 2 ^ padding * 2 ^ padding

bit_part : (n value : ℕ) → (if n % 2 == 1 then value else 0) ≡ n % 2 * value
bit_part n value = grind arith

cleared_octet : (octet padding : ℕ) → octet < 256 → padding < 8 → Cleared octet padding
cleared_octet octet zero small few = omega (arith, bit_part)
cleared_octet octet (suc zero) small few = omega (arith, bit_part)
cleared_octet octet (suc (suc zero)) small few = omega (arith, bit_part)
cleared_octet octet (suc (suc (suc zero))) small few = omega (arith, bit_part)
cleared_octet octet (suc (suc (suc (suc zero)))) small few = omega (arith, bit_part)
cleared_octet octet (suc (suc (suc (suc (suc zero))))) small few = omega (arith, bit_part)
cleared_octet octet (suc (suc (suc (suc (suc (suc zero)))))) small few = omega (arith, bit_part)
cleared_octet octet (suc (suc (suc (suc (suc (suc (suc zero))))))) small few = omega (arith, bit_part)
cleared_octet octet (suc (suc (suc (suc (suc (suc (suc (suc padding)))))))) small few = absurd (omega arith)

first_octet : (octet : ℕ) (bits : List Bool) → octet < 256 → octet_from 8 (take 8 (octet_bits octet ++ bits)) ≡ octet
first_octet octet bits small =
    ap (octet_from 8) (take-append_seam (octet_bits octet) bits) ∙ cleared_octet octet 0 small (omega arith) ∙ (let e : octet / 2 ^ 0 * 2 ^ 0 ≡ octet = omega arith in e)

-- The octets of so many bits are those, with zeros after the last bit.
packed : (octets : List ℕ) (last count padding : ℕ) → AllBelowBase 256 octets → last + 1 ≡ length octets → padding + count ≡ 8 * length octets → padding < 8
    → set octets last (get_or octets last 0 / 2 ^ padding * 2 ^ padding)
    ≡ map (octet_from 8) (rows_of 8 (length octets) (take count (bits_of octets)))
packed [] last count padding small at is few = absurd (omega arith)
packed (octet ∷ []) (suc last) count padding small at is few = absurd (omega arith)
packed (octet ∷ []) zero count padding small at is few =
    let long : count ≡ 8 - padding = omega arith in
    sym (ap (λ n. octet_from 8 (take 8 (take n (octet_bits octet ++ []))) ∷ []) long
    ∙ ap (λ bits. octet_from 8 bits ∷ []) (let same : take 8 (take (8 - padding) (octet_bits octet ++ [])) ≡ take (8 - padding) (octet_bits octet) = within padding few in same)
    ∙ ap (λ n. n ∷ []) (cleared_octet octet padding small.0 few))
  where
    within : (padding : ℕ) → padding < 8 → take 8 (take (8 - padding) (octet_bits octet ++ [])) ≡ take (8 - padding) (octet_bits octet)
    within zero few = refl
    within (suc zero) few = refl
    within (suc (suc zero)) few = refl
    within (suc (suc (suc zero))) few = refl
    within (suc (suc (suc (suc zero)))) few = refl
    within (suc (suc (suc (suc (suc zero))))) few = refl
    within (suc (suc (suc (suc (suc (suc zero)))))) few = refl
    within (suc (suc (suc (suc (suc (suc (suc zero))))))) few = refl
    within (suc (suc (suc (suc (suc (suc (suc (suc padding)))))))) few = absurd (omega arith)
packed (octet ∷ other ∷ more) zero count padding small at is few = absurd (omega arith)
packed (octet ∷ other ∷ more) (suc last) count padding small at is few =
    let left = count - 8 in
    let octets : List ℕ = other ∷ more in
    let bits = bits_of octets in
    let long : count ≡ 8 + left = omega arith in
    let parts : take (8 + left) (octet_bits octet ++ bits) ≡ octet_bits octet ++ take left bits = take-append-add (octet_bits octet) bits left in
    let first : octet_from 8 (take 8 (octet_bits octet ++ take left bits)) ≡ octet = first_octet octet (take left bits) small.0 in
    let rest : drop 8 (octet_bits octet ++ take left bits) ≡ take left bits = drop-append_seam (octet_bits octet) (take left bits) in
    ap (λ xs. octet ∷ xs) (packed (other ∷ more) last left padding small.1 (omega arith) (omega arith) few)
    ∙ sym (ap (λ n. map (octet_from 8) (rows_of 8 (length (octet ∷ octets)) (take n (octet_bits octet ++ bits)))) long
    ∙ ap (λ all. map (octet_from 8) (rows_of 8 (length (octet ∷ octets)) all)) parts
    ∙ ap (λ n. n ∷ map (octet_from 8) (rows_of 8 (length octets) (drop 8 (octet_bits octet ++ take left bits)))) first
    ∙ ap (λ all. octet ∷ map (octet_from 8) (rows_of 8 (length octets) all)) rest)

pub octets_fit : (octets : List ℕ) → ((i : ℕ) → get_or octets i 0 < 256) → AllBelowBase 256 octets
octets_fit [] fit = tt
octets_fit (octet ∷ octets) fit = (fit 0, octets_fit octets (λ i. fit (suc i)))

pub cleared_holds : (octets : List ℕ) (count last padding value : ℕ) → AllBelowBase 256 octets → value < 256 → length octets ≡ (count + 7) / 8 → 1 ≤ count → last ≡ length octets - 1
    → padding ≡ 8 * length octets - count → value ≡ get_or octets last 0 → set octets last (value / 2 ^ padding * 2 ^ padding % 256) ≡ octets_holding (take count (bits_of octets))
cleared_holds octets count last padding value below small enough some at is reads =
    let held : length (take count (bits_of octets)) ≡ count = omega (arith, length-take count (bits_of octets), length-bits_of octets) in
    let few : padding < 8 = omega arith in
    let fits : value / 2 ^ padding * 2 ^ padding % 256 ≡ value / 2 ^ padding * 2 ^ padding = omega (arith, small, div-mul-le_self value (2 ^ padding)) in
    ap (set octets last) (fits ∙ ap (λ v. v / 2 ^ padding * 2 ^ padding) reads)
    ∙ packed octets last count padding below (omega arith) (omega arith) few
    ∙ ap (λ n. map (octet_from 8) (rows_of 8 n (take count (bits_of octets)))) (enough ∙ sym (ap (λ n. (n + 7) / 8) held))
