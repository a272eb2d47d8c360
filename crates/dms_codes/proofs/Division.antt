-- How a division goes over the octets of a message.
use Rattle.std.proofs.Common.{◌≡◌, ℕ, zero, suc, ◌+◌, ◌-◌, ◌^◌, ◌<◌, ◌≤◌, Bool, true, false, not, List, [], ◌∷◌, ◌++◌, length, map, take, drop, flat_map, get_or, ap, sym, subst, ◌∙◌, arith, append_assoc, length-append, length-drop, zero-add}
use Rattle.std.proofs.Math.Nat.{suc-add}
use Rattle.std.proofs.lemmas.List.{drop_all, take_more, flat_map_more}
use Rattle.std.proofs.lemmas.Grind.{flat_map-append}
use Rattle.dms_codes.specs.Checksum.{low_bits, octet_bits, number, add, divisor, divided, remainder, sixteen_zeros, first_sixteen_inverted, checksum, message_checksum}
use Rattle.dms_codes.specs.Register.{TakesIn}
use Rattle.dms_codes.proofs.Bits.{number-map-not, length-add, add_zeros, add-zeros, add_assoc_bits, add-append, add_padded, inverted_front}

pub length-divided : (count : ℕ) (bits : List Bool) → length (divided count bits) ≡ length bits - count
length-divided zero bits = omega arith
length-divided (suc count) [] = omega arith
length-divided (suc count) (true ∷ bits) = omega (arith, length-divided count (add divisor bits), length-add divisor bits)
length-divided (suc count) (false ∷ bits) = omega (arith, length-divided count bits)

divided-nil : (count : ℕ) → divided count [] ≡ []
divided-nil count = grind arith

-- a division in two parts
divided-add : (m n : ℕ) (bits : List Bool) → divided (m + n) bits ≡ divided n (divided m bits)
divided-add zero n bits = ap (λ count. divided count bits) (zero-add n)
divided-add (suc m) n [] = ap (λ count. divided count []) (suc-add m n) ∙ sym (divided-nil n)
divided-add (suc m) n (true ∷ bits) = ap (λ count. divided count (true ∷ bits)) (suc-add m n) ∙ divided-add m n (add divisor bits)
divided-add (suc m) n (false ∷ bits) = ap (λ count. divided count (false ∷ bits)) (suc-add m n) ∙ divided-add m n bits

-- Dividing the front adds to what follows what dividing the front before sixteen zeros leaves.
pub divided_front : (count : ℕ) (front rest : List Bool) → length front ≡ count → divided count (front ++ rest) ≡ add (divided count (front ++ sixteen_zeros)) rest
divided_front zero [] rest h = sym (add_zeros 16 rest)
divided_front zero (b ∷ front) rest h = absurd (omega arith)
divided_front (suc count) [] rest h = absurd (omega arith)
divided_front (suc count) (false ∷ front) rest h = divided_front count front rest (omega arith)
divided_front (suc count) (true ∷ front) rest h =
    let over = drop (length front) divisor in
    let left = divided count (add divisor front ++ sixteen_zeros) in
    let same : length (add divisor front) ≡ count = omega (arith, length-add divisor front) in
    let step = λ (more : List Bool). ap (divided count) (add-append divisor front more) ∙ divided_front count (add divisor front) (add over more) same in
    let shorter : length over ≤ 16 = omega (arith, length-drop (length front) divisor) in
    let sixteen : length left ≤ length (add over sixteen_zeros) =
    omega (arith, length-divided count (add divisor front ++ sixteen_zeros), length-append (add divisor front) sixteen_zeros, length-add over sixteen_zeros) in
    step rest ∙ sym (ap (λ bits. add bits rest) (step sixteen_zeros) ∙ sym (add_assoc_bits left (add over sixteen_zeros) rest sixteen) ∙ ap (add left) (add_padded over 16 rest shorter))

-- ---- a register

-- bits, and then more of them
pub takes_both : (bits more : List Bool) (before between after : ℕ) → TakesIn bits before between → TakesIn more between after → TakesIn (bits ++ more) before after
takes_both bits more before between after first second = grind (arith, length-append, divided-add, append_assoc)

-- one more octet
pub takes_more : (octets : List ℕ) (i before between after : ℕ)
    → i < length octets → TakesIn (flat_map octet_bits (take i octets)) before between → TakesIn (octet_bits (get_or octets i 0)) between after
    → TakesIn (flat_map octet_bits (take (i + 1) octets)) before after
takes_more octets i before between after h first second =
    subst (λ bits. TakesIn bits before after)
    (flat_map_more octet_bits [] (take i octets) (get_or octets i 0) ∙ ap (flat_map octet_bits) (sym (take_more octets i 0 h)))
    (takes_both (flat_map octet_bits (take i octets)) (octet_bits (get_or octets i 0)) before between after first second)

bits_of_two : (octets : List ℕ) → 2 ≤ length octets → 16 ≤ length (flat_map octet_bits octets)
unfolding octet_bits
bits_of_two [] h = absurd (omega arith)
bits_of_two (a ∷ []) h = absurd (omega arith)
bits_of_two (a ∷ b ∷ octets) h = omega arith

-- The checksum is the register, inverted.
pub checksum_is : (octets : List ℕ) (register : ℕ) → 2 ≤ length octets → register < 2 ^ 16 → TakesIn (flat_map octet_bits octets) 65535 register → checksum octets + register + 1 ≡ 2 ^ 16
checksum_is octets register some small takes =
    let bits = flat_map octet_bits octets in
    let ones = low_bits 16 65535 in
    let past : drop (length bits) ones ≡ [] = drop_all (length bits) ones (bits_of_two octets some) in
    let preset : first_sixteen_inverted bits ++ sixteen_zeros ≡ add ones (bits ++ sixteen_zeros) =
    ap (λ front. front ++ sixteen_zeros) (inverted_front 16 bits)
    ∙ sym (add-append ones bits sixteen_zeros ∙ ap (λ terms. add ones bits ++ add terms sixteen_zeros) past) in
    let count : length (add ones (bits ++ sixteen_zeros)) - 16 ≡ length bits =
    omega (arith, length-add ones (bits ++ sixteen_zeros), length-append bits sixteen_zeros) in
    let left : remainder (first_sixteen_inverted bits ++ sixteen_zeros) ≡ low_bits 16 register =
    ap remainder preset ∙ ap (λ n. divided n (add ones (bits ++ sixteen_zeros))) count ∙ takes.leaves sixteen_zeros ∙ add-zeros 16 register in
    ap (λ last. number (map not last) + register + 1) left ∙ number-map-not 16 register small

-- of a message: the register of its text, then its beacon and its pixel service
pub message_checksum_is : (text : List ℕ) (beacon pixel first second last : ℕ) → last < 2 ^ 16
    → TakesIn (flat_map octet_bits text) 65535 first → TakesIn (octet_bits beacon) first second → TakesIn (octet_bits pixel) second last
    → 2 ^ 16 - 1 - last ≡ message_checksum text beacon pixel
unfolding octet_bits
message_checksum_is text beacon pixel first second last small takes_text takes_beacon takes_pixel =
    let octets = text ++ beacon ∷ pixel ∷ [] in
    let bits = flat_map octet_bits text in
    let parts : (bits ++ octet_bits beacon) ++ octet_bits pixel ≡ flat_map octet_bits octets =
    append_assoc bits (octet_bits beacon) (octet_bits pixel) ∙ sym (flat_map-append octet_bits text (beacon ∷ pixel ∷ [])) in
    let takes = subst (λ all. TakesIn all 65535 last) parts
    (takes_both (bits ++ octet_bits beacon) (octet_bits pixel) 65535 second last
    (takes_both bits (octet_bits beacon) 65535 first second takes_text takes_beacon) takes_pixel) in
    let some : 2 ≤ length octets = omega (arith, length-append text (beacon ∷ pixel ∷ [])) in
    omega (arith, checksum_is octets last some small takes)
