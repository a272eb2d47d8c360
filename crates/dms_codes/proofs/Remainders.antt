-- The table of remainders, and the step of the register that looks into it.
use Rattle.std.proofs.Common.{◌≡◌, ℕ, ◌/◌, ◌%◌, ◌^◌, ◌<◌, ◌++◌, length, map, get_or, bit_xor, refl, ap, sym, ◌∙◌, arith}
use Rattle.std.specs.List.{range_with_len}
use Rattle.std.proofs.lemmas.List.FromFn.{get_or-map-range_with_len}
use Rattle.dms_codes.specs.declared.checksum.TheConstants.{REMAINDERS}
use Rattle.dms_codes.specs.Checksum.{low_bits, octet_bits, number, add, divided, remainder, sixteen_zeros}
use Rattle.dms_codes.specs.Register.{TakesIn}
use Rattle.dms_codes.proofs.Bits.{low_bits-xor, low_bits-mod, low_bits-number, add_assoc_bits, add-append, add_zeros_after}
use Rattle.dms_codes.proofs.Division.{length-divided, divided_front}

abbrev remainder_of : ℕ → ℕ
remainder_of octet = number (remainder (octet_bits octet ++ sixteen_zeros))

-- The whole table, computed.
table_is : REMAINDERS ≡ map remainder_of (range_with_len 0 256)
unfolding octet_bits
table_is = refl

pub remainder_at : (octet : ℕ) → octet < 256 → get_or REMAINDERS octet 0 ≡ number (remainder (octet_bits octet ++ sixteen_zeros))
remainder_at octet h =
    ap (λ table. get_or table octet 0) table_is ∙ get_or-map-range_with_len remainder_of 0 256 octet octet 0 h (omega arith)

-- an entry's bits are what eight steps of the division leave
entry_bits : (octet : ℕ) → octet < 256 → low_bits 16 (get_or REMAINDERS octet 0) ≡ divided 8 (octet_bits octet ++ sixteen_zeros)
unfolding octet_bits
entry_bits octet h =
    let left = divided 8 (octet_bits octet ++ sixteen_zeros) in
    let sixteen : length left ≡ 16 = length-divided 8 (octet_bits octet ++ sixteen_zeros) in
    ap (low_bits 16) (remainder_at octet h) ∙ ap (λ count. low_bits count (number left)) (sym sixteen) ∙ low_bits-number left

-- the lower and the upper octet
pub split : (n : ℕ) → low_bits 16 n ≡ low_bits 8 n ++ low_bits 8 (n / 2 ^ 8)
split n = let half : n / 2 / 2 / 2 / 2 / 2 / 2 / 2 / 2 ≡ n / 2 ^ 8 = omega arith in ap (λ high. low_bits 8 n ++ low_bits 8 high) half

-- An octet goes in by one look into the table.
pub takes_octet : (register octet index : ℕ) → register < 2 ^ 16 → index ≡ bit_xor register octet % 2 ^ 8
    → TakesIn (octet_bits octet) register (bit_xor (get_or REMAINDERS index 0) (register / 2 ^ 8))
unfolding octet_bits
takes_octet register octet index small at =
    let entry = get_or REMAINDERS index 0 in
    let high = register / 2 ^ 8 in
    let divides : low_bits 16 entry ≡ divided 8 (octet_bits index ++ sixteen_zeros) = entry_bits index (omega arith) in
    let none : high / 2 ^ 8 ≡ 0 = omega arith in
    let high_bits : low_bits 16 high ≡ low_bits 8 high ++ low_bits 8 0 = split high ∙ ap (λ n. low_bits 8 high ++ low_bits 8 n) none in
    record {
      leaves = λ rest.
          let more = add (low_bits 8 high) rest in
          ap (divided 8)
          (ap (λ bits. add bits (octet_bits octet ++ rest)) (split register)
          ∙ add-append (low_bits 8 register ++ low_bits 8 high) (octet_bits octet) rest
          ∙ ap (λ bits. bits ++ more) (sym (low_bits-xor 8 register octet) ∙ sym (low_bits-mod 8 (bit_xor register octet)) ∙ ap (low_bits 8) (sym at)))
          ∙ divided_front 8 (octet_bits index) more refl
          ∙ ap (λ bits. add bits more) (sym divides)
          ∙ ap (add (low_bits 16 entry)) (sym (add_zeros_after (low_bits 8 high) 8 rest) ∙ ap (λ bits. add bits rest) (sym high_bits))
          ∙ add_assoc_bits (low_bits 16 entry) (low_bits 16 high) rest (omega arith)
          ∙ ap (λ bits. add bits rest) (sym (low_bits-xor 16 entry high));
    }
