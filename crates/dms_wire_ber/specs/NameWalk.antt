-- The walk of an object identifier's numbers over its content (X.690, 8.19).
use Rattle.std.specs.Prelude.{ℕ, ◌+◌, ◌*◌, ◌%◌, ◌^◌, Bool, true, ◌&&◌, nat_lt}
use Rattle.std.specs.Prelude.{List, [], ◌∷◌, ◌++◌, Option, if◌then◌else◌}
use Rattle.std.specs.Option.{option_to_list}
use Rattle.dms_wire_ber.specs.NameReading.{sub_identifiers_after, numbers_of}

-- whether the octets' sub-identifiers are below 2^32 as far as they come. n is what came of the first.
abbrev pub fits_after : ℕ → List ℕ → Bool
fits_after n [] = true
fits_after n (b ∷ bs) =
    nat_lt (n * 128 + b % 128) (2 ^ 32) && (if nat_lt b 128 then fits_after 0 bs else fits_after (n * 128 + b % 128) bs)

-- The numbers that are left: one that was read ahead, and those of the octets. The first sub-identifier is two numbers.
abbrev pub numbers_left : Option ℕ → Bool → List ℕ → List ℕ
numbers_left ahead begun octets =
    option_to_list ahead ++ (if begun then sub_identifiers_after 0 octets else numbers_of octets)
