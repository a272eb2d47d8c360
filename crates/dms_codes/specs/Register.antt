-- A register of sixteen bits in place of the bits that a division has still to add (ISO/IEC 3309).
use Rattle.std.specs.Prelude.{◌≡◌, ℕ, Bool, List, ◌++◌, length}
use Rattle.dms_codes.specs.Checksum.{low_bits, add, divided}

-- Whatever follows: where the register was to be added to these bits, it is `after` that is to be added to what follows
-- them, once they are divided.
pub record TakesIn (bits : List Bool) (before after : ℕ) : Type 0 where
  pub leaves : (rest : List Bool)
      → divided (length bits) (add (low_bits 16 before) (bits ++ rest)) ≡ add (low_bits 16 after) rest
