-- Bits that are read from the first: those that are held as a number, and those of the octets behind them (this
-- profile).
use Rattle.std.specs.Prelude.{◌^◌, ◌<◌, ◌≤◌, Bool, List, ◌++◌}
use Rattle.dms_face_font.specs.declared.glyph.HeldBits.{HeldBits}
use Rattle.dms_face_font.specs.Glyph.{row_bits, bits_of}

-- all that are left
abbrev pub left_of : HeldBits → List Bool
left_of bits = row_bits bits.count bits.held ++ bits_of bits.octets.now

-- as many bits as are said to be held, and room for those of an octet
pub record AreHeld (bits : HeldBits) : Type 0 where
  pub few : bits.count ≤ 39
  pub small : bits.held < 2 ^ bits.count
