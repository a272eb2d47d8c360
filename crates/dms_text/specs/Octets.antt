-- The octets that words spell (this profile).
use Rattle.std.specs.Prelude.{◌≡◌, ℕ, List, [], ◌∷◌, codes, Ok}
use Rattle.hex.specs.Hex.{decode_of}

-- octets as pairs of hexadecimal digits; `-` is no octets
abbrev pub SpellsOctets : List ℕ → List ℕ → Type 0
SpellsOctets [] word = word ≡ codes "-"
SpellsOctets (octet ∷ octets) word = decode_of word ≡ Ok (octet ∷ octets)
