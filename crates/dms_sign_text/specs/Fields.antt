-- What single words of a sign's description alone spell (this profile).
use Rattle.std.specs.Prelude.{◌≡◌, Bool, true, false, List, ℕ, codes}
use Rattle.dms_text.specs.Numbers.{SpellsDecimal}
use Rattle.dms_codes.specs.declared.codes.Order.{Order}
use Rattle.dms_codes.specs.declared.codes.Order.TheVariants.{High, Swapped}

-- 0 for no, 1 for yes
abbrev pub SpellsFlag : Bool → List ℕ → Type 0
SpellsFlag false word = SpellsDecimal 0 0 0 word
SpellsFlag true word = SpellsDecimal 1 1 1 word

abbrev pub SpellsOrder : Order → List ℕ → Type 0
SpellsOrder High word = word ≡ codes "high"
SpellsOrder Swapped word = word ≡ codes "swapped"
