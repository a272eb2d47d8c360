-- What single words of an object's line spell (this profile).
use Rattle.std.specs.Prelude.{◌≡◌, ◌⊎◌, ℕ, ℤ, pos, neg_ℤ, ◌^◌, ◌≤◌, List, ◌∷◌}
use Rattle.std.specs.Str.{byte}
use Rattle.dms_wire_ber.specs.ObjectIdentifier.{IsNameInLimits}
use Rattle.dms_text.specs.Numbers.{SpellsNumber}
use Rattle.dms_text.specs.Words.{parts_of}
use Rattle.dms_text_forms.specs.Fields.{SpellsEach, SpellsFourOctets}

-- the numbers of a name, of one to ten decimal digits each, parted by dots (X.690, 8.19, has the limits of a name)
pub record SpellsName (numbers : List ℕ) (word : List ℕ) : Type 0 where
  pub within : IsNameInLimits numbers
  pub parts : SpellsEach (SpellsNumber 10 10) numbers (parts_of (byte ".") word)

-- an INTEGER that is not negative
pub record SpellsPositive (number : ℤ) (word : List ℕ) : Type 0 where
  pub size : ℕ
  pub spelled : SpellsFourOctets size word
  pub value : number ≡ pos size

-- `-` and one to ten decimal digits, of a number of at most 2^31: its negative
pub record SpellsNegative (number : ℤ) (word : List ℕ) : Type 0 where
  pub size : ℕ
  pub digits : List ℕ
  pub word_is : word ≡ byte "-" ∷ digits
  pub spelled : SpellsNumber 10 10 size digits
  pub small : size ≤ 2 ^ 31
  pub value : number ≡ neg_ℤ (pos size)

abbrev pub SpellsInteger : ℤ → List ℕ → Type 0
SpellsInteger number word = SpellsPositive number word ⊎ SpellsNegative number word
