-- What single words of a sign's description, of a command and of a script spell (this profile).
use Rattle.std.specs.Prelude.{◌≡◌, ℕ, ◌<◌, ◌≤◌, ◌^◌, List, [], ◌∷◌, length}
use Rattle.std.specs.Str.{byte}
use Rattle.dms_text.specs.Numbers.{SpellsNumber, SpellsDecimal}
use Rattle.dms_text.specs.Words.{parts_of}

-- each of these is spelled by one of those, in order
abbrev pub SpellsEach : {A : Type 0} → (A → List ℕ → Type 0) → List A → List (List ℕ) → Type 0
SpellsEach Spelled [] words = words ≡ []
SpellsEach Spelled (value ∷ values) [] = ⊥
SpellsEach Spelled (value ∷ values) (word ∷ words) = Spelled value word × SpellsEach Spelled values words

-- a number of one octet, and of two
abbrev pub SpellsOctet : ℕ → List ℕ → Type 0
SpellsOctet number word = SpellsDecimal 0 255 number word

abbrev pub SpellsTwoOctets : ℕ → List ℕ → Type 0
SpellsTwoOctets number word = SpellsDecimal 0 65535 number word

-- a number of four octets has one to ten decimal digits
pub record SpellsFourOctets (number : ℕ) (word : List ℕ) : Type 0 where
  pub spelled : SpellsNumber 10 10 number word
  pub small : number < 2 ^ 32

-- one number of an address: one to three decimal digits, at most 255
pub record SpellsAddressPart (number : ℕ) (word : List ℕ) : Type 0 where
  pub spelled : SpellsNumber 10 3 number word
  pub small : number ≤ 255

-- four numbers parted by dots
pub record SpellsAddress (address : List ℕ) (word : List ℕ) : Type 0 where
  pub four : length address ≡ 4
  pub parts : SpellsEach SpellsAddressPart address (parts_of (byte ".") word)

-- a keyword, and one word after it that spells something
pub record SpellsOne (keyword : List ℕ) (Spelled : List ℕ → Type 0) (words : List (List ℕ)) : Type 0 where
  pub word : List ℕ
  pub words_are : words ≡ keyword ∷ word ∷ []
  pub spelled : Spelled word
