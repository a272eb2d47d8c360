-- Which octets spell an item of MULTI, the markup of a sign's message (NTCIP 1203), and where a text goes wrong.
use Rattle.std.specs.Prelude.{◌≡◌, ◌↔◌, ℕ, ◌+◌, ◌≤◌, ◌==◌, ◌⊎◌, ◌||◌, Bool, if◌then◌else◌, List, [], ◌∷◌}
use Rattle.std.specs.Prelude.{◌++◌, length, take, drop, map, Option, Some, None, Result, Ok, Err, codes}
use Rattle.std.specs.Str.{byte, str_to_ascii_lowercase}
use Rattle.dms_text.specs.Numbers.{SpellsNumber, SpellsDecimal, SpellsVersion}
use Rattle.dms_multi.specs.declared.item.Item.{Item}
use Rattle.dms_multi.specs.declared.item.Item.TheVariants.{Char, Background, Foreground, Font, FlashOn, FlashEnd}
use Rattle.dms_multi.specs.declared.item.Item.TheVariants.{JustLine, JustPage, NewLine, NewPage, PageTime}
use Rattle.dms_multi.specs.declared.item.Lead.{Lead}
use Rattle.dms_multi.specs.declared.item.Lead.TheVariants.{Lit, Dark}
use Rattle.dms_multi.specs.declared.spots.Spot.{Spot}
use Rattle.dms_multi.specs.declared.fault.SyntaxFault.{SyntaxFault}
use Rattle.dms_multi.specs.declared.fault.FaultCode.TheVariants.{UnsupportedTagValue}

-- ---- patterns of text

-- the one and after it the other
infixr 5 ◌⨾◌
pub record ◌⨾◌ (First Second : List ℕ → Type 0) (text : List ℕ) : Type 0 where
  pub front : List ℕ
  pub back : List ℕ
  pub first : First front
  pub second : Second back
  pub parts : text ≡ front ++ back

-- the one or the other
infixr 4 ◌or◌
abbrev pub ◌or◌ : (List ℕ → Type 0) → (List ℕ → Type 0) → List ℕ → Type 0
(First or Second) text = First text ⊎ Second text

-- no octet
abbrev pub Nothing : List ℕ → Type 0
Nothing text = text ≡ []

-- any octets
abbrev pub Anything : List ℕ → Type 0
Anything text = Unit {0}

-- just these octets
abbrev pub Exactly : List ℕ → List ℕ → Type 0
Exactly octets text = text ≡ octets

-- this word, its letters in either case
abbrev pub Word : List ℕ → List ℕ → Type 0
Word word text = str_to_ascii_lowercase text ≡ word

-- ---- values

-- a number from low to high, in one to five decimal digits; where it is missing, nothing stands
abbrev pub Value : ℕ → ℕ → Option ℕ → List ℕ → Type 0
Value low high None = Nothing
Value low high (Some n) = SpellsDecimal low high n

-- a time after a letter, or neither
abbrev pub LaterTime : List ℕ → ℕ → Option ℕ → List ℕ → Type 0
LaterTime letter high time text = (Word letter ⨾ Value 0 high time) text ⊎ ((time ≡ None) × Nothing text)

-- a time, and perhaps another after a letter
abbrev pub Times : List ℕ → ℕ → Option ℕ → Option ℕ → List ℕ → Type 0
Times letter high first second = Value 0 high first ⨾ LaterTime letter high second

-- a font's number, and perhaps after a comma the four hexadecimal digits of its version
abbrev pub FontValue : Option (ℕ × Option ℕ) → List ℕ → Type 0
FontValue None = Nothing
FontValue (Some (n, None)) = SpellsDecimal 1 255 n
FontValue (Some (n, Some version)) = SpellsDecimal 1 255 n ⨾ (Exactly (codes ",") ⨾ SpellsVersion version)

-- a flash: no times, or two of which that after `t` is the lit and that after `o` the dark one
abbrev pub FlashTimes : Lead → Option ℕ → Option ℕ → List ℕ → Type 0
FlashTimes Lit lit dark text = ((lit ≡ None) × (dark ≡ None) × Nothing text)
    ⊎ (Word (codes "t") ⨾ Times (codes "o") 99 lit dark) text
FlashTimes Dark lit dark text = (Word (codes "o") ⨾ Times (codes "t") 99 dark lit) text

-- ---- items

-- what stands between a tag's brackets
abbrev pub TagBody : Item → List ℕ → Type 0
TagBody (Char c) = Word (codes "hc") ⨾ SpellsNumber 16 4 c
TagBody (Background colour) = (Word (codes "cb") or Word (codes "pb")) ⨾ Value 0 9 colour
TagBody (Foreground colour) = Word (codes "cf") ⨾ Value 0 9 colour
TagBody (Font font) = Word (codes "fo") ⨾ FontValue font
TagBody (FlashOn first lit dark) = Word (codes "fl") ⨾ FlashTimes first lit dark
TagBody FlashEnd = Word (codes "/fl")
TagBody (JustLine place) = Word (codes "jl") ⨾ Value 2 4 place
TagBody (JustPage place) = Word (codes "jp") ⨾ Value 2 4 place
TagBody (NewLine gap) = Word (codes "nl") ⨾ Value 0 9 gap
TagBody NewPage = Word (codes "np")
TagBody (PageTime lit dark) = Word (codes "pt") ⨾ Times (codes "o") 255 lit dark

abbrev pub is_bracket : ℕ → Bool
is_bracket c = (c == byte "[") || (c == byte "]")

-- a character as itself, a bracket twice
abbrev pub plain : ℕ → List ℕ
plain c = if is_bracket c then c ∷ c ∷ [] else c ∷ []

abbrev pub IsPlain : Item → List ℕ → Type 0
IsPlain (Char c) = Exactly (plain c)
IsPlain _ = λ text. ⊥

-- the octets spell the item: a plain character, or a tag in brackets
abbrev pub ItemSpells : Item → List ℕ → Type 0
ItemSpells item = IsPlain item or (Exactly (codes "[") ⨾ (TagBody item ⨾ Exactly (codes "]")))

-- the spellings of the items, one after the other
abbrev pub TextSpells : List Item → List ℕ → Type 0
TextSpells [] text = Nothing text
TextSpells (item ∷ items) text = (ItemSpells item ⨾ TextSpells items) text

-- ---- spots and faults

-- a spelling of the spot's item, which begins at the offset and ends where the spot does
pub record IsSpot (offset : ℕ) (spot : Spot) (text : List ℕ) : Type 0 where
  pub spelled : ItemSpells spot.item text
  pub first : spot.first ≡ offset
  pub past : spot.past ≡ offset + length text

-- the spellings of the spots' items, one after the other from the offset on
abbrev pub SpotsSpell : ℕ → List Spot → List ℕ → Type 0
SpotsSpell offset [] text = Nothing text
SpotsSpell offset (spot ∷ spots) text = (IsSpot offset spot ⨾ SpotsSpell spot.past spots) text

-- a tag's name, its letters in either case
abbrev pub Name : List ℕ → Type 0
Name = Word (codes "cb") or Word (codes "pb") or Word (codes "cf") or Word (codes "fo") or Word (codes "fl")
    or Word (codes "/fl") or Word (codes "hc") or Word (codes "jl") or Word (codes "jp") or Word (codes "nl")
    or Word (codes "np") or Word (codes "pt")

-- a tag whose body begins with a name, and whatever follows it
abbrev pub BeginsWithNamedTag : List ℕ → Type 0
BeginsWithNamedTag = Exactly (codes "[") ⨾ (Name ⨾ (Anything ⨾ (Exactly (codes "]") ⨾ Anything)))

-- The fault of a text that spells no items stands after its longest prefix that spells some.
pub record IsSyntaxFault (text : List ℕ) (fault : SyntaxFault) : Type 0 where
  pub none : (items : List Item) → TextSpells items text → ⊥
  pub within : fault.place ≤ length text
  pub before : (items : List Item) × TextSpells items (take fault.place text)
  pub longest : (items : List Item) (n : ℕ) → n ≤ length text → TextSpells items (take n text) → n ≤ fault.place
  pub code : (fault.code ≡ UnsupportedTagValue) ↔ BeginsWithNamedTag (drop fault.place text)

-- The spots are those of the text, or where it has a fault, of what stands before that.
abbrev pub ReadsAs : List ℕ → List Spot → Option SyntaxFault → Type 0
ReadsAs text spots None = SpotsSpell 0 spots text
ReadsAs text spots (Some fault) = SpotsSpell 0 spots (take fault.place text) × IsSyntaxFault text fault

abbrev pub Outcome : Type 0
Outcome = Result Spot SyntaxFault

-- the spots, and then the fault, if there is one
abbrev pub outcomes : List Spot → Option SyntaxFault → List Outcome
outcomes spots None = map Ok spots
outcomes spots (Some fault) = map Ok spots ++ Err fault ∷ []

-- what a text is read as: its spots in order, then its fault
pub record IsReading (text : List ℕ) (read : List Outcome) : Type 0 where
  pub spots : List Spot
  pub fault : Option SyntaxFault
  pub parts : read ≡ outcomes spots fault
  pub reads : ReadsAs text spots fault
