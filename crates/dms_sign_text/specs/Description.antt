-- Signs as text, a line for each part (this profile).
use Rattle.std.specs.Prelude.{◌≡◌, ℕ, ◌≤◌, List, [], ◌∷◌, ◌++◌, length, codes}
use Rattle.dms_face.specs.declared.defaults.Defaults.{Defaults}
use Rattle.dms_text_streams.specs.DescriptionText.{longest_input}
use Rattle.dms_text.specs.Lines.{kept_lines}
use Rattle.dms_text.specs.Words.{words_of}
use Rattle.dms_text.specs.Octets.{SpellsOctets}
use Rattle.dms_face_font.specs.Font.{FontModel}
use Rattle.dms_face_font.specs.FontText.{SpellsFontLines}
use Rattle.dms_face.specs.Face.{FaceModel}
use Rattle.dms_table.specs.declared.row.Services.{Services}
use Rattle.dms_codes.specs.declared.status.Status.TheVariants.{Valid}
use Rattle.dms_table.specs.Rows.{RowModel, TableModel}
use Rattle.dms_sign.specs.Construction.{CanBeMade}
use Rattle.dms_sign.specs.State.{ConfigModel}
use Rattle.dms_text_forms.specs.Fields.{SpellsEach, SpellsOctet, SpellsTwoOctets}
use Rattle.dms_text_forms.specs.Fields.{SpellsFourOctets}
use Rattle.dms_sign_text.specs.Fields.{SpellsFlag, SpellsOrder}

-- what a sign is made with, and the number of the first request of its centre
pub record Description : Type 0 where
  pub config : ConfigModel
  pub table : TableModel
  pub first : ℕ

-- ---- its lines

-- `size WIDTH HEIGHT`
pub record SpellsSize (face : FaceModel) (words : List (List ℕ)) : Type 0 where
  pub width_word : List ℕ
  pub height_word : List ℕ
  pub words_are : words ≡ codes "size" ∷ width_word ∷ height_word ∷ []
  pub width : SpellsTwoOctets face.width width_word
  pub height : SpellsTwoOctets face.height height_word

-- `communities READER WRITER`: two words as they stand
abbrev pub SpellsCommunities : ConfigModel → List (List ℕ) → Type 0
SpellsCommunities config words = words ≡ codes "communities" ∷ config.reader ∷ config.writer ∷ []

-- `rows CHANGEABLE VOLATILE`
pub record SpellsRowCounts (table : TableModel) (words : List (List ℕ)) : Type 0 where
  pub changeable_word : List ℕ
  pub volatile_word : List ℕ
  pub words_are : words ≡ codes "rows" ∷ changeable_word ∷ volatile_word ∷ []
  pub changeable : SpellsOctet (length table.changeable) changeable_word
  pub volatile : SpellsOctet (length table.volatile) volatile_word

-- `order high` or `order swapped`
pub record SpellsOrderLine (table : TableModel) (words : List (List ℕ)) : Type 0 where
  pub order_word : List ℕ
  pub words_are : words ≡ codes "order" ∷ order_word ∷ []
  pub order : SpellsOrder table.order order_word

-- `has BEACON PIXEL`
pub record SpellsServices (services : Services) (words : List (List ℕ)) : Type 0 where
  pub beacon_word : List ℕ
  pub pixel_word : List ℕ
  pub words_are : words ≡ codes "has" ∷ beacon_word ∷ pixel_word ∷ []
  pub beacon : SpellsFlag services.beacon beacon_word
  pub pixel : SpellsFlag services.pixel pixel_word

-- the defaults in the order of their objects
abbrev pub numbers_of : Defaults → List ℕ
numbers_of d = d.background ∷ d.foreground ∷ d.flash_on ∷ d.flash_off ∷ d.font ∷ d.line ∷ d.page ∷ d.on ∷ d.off ∷ []

-- `defaults` and nine numbers
pub record SpellsDefaults (defaults : Defaults) (words : List (List ℕ)) : Type 0 where
  pub number_words : List (List ℕ)
  pub words_are : words ≡ codes "defaults" ∷ number_words
  pub numbers : SpellsEach SpellsOctet (numbers_of defaults) number_words

-- `first NUMBER`
pub record SpellsFirst (first : ℕ) (words : List (List ℕ)) : Type 0 where
  pub first_word : List ℕ
  pub words_are : words ≡ codes "first" ∷ first_word ∷ []
  pub number : SpellsFourOctets first first_word

-- `permanent TEXT OWNER BEACON PIXEL PRIORITY`
pub record SpellsPermanent (row : RowModel) (words : List (List ℕ)) : Type 0 where
  pub text_word : List ℕ
  pub owner_word : List ℕ
  pub beacon_word : List ℕ
  pub pixel_word : List ℕ
  pub priority_word : List ℕ
  pub words_are : words ≡ codes "permanent" ∷ text_word ∷ owner_word ∷ beacon_word ∷ pixel_word ∷ priority_word ∷ []
  pub text : SpellsOctets row.text text_word
  pub owner : SpellsOctets row.owner owner_word
  pub beacon : SpellsOctet row.beacon beacon_word
  pub pixel : SpellsOctet row.pixel pixel_word
  pub priority : SpellsOctet row.priority priority_word
  pub status : row.status ≡ Valid

abbrev pub SpellsPermanentLine : RowModel → List ℕ → Type 0
SpellsPermanentLine row line = SpellsPermanent row (words_of line)

-- the lines of each font, one font after another
pub data SpellsFonts : List FontModel → List (List ℕ) → Type 0 where
  no_font : SpellsFonts [] []
  one_more : (font : FontModel) (fonts : List FontModel) (lines others : List (List ℕ))
      → SpellsFontLines lines font → SpellsFonts fonts others → SpellsFonts (font ∷ fonts) (lines ++ others)

-- The lines stand in this order, and what they spell is a sign that can be made.
pub record SpellsSign (lines : List (List ℕ)) (sign : Description) : Type 0 where
  pub size_line : List ℕ
  pub communities_line : List ℕ
  pub rows_line : List ℕ
  pub order_line : List ℕ
  pub has_line : List ℕ
  pub defaults_line : List ℕ
  pub first_line : List ℕ
  pub permanent_lines : List (List ℕ)
  pub font_lines : List (List ℕ)
  pub lines_are : lines ≡ size_line ∷ communities_line ∷ rows_line ∷ order_line ∷ has_line ∷ defaults_line ∷ first_line
      ∷ permanent_lines ++ font_lines ++ codes "end" ∷ []
  pub size : SpellsSize sign.config.face (words_of size_line)
  pub communities : SpellsCommunities sign.config (words_of communities_line)
  pub rows : SpellsRowCounts sign.table (words_of rows_line)
  pub order : SpellsOrderLine sign.table (words_of order_line)
  pub services : SpellsServices sign.table.services (words_of has_line)
  pub defaults : SpellsDefaults sign.config.face.defaults (words_of defaults_line)
  pub first : SpellsFirst sign.first (words_of first_line)
  pub permanent : SpellsEach SpellsPermanentLine sign.table.permanent permanent_lines
  pub fonts : SpellsFonts sign.config.face.fonts font_lines
  pub can_be_made : CanBeMade sign.config sign.table

-- ---- as an input

-- an input that is a sign's description and nothing else
pub record SpellsDescription (octets : List ℕ) (sign : Description) : Type 0 where
  pub short : length octets ≤ longest_input
  pub lines : SpellsSign (kept_lines octets) sign
