-- Reading a description from its beginning: its parts, and the lines after them (this profile).
use Rattle.std.specs.Prelude.{ℕ, ◌==◌, if◌then◌else◌, List, [], ◌∷◌, ◌++◌, codes}
use Rattle.std.specs.Prelude.{replicate, Option, Some, None, Result, Ok, Err}
use Rattle.dms_text.specs.Words.{words_of}
use Rattle.dms_text.specs.Reading.{word_at, keyword_at, decimal_at, same_octets, octets_of, ◌>>=◌}
use Rattle.dms_face_font.specs.Font.{FontModel}
use Rattle.dms_face_font.specs.FontReading.{header_of, glyph_added}
use Rattle.dms_face_font.specs.declared.fault.FontFaultKind.{FontFaultKind}
use Rattle.dms_face.specs.declared.defaults.Defaults.{Defaults}
use Rattle.dms_codes.specs.declared.codes.Order.{Order}
use Rattle.dms_codes.specs.declared.codes.Order.TheVariants.{High, Swapped}
use Rattle.dms_codes.specs.declared.status.Status.TheVariants.{Valid}
use Rattle.dms_table.specs.declared.row.Services.{Services}
use Rattle.dms_table.specs.Rows.{RowModel, unused}
use Rattle.dms_sign_text.specs.declared.head.Size.{Size}
use Rattle.dms_sign_text.specs.declared.head.RowCounts.{RowCounts}
use Rattle.dms_sign_text.specs.declared.head.ColoursAndFlash.{ColoursAndFlash}
use Rattle.dms_sign_text.specs.Description.{Description}
use Rattle.dms_text_forms.specs.FieldsReading.{if_last}

-- ---- the words of the first lines

unfoldable pub size_of : List (List ℕ) → Option Size
size_of words = do
  after ← keyword_at (codes "size") words
  width ← decimal_at 5 0 65535 after
  height ← decimal_at 5 0 65535 width.1
  if_last (record { width = width.0; height = height.0 }) height.1

-- two communities, as they stand
pub record CommunityWords : Type 0 where
  pub reader : List ℕ
  pub writer : List ℕ

unfoldable pub communities_of : List (List ℕ) → Option CommunityWords
communities_of words = do
  after ← keyword_at (codes "communities") words
  reader ← word_at after
  writer ← word_at reader.1
  if_last (record { reader = reader.0; writer = writer.0 }) writer.1

unfoldable pub row_counts_of : List (List ℕ) → Option RowCounts
row_counts_of words = do
  after ← keyword_at (codes "rows") words
  changeable ← decimal_at 5 0 255 after
  volatile ← decimal_at 5 0 255 changeable.1
  if_last (record { changeable = changeable.0; volatile = volatile.0 }) volatile.1

abbrev pub order_named : List ℕ → Option Order
order_named word =
    if same_octets word (codes "high") then Some High
    else if same_octets word (codes "swapped") then Some Swapped
    else None

abbrev pub order_at : List (List ℕ) → Option (Order × List (List ℕ))
order_at words = do
  word ← word_at words
  order ← order_named word.0
  Some (order, word.1)

unfoldable pub order_of : List (List ℕ) → Option Order
order_of words = do
  after ← keyword_at (codes "order") words
  order ← order_at after
  if_last order.0 order.1

unfoldable pub services_of : List (List ℕ) → Option Services
services_of words = do
  after ← keyword_at (codes "has") words
  beacon ← decimal_at 5 0 1 after
  pixel ← decimal_at 5 0 1 beacon.1
  if_last (record { beacon = beacon.0 == 1; pixel = pixel.0 == 1 }) pixel.1

-- the defaults of colours and of flashing, which stand first, and the words after them
unfoldable pub colours_and_flash_at : List (List ℕ) → Option (ColoursAndFlash × List (List ℕ))
colours_and_flash_at words = do
  background ← decimal_at 5 0 255 words
  foreground ← decimal_at 5 0 255 background.1
  flash_on ← decimal_at 5 0 255 foreground.1
  flash_off ← decimal_at 5 0 255 flash_on.1
  Some (
    record { background = background.0; foreground = foreground.0; flash_on = flash_on.0; flash_off = flash_off.0 },
    flash_off.1,
  )

-- the defaults that begin so: the font, the justifications and the page times follow
unfoldable pub defaults_with : ColoursAndFlash → List (List ℕ) → Option Defaults
defaults_with first words = do
  font ← decimal_at 5 0 255 words
  line ← decimal_at 5 0 255 font.1
  page ← decimal_at 5 0 255 line.1
  on ← decimal_at 5 0 255 page.1
  off ← decimal_at 5 0 255 on.1
  if_last (record {
    background = first.background;
    foreground = first.foreground;
    flash_on = first.flash_on;
    flash_off = first.flash_off;
    font = font.0;
    line = line.0;
    page = page.0;
    on = on.0;
    off = off.0;
  }) off.1

unfoldable pub defaults_of : List (List ℕ) → Option Defaults
defaults_of words = do
  after ← keyword_at (codes "defaults") words
  first ← colours_and_flash_at after
  defaults_with first.0 first.1

unfoldable pub first_of : List (List ℕ) → Option ℕ
first_of words = do
  after ← keyword_at (codes "first") words
  first ← decimal_at 10 0 4294967295 after
  if_last first.0 first.1

-- ---- the first lines

-- what the first line says, and the lines after it
abbrev pub line_at : {A : Type 0} → (List (List ℕ) → Option A) → List (List ℕ) → Option (A × List (List ℕ))
line_at read [] = None
line_at read (line ∷ lines) = read (words_of line) >>= λ value. Some (value, lines)

-- what the first four lines say
pub record BeginningModel : Type 0 where
  pub size : Size
  pub communities : CommunityWords
  pub rows : RowCounts
  pub order : Order

unfoldable pub beginning_at : List (List ℕ) → Option (BeginningModel × List (List ℕ))
beginning_at lines = do
  size ← line_at size_of lines
  communities ← line_at communities_of size.1
  rows ← line_at row_counts_of communities.1
  order ← line_at order_of rows.1
  Some (record { size = size.0; communities = communities.0; rows = rows.0; order = order.0 }, order.1)

-- what the first seven lines say
pub record HeadModel : Type 0 where
  pub beginning : BeginningModel
  pub services : Services
  pub defaults : Defaults
  pub first : ℕ

unfoldable pub head_at : List (List ℕ) → Option (HeadModel × List (List ℕ))
head_at lines = do
  beginning ← beginning_at lines
  services ← line_at services_of beginning.1
  defaults ← line_at defaults_of services.1
  first ← line_at first_of defaults.1
  Some (record { beginning = beginning.0; services = services.0; defaults = defaults.0; first = first.0 }, first.1)

-- ---- permanent rows

-- the words of a permanent row
pub record RowWords : Type 0 where
  pub text : List ℕ
  pub owner : List ℕ
  pub beacon : ℕ
  pub pixel : ℕ
  pub priority : ℕ

unfoldable pub row_words : List (List ℕ) → Option RowWords
row_words words = do
  after ← keyword_at (codes "permanent") words
  text ← word_at after
  owner ← word_at text.1
  beacon ← decimal_at 5 0 255 owner.1
  pixel ← decimal_at 5 0 255 beacon.1
  priority ← decimal_at 5 0 255 pixel.1
  if_last (record { text = text.0; owner = owner.0; beacon = beacon.0; pixel = pixel.0; priority = priority.0 })
      priority.1

unfoldable pub row_of : List (List ℕ) → Option RowModel
row_of words = do
  said ← row_words words
  text ← octets_of said.text
  owner ← octets_of said.owner
  Some (record {
    text = text;
    owner = owner;
    beacon = said.beacon;
    pixel = said.pixel;
    priority = said.priority;
    status = Valid;
  })

-- the rows so far and those of the first lines, and the lines after them
abbrev pub rows_then : (List RowModel → List RowModel × List (List ℕ)) → List RowModel → List (List ℕ) → Option RowModel
    → List RowModel × List (List ℕ)
rows_then more rows lines None = (rows, lines)
rows_then more rows lines (Some row) = more (rows ++ row ∷ [])

unfoldable pub rows_from : List RowModel → List (List ℕ) → List RowModel × List (List ℕ)
rows_from rows [] = (rows, [])
rows_from rows (line ∷ lines) =
    rows_then (λ longer. rows_from longer lines) rows (line ∷ lines) (row_of (words_of line))

-- ---- fonts

-- the fonts so far, one of which is open for more characters, and those of the first lines; and the lines after them
abbrev pub fonts_then : (List FontModel → FontModel → List FontModel × List (List ℕ)) → List FontModel → FontModel
    → List (List ℕ) → Result FontModel FontFaultKind → Option FontModel → List FontModel × List (List ℕ)
fonts_then more fonts font lines (Ok longer) header = more fonts longer
fonts_then more fonts font lines (Err kind) (Some next) = more (fonts ++ font ∷ []) next
fonts_then more fonts font lines (Err kind) None = (fonts ++ font ∷ [], lines)

unfoldable pub fonts_from : List FontModel → FontModel → List (List ℕ) → List FontModel × List (List ℕ)
fonts_from fonts font [] = (fonts ++ font ∷ [], [])
fonts_from fonts font (line ∷ lines) = fonts_then (λ closed open_font. fonts_from closed open_font lines) fonts font
    (line ∷ lines) (glyph_added font line) (header_of (words_of line))

abbrev pub fonts_after : List (List ℕ) → List (List ℕ) → Option FontModel → List FontModel × List (List ℕ)
fonts_after lines others None = ([], lines)
fonts_after lines others (Some font) = fonts_from [] font others

unfoldable pub fonts_at : List (List ℕ) → List FontModel × List (List ℕ)
fonts_at [] = ([], [])
fonts_at (line ∷ lines) = fonts_after (line ∷ lines) lines (header_of (words_of line))

-- ---- the whole

abbrev pub end_at : List (List ℕ) → Option (List (List ℕ))
end_at [] = None
end_at (line ∷ lines) = if same_octets line (codes "end") then Some lines else None

-- the sign of these parts, be it one that can be made or not
abbrev pub described : HeadModel → List RowModel → List FontModel → Description
described head permanent fonts = record {
  config = record {
    face = record {
      width = head.beginning.size.width;
      height = head.beginning.size.height;
      fonts = fonts;
      defaults = head.defaults;
    };
    reader = head.beginning.communities.reader;
    writer = head.beginning.communities.writer;
  };
  table = record {
    permanent = permanent;
    changeable = replicate head.beginning.rows.changeable unused;
    volatile = replicate head.beginning.rows.volatile unused;
    services = head.services;
    order = head.beginning.order;
  };
  first = head.first;
}

abbrev pub body_at : HeadModel → List RowModel × List (List ℕ) → Option (Description × List (List ℕ))
body_at head rows = end_at (fonts_at rows.1).1 >>= λ rest. Some (described head rows.0 (fonts_at rows.1).0, rest)

-- the sign of the first lines, be it one that can be made or not, and the lines after it
unfoldable pub description_at : List (List ℕ) → Option (Description × List (List ℕ))
description_at lines = head_at lines >>= λ head. body_at head.0 (rows_from [] head.1)
