-- Reading items: the item that a tag's body spells, and the item at the beginning of a text (NTCIP 1203, MULTI).
use Rattle.std.specs.Prelude.{◌≡◌, ℕ, ◌==◌, ◌&&◌, if◌then◌else◌, List, [], ◌∷◌}
use Rattle.std.specs.Prelude.{Option, Some, None, Result, Ok, Err, option_map, ok_or}
use Rattle.std.specs.Char.{to_ascii_lowercase}
use Rattle.std.specs.Str.{byte}
use Rattle.std.specs.Borrow.{Bor}
use Rattle.dms_text.specs.Reading.{number_of, version_of}
use Rattle.dms_multi.specs.Reading.{value_of, decimal_of, cut}
use Rattle.dms_multi.specs.declared.value.TwoTimes.{TwoTimes}
use Rattle.dms_multi.specs.declared.fault.FaultCode.{FaultCode}
use Rattle.dms_multi.specs.declared.fault.FaultCode.TheVariants.{UnsupportedTag, UnsupportedTagValue}
use Rattle.dms_multi.specs.declared.tag.TagName.{TagName}
use Rattle.dms_multi.specs.declared.tag.TagName.TheVariants.{Cb, Pb, Cf, Fo, Fl, EndFl, Hc, Jl, Jp, Nl, Np, Pt}
use Rattle.dms_multi.specs.declared.item.Item.{Item}
use Rattle.dms_multi.specs.declared.item.Item.TheVariants.{Char, Background, Foreground, Font, FlashOn, FlashEnd}
use Rattle.dms_multi.specs.declared.item.Item.TheVariants.{JustLine, JustPage, NewLine, NewPage, PageTime}
use Rattle.dms_multi.specs.declared.item.Lead.TheVariants.{Lit, Dark}

-- ---- values of several parts

abbrev pub time_pair : Option (Option ℕ) → Option (Option ℕ) → Option TwoTimes
time_pair (Some first) (Some second) = Some (record { first = first; second = second })
time_pair (Some first) None = None
time_pair None second = None

abbrev pub times_in : ℕ → List ℕ → Option (List ℕ × List ℕ) → Option TwoTimes
times_in high text None = time_pair (value_of 0 high text) (Some None)
times_in high text (Some (front, back)) = time_pair (value_of 0 high front) (value_of 0 high back)

-- a time, and perhaps another after the letter
unfoldable pub times_of : ℕ → ℕ → List ℕ → Option TwoTimes
times_of letter high text = times_in high text (cut letter text)

abbrev pub font_pair : Option ℕ → Option ℕ → Option (Option (ℕ × Option ℕ))
font_pair (Some number) (Some version) = Some (Some (number, Some version))
font_pair (Some number) None = None
font_pair None version = None

abbrev pub font_in : List ℕ → Option (List ℕ × List ℕ) → Option (Option (ℕ × Option ℕ))
font_in text None = option_map (λ number. Some (number, None)) (decimal_of 1 255 text)
font_in text (Some (front, back)) = font_pair (decimal_of 1 255 front) (version_of back)

-- a font's number and version, or neither
unfoldable pub font_of : List ℕ → Option (Option (ℕ × Option ℕ))
font_of [] = Some None
font_of (c ∷ cs) = font_in (c ∷ cs) (cut (byte ",") (c ∷ cs))

-- ---- tags

abbrev pub name_with_rest : TagName × Bor (List ℕ) → TagName × List ℕ
name_with_rest tag = (tag.0, tag.1.now)

-- the name of two small letters
unfoldable pub letters_name : ℕ → ℕ → Option TagName
letters_name a b =
    if (a == byte "c") && (b == byte "b") then Some Cb
    else if (a == byte "p") && (b == byte "b") then Some Pb
    else if (a == byte "c") && (b == byte "f") then Some Cf
    else if (a == byte "f") && (b == byte "o") then Some Fo
    else if (a == byte "f") && (b == byte "l") then Some Fl
    else if (a == byte "h") && (b == byte "c") then Some Hc
    else if (a == byte "j") && (b == byte "l") then Some Jl
    else if (a == byte "j") && (b == byte "p") then Some Jp
    else if (a == byte "n") && (b == byte "l") then Some Nl
    else if (a == byte "n") && (b == byte "p") then Some Np
    else if (a == byte "p") && (b == byte "t") then Some Pt
    else None

-- the name after a slash, and what follows it
unfoldable pub end_name : List ℕ → Option (TagName × List ℕ)
end_name [] = None
end_name (a ∷ []) = None
end_name (a ∷ b ∷ rest) =
    if (to_ascii_lowercase a == byte "f") && (to_ascii_lowercase b == byte "l") then Some (EndFl, rest) else None

-- the name with which a tag's body begins, and what follows it
unfoldable pub name_at : List ℕ → Option (TagName × List ℕ)
name_at [] = None
name_at (a ∷ []) = None
name_at (a ∷ b ∷ rest) =
    if a == byte "/" then end_name (b ∷ rest)
    else option_map (λ name. (name, rest)) (letters_name (to_ascii_lowercase a) (to_ascii_lowercase b))

abbrev pub lit_first : TwoTimes → Item
lit_first times = FlashOn Lit times.first times.second

abbrev pub dark_first : TwoTimes → Item
dark_first times = FlashOn Dark times.second times.first

unfoldable pub flash_of : List ℕ → Option Item
flash_of [] = Some (FlashOn Lit None None)
flash_of (c ∷ rest) =
    if to_ascii_lowercase c == byte "t" then option_map lit_first (times_of (byte "o") 99 rest)
    else if to_ascii_lowercase c == byte "o" then option_map dark_first (times_of (byte "t") 99 rest)
    else None

unfoldable pub page_time_of : List ℕ → Option Item
page_time_of text = option_map (λ times. PageTime times.first times.second) (times_of (byte "o") 255 text)

-- the item, where no value stands
abbrev pub item_alone : Item → List ℕ → Option Item
item_alone item [] = Some item
item_alone item (c ∷ cs) = None

-- the item of a tag with the name and these values
unfoldable pub item_of : TagName → List ℕ → Option Item
item_of Cb text = option_map Background (value_of 0 9 text)
item_of Pb text = option_map Background (value_of 0 9 text)
item_of Cf text = option_map Foreground (value_of 0 9 text)
item_of Fo text = option_map Font (font_of text)
item_of Fl text = flash_of text
item_of EndFl text = item_alone FlashEnd text
item_of Hc text = option_map Char (number_of 16 4 text)
item_of Jl text = option_map JustLine (value_of 2 4 text)
item_of Jp text = option_map JustPage (value_of 2 4 text)
item_of Nl text = option_map NewLine (value_of 0 9 text)
item_of Np text = item_alone NewPage text
item_of Pt text = page_time_of text

abbrev pub body_in : Option (TagName × List ℕ) → Result Item FaultCode
body_in None = Err UnsupportedTag
body_in (Some (name, text)) = ok_or (item_of name text) UnsupportedTagValue

-- the item that a tag's body spells
unfoldable pub body_item : List ℕ → Result Item FaultCode
body_item body = body_in (name_at body)

-- ---- items

-- what a function returned, seen by view, is what reading gives
abbrev pub Gives : {X Y : Type 0} → (X → Y) → Result X FaultCode → Result Y FaultCode → Type 0
Gives view (Ok x) read = read ≡ Ok (view x)
Gives view (Err code) read = read ≡ Err code

abbrev pub item_with_rest : Item × Bor (List ℕ) → Item × List ℕ
item_with_rest piece = (piece.0, piece.1.now)

abbrev pub with_rest : List ℕ → Result Item FaultCode → Result (Item × List ℕ) FaultCode
with_rest rest (Ok item) = Ok (item, rest)
with_rest rest (Err code) = Err code

abbrev pub tag_in : Option (List ℕ × List ℕ) → Result (Item × List ℕ) FaultCode
tag_in None = Err UnsupportedTag
tag_in (Some (body, rest)) = with_rest rest (body_item body)

-- the item of the tag that an opening bracket before the text begins, and what follows it
unfoldable pub tag_at : List ℕ → Result (Item × List ℕ) FaultCode
tag_at text = tag_in (cut (byte "]") text)

-- the item after an opening bracket
unfoldable pub item_after_opening : List ℕ → Result (Item × List ℕ) FaultCode
item_after_opening [] = Err UnsupportedTag
item_after_opening (c ∷ rest) = if c == byte "[" then Ok (Char (byte "["), rest) else tag_at (c ∷ rest)

-- the item after a closing bracket
unfoldable pub item_after_closing : List ℕ → Result (Item × List ℕ) FaultCode
item_after_closing [] = Err UnsupportedTag
item_after_closing (c ∷ rest) = if c == byte "]" then Ok (Char (byte "]"), rest) else Err UnsupportedTag

-- the item at the beginning of a text, and what follows it
unfoldable pub item_at : List ℕ → Result (Item × List ℕ) FaultCode
item_at [] = Err UnsupportedTag
item_at (c ∷ rest) =
    if c == byte "[" then item_after_opening rest
    else if c == byte "]" then item_after_closing rest
    else Ok (Char c, rest)
