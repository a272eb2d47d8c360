-- A message as one document (Scalable Vector Graphics 1.1; its form is this profile's): a plate, all lamps dark, and
-- each page above them. The lamp in column x and row y is a dot around the point (x, y).
use Rattle.std.specs.Prelude.{ℕ, ◌+◌, ◌/◌, ◌%◌, ◌==◌, ◌&&◌, if◌then◌else◌, nat_le, nat_lt}
use Rattle.std.specs.Prelude.{List, [], ◌∷◌, ◌++◌, length, codes, decimal, Option, Some, None}
use Rattle.std.specs.List.{flat_map, sum_by}
use Rattle.dms_face.specs.declared.cell.Flash.{Flash}
use Rattle.dms_face.specs.declared.cell.Cell.{Cell}
use Rattle.dms_face_pages.specs.Drawn.{DrawnPage}
use Rattle.dms_face_picture.specs.declared.motion.Motion.{Motion}
use Rattle.dms_face_picture.specs.declared.motion.Motion.TheVariants.{Still}
use Rattle.dms_face_picture.specs.Motion.{motion_of, page_animation, flash_animation}
use Rattle.dms_face_picture.specs.Lamps.{shade, lamps, whole_rows, styles_of}

abbrev pub dashes_start : ℕ → List ℕ
dashes_start colour = codes "<path stroke=\"" ++ shade colour ++ codes "\" stroke-dasharray=\"0 1\" d=\""

abbrev pub dots_start : ℕ → List ℕ
dots_start colour = codes "<path stroke=\"" ++ shade colour ++ codes "\" d=\""

-- all lamps in one colour
abbrev pub plain_path : ℕ → ℕ → ℕ → List ℕ
plain_path colour width height = dashes_start colour ++ whole_rows width height ++ codes "\"/>\n"

abbrev pub style_animation : Motion → Option Flash → List ℕ
style_animation motion None = []
style_animation motion (Some flash) = flash_animation motion flash

-- the lamps that show the same
abbrev pub style_path : Motion → DrawnPage → Cell → List ℕ
style_path motion page style = dots_start style.colour ++ lamps page style ++ codes "\">"
    ++ style_animation motion style.flash ++ codes "</path>\n"

-- a page: its background, and its lit lamps above it
abbrev pub page_group : Motion → DrawnPage → List ℕ
page_group motion page =
    codes "<g>" ++ page_animation motion ++ plain_path page.background page.width page.height
    ++ flat_map (style_path motion page) (styles_of page) ++ codes "</g>\n"

abbrev pub view : ℕ → ℕ → List ℕ
view columns rows = codes "<svg xmlns=\"http://www.w3.org/2000/svg\" viewBox=\"-1 -1 " ++ decimal columns ++ codes " "
    ++ decimal rows ++ codes "\""

-- the tag of a document of so many columns and rows, whose size is left to the reader
abbrev pub svg_tag : ℕ → ℕ → List ℕ
svg_tag columns rows = view columns rows
    ++ codes " role=\"img\" fill=\"none\" stroke-linecap=\"round\" stroke-width=\"0.8\">\n"

-- what the document is called where it is not seen
abbrev pub title : ℕ → ℕ → List ℕ
title width height = codes "<title>A message sign of " ++ decimal width ++ codes " by " ++ decimal height
    ++ codes " lamps</title>\n"

-- a digit of the base 16, a small letter from ten on
abbrev pub digit : ℕ → ℕ
digit n = if nat_lt n 10 then 48 + n else 87 + n

-- an octet of a message's text as XML has it where it is printable ASCII, else `\x` and two digits
abbrev pub said : ℕ → List ℕ
said octet =
    if octet == 38 then codes "&amp;"
    else if octet == 60 then codes "&lt;"
    else if octet == 62 then codes "&gt;"
    else if nat_le 32 octet && nat_lt octet 127 then octet ∷ []
    else codes "\\x" ++ digit (octet / 16) ∷ digit (octet % 16) ∷ []

-- what the document says where it is not seen: the message's text
abbrev pub description : List ℕ → List ℕ
description text = codes "<desc>" ++ flat_map said text ++ codes "</desc>\n"

abbrev pub plate : ℕ → ℕ → List ℕ
plate columns rows = codes "<path stroke=\"none\" fill=\"#202020\" d=\"M-1-1h" ++ decimal columns ++ codes "v"
    ++ decimal rows ++ codes "H-1z\"/>\n"

-- the plate is one lamp wider and higher than the matrix
abbrev pub board : ℕ → ℕ → List ℕ → List ℕ
board width height text =
    svg_tag (width + 1) (height + 1) ++ title width height ++ description text ++ plate (width + 1) (height + 1)

-- all lamps are dark where no page is shown
abbrev pub opening : ℕ → ℕ → List ℕ → List ℕ
opening width height text = board width height text ++ plain_path 0 width height

abbrev pub closing : List ℕ
closing = codes "</svg>\n"

-- ---- a message

abbrev pub page_time : DrawnPage → ℕ
page_time page = page.on + page.off

abbrev pub round_of : List DrawnPage → ℕ
round_of pages = sum_by page_time pages

-- the pages from one on that begins after so many tenths
abbrev pub groups_from : ℕ → ℕ → ℕ → List DrawnPage → List ℕ
groups_from count round start [] = []
groups_from count round start (page ∷ pages) =
    page_group (motion_of count round start page) page ++ groups_from count round (start + page_time page) pages

-- the pages of a text, which a browser plays
abbrev pub picture_of : ℕ → ℕ → List ℕ → List DrawnPage → List ℕ
picture_of width height text pages =
    opening width height text ++ groups_from (length pages) (round_of pages) 0 pages ++ closing

-- one page of a text, with all its lit lamps lit
abbrev pub still_of : List ℕ → DrawnPage → List ℕ
still_of text page = opening page.width page.height text ++ page_group Still page ++ closing
