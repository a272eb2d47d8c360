-- Texts on the bench sign: what is wrong with them, and what their pages show, computed.
use Rattle.std.proofs.Common.{◌≡◌, ℕ, true, false, List, [], ◌∷◌, map, Some, None, Result, Ok, Err, if◌then◌else◌, ◌+◌, refl}
use Rattle.std.specs.Prelude.{codes, slice_index_or}
use Rattle.dms_multi.specs.declared.item.Lead.TheVariants.{Lit}
use Rattle.dms_multi.specs.Outcomes.{outcomes_within}
use Rattle.dms_multi.specs.TagReading.{item_at, item_after_opening, item_after_closing, tag_at, body_item, name_at, letters_name, end_name, item_of, flash_of, font_of, times_of, page_time_of}
use Rattle.dms_multi.specs.Reading.{number_of, decimal_of, value_of, cut, version_of}
use Rattle.dms_face.specs.declared.cell.Cell.{Cell}
use Rattle.dms_face.specs.declared.multi_fault.MultiFault.{MultiFault}
use Rattle.dms_face.specs.declared.multi_fault.MultiFaultCode.{MultiFaultCode}
use Rattle.dms_face.specs.declared.multi_fault.MultiFaultCode.TheVariants.{UnsupportedTag, UnsupportedTagValue, TextTooBig, FontNotDefined, CharacterNotDefined, TagConflict, TooManyPages, FontVersionId}
use Rattle.dms_face_font.specs.Glyph.{glyph_from}
use Rattle.dms_face_font.specs.Font.{FontModel}
use Rattle.dms_face.specs.Face.{FaceModel}
use Rattle.dms_face.specs.Layout.{PageModel}
use Rattle.dms_face.specs.Fit.{fault_of, page_count, checked_text}
use Rattle.dms_face.specs.Cells.{pages_of, cell_of}

abbrev pub tall_font : FontModel
tall_font = record {
  number = 1;
  height = 7;
  character_spacing = 1;
  line_spacing = 1;
  version = 1;
  glyphs =
      glyph_from 49 2 7 (0x75 ∷ 0x54 ∷ []) ∷ glyph_from 65 5 7 (0x74 ∷ 0x63 ∷ 0xf8 ∷ 0xc6 ∷ 0x20 ∷ [])
      ∷ glyph_from 66 5 7 (0xf4 ∷ 0x63 ∷ 0xe8 ∷ 0xc7 ∷ 0xc0 ∷ []) ∷ glyph_from 91 3 7 (0xf2 ∷ 0x49 ∷ 0x38 ∷ [])
      ∷ glyph_from 93 3 7 (0xe4 ∷ 0x92 ∷ 0x78 ∷ []) ∷ [];
}

abbrev pub small_font : FontModel
small_font = record { number = 2; height = 5; character_spacing = 1; line_spacing = 1; version = 2; glyphs = glyph_from 65 3 5 (0x57 ∷ 0xda ∷ []) ∷ [] }

abbrev pub bench : FaceModel
bench = record {
  width = 23;
  height = 14;
  fonts = tall_font ∷ small_font ∷ [];
  defaults = record { background = 0; foreground = 9; flash_on = 5; flash_off = 5; font = 1; line = 3; page = 2; on = 30; off = 0 };
}

abbrev fault : MultiFaultCode → ℕ → Result ℕ MultiFault
fault code place = Err (record { code = code; place = place })

-- two empty lines of height 7 and a gap of 3 in 14 rows
closed_empty_lines : checked_text bench (codes "[NL03]") ≡ fault TextTooBig 6
unfolding fault_of page_count outcomes_within item_at item_after_opening item_after_closing tag_at body_item name_at letters_name end_name item_of flash_of font_of times_of page_time_of number_of decimal_of value_of cut version_of
closed_empty_lines = refl

-- 5 + 1 + 5 + 1 + 5 + 1 + 5 columns
as_wide_as_the_matrix : checked_text bench (codes "AAAA") ≡ Ok 1
unfolding fault_of page_count outcomes_within item_at item_after_opening item_after_closing tag_at body_item name_at letters_name end_name item_of flash_of font_of times_of page_time_of number_of decimal_of value_of cut version_of
as_wide_as_the_matrix = refl

-- 24 columns
too_wide : checked_text bench (codes "AAA[[1") ≡ fault TextTooBig 5
unfolding fault_of page_count outcomes_within item_at item_after_opening item_after_closing tag_at body_item name_at letters_name end_name item_of flash_of font_of times_of page_time_of number_of decimal_of value_of cut version_of
too_wide = refl

-- an open line without a character counts nothing, nor does its gap
open_empty_line : checked_text bench (codes "[nl][fo2]A") ≡ Ok 1
unfolding fault_of page_count outcomes_within item_at item_after_opening item_after_closing tag_at body_item name_at letters_name end_name item_of flash_of font_of times_of page_time_of number_of decimal_of value_of cut version_of
open_empty_line = refl

-- 7 + 1 + 7 rows
two_lines : checked_text bench (codes "[nl]A") ≡ fault TextTooBig 4
unfolding fault_of page_count outcomes_within item_at item_after_opening item_after_closing tag_at body_item name_at letters_name end_name item_of flash_of font_of times_of page_time_of number_of decimal_of value_of cut version_of
two_lines = refl

six_pages : checked_text bench (codes "A[np]A[np]A[np]A[np]A[np]A") ≡ Ok 6
unfolding fault_of page_count outcomes_within item_at item_after_opening item_after_closing tag_at body_item name_at letters_name end_name item_of flash_of font_of times_of page_time_of number_of decimal_of value_of cut version_of
six_pages = refl

seven_pages : checked_text bench (codes "A[np]A[np]A[np]A[np]A[np]A[np]A") ≡ fault TooManyPages 26
unfolding fault_of page_count outcomes_within item_at item_after_opening item_after_closing tag_at body_item name_at letters_name end_name item_of flash_of font_of times_of page_time_of number_of decimal_of value_of cut version_of
seven_pages = refl

side_goes_back : checked_text bench (codes "[jl3]A[jl2]A") ≡ fault TagConflict 6
unfolding fault_of page_count outcomes_within item_at item_after_opening item_after_closing tag_at body_item name_at letters_name end_name item_of flash_of font_of times_of page_time_of number_of decimal_of value_of cut version_of
side_goes_back = refl

no_such_tag : checked_text bench (codes "[tr1,1,5,5]") ≡ fault UnsupportedTag 0
unfolding fault_of page_count outcomes_within item_at item_after_opening item_after_closing tag_at body_item name_at letters_name end_name item_of flash_of font_of times_of page_time_of number_of decimal_of value_of cut version_of
no_such_tag = refl

no_such_value : checked_text bench (codes "[cf255,0,0]") ≡ fault UnsupportedTagValue 0
unfolding fault_of page_count outcomes_within item_at item_after_opening item_after_closing tag_at body_item name_at letters_name end_name item_of flash_of font_of times_of page_time_of number_of decimal_of value_of cut version_of
no_such_value = refl

empty_text : checked_text bench (codes "") ≡ Ok 1
unfolding fault_of page_count outcomes_within item_at item_after_opening item_after_closing tag_at body_item name_at letters_name end_name item_of flash_of font_of times_of page_time_of number_of decimal_of value_of cut version_of
empty_text = refl

-- columns 0 to 16 and 18 to 22
sides_apart : checked_text bench (codes "[jl2]AAA[jl4]A") ≡ Ok 1
unfolding fault_of page_count outcomes_within item_at item_after_opening item_after_closing tag_at body_item name_at letters_name end_name item_of flash_of font_of times_of page_time_of number_of decimal_of value_of cut version_of
sides_apart = refl

-- the right side would begin at column 12
sides_overlap : checked_text bench (codes "[jl2]AAA[jl4]AA") ≡ fault TextTooBig 14
unfolding fault_of page_count outcomes_within item_at item_after_opening item_after_closing tag_at body_item name_at letters_name end_name item_of flash_of font_of times_of page_time_of number_of decimal_of value_of cut version_of
sides_overlap = refl

side_without_a_character : checked_text bench (codes "[jl3][jl2]A") ≡ Ok 1
unfolding fault_of page_count outcomes_within item_at item_after_opening item_after_closing tag_at body_item name_at letters_name end_name item_of flash_of font_of times_of page_time_of number_of decimal_of value_of cut version_of
side_without_a_character = refl

-- rows 0 to 6 and 7 to 13
parts_apart : checked_text bench (codes "[jp2]A[jp4]A") ≡ Ok 1
unfolding fault_of page_count outcomes_within item_at item_after_opening item_after_closing tag_at body_item name_at letters_name end_name item_of flash_of font_of times_of page_time_of number_of decimal_of value_of cut version_of
parts_apart = refl

-- the middle part would begin at row 3
parts_overlap : checked_text bench (codes "[jp2]A[jp3]A") ≡ fault TextTooBig 11
unfolding fault_of page_count outcomes_within item_at item_after_opening item_after_closing tag_at body_item name_at letters_name end_name item_of flash_of font_of times_of page_time_of number_of decimal_of value_of cut version_of
parts_overlap = refl

part_goes_back : checked_text bench (codes "[jp4]A[jp2]A") ≡ fault TagConflict 6
unfolding fault_of page_count outcomes_within item_at item_after_opening item_after_closing tag_at body_item name_at letters_name end_name item_of flash_of font_of times_of page_time_of number_of decimal_of value_of cut version_of
part_goes_back = refl

-- a part with a single line without a character has no lines
part_without_a_line : checked_text bench (codes "[jp3][jp2]A") ≡ Ok 1
unfolding fault_of page_count outcomes_within item_at item_after_opening item_after_closing tag_at body_item name_at letters_name end_name item_of flash_of font_of times_of page_time_of number_of decimal_of value_of cut version_of
part_without_a_line = refl

part_with_empty_lines : checked_text bench (codes "[jp3][nl0][jp2]") ≡ fault TagConflict 10
unfolding fault_of page_count outcomes_within item_at item_after_opening item_after_closing tag_at body_item name_at letters_name end_name item_of flash_of font_of times_of page_time_of number_of decimal_of value_of cut version_of
part_with_empty_lines = refl

same_part : checked_text bench (codes "A[jp2]A") ≡ Ok 1
unfolding fault_of page_count outcomes_within item_at item_after_opening item_after_closing tag_at body_item name_at letters_name end_name item_of flash_of font_of times_of page_time_of number_of decimal_of value_of cut version_of
same_part = refl

no_such_font : checked_text bench (codes "[fo3]") ≡ fault FontNotDefined 0
unfolding fault_of page_count outcomes_within item_at item_after_opening item_after_closing tag_at body_item name_at letters_name end_name item_of flash_of font_of times_of page_time_of number_of decimal_of value_of cut version_of
no_such_font = refl

other_version : checked_text bench (codes "[fo2,0001]") ≡ fault FontVersionId 0
unfolding fault_of page_count outcomes_within item_at item_after_opening item_after_closing tag_at body_item name_at letters_name end_name item_of flash_of font_of times_of page_time_of number_of decimal_of value_of cut version_of
other_version = refl

right_version : checked_text bench (codes "[fo2,0002]A") ≡ Ok 1
unfolding fault_of page_count outcomes_within item_at item_after_opening item_after_closing tag_at body_item name_at letters_name end_name item_of flash_of font_of times_of page_time_of number_of decimal_of value_of cut version_of
right_version = refl

no_such_character : checked_text bench (codes "A[fo2]B") ≡ fault CharacterNotDefined 6
unfolding fault_of page_count outcomes_within item_at item_after_opening item_after_closing tag_at body_item name_at letters_name end_name item_of flash_of font_of times_of page_time_of number_of decimal_of value_of cut version_of
no_such_character = refl

no_gap : checked_text bench (codes "[nl0]") ≡ Ok 1
unfolding fault_of page_count outcomes_within item_at item_after_opening item_after_closing tag_at body_item name_at letters_name end_name item_of flash_of font_of times_of page_time_of number_of decimal_of value_of cut version_of
no_gap = refl

room_before_the_number_of_pages : checked_text bench (codes "[np][np][np][np][np][nl9][np]") ≡ fault TextTooBig 25
unfolding fault_of page_count outcomes_within item_at item_after_opening item_after_closing tag_at body_item name_at letters_name end_name item_of flash_of font_of times_of page_time_of number_of decimal_of value_of cut version_of
room_before_the_number_of_pages = refl

fault_before_the_fault_of_the_grammar : checked_text bench (codes "AAAAA]") ≡ fault TextTooBig 4
unfolding fault_of page_count outcomes_within item_at item_after_opening item_after_closing tag_at body_item name_at letters_name end_name item_of flash_of font_of times_of page_time_of number_of decimal_of value_of cut version_of
fault_before_the_fault_of_the_grammar = refl

fault_of_the_grammar_after_what_fits : checked_text bench (codes "AAAA]") ≡ fault UnsupportedTag 4
unfolding fault_of page_count outcomes_within item_at item_after_opening item_after_closing tag_at body_item name_at letters_name end_name item_of flash_of font_of times_of page_time_of number_of decimal_of value_of cut version_of
fault_of_the_grammar_after_what_fits = refl

-- ---- pages

abbrev columns : List ℕ
columns = 0 ∷ 1 ∷ 2 ∷ 3 ∷ 4 ∷ 5 ∷ 6 ∷ 7 ∷ 8 ∷ 9 ∷ 10 ∷ 11 ∷ 12 ∷ 13 ∷ 14 ∷ 15 ∷ 16 ∷ 17 ∷ 18 ∷ 19 ∷ 20 ∷ 21 ∷ 22 ∷ []

abbrev no_page : PageModel
no_page = record { lines = []; background = 0; on = 0; off = 0 }

-- a text's page, from 0
abbrev page_at : List ℕ → ℕ → PageModel
page_at text k = slice_index_or (pages_of bench text) k no_page

-- a point where nothing is lit, else the colour's digit
abbrev digit : Cell → ℕ
digit cell = if cell.lit then 48 + cell.colour else 46

-- a row of a text's first page
abbrev drawn : List ℕ → ℕ → List ℕ
drawn text y = map (λ x. digit (cell_of bench (page_at text 0) x y)) columns

-- A letter in the centre of the top line.
first_row : drawn (codes "A") 0 ≡ codes "..........999.........."
unfolding pages_of cell_of outcomes_within item_at item_after_opening item_after_closing tag_at body_item name_at letters_name end_name item_of flash_of font_of times_of page_time_of number_of decimal_of value_of cut version_of
first_row = refl

fourth_row : drawn (codes "A") 3 ≡ codes ".........99999........."
unfolding pages_of cell_of outcomes_within item_at item_after_opening item_after_closing tag_at body_item name_at letters_name end_name item_of flash_of font_of times_of page_time_of number_of decimal_of value_of cut version_of
fourth_row = refl

seventh_row : drawn (codes "A") 6 ≡ codes ".........9...9........."
unfolding pages_of cell_of outcomes_within item_at item_after_opening item_after_closing tag_at body_item name_at letters_name end_name item_of flash_of font_of times_of page_time_of number_of decimal_of value_of cut version_of
seventh_row = refl

eighth_row : drawn (codes "A") 7 ≡ codes "......................."
unfolding pages_of cell_of outcomes_within item_at item_after_opening item_after_closing tag_at body_item name_at letters_name end_name item_of flash_of font_of times_of page_time_of number_of decimal_of value_of cut version_of
eighth_row = refl

-- The smaller font stands on the bottom of its line.
small_letter_beside_a_tall_one : drawn (codes "A[fo2]A") 2 ≡ codes ".......9...9..9........"
unfolding pages_of cell_of outcomes_within item_at item_after_opening item_after_closing tag_at body_item name_at letters_name end_name item_of flash_of font_of times_of page_time_of number_of decimal_of value_of cut version_of
small_letter_beside_a_tall_one = refl

right_and_bottom : drawn (codes "[jl4][jp4]A") 13 ≡ codes "..................9...9"
unfolding pages_of cell_of outcomes_within item_at item_after_opening item_after_closing tag_at body_item name_at letters_name end_name item_of flash_of font_of times_of page_time_of number_of decimal_of value_of cut version_of
right_and_bottom = refl

flashing : cell_of bench (page_at (codes "[fl]A[/fl]A") 0) 7 0 ≡ record { lit = true; colour = 9; flash = Some (record { first = Lit; lit = 5; dark = 5 }) }
unfolding pages_of cell_of outcomes_within item_at item_after_opening item_after_closing tag_at body_item name_at letters_name end_name item_of flash_of font_of times_of page_time_of number_of decimal_of value_of cut version_of
flashing = refl

not_flashing : cell_of bench (page_at (codes "[fl]A[/fl]A") 0) 13 0 ≡ record { lit = true; colour = 9; flash = None }
unfolding pages_of cell_of outcomes_within item_at item_after_opening item_after_closing tag_at body_item name_at letters_name end_name item_of flash_of font_of times_of page_time_of number_of decimal_of value_of cut version_of
not_flashing = refl

unlit : cell_of bench (page_at (codes "[fl]A[/fl]A") 0) 6 0 ≡ record { lit = false; colour = 0; flash = None }
unfolding pages_of cell_of outcomes_within item_at item_after_opening item_after_closing tag_at body_item name_at letters_name end_name item_of flash_of font_of times_of page_time_of number_of decimal_of value_of cut version_of
unlit = refl

-- The last background on a page decides for it.
background_of_the_page : cell_of bench (page_at (codes "A[cb4][np]A[cb3]") 1) 0 0 ≡ record { lit = false; colour = 3; flash = None }
unfolding pages_of cell_of outcomes_within item_at item_after_opening item_after_closing tag_at body_item name_at letters_name end_name item_of flash_of font_of times_of page_time_of number_of decimal_of value_of cut version_of
background_of_the_page = refl

times_of_the_page : (page_at (codes "[np][pt10o2][np]") 1).on ≡ 10
unfolding pages_of outcomes_within item_at item_after_opening item_after_closing tag_at body_item name_at letters_name end_name item_of flash_of font_of times_of page_time_of number_of decimal_of value_of cut version_of
times_of_the_page = refl

times_of_later_pages : (page_at (codes "[np][pt10o2][np]") 2).off ≡ 2
unfolding pages_of outcomes_within item_at item_after_opening item_after_closing tag_at body_item name_at letters_name end_name item_of flash_of font_of times_of page_time_of number_of decimal_of value_of cut version_of
times_of_later_pages = refl
