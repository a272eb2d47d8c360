-- The text of the bench sign spells the bench sign.
use Rattle.std.proofs.Common.{◌≡◌, ℕ, ◌≤◌, List, [], ◌∷◌, ◌++◌, Some, refl, arith}
use Rattle.std.specs.Prelude.{codes}
use Rattle.hex.specs.Hex.{decode_pairs}
use Rattle.dms_multi.specs.Outcomes.{outcomes_within}
use Rattle.dms_multi.specs.TagReading.{item_at, item_after_opening, item_after_closing, tag_at, body_item, name_at, letters_name, end_name, item_of, flash_of, font_of, times_of, page_time_of}
use Rattle.dms_multi.specs.Reading.{decimal_of, value_of, cut}
use Rattle.dms_multi.specs.Reading as multi
use Rattle.dms_face.specs.Fit.{fault_of}
use Rattle.dms_codes.specs.Checksum.{octet_bits}
use Rattle.dms_codes.specs.declared.status.Status.TheVariants.{Valid}
use Rattle.dms_text.specs.Lines.{kept_lines}
use Rattle.dms_text.specs.Reading.{number_of, version_of, octets_of, word_at, keyword_at, decimal_at}
use Rattle.dms_text.specs.Numbers.{SpellsDecimal}
use Rattle.dms_face_font.specs.FontReading.{labelled_at, version_at, header_of, glyph_words, bitmap_of, glyph_read, glyph_added, glyphs_added, font_read}
use Rattle.dms_face_font.specs.FontText.{SpellsFont}
use Rattle.dms_text.proofs.NumberLaws.{number_found}
use Rattle.dms_face_font.proofs.FontLaws.{font_found}
use Rattle.dms_text_forms.specs.Fields.{SpellsOctet, SpellsFourOctets}
use Rattle.dms_sign.specs.Construction.{CanBeMade}
use Rattle.dms_sign_text.specs.Description.{SpellsSign, SpellsFonts, no_font, one_more, SpellsPermanent, SpellsDefaults}
use Rattle.dms_sign_text.specs.BenchSign.{bench_text}
use Rattle.dms_face.proofs.Bench.{tall_font, small_font}
use Rattle.dms_sign_text.proofs.BenchValue.{bench_sign}

-- ---- words

pub spells_decimal : (low high number : ℕ) (word : List ℕ) → number_of 10 5 word ≡ Some number → low ≤ number → number ≤ high
    → SpellsDecimal low high number word
spells_decimal low high number word found least greatest = grind (arith, number_found)

pub spells_octet : (number : ℕ) (word : List ℕ) → number_of 10 5 word ≡ Some number → number ≤ 255 → SpellsOctet number word
spells_octet number word found greatest = spells_decimal 0 255 number word found (omega arith) greatest

-- ---- fonts

tall_text : List ℕ
tall_text =
    codes "font 1 height 7 space 1 line 1 version 0001\n" ++ codes "glyph 49 2 7554\n" ++ codes "glyph 65 5 7463f8c620\n"
    ++ codes "glyph 66 5 f463e8c7c0\n" ++ codes "glyph 91 3 f24938\n" ++ codes "glyph 93 3 e49278\n"

small_text : List ℕ
small_text = codes "font 2 height 5 space 1 line 1 version 0002\n" ++ codes "glyph 65 3 57da\n"

spells_tall : SpellsFont tall_text tall_font
unfolding tall_text number_of version_of octets_of word_at keyword_at decimal_at labelled_at version_at header_of glyph_words bitmap_of glyph_read glyph_added glyphs_added font_read decode_pairs
spells_tall = font_found tall_text tall_font refl

spells_small : SpellsFont small_text small_font
unfolding small_text number_of version_of octets_of word_at keyword_at decimal_at labelled_at version_at header_of glyph_words bitmap_of glyph_read glyph_added glyphs_added font_read decode_pairs
spells_small = font_found small_text small_font refl

-- ---- the sign

-- the bench sign can be made
pub can_be_made : CanBeMade bench_sign.config bench_sign.table
unfolding fault_of outcomes_within item_at item_after_opening item_after_closing tag_at body_item name_at letters_name end_name item_of flash_of font_of times_of page_time_of multi.number_of decimal_of value_of cut multi.version_of octet_bits
can_be_made = grind arith

spells_permanent : SpellsPermanent (record { text = codes "B"; owner = []; beacon = 0; pixel = 0; priority = 100; status = Valid })
    (codes "permanent" ∷ codes "42" ∷ codes "-" ∷ codes "0" ∷ codes "0" ∷ codes "100" ∷ [])
unfolding number_of decode_pairs
spells_permanent = grind arith

spells_first : SpellsFourOctets 1 (codes "1")
unfolding number_of
spells_first = record { spelled = number_found 10 10 1 (codes "1") refl; small = omega arith }

spells_defaults : SpellsDefaults bench_sign.config.face.defaults
    (codes "defaults" ∷ codes "0" ∷ codes "9" ∷ codes "5" ∷ codes "5" ∷ codes "1" ∷ codes "3" ∷ codes "2" ∷ codes "30" ∷ codes "0" ∷ [])
unfolding number_of
spells_defaults = grind arith

spells_fonts : SpellsFonts (tall_font ∷ small_font ∷ []) (kept_lines tall_text ++ (kept_lines small_text ++ []))
spells_fonts =
    one_more tall_font (small_font ∷ []) (kept_lines tall_text) (kept_lines small_text ++ []) spells_tall
    (one_more small_font [] (kept_lines small_text) [] spells_small no_font)

pub spells_the_bench_sign : SpellsSign (kept_lines bench_text) bench_sign
unfolding bench_text tall_text small_text number_of decode_pairs
spells_the_bench_sign = record {
  size_line = codes "size 23 14";
  communities_line = codes "communities public admin";
  rows_line = codes "rows 2 1";
  order_line = codes "order high";
  has_line = codes "has 1 0";
  defaults_line = codes "defaults 0 9 5 5 1 3 2 30 0";
  first_line = codes "first 1";
  permanent_lines = codes "permanent 42 - 0 0 100" ∷ [];
  font_lines = kept_lines tall_text ++ (kept_lines small_text ++ []);
  lines_are = refl;
  size = record {
    width_word = codes "23";
    height_word = codes "14";
    words_are = refl;
    width = spells_decimal 0 65535 23 (codes "23") refl (omega arith) (omega arith);
    height = spells_decimal 0 65535 14 (codes "14") refl (omega arith) (omega arith);
  };
  communities = refl;
  rows = record {
    changeable_word = codes "2";
    volatile_word = codes "1";
    words_are = refl;
    changeable = spells_octet 2 (codes "2") refl (omega arith);
    volatile = spells_octet 1 (codes "1") refl (omega arith);
  };
  order = record { order_word = codes "high"; words_are = refl; order = refl };
  services = record {
    beacon_word = codes "1";
    pixel_word = codes "0";
    words_are = refl;
    beacon = spells_decimal 1 1 1 (codes "1") refl (omega arith) (omega arith);
    pixel = spells_decimal 0 0 0 (codes "0") refl (omega arith) (omega arith);
  };
  defaults = spells_defaults;
  first = record { first_word = codes "1"; words_are = refl; number = spells_first };
  permanent = (spells_permanent, refl);
  fonts = spells_fonts;
  can_be_made = can_be_made;
}
