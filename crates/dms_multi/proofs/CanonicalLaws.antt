-- The canonical text of items in their ranges spells them.
use Rattle.std.proofs.Common.{◌≡◌, ℕ, ◌+◌, ◌-◌, ◌/◌, ◌%◌, ◌<◌, ◌≤◌, ◌^◌, Bool, true, false, cond, ltb, List, [], ◌∷◌, ◌++◌, length, take, get_or, Option, Some, None, refl, sym, ap, ◌∙◌, inl, inr, arith, append_assoc}
use Rattle.std.specs.Prelude.{codes, decimal, All}
use Rattle.std.specs.Char.{digit_value}
use Rattle.std.specs.Fmt.{digits, digit_glyph}
use Rattle.std.specs.Str.{str_to_ascii_lowercase}
use Rattle.std.specs.Str.Parse.{digits_value}
use Rattle.std.proofs.lemmas.Fmt.{decimal_is_IsNumeral, length-decimal-le, digits_is_IsNumeral}
use Rattle.std.proofs.lemmas.List.{length-drop}
use Rattle.std.proofs.lemmas.List.Folds.{length-flat_map-take}
use Rattle.std.proofs.lemmas.List.Elements.{All-head, All-tail}
use Rattle.dms_text.specs.Numbers.{SpellsNumber, SpellsDecimal, SpellsVersion}
use Rattle.dms_multi.specs.declared.item.Item.{Item}
use Rattle.dms_multi.specs.declared.item.Item.TheVariants.{Char, Background, Foreground, Font, FlashOn, FlashEnd, JustLine, JustPage, NewLine, NewPage, PageTime}
use Rattle.dms_multi.specs.declared.item.Lead.{Lead}
use Rattle.dms_multi.specs.declared.item.Lead.TheVariants.{Lit, Dark}
use Rattle.dms_multi.specs.Range.{IsWithin}
use Rattle.dms_multi.specs.Item.{IsFontInRange, IsInRange}
use Rattle.dms_multi.specs.Grammar.{Value, LaterTime, Times, FontValue, FlashTimes, TagBody, plain, ItemSpells, TextSpells}
use Rattle.dms_multi.specs.Canonical.{value_text, later_time_text, hexadecimal_text, leading_zeros, font_text, flash_text, body_text, tag_text, item_text, text_of}
use Rattle.dms_multi.proofs.Digits.{digits_dropped}

number_spelled : (low high n : ℕ) → low ≤ n → n ≤ high → high ≤ 255 → SpellsDecimal low high n (decimal n)
number_spelled low high n least greatest small =
    let numeral = decimal_is_IsNumeral n (omega arith) in
    record {
      spelled = record { numeral = numeral.0; few = length-decimal-le 5 n (omega arith) (omega arith) (omega arith); value = sym numeral.1 };
      least = least;
      greatest = greatest;
    }

value_spelled : (low high : ℕ) (v : Option ℕ) → high ≤ 255 → IsWithin low high v → Value low high v (value_text v)
value_spelled low high None small within = refl
value_spelled low high (Some n) small within = number_spelled low high n within.0 within.1 small

later_spelled : (letter : List ℕ) (high : ℕ) (time : Option ℕ) → str_to_ascii_lowercase letter ≡ letter → high ≤ 255 → IsWithin 0 high time → LaterTime letter high time (later_time_text letter time)
later_spelled letter high None small fits within = inr (refl, refl)
later_spelled letter high (Some n) small fits within = inl (record { front = letter; back = decimal n; first = small; second = number_spelled 0 high n within.0 within.1 fits; parts = refl })

times_spelled : (letter : List ℕ) (high : ℕ) (first second : Option ℕ) → str_to_ascii_lowercase letter ≡ letter → high ≤ 255 → IsWithin 0 high first → IsWithin 0 high second → Times letter high first second (value_text first ++ later_time_text letter second)
times_spelled letter high first second small fits one two = record { front = value_text first; back = later_time_text letter second; first = value_spelled 0 high first fits one; second = later_spelled letter high second small fits two; parts = refl }

-- ---- hexadecimal digits

glyph_value : (upper : Bool) (d : ℕ) → d < 16 → digit_value (digit_glyph upper d) ≡ d
glyph_value upper d small = grind arith

four_spelled : (n : ℕ) → n < 2 ^ 16 → SpellsVersion n (hexadecimal_text false n)
four_spelled n small =
    let a : n / 4096 < 16 = omega arith in
    let b : n / 256 % 16 < 16 = omega arith in
    let c : n / 16 % 16 < 16 = omega arith in
    let d : n % 16 < 16 = omega arith in
    let va = glyph_value false (n / 4096) a in
    let vb = glyph_value false (n / 256 % 16) b in
    let vc = glyph_value false (n / 16 % 16) c in
    let vd = glyph_value false (n % 16) d in
    let number : n ≡ digits_value 16 (hexadecimal_text false n) = rw (va, vb, vc, vd) (omega arith) in
    record {
      spelled = record {
        numeral = (omega arith, (omega (arith, va), (omega (arith, vb), (omega (arith, vc), (omega (arith, vd), tt)))));
        few = omega arith;
        value = number;
      };
      four = refl;
    }

capital_spelled : (n : ℕ) → n < 2 ^ 16 → SpellsNumber 16 4 n (digits 16 true n)
capital_spelled n small =
    let numeral = digits_is_IsNumeral 16 true (omega arith) (omega arith) n (omega arith) in
    let dropped : length (digits 16 true n) ≡ 4 - leading_zeros n = ap length (digits_dropped n small) ∙ length-drop (leading_zeros n) (hexadecimal_text true n) in
    record { numeral = numeral.0; few = omega (arith, dropped); value = sym numeral.1 }

-- ---- values of several parts

font_spelled : (font : Option (ℕ × Option ℕ)) → IsFontInRange font → FontValue font (font_text font)
font_spelled None within = refl
font_spelled (Some (n, None)) within = number_spelled 1 255 n within.0 within.1 (omega arith)
font_spelled (Some (n, Some version)) within =
    let small : version < 2 ^ 16 = omega (arith, within.2.1) in
    record {
      front = decimal n;
      back = codes "," ++ hexadecimal_text false version;
      first = number_spelled 1 255 n within.0 within.1 (omega arith);
      second = record { front = codes ","; back = hexadecimal_text false version; first = refl; second = four_spelled version small; parts = refl };
      parts = append_assoc (decimal n) (codes ",") (hexadecimal_text false version);
    }

lit_spelled : (lit dark : Option ℕ) → IsWithin 0 99 lit → IsWithin 0 99 dark → (text : List ℕ) → text ≡ codes "t" ++ value_text lit ++ later_time_text (codes "o") dark → FlashTimes Lit lit dark text
lit_spelled lit dark one two text is = inr (record { front = codes "t"; back = value_text lit ++ later_time_text (codes "o") dark; first = refl; second = times_spelled (codes "o") 99 lit dark refl (omega arith) one two; parts = is })

flash_spelled : (first : Lead) (lit dark : Option ℕ) → IsWithin 0 99 lit → IsWithin 0 99 dark → FlashTimes first lit dark (flash_text first lit dark)
flash_spelled Lit None None one two = inl (refl, refl, refl)
flash_spelled Lit None (Some dark) one two = lit_spelled None (Some dark) one two _ refl
flash_spelled Lit (Some lit) dark one two = lit_spelled (Some lit) dark one two _ refl
flash_spelled Dark lit dark one two = record { front = codes "o"; back = value_text dark ++ later_time_text (codes "t") lit; first = refl; second = times_spelled (codes "t") 99 dark lit refl (omega arith) two one; parts = refl }

-- ---- items

body_spelled : (item : Item) → IsInRange item → TagBody item (body_text item)
body_spelled (Char c) within = record { front = codes "hc"; back = digits 16 true c; first = refl; second = capital_spelled c (omega arith); parts = refl }
body_spelled (Background colour) within = record { front = codes "pb"; back = value_text colour; first = inr refl; second = value_spelled 0 9 colour (omega arith) within; parts = refl }
body_spelled (Foreground colour) within = record { front = codes "cf"; back = value_text colour; first = refl; second = value_spelled 0 9 colour (omega arith) within; parts = refl }
body_spelled (Font font) within = record { front = codes "fo"; back = font_text font; first = refl; second = font_spelled font within; parts = refl }
body_spelled (FlashOn first lit dark) within = record { front = codes "fl"; back = flash_text first lit dark; first = refl; second = flash_spelled first lit dark within.0 within.1; parts = refl }
body_spelled FlashEnd within = refl
body_spelled (JustLine place) within = record { front = codes "jl"; back = value_text place; first = refl; second = value_spelled 2 4 place (omega arith) within; parts = refl }
body_spelled (JustPage place) within = record { front = codes "jp"; back = value_text place; first = refl; second = value_spelled 2 4 place (omega arith) within; parts = refl }
body_spelled (NewLine gap) within = record { front = codes "nl"; back = value_text gap; first = refl; second = value_spelled 0 9 gap (omega arith) within; parts = refl }
body_spelled NewPage within = refl
body_spelled (PageTime lit dark) within = record { front = codes "pt"; back = value_text lit ++ later_time_text (codes "o") dark; first = refl; second = times_spelled (codes "o") 255 lit dark refl (omega arith) within.0 within.1; parts = refl }

tag_spelled : (item : Item) → IsInRange item → ItemSpells item (tag_text item)
tag_spelled item within = grind (arith, body_spelled)

either_spelled : (item : Item) (t : Bool) (one other : List ℕ) → ItemSpells item one → ItemSpells item other → ItemSpells item (cond t one other)
either_spelled item t one other first second = grind arith

item_spelled : (item : Item) → IsInRange item → ItemSpells item (item_text item)
unfolding item_text
item_spelled (Char c) within = either_spelled (Char c) (ltb c 256) (plain c) (tag_text (Char c)) (inl refl) (tag_spelled (Char c) within)
item_spelled item within = tag_spelled item within

pub text_spelled : (items : List Item) → All IsInRange items → TextSpells items (text_of items)
text_spelled [] within = refl
text_spelled (item ∷ items) within = record { front = item_text item; back = text_of items; first = item_spelled item (All-head IsInRange item items within); second = text_spelled items (All-tail IsInRange item items within); parts = refl }

-- where an item does not fit after the text of those before it, the whole text is too long
pub passes_limit : (items : List Item) (i limit : ℕ) (other : Item) (written : List ℕ) → i < length items → written ≡ text_of (take i items) → limit < length written + length (item_text (get_or items i other)) → limit < length (text_of items)
passes_limit items i limit other written inside is over = omega (arith, length-flat_map-take item_text items i other inside, ap length is)
