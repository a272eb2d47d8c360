-- How many lines the settings have.
use Rattle.std.proofs.Common.{◌≡◌, ℕ, ◌+◌, ◌≤◌, ◌==◌, Bool, false, cond, List, [], ◌∷◌, ◌++◌, length, flat_map, codes, decimal, refl, ap, arith}
use Rattle.std.specs.Prelude.{count_by}
use Rattle.std.specs.List.{list_any, AllByRecursion}
use Rattle.std.proofs.lemmas.Bool.{or_parts}
use Rattle.std.proofs.lemmas.List.Sums.{sum_by-cons, sum_by-append}
use Rattle.dms_text_values.specs.ValueText.{octets_text}
use Rattle.dms_face.specs.declared.defaults.Defaults.{Defaults}
use Rattle.dms_sign_access.specs.declared.settings.Fallbacks.{Fallbacks}
use Rattle.dms_sign_access.specs.declared.settings.SignSettings.{SignSettings}
use Rattle.dms_sign_state.specs.declared.number_settings.NumberSetting.{NumberSetting}
use Rattle.dms_sign_state.specs.NumberSettings.{all_numbers, number_word, number_of, greatest_number, settings_lines}
use Rattle.dms_sign_state.specs.Fields.{AreDefaults, AreFallbacks, AreSettings, IsCode}
use Rattle.dms_sign_state.specs.FieldsText.{number_line, octets_line, colour_words, layout_words, time_words, defaults_words, fallbacks_text, setting_line, numbers_text, settings_text}
use Rattle.dms_text_exact.specs.Fronts.{IsFree}
use Rattle.dms_text_exact.proofs.FrontLaws.{free_append}
use Rattle.dms_text_exact.proofs.DigitLaws.{octets_free}
use Rattle.dms_text_exact.proofs.NumberLaws.{decimal_free}

abbrev is_end : ℕ → Bool
is_end octet = octet == 10

abbrev one_if : Bool → ℕ
one_if is = cond is 1 0

abbrev lines : List ℕ → ℕ
lines text = count_by is_end text

abbrev Free : List ℕ → Type 0
Free word = IsFree 10 word

lines_of_both : (one other : List ℕ) → lines (one ++ other) ≡ lines one + lines other
lines_of_both one other = sum_by-append (λ octet. one_if (is_end octet)) one other

none_in : (word : List ℕ) → Free word → lines word ≡ 0
none_in [] free = refl
none_in (octet ∷ word) free =
    let parts = or_parts (octet == 10) (list_any is_end word) free in
    let first : one_if (is_end octet) ≡ 0 = ap one_if parts.0 in
    omega (arith, sum_by-cons (λ octet. one_if (is_end octet)) octet word, first, none_in word parts.1)

one_line : (word : List ℕ) → Free word → lines (word ++ codes "\n") ≡ 1
one_line word free =
    let last : lines (codes "\n") ≡ 1 = refl in
    omega (arith, lines_of_both word (codes "\n"), none_in word free, last)

-- a space and a number behind others
spaced : (words : List ℕ) (n : ℕ) → Free words → n ≤ 65535 → Free (words ++ codes " " ++ decimal n)
spaced words n free small =
    free_append 10 (words ++ codes " ") (decimal n) (free_append 10 words (codes " ") free refl) (decimal_free 10 n (omega arith) (omega (arith, small)))

number_is_one : (name : List ℕ) (n : ℕ) → Free name → n ≤ 65535 → lines (number_line name n) ≡ 1
number_is_one name n free small = one_line (name ++ codes " " ++ decimal n) (spaced name n free small)

code_is_one : (name : List ℕ) (size : ℕ) (octets : List ℕ) → Free name → IsCode size octets → lines (octets_line name octets) ≡ 1
code_is_one name size octets free is =
    one_line ((name ++ codes " ") ++ octets_text octets)
    (free_append 10 (name ++ codes " ") (octets_text octets) (free_append 10 name (codes " ") free refl) (octets_free 10 octets (omega arith) is.1))

first_word : (n : ℕ) → n ≤ 255 → Free (codes " " ++ decimal n)
first_word n small = decimal_free 10 n (omega arith) (omega (arith, small))

defaults_are_one : (d : Defaults) → AreDefaults d → lines (codes "defaults" ++ defaults_words d) ≡ 1
defaults_are_one d are =
    let colours : Free (colour_words d) =
    spaced (codes " " ++ decimal d.background ++ codes " " ++ decimal d.foreground ++ codes " " ++ decimal d.flash_on) d.flash_off
    (spaced (codes " " ++ decimal d.background ++ codes " " ++ decimal d.foreground) d.flash_on
    (spaced (codes " " ++ decimal d.background) d.foreground (first_word d.background are.0.0) (omega (arith, are.0.1.0))) (omega (arith, are.0.1.1.0)))
    (omega (arith, are.0.1.1.1)) in
    let layout : Free (layout_words d) =
    spaced (codes " " ++ decimal d.font ++ codes " " ++ decimal d.line) d.page
    (spaced (codes " " ++ decimal d.font) d.line (first_word d.font are.1.0.0) (omega (arith, are.1.0.1.0))) (omega (arith, are.1.0.1.1)) in
    let times : lines (time_words d) ≡ 1 =
    one_line (codes " " ++ decimal d.on ++ codes " " ++ decimal d.off) (spaced (codes " " ++ decimal d.on) d.off (first_word d.on are.1.1.0) (omega (arith, are.1.1.1))) in
    let word : lines (codes "defaults") ≡ 0 = refl in
    omega (
      arith,
      lines_of_both (codes "defaults") (defaults_words d),
      lines_of_both (colour_words d ++ layout_words d) (time_words d),
      lines_of_both (colour_words d) (layout_words d),
      none_in (colour_words d) colours,
      none_in (layout_words d) layout,
      times,
      word,
    )

fallbacks_are_five : (f : Fallbacks) → AreFallbacks f → lines (fallbacks_text f) ≡ 5
fallbacks_are_five f are =
    let a = octets_line (codes "short-power-recovery") f.short_power_recovery in
    let b = octets_line (codes "long-power-recovery") f.long_power_recovery in
    let c = octets_line (codes "power-loss") f.power_loss in
    let d = octets_line (codes "end-duration") f.end_duration in
    let e = octets_line (codes "communications-loss") f.communications_loss in
    omega (
      arith,
      lines_of_both (a ++ b ++ c ++ d) e,
      lines_of_both (a ++ b ++ c) d,
      lines_of_both (a ++ b) c,
      lines_of_both a b,
      code_is_one (codes "short-power-recovery") 5 f.short_power_recovery refl are.0,
      code_is_one (codes "long-power-recovery") 5 f.long_power_recovery refl are.1.0,
      code_is_one (codes "power-loss") 5 f.power_loss refl are.1.1.0,
      code_is_one (codes "end-duration") 5 f.end_duration refl are.1.1.1.0,
      code_is_one (codes "communications-loss") 5 f.communications_loss refl are.1.1.1.1,
    )

-- the word of a number has two lines
abbrev is_broken : NumberSetting → Bool
is_broken number = list_any is_end (number_word number)

one_each : (s : SignSettings) (numbers : List NumberSetting) → list_any is_broken numbers ≡ false → AllByRecursion (λ number. number_of s number ≤ greatest_number) numbers
    → lines (flat_map (setting_line s) numbers) ≡ length numbers
one_each s [] whole are = refl
one_each s (number ∷ numbers) whole are =
    let parts = or_parts (is_broken number) (list_any is_broken numbers) whole in
    omega (
      arith,
      lines_of_both (setting_line s number) (flat_map (setting_line s) numbers),
      number_is_one (number_word number) (number_of s number) parts.0 are.0,
      one_each s numbers parts.1 are.1,
    )

pub lines_of_settings : (s : SignSettings) → AreSettings s → lines (settings_text s) ≡ settings_lines
lines_of_settings s are =
    let defaults = codes "defaults" ++ defaults_words s.defaults in
    omega (
      arith,
      lines_of_both (defaults ++ fallbacks_text s.fallbacks) (numbers_text s),
      lines_of_both defaults (fallbacks_text s.fallbacks),
      defaults_are_one s.defaults are.0,
      fallbacks_are_five s.fallbacks are.1.0,
      one_each s all_numbers refl are.1.1,
    )
