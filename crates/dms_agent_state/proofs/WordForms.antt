-- What numbers, octets and names spell, and that neither a space nor a newline stands in a name.
use Rattle.std.proofs.Common.{◌≡◌, ℕ, ℤ, pos, negsuc, suc, ◌<◌, ◌^◌, true, List, [], ◌∷◌, decimal, refl, sym, ap, subst, ◌∙◌, append-nil, arith, inl, inr}
use Rattle.std.specs.Fmt.{signed_decimal}
use Rattle.std.specs.Int.Digits.{AllBelowBase}
use Rattle.std.proofs.lemmas.Bool.Decides.{nat_tests}
use Rattle.hex.specs.Hex.{IsBytes}
use Rattle.hex.proofs.HexLemmas.{decode_of-encode_lower}
use Rattle.dms_wire_ber.specs.Integer.{in_range}
use Rattle.dms_wire_ber.specs.NameText.{dotted}
use Rattle.dms_wire_ber.specs.ObjectIdentifier.{IsNameInLimits}
use Rattle.dms_text.specs.Numbers.{SpellsNumber}
use Rattle.dms_text.specs.Octets.{SpellsOctets}
use Rattle.dms_text.specs.Words.{parts_of}
use Rattle.dms_text_forms.specs.Fields.{SpellsEach}
use Rattle.dms_text_values.specs.ValueText.{octets_text}
use Rattle.dms_text_exact.specs.Fronts.{IsFree}
use Rattle.dms_text_exact.proofs.FrontLaws.{part_first, part_only}
use Rattle.dms_text_exact.proofs.NumberLaws.{spells_number, decimal_free}
use Rattle.dms_text_exact.proofs.AddressLaws.{dotted_free}
use Rattle.dms_agent_state.specs.ObjectFields.{SpellsName, SpellsInteger}

-- ---- numbers

pub number_spelled : (n : ℕ) → n < 2 ^ 32 → SpellsNumber 10 10 n (decimal n)
number_spelled n small = spells_number 10 n (omega arith) (omega (arith, small)) (omega (arith, small))

pub spells_integer : (z : ℤ) → in_range z ≡ true → SpellsInteger z (signed_decimal z)
spells_integer (pos n) is =
    let small : n < 2 ^ 32 = grind (arith, nat_tests, is) in
    inl (record { size = n; spelled = record { spelled = number_spelled n small; small = small }; value = refl })
spells_integer (negsuc n) is =
    let less : n < 2 ^ 31 = grind (arith, nat_tests, is) in
    inr (record { size = suc n; digits = decimal (suc n); word_is = refl; spelled = number_spelled (suc n) (omega (arith, less)); small = omega (arith, less); value = refl })

-- ---- octets

pub spells_octets : (octets : List ℕ) → IsBytes octets → SpellsOctets octets (octets_text octets)
spells_octets [] all = refl
spells_octets (octet ∷ octets) all = decode_of-encode_lower (octet ∷ octets) all

-- ---- names

all_small : (numbers : List ℕ) → IsNameInLimits numbers → AllBelowBase (2 ^ 32) numbers
all_small [] within = absurd within
all_small (a ∷ []) within = absurd within
all_small (a ∷ b ∷ ns) within = (omega (arith, within.0), (omega (arith, within.2), within.3))

pub name_free : (end : ℕ) (numbers : List ℕ) → end < 46 → IsNameInLimits numbers → IsFree end (dotted numbers)
name_free end numbers low within = dotted_free end numbers low (all_small numbers within)

spells_each : (numbers : List ℕ) (n : ℕ) → n < 2 ^ 32 → AllBelowBase (2 ^ 32) numbers → SpellsEach (SpellsNumber 10 10) (n ∷ numbers) (parts_of 46 (dotted (n ∷ numbers)))
spells_each [] n first small =
    subst (SpellsEach (SpellsNumber 10 10) (n ∷ []))
    (sym (ap (parts_of 46) (append-nil (decimal n)) ∙ part_only 46 (decimal n) (decimal_free 46 n (omega arith) (omega (arith, first)))))
    (number_spelled n first, refl)
spells_each (m ∷ more) n first small =
    subst (SpellsEach (SpellsNumber 10 10) (n ∷ m ∷ more))
    (sym (part_first 46 (decimal n) (dotted (m ∷ more)) (decimal_free 46 n (omega arith) (omega (arith, first)))))
    (number_spelled n first, spells_each more m small.0 small.1)

spells_parts : (numbers : List ℕ) → IsNameInLimits numbers → AllBelowBase (2 ^ 32) numbers → SpellsEach (SpellsNumber 10 10) numbers (parts_of 46 (dotted numbers))
spells_parts [] within small = absurd within
spells_parts (n ∷ ns) within small = spells_each ns n small.0 small.1

pub spells_name : (numbers : List ℕ) → IsNameInLimits numbers → SpellsName numbers (dotted numbers)
spells_name numbers within = record { within = within; parts = spells_parts numbers within (all_small numbers within) }
