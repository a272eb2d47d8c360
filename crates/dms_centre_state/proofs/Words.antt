-- Words of a state's text that tell their values apart.
use Rattle.std.proofs.Common.{◌≡◌, ℕ, ◌/◌, ◌%◌, ◌<◌, ◌^◌, List, [], ◌∷◌, ◌++◌, get_or, codes, decimal, refl, sym, ap, subst, ◌∙◌, arith}
use Rattle.hex.specs.Hex.{IsBytes, encode_lower}
use Rattle.dms_wire_ber.specs.NameText.{dotted}
use Rattle.dms_codes.specs.declared.codes.Order.{Order}
use Rattle.dms_codes.specs.declared.codes.Order.TheVariants.{High, Swapped}
use Rattle.dms_codes.specs.declared.codes.Activation.{Activation}
use Rattle.dms_codes.specs.Codes.{octets_of_checksum, octets_of_activation, activation_of, IsActivation}
use Rattle.dms_codes.proofs.Activations.{activation_back}
use Rattle.dms_centre_jobs.specs.Commands.{IsAddress}
use Rattle.dms_text_forms.specs.LineText.{code_text}
use Rattle.dms_text_values.specs.ValueText.{octets_text}
use Rattle.dms_text_exact.specs.Fronts.{IsFree}
use Rattle.dms_text_exact.proofs.DigitLaws.{bytes_more, all_bytes, hex_free, octets_free}
use Rattle.dms_centre_state.specs.CentreText.{number_line}
use Rattle.dms_centre_state.proofs.Tells.{Tells, same_octets, ended_tells, after_tells, pair_tells, made_tells, number_tells}
use Rattle.dms_centre_state.proofs.Groupings.{of_field, of_address}

-- ---- fields that are numbers

pub field_tells : (name : List ℕ) → Tells (number_line name) (λ n. n < 2 ^ 64)
field_tells name =
    made_tells (λ n. n) (λ n. n) (number_line name) (λ n. n < 2 ^ 64) (λ n small. (small, refl, of_field name (codes " ") (decimal n) (codes "\n")))
    (after_tells name (after_tells (codes " ") (number_tells 10 (omega arith))))

-- ---- octets

not_none : (octet : ℕ) (octets : List ℕ) → IsBytes (octet ∷ octets) → codes "-" ≡ encode_lower (octet ∷ octets) → ⊥
not_none octet octets all e = absurd (let none : IsFree 45 (codes "-") = subst (IsFree 45) (sym e) (hex_free 45 (octet ∷ octets) (omega arith) all) in cc)

text_only : (a b : List ℕ) → IsBytes a → IsBytes b → octets_text a ≡ octets_text b → a ≡ b
text_only [] [] ga gb e = refl
text_only [] (d ∷ b) ga gb e = absurd (not_none d b gb e)
text_only (c ∷ a) [] ga gb e = absurd (not_none c a ga (sym e))
text_only (c ∷ a) (d ∷ b) ga gb e = same_octets (c ∷ a) (d ∷ b) ga gb e

-- octets and a space
pub text_tells : Tells (λ octets. octets_text octets ++ codes " ") IsBytes
text_tells = ended_tells octets_text IsBytes 32 text_only (λ octets all. octets_free 32 octets (omega arith) all)

-- ---- codes

checksum_bytes : (order : Order) (crc : ℕ) (after : List ℕ) → crc < 2 ^ 16 → IsBytes after → IsBytes (octets_of_checksum order crc ++ after)
checksum_bytes High crc after small all = bytes_more (crc / 256) (crc % 256 ∷ after) (omega (arith, small)) (bytes_more (crc % 256) after (omega arith) all)
checksum_bytes Swapped crc after small all = bytes_more (crc % 256) (crc / 256 ∷ after) (omega arith) (bytes_more (crc / 256) after (omega (arith, small)) all)

pub code_bytes : (order : Order) (code : Activation) → IsActivation code → IsBytes (octets_of_activation order code)
code_bytes order code is =
    let id = code.id in
    let last = octets_of_checksum order id.crc ++ code.address in
    let five = bytes_more (id.number % 256) last (omega arith) (checksum_bytes order id.crc code.address is.id.crc (all_bytes code.address is.octets)) in
    let six = bytes_more (id.number / 256) (id.number % 256 ∷ last) (omega (arith, is.id.number)) five in
    let seven = bytes_more id.memory (id.number / 256 ∷ id.number % 256 ∷ last) is.id.memory six in
    let eight = bytes_more code.priority (id.memory ∷ id.number / 256 ∷ id.number % 256 ∷ last) is.priority seven in
    let nine = bytes_more (code.minutes % 256) (code.priority ∷ id.memory ∷ id.number / 256 ∷ id.number % 256 ∷ last) (omega arith) eight in
    bytes_more (code.minutes / 256) (code.minutes % 256 ∷ code.priority ∷ id.memory ∷ id.number / 256 ∷ id.number % 256 ∷ last) (omega (arith, is.minutes)) nine

pub code_tells : (order : Order) (end : ℕ) → end < 48 → Tells (λ code. code_text order code ++ end ∷ []) IsActivation
code_tells order end low =
    ended_tells (code_text order) IsActivation end
    (λ a b ga gb e.
    let same = same_octets (octets_of_activation order a) (octets_of_activation order b) (code_bytes order a ga) (code_bytes order b gb) e in
    sym (activation_back order a ga) ∙ ap (activation_of order) same ∙ activation_back order b gb)
    (λ code is. hex_free end (octets_of_activation order code) low (code_bytes order code is))

-- ---- addresses

abbrev four : List ℕ → ℕ × (ℕ × (ℕ × ℕ))
four address = (get_or address 0 0, (get_or address 1 0, (get_or address 2 0, get_or address 3 0)))

abbrev address_of : ℕ × (ℕ × (ℕ × ℕ)) → List ℕ
address_of x = x.0 ∷ x.1.0 ∷ x.1.1.0 ∷ x.1.1.1 ∷ []

abbrev four_text : ℕ × (ℕ × (ℕ × ℕ)) → List ℕ
four_text x = (decimal x.0 ++ codes ".") ++ ((decimal x.1.0 ++ codes ".") ++ ((decimal x.1.1.0 ++ codes ".") ++ (decimal x.1.1.1 ++ codes "\n")))

abbrev AreSmall : ℕ × (ℕ × (ℕ × ℕ)) → Type 0
AreSmall x = (x.0 < 2 ^ 64) × ((x.1.0 < 2 ^ 64) × ((x.1.1.0 < 2 ^ 64) × (x.1.1.1 < 2 ^ 64)))

four_of : (address : List ℕ) → IsAddress address → AreSmall (four address) × (address_of (four address) ≡ address) × (four_text (four address) ≡ dotted address ++ codes "\n")
four_of [] is = absurd (omega (arith, is.size))
four_of (a ∷ []) is = absurd (omega (arith, is.size))
four_of (a ∷ b ∷ []) is = absurd (omega (arith, is.size))
four_of (a ∷ b ∷ c ∷ []) is = absurd (omega (arith, is.size))
four_of (a ∷ b ∷ c ∷ d ∷ []) is =
    let all = all_bytes (a ∷ b ∷ c ∷ d ∷ []) is.octets in
    let sa : a < 256 = all 0 in
    let sb : b < 256 = all 1 in
    let sc : c < 256 = all 2 in
    let sd : d < 256 = all 3 in (
      (omega (arith, sa), (omega (arith, sb), (omega (arith, sc), omega (arith, sd)))),
      refl,
      of_address (codes ".") (codes "\n") (decimal a) (decimal b) (decimal c) (decimal d),
    )
four_of (a ∷ b ∷ c ∷ d ∷ e ∷ more) is = absurd (omega (arith, is.size))

pub address_tells : Tells (λ address. dotted address ++ codes "\n") IsAddress
address_tells =
    made_tells address_of four (λ address. dotted address ++ codes "\n") IsAddress four_of
    (pair_tells (number_tells 46 (omega arith)) (pair_tells (number_tells 46 (omega arith)) (pair_tells (number_tells 46 (omega arith)) (number_tells 10 (omega arith)))))
