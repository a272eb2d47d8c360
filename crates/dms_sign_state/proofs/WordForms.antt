-- The words of lines: numbers, octets, codes, addresses.
use Rattle.std.proofs.Common.{ℕ, ◌<◌, ◌≤◌, ◌^◌, List, [], ◌∷◌, ◌++◌, decimal, arith}
use Rattle.dms_wire_ber.specs.NameText.{dotted}
use Rattle.dms_text_values.specs.ValueText.{octets_text}
use Rattle.dms_text_exact.specs.ExactWords.{number_in, octets_in, code_in, address_in}
use Rattle.dms_text_exact.proofs.DigitLaws.{octets_word_found, octets_word_only, octets_free, code_word_found, code_word_only}
use Rattle.dms_text_exact.proofs.NumberLaws.{number_word_found, number_word_only, decimal_free}
use Rattle.dms_text_exact.proofs.AddressLaws.{address_word_found, address_word_only, address_free}
use Rattle.dms_sign_state.specs.Fields.{AreOctets, IsCode, IsAddress}
use Rattle.dms_sign_state.specs.declared.field.SignFieldLack.{SignFieldLack}
use Rattle.dms_sign_state.specs.WordReading.{Reader, number, small, octets, code, address}
use Rattle.dms_sign_state.proofs.Forms.{IsRead, ended_read}

-- ---- numbers

abbrev pub IsWithin : ℕ → ℕ → ℕ → Type 0
IsWithin low high number = (low ≤ number) × (number ≤ high)

pub number_read : (low high end : ℕ) → high < 10 ^ 10 → end < 48 → IsRead (λ n. decimal n ++ end ∷ []) (IsWithin low high) (number low high end)
number_read low high end small low_end =
    ended_read decimal (IsWithin low high) (number_in low high) end
    (λ word n e. let is = number_word_found low high n word e in ((is.0, is.1), is.2))
    (λ n good. number_word_only low high n good.0 good.1 small)
    (λ n good. decimal_free end n low_end (omega (arith, good.1, small)))

-- the same, with less said
module _ {A : Type 0} {spelled : A → List ℕ} {Good Other : A → Type 0} {reader : SignFieldLack → Reader A} (one : IsRead spelled Good reader) (there : (a : A) → Good a → Other a) (again : (a : A) → Other a → Good a) where
  pub in_other_words : IsRead spelled Other reader
  in_other_words = record {
    found = λ lack text x e. let is = one.found lack text x e in (there x.0 is.0, is.1);
    only = λ lack a rest good. one.only lack a rest (again a good);
    lacks = λ lack other text e. one.lacks lack other text e;
  }

pub below_read : (high end : ℕ) → high < 10 ^ 10 → end < 48 → IsRead (λ n. decimal n ++ end ∷ []) (λ n. n ≤ high) (number 0 high end)
below_read high end small low = in_other_words (number_read 0 high end small low) (λ n good. good.1) (λ n good. (omega arith, good))

pub small_read : (end : ℕ) → end < 48 → IsRead (λ n. decimal n ++ end ∷ []) (λ n. n ≤ 255) (small end)
small_read end low = below_read 255 end (omega arith) low

-- ---- octets

pub octets_read : (most end : ℕ) → end < 45 → IsRead (λ o. octets_text o ++ end ∷ []) (AreOctets most) (octets most end)
octets_read most end low =
    ended_read octets_text (AreOctets most) (octets_in most) end
    (λ word o e. let is = octets_word_found most word o e in ((is.0, is.1), is.2))
    (λ o good. octets_word_only most o good.0 good.1)
    (λ o good. octets_free end o low good.1)

pub code_read : (size end : ℕ) → 0 < size → end < 45 → IsRead (λ o. octets_text o ++ end ∷ []) (IsCode size) (code size end)
code_read size end some low =
    ended_read octets_text (IsCode size) (code_in size) end
    (λ word o e. let is = code_word_found size word o some e in ((is.0, is.1), is.2))
    (λ o good. code_word_only size o some good.0 good.1)
    (λ o good. octets_free end o low good.1)

-- ---- addresses

pub dotted_read : (end : ℕ) → end < 45 → IsRead (λ a. dotted a ++ end ∷ []) IsAddress (address end)
dotted_read end low =
    ended_read dotted IsAddress address_in end
    (λ word a e. let is = address_word_found word a e in ((is.size, is.bytes), is.word_is))
    (λ a good. address_word_only a good.0 good.1)
    (λ a good. address_free end a (omega (arith, low)) good.1)
