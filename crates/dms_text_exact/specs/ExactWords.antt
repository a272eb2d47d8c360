-- Words in their only spelling (this profile): of the spellings that a word of a description may have, a state's text
-- takes the one that is written. No number has a needless zero, and octets have small digits.
use Rattle.std.specs.Prelude.{ℕ, ℤ, ◌/◌, ◌==◌, ◌&&◌, ◌||◌, Bool, false, if◌then◌else◌, List, [], ◌∷◌, length}
use Rattle.std.specs.Prelude.{nat_le, Option, Some, None, Result, Ok, Err}
use Rattle.std.specs.List.{list_all, list_any}
use Rattle.std.specs.Str.{byte}
use Rattle.hex.specs.Hex.{decode_of, decode_sized}
use Rattle.hex.specs.declared.error.FromHexError.{FromHexError}
use Rattle.dms_text.specs.Words.{parts_of}
use Rattle.dms_text.specs.Reading.{number_of, within, is_dash, octets_of, octets_decoded, ◌>>=◌}
use Rattle.dms_text_forms.specs.FieldsReading.{address_of}
use Rattle.dms_text_values.specs.ValueReading.{integer_of}

-- ---- numbers

-- a zero before other digits, or behind a `-`
abbrev pub has_needless_zero : List ℕ → Bool
has_needless_zero [] = false
has_needless_zero (octet ∷ []) = false
has_needless_zero (octet ∷ next ∷ octets) = octet == byte "0" || (octet == byte "-" && next == byte "0")

-- a number of one to ten digits, from low to high
unfoldable pub number_in : ℕ → ℕ → List ℕ → Option ℕ
number_in low high word =
    if has_needless_zero word then None else (number_of 10 10 word >>= λ number. within low high number)

-- an INTEGER
unfoldable pub integer_in : List ℕ → Option ℤ
integer_in word = if has_needless_zero word then None else integer_of word

-- four numbers with dots between them
unfoldable pub address_in : List ℕ → Option (List ℕ)
address_in word = if list_any has_needless_zero (parts_of (byte ".") word) then None else address_of word

-- ---- octets

abbrev pub is_small_digit : ℕ → Bool
is_small_digit octet = (nat_le 48 octet && nat_le octet 57) || (nat_le 97 octet && nat_le octet 102)

-- the length of at most so many octets, and small digits or a dash
abbrev pub are_written : ℕ → List ℕ → Bool
are_written most word = nat_le (length word / 2) most && (is_dash word || list_all is_small_digit word)

-- at most so many octets, `-` for none
unfoldable pub octets_in : ℕ → List ℕ → Option (List ℕ)
octets_in most word = if are_written most word then octets_of word else None

-- what small digits spell, one pair or more
abbrev pub small_decoded : List ℕ → Option (List ℕ)
small_decoded word = if list_all is_small_digit word then octets_decoded (decode_of word) else None

abbrev pub decoded : Result (List ℕ) FromHexError → Option (List ℕ)
decoded (Ok octets) = Some octets
decoded (Err fault) = None

-- just so many octets
unfoldable pub code_in : ℕ → List ℕ → Option (List ℕ)
code_in size word = if list_all is_small_digit word then decoded (decode_sized word size) else None
