-- What each word of a line is to be, and the first word that is not (this profile).
use Rattle.std.specs.Prelude.{ℕ, ◌+◌, ◌==◌, ◌&&◌, ◌||◌, Bool, true, false, if◌then◌else◌, List, []}
use Rattle.std.specs.Prelude.{◌∷◌, length, nat_le, Option, Some, None, is_some, Result, Ok, Err}
use Rattle.hex.specs.Hex.{decode_of}
use Rattle.hex.specs.declared.error.FromHexError.{FromHexError}
use Rattle.dms_text.specs.Reading.{same_octets, number_of, version_of, octets_of, word_at, is_end}
use Rattle.dms_text_forms.specs.FieldsReading.{address_of}
use Rattle.dms_text_forms.specs.Vocabulary.{keyword_text}
use Rattle.dms_text_forms.specs.declared.wanted.Wanted.{Wanted}
use Rattle.dms_text_forms.specs.declared.wanted.Wanted.TheVariants as wanted
use Rattle.dms_text_forms.specs.declared.fault.WordFault.{WordFault}
use Rattle.dms_text_forms.specs.declared.fault.WordFaultKind.{WordFaultKind}
use Rattle.dms_text_forms.specs.declared.fault.WordFaultKind.TheVariants as kinds

-- ---- words

abbrev pub is_from : ℕ → ℕ → Option ℕ → Bool
is_from low high None = false
is_from low high (Some number) = nat_le low number && nat_le number high

-- a number of one to `most` decimal digits, from low to high
abbrev pub is_number : ℕ → ℕ → ℕ → List ℕ → Bool
is_number most low high word = is_from low high (number_of 10 most word)

-- four numbers with dots between them
abbrev pub is_address : List ℕ → Bool
is_address word = is_some (address_of word)

abbrev pub is_twelve : Result (List ℕ) FromHexError → Bool
is_twelve (Ok octets) = length octets == 12
is_twelve (Err fault) = false

-- twelve octets in hexadecimal digits
abbrev pub is_code : List ℕ → Bool
is_code word = is_twelve (decode_of word)

abbrev pub is_wanted : Wanted → List ℕ → Bool
is_wanted (wanted.Keyword keyword) word = same_octets word (keyword_text keyword)
is_wanted (wanted.Either one other) word = same_octets word (keyword_text one) || same_octets word (keyword_text other)
is_wanted (wanted.Name name) word = true
is_wanted (wanted.Number low high) word = is_number 5 low high word
is_wanted wanted.FourOctets word = is_number 10 0 4294967295 word
is_wanted (wanted.Octets name) word = is_some (octets_of word)
is_wanted wanted.Version word = is_some (version_of word)
is_wanted wanted.Address word = is_address word
is_wanted wanted.Code word = is_code word

-- ---- lines

abbrev pub fault_at : ℕ → WordFaultKind → Option WordFault
fault_at place kind = Some (record { place = place; kind = kind })

-- a word where no more are wanted; an empty one is none
abbrev pub surplus : Option (List ℕ × List (List ℕ)) → WordFaultKind
surplus None = kinds.Empty
surplus (Some found) = kinds.More

-- a word where this one is wanted, and the others after it
abbrev pub fault_then : (List (List ℕ) → Option WordFault) → ℕ → Wanted
    → Option (List ℕ × List (List ℕ)) → Option WordFault
fault_then others place wanted None = fault_at place kinds.Empty
fault_then others place wanted (Some found) =
    if is_wanted wanted found.0 then others found.1 else fault_at place (kinds.Not wanted)

-- the first word that is not what is wanted there, that of this place first
unfoldable pub fault_from : ℕ → List Wanted → List (List ℕ) → Option WordFault
fault_from place [] words = if is_end words then None else fault_at place (surplus (word_at words))
fault_from place (wanted ∷ more) words =
    if is_end words then fault_at place (kinds.Missing wanted)
    else fault_then (fault_from (place + 1) more) place wanted (word_at words)

-- the first word of a line that is not what is wanted there
abbrev pub word_fault : List Wanted → List (List ℕ) → Option WordFault
word_fault form words = fault_from 1 form words
