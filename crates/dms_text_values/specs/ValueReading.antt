-- The value that words spell: the words of its type as `decode` prints them, and what it is (RFC 1155, 3.2; this
-- profile).
use Rattle.std.specs.Prelude.{ℕ, ◌==◌, nat_le, if◌then◌else◌, List, [], ◌∷◌, codes, Option, Some, None}
use Rattle.std.specs.Prelude.{ℤ, pos, neg_ℤ}
use Rattle.std.specs.Str.{byte}
use Rattle.dms_text.specs.Reading.{same_octets, number_of, word_at, keyword_at, decimal_at, ◌>>=◌}
use Rattle.dms_text_forms.specs.FieldsReading.{octets_at, address_of}
use Rattle.dms_wire.specs.Message.{ObjectValue, integer, octet_string, null, object_identifier}
use Rattle.dms_wire.specs.Message.{ip_address, counter, gauge, time_ticks, opaque}
use Rattle.dms_text_values.specs.NameReading.{name_of}
use Rattle.dms_text_values.specs.declared.type_word.TypeWord.{TypeWord}
use Rattle.dms_text_values.specs.declared.type_word.TypeWord.TheVariants as types

-- ---- words

-- one to ten digits, of a number of at most 2^32 - 1
unfoldable pub positive_of : List ℕ → Option ℤ
positive_of digits = do
  number ← number_of 10 10 digits
  if nat_le number 4294967295 then Some (pos number) else None

-- one to ten digits, of a number of at most 2^31, and its negative
unfoldable pub negative_of : List ℕ → Option ℤ
negative_of digits = do
  number ← number_of 10 10 digits
  if nat_le number 2147483648 then Some (neg_ℤ (pos number)) else None

-- digits, perhaps with a `-` before them
abbrev pub integer_of : List ℕ → Option ℤ
integer_of [] = None
integer_of (octet ∷ octets) = if octet == byte "-" then negative_of octets else positive_of (octet ∷ octets)

unfoldable pub integer_at : List (List ℕ) → Option (ℤ × List (List ℕ))
integer_at words = do
  found ← word_at words
  number ← integer_of found.0
  Some (number, found.1)

abbrev pub large_number_at : List (List ℕ) → Option (ℕ × List (List ℕ))
large_number_at words = decimal_at 10 0 4294967295 words

-- ---- values, each with the words after it

unfoldable pub integer_value_at : List (List ℕ) → Option (ObjectValue × List (List ℕ))
integer_value_at words = do
  number ← integer_at words
  Some (integer number.0, number.1)

unfoldable pub octet_string_at : List (List ℕ) → Option (ObjectValue × List (List ℕ))
octet_string_at words = do
  rest ← keyword_at (codes "STRING") words
  octets ← octets_at rest
  Some (octet_string octets.0, octets.1)

unfoldable pub object_identifier_at : List (List ℕ) → Option (ObjectValue × List (List ℕ))
object_identifier_at words = do
  rest ← keyword_at (codes "IDENTIFIER") words
  found ← word_at rest
  numbers ← name_of found.0
  Some (object_identifier numbers, found.1)

unfoldable pub ip_address_at : List (List ℕ) → Option (ObjectValue × List (List ℕ))
ip_address_at words = do
  found ← word_at words
  octets ← address_of found.0
  Some (ip_address octets, found.1)

unfoldable pub counter_at : List (List ℕ) → Option (ObjectValue × List (List ℕ))
counter_at words = do
  number ← large_number_at words
  Some (counter number.0, number.1)

unfoldable pub gauge_at : List (List ℕ) → Option (ObjectValue × List (List ℕ))
gauge_at words = do
  number ← large_number_at words
  Some (gauge number.0, number.1)

unfoldable pub time_ticks_at : List (List ℕ) → Option (ObjectValue × List (List ℕ))
time_ticks_at words = do
  number ← large_number_at words
  Some (time_ticks number.0, number.1)

unfoldable pub opaque_at : List (List ℕ) → Option (ObjectValue × List (List ℕ))
opaque_at words = do
  octets ← octets_at words
  Some (opaque octets.0, octets.1)

-- ---- types

-- the types of RFC 1155 that are not those of ASN.1
unfoldable pub application_word : List ℕ → Option TypeWord
application_word word =
    if same_octets word (codes "IpAddress") then Some types.Address
    else if same_octets word (codes "Counter") then Some types.Counter
    else if same_octets word (codes "Gauge") then Some types.Gauge
    else if same_octets word (codes "TimeTicks") then Some types.Ticks
    else if same_octets word (codes "Opaque") then Some types.Opaque
    else None

-- the word with which a value begins: its type, or the first of two
unfoldable pub type_word : List ℕ → Option TypeWord
type_word word =
    if same_octets word (codes "INTEGER") then Some types.Integer
    else if same_octets word (codes "OCTET") then Some types.Octet
    else if same_octets word (codes "NULL") then Some types.Null
    else if same_octets word (codes "OBJECT") then Some types.Object
    else application_word word

-- what stands after that word
abbrev pub value_after : TypeWord → List (List ℕ) → Option (ObjectValue × List (List ℕ))
value_after types.Integer words = integer_value_at words
value_after types.Octet words = octet_string_at words
value_after types.Null words = Some (null, words)
value_after types.Object words = object_identifier_at words
value_after types.Address words = ip_address_at words
value_after types.Counter words = counter_at words
value_after types.Gauge words = gauge_at words
value_after types.Ticks words = time_ticks_at words
value_after types.Opaque words = opaque_at words

-- a value, and the words after it
unfoldable pub value_at : List (List ℕ) → Option (ObjectValue × List (List ℕ))
value_at words = do
  found ← word_at words
  kind ← type_word found.0
  value_after kind found.1
