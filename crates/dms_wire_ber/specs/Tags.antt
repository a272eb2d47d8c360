-- The tags of the types that ASN.1 itself has (X.690, 8.3, 8.7 to 8.9 and 8.19).
use Rattle.std.specs.Prelude.{ℕ}

abbrev pub integer_tag : ℕ
integer_tag = 2

abbrev pub octet_string_tag : ℕ
octet_string_tag = 4

abbrev pub null_tag : ℕ
null_tag = 5

abbrev pub object_identifier_tag : ℕ
object_identifier_tag = 6

abbrev pub sequence_tag : ℕ
sequence_tag = 48
