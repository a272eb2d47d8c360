-- A value as it is printed: the words of its type, and what it is (RFC 1155, 3.2; this profile).
use Rattle.std.specs.Prelude.{ℕ, List, [], ◌∷◌, ◌++◌, codes, decimal}
use Rattle.std.specs.Fmt.{signed_decimal}
use Rattle.hex.specs.Hex.{encode_lower}
use Rattle.dms_wire_ber.specs.NameText.{dotted}
use Rattle.dms_wire.specs.Message.{ObjectValue, integer, octet_string, null, object_identifier}
use Rattle.dms_wire.specs.Message.{ip_address, counter, gauge, time_ticks, opaque}

-- octets as pairs of hexadecimal digits, and `-` for none
abbrev pub octets_text : List ℕ → List ℕ
octets_text [] = codes "-"
octets_text (octet ∷ more) = encode_lower (octet ∷ more)

abbrev pub value_text : ObjectValue → List ℕ
value_text (integer number) = codes "INTEGER " ++ signed_decimal number
value_text (octet_string octets) = codes "OCTET STRING " ++ octets_text octets
value_text null = codes "NULL"
value_text (object_identifier numbers) = codes "OBJECT IDENTIFIER " ++ dotted numbers
value_text (ip_address octets) = codes "IpAddress " ++ dotted octets
value_text (counter number) = codes "Counter " ++ decimal number
value_text (gauge number) = codes "Gauge " ++ decimal number
value_text (time_ticks number) = codes "TimeTicks " ++ decimal number
value_text (opaque octets) = codes "Opaque " ++ octets_text octets
