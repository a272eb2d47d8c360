-- What is printed of the fields of a datagram (this profile).
use Rattle.std.specs.Prelude.{ℕ, ℤ, Bool, true, false, nat_le, ◌&&◌, ◌==◌, List, [], ◌∷◌, ◌++◌, codes, decimal}
use Rattle.std.specs.Prelude.{take, drop, Option, Some, None, Result, Ok, Err, if◌then◌else◌}
use Rattle.std.specs.Cmp.Lexicographic.{pointwise}
use Rattle.std.specs.Fmt.{signed_decimal}
use Rattle.std.specs.List.{flat_map, list_all}
use Rattle.std.specs.Prelude.{nat_eq}
use Rattle.hex.specs.Hex.{encode_lower, decode_of}
use Rattle.hex.specs.declared.error.FromHexError.{FromHexError}
use Rattle.dms_wire_ber.specs.FaultText.{fault_text}
use Rattle.dms_wire_ber.specs.NameText.{dotted}
use Rattle.dms_wire_ber.specs.declared.fault.WireFault.{WireFault}
use Rattle.dms_wire.specs.Message.{ObjectValue, integer, octet_string, null, object_identifier}
use Rattle.dms_wire.specs.Message.{ip_address, counter, gauge, time_ticks, opaque, VarBind, SnmpMessage}
use Rattle.dms_wire.specs.Reading.{message_at}
use Rattle.dms_wire.specs.declared.message.Kind.{Kind}
use Rattle.dms_wire.specs.declared.message.Kind.TheVariants.{Get, GetNext, Response, Set}
use Rattle.dms_mib.specs.Names.{below_dms}
use Rattle.dms_mib.specs.Objects.{objects}
use Rattle.dms_mib.specs.declared.objects.Group.TheVariants.{VmsCfg, MultiCfg, DmsMessage}
use Rattle.dms_mib.specs.declared.objects.Group.TheVariants.{DmsMessageEntry, SignControl}
use Rattle.signtool_print.specs.ObjectNames.{name_among}
use Rattle.signtool_print.specs.Printed.{Answer, answer}
use Rattle.signtool_print.specs.SpacedDigits.{spaced_octets}
use Rattle.signtool_print.specs.declared.statuses.ExitStatus.TheVariants.{Done, Refused, Misused}

-- ---- octets

-- from the space to the tilde of ASCII
abbrev pub is_printable : ℕ → Bool
is_printable octet = nat_le 32 octet && nat_le octet 126

-- in quotes the text that octets are, where all are printable
abbrev pub quoted_text : List ℕ → List ℕ
quoted_text octets = if list_all is_printable octets then codes " \"" ++ octets ++ codes "\"" else []

-- octets as hexadecimal digits, and their text; none at all is `-`
abbrev pub octets_text : List ℕ → List ℕ
octets_text [] = codes " -"
octets_text (octet ∷ more) = (codes " " ++ encode_lower (octet ∷ more)) ++ quoted_text (octet ∷ more)

-- ---- names

-- the name of the object of this number under a node below dms, of those that have one instance
abbrev pub scalar_name : (node number : ℕ) → Option (List ℕ)
scalar_name node number =
    if node == 2 then name_among objects VmsCfg number
    else if node == 4 then name_among objects MultiCfg number
    else if node == 5 then name_among objects DmsMessage number
    else if node == 6 then name_among objects SignControl number
    else None

-- the name of the column of this number of dmsMessageTable, which is 5.8.1 below dms
abbrev pub column_name : (node table entry number : ℕ) → Option (List ℕ)
column_name node table entry number =
    if (node == 5) && (table == 8) && (entry == 1) then name_among objects DmsMessageEntry number else None

-- the object of this name and its only instance, 0
abbrev pub only_text : ℕ → Option (List ℕ) → Option (List ℕ)
only_text instance None = None
only_text instance (Some name) = if instance == 0 then Some (name ++ codes ".0") else None

-- the column of this name and the row that is its instance
abbrev pub row_text : (memory number : ℕ) → Option (List ℕ) → Option (List ℕ)
row_text memory number None = None
row_text memory number (Some name) =
    Some (name ++ codes "." ++ decimal memory ++ codes "." ++ decimal number)

-- the object and the instance that numbers below dms name
abbrev pub instance_below : List ℕ → Option (List ℕ)
instance_below (node ∷ number ∷ instance ∷ []) = only_text instance (scalar_name node number)
instance_below (node ∷ table ∷ entry ∷ column ∷ memory ∷ number ∷ []) =
    row_text memory number (column_name node table entry column)
instance_below other = None

-- the object and the instance that a name is of, if it is one of a sign's objects
abbrev pub instance_named : List ℕ → Option (List ℕ)
instance_named numbers =
    if pointwise nat_eq (take 10 numbers) (below_dms []) then instance_below (drop 10 numbers) else None

-- these between two texts, or nothing
abbrev pub between : (before after : List ℕ) → Option (List ℕ) → List ℕ
between before after None = []
between before after (Some text) = before ++ text ++ after

-- its numbers with dots between them, and in parentheses the object and the instance
abbrev pub name_text : List ℕ → List ℕ
name_text numbers = dotted numbers ++ between (codes " (") (codes ")") (instance_named numbers)

-- ---- values

abbrev pub type_name : ObjectValue → List ℕ
type_name (integer number) = codes "INTEGER"
type_name (octet_string octets) = codes "OCTET STRING"
type_name null = codes "NULL"
type_name (object_identifier numbers) = codes "OBJECT IDENTIFIER"
type_name (ip_address octets) = codes "IpAddress"
type_name (counter number) = codes "Counter"
type_name (gauge number) = codes "Gauge"
type_name (time_ticks number) = codes "TimeTicks"
type_name (opaque octets) = codes "Opaque"

-- a value after its type
abbrev pub typed_text : ObjectValue → List ℕ
typed_text (integer number) = codes " " ++ signed_decimal number
typed_text (octet_string octets) = octets_text octets
typed_text null = []
typed_text (object_identifier numbers) = codes " " ++ name_text numbers
typed_text (ip_address octets) = codes " " ++ dotted octets
typed_text (counter number) = codes " " ++ decimal number
typed_text (gauge number) = codes " " ++ decimal number
typed_text (time_ticks number) = codes " " ++ decimal number
typed_text (opaque octets) = octets_text octets

-- a binding's name, and its value with its type
abbrev pub binding_line : VarBind → List ℕ
binding_line binding = (codes "binding " ++ name_text binding.name)
    ++ (codes ": " ++ type_name binding.value) ++ (typed_text binding.value ++ codes "\n")

-- ---- a message

abbrev pub kind_name : Kind → List ℕ
kind_name Get = codes "Get"
kind_name GetNext = codes "GetNext"
kind_name Response = codes "Response"
kind_name Set = codes "Set"

abbrev pub field_line : List ℕ → ℤ → List ℕ
field_line name number = name ++ codes " " ++ signed_decimal number ++ codes "\n"

abbrev pub community_lines : SnmpMessage → List ℕ
community_lines message = (codes "kind " ++ kind_name message.kind ++ codes "\ncommunity")
    ++ octets_text message.community ++ codes "\n"

abbrev pub number_lines : SnmpMessage → List ℕ
number_lines message = field_line (codes "request-id") message.request
    ++ field_line (codes "error-status") message.status ++ field_line (codes "error-index") message.index

-- what it is and its community, its numbers, and its bindings, a line each
abbrev pub message_lines : SnmpMessage → List ℕ
message_lines message =
    community_lines message ++ number_lines message ++ flat_map binding_line message.bindings

-- ---- a datagram

-- the fields of the message that octets spell, or their first fault
abbrev pub read_answer : Result SnmpMessage WireFault → Answer
read_answer (Ok message) = answer Done (message_lines message)
read_answer (Err fault) = answer Refused (codes "fault " ++ fault_text fault ++ codes "\n")

-- of the octets that digits are, if they are any
abbrev pub octets_answer : Result (List ℕ) FromHexError → Answer
octets_answer (Ok octets) = read_answer (message_at octets)
octets_answer (Err fault) = answer Misused (codes "not hex\n")

-- likewise, where separators may stand between pairs of digits
abbrev pub spaced_answer : Option (List ℕ) → Answer
spaced_answer (Some octets) = read_answer (message_at octets)
spaced_answer None = answer Misused (codes "not hex\n")

-- of `decode`: with spaces and colons between pairs of digits, or with nothing between digits
abbrev pub decode_answer : Bool → List ℕ → Answer
decode_answer true word = spaced_answer (spaced_octets word)
decode_answer false word = octets_answer (decode_of word)
