-- What is printed of the codes that activate messages (this profile).
use Rattle.std.specs.Prelude.{ℕ, Bool, if◌then◌else◌, List, ◌++◌, codes, length, nat_lt, Option, Some, None}
use Rattle.hex.specs.Hex.{encode_lower}
use Rattle.dms_text.specs.Reading.{version_of}
use Rattle.signtool_calls.specs.declared.call.CodeWords.{CodeWords}
use Rattle.signtool_calls.specs.declared.call.ActivationWords.{ActivationWords}
use Rattle.signtool_calls.specs.declared.call.TermWords.{TermWords}
use Rattle.dms_codes.specs.Checksum.{message_checksum}
use Rattle.dms_codes.specs.Codes.{two_octets}
use Rattle.dms_codes.specs.Limits.{longest_text}
use Rattle.dms_codes.specs.declared.codes.Order.{Order}
use Rattle.dms_codes.specs.declared.codes.Order.TheVariants.{High, Swapped}
use Rattle.dms_codes.specs.declared.codes.MessageId.{MessageId}
use Rattle.dms_codes.specs.declared.codes.Activation.{Activation}
use Rattle.signtool_print.specs.CodeLine.{code_line}
use Rattle.signtool_print.specs.Printed.{Answer, answer}
use Rattle.signtool_print.specs.declared.statuses.ExitStatus.TheVariants.{Done, Refused, Misused}

abbrev pub bit : Bool → ℕ
bit b = if b then 1 else 0

abbrev pub order_of : TermWords → Order
order_of terms = if terms.swapped then Swapped else High

-- the activation of a message on these terms
abbrev pub on_terms : MessageId → TermWords → List ℕ → Activation
on_terms id terms address = record {
  minutes = terms.duration;
  priority = terms.priority;
  id = id;
  address = address;
}

-- the checksum as a number, in four digits
abbrev pub checksum_line : ℕ → List ℕ
checksum_line crc = (codes "crc " ++ encode_lower (two_octets crc)) ++ codes "\n"

-- ---- `code`

abbrev pub checksum_of : CodeWords → ℕ
checksum_of words = message_checksum words.text.now (bit words.beacon) (bit words.pixel)

abbrev pub id_of : CodeWords → MessageId
id_of words = record { memory = words.row.memory; number = words.row.number; crc = checksum_of words }

-- the checksum of the message, and the code that puts it up
abbrev pub code_lines : CodeWords → List ℕ → List ℕ
code_lines words address = checksum_line (checksum_of words)
    ++ code_line (order_of words.terms) (on_terms (id_of words) words.terms address)

abbrev pub addressed_answer : CodeWords → List ℕ → Answer
addressed_answer words address =
    if nat_lt longest_text (length words.text.now) then answer Refused (codes "text too long\n")
    else answer Done (code_lines words address)

-- the address is looked at first
abbrev pub code_answer : CodeWords → Option (List ℕ) → Answer
code_answer words None = answer Misused (codes "bad address\n")
code_answer words (Some address) = addressed_answer words address

-- ---- `activation`

abbrev pub message_of : ActivationWords → ℕ → MessageId
message_of words crc = record { memory = words.message.memory; number = words.message.number; crc = crc }

abbrev pub activation_line : ActivationWords → ℕ → List ℕ → List ℕ
activation_line words crc address =
    code_line (order_of words.terms) (on_terms (message_of words crc) words.terms address)

-- the checksum is looked at first
abbrev pub read_activation : ActivationWords → Option ℕ → Option (List ℕ) → Answer
read_activation words None address = answer Misused (codes "bad checksum\n")
read_activation words (Some crc) None = answer Misused (codes "bad address\n")
read_activation words (Some crc) (Some address) = answer Done (activation_line words crc address)

abbrev pub activation_answer : ActivationWords → Option (List ℕ) → Answer
activation_answer words address = read_activation words (version_of words.checksum.now) address
