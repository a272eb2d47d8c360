-- What C gives for a code, as the definitions have it (this profile).
use Rattle.std.specs.Prelude.{ℕ, ◌==◌, if◌then◌else◌, List, Option, Some, None, is_some, option_map}
use Rattle.dms_codes.specs.Codes.{octets_of_id, octets_of_activation}
use Rattle.dms_codes.specs.Memory.{memory_of}
use Rattle.dms_codes.specs.declared.codes.Order.{Order}
use Rattle.dms_codes.specs.declared.codes.Order.TheVariants.{High, Swapped}
use Rattle.dms_codes.specs.declared.codes.MessageId.{MessageId}
use Rattle.dms_codes.specs.declared.codes.Activation.{Activation}
use Rattle.wisangub_c_values.specs.declared.code_values.CodeParts.{CodeParts}

-- which octet of a checksum is first: at 0 the high one, at 1 the low one
abbrev pub order_of : ℕ → Option Order
order_of number = if number == 0 then Some High else if number == 1 then Some Swapped else None

abbrev pub message_of : CodeParts → MessageId
message_of parts = record { memory = parts.memory; number = parts.number; crc = parts.checksum }

abbrev pub activation_of : CodeParts → Activation
activation_of parts =
    record { minutes = parts.minutes; priority = parts.priority; id = message_of parts; address = parts.address }

-- the order of a code that names a type of memory
abbrev pub order_in : ℕ → CodeParts → Option Order
order_in order parts = if is_some (memory_of parts.memory) then order_of order else None

abbrev pub message_code : ℕ → CodeParts → Option (List ℕ)
message_code order parts = option_map (λ which. octets_of_id which (message_of parts)) (order_in order parts)

abbrev pub activation_code : ℕ → CodeParts → Option (List ℕ)
activation_code order parts =
    option_map (λ which. octets_of_activation which (activation_of parts)) (order_in order parts)

-- what a code that was sent says
abbrev pub code_parts : Activation → CodeParts
code_parts code = record {
  minutes = code.minutes;
  number = code.id.number;
  checksum = code.id.crc;
  priority = code.priority;
  memory = code.id.memory;
  address = code.address;
}
