-- The octets of the codes that name a message and put one up (NTCIP 1203, MessageIDCode and MessageActivationCode).
use Rattle.std.specs.Prelude.{◌≡◌, ℕ, ◌+◌, ◌*◌, ◌/◌, ◌%◌, ◌^◌, ◌<◌, List, [], ◌∷◌, ◌++◌, length, slice_index}
use Rattle.std.specs.List.{All}
use Rattle.dms_codes.specs.declared.codes.Order.{Order}
use Rattle.dms_codes.specs.declared.codes.Order.TheVariants.{High, Swapped}
use Rattle.dms_codes.specs.declared.codes.MessageId.{MessageId}
use Rattle.dms_codes.specs.declared.codes.Activation.{Activation}
use Rattle.dms_codes.specs.declared.row_id.RowId.{RowId}

-- the row that a code names
abbrev pub row_id : MessageId → RowId
row_id id = record { memory = id.memory; number = id.number }

-- a number of sixteen bits, the high octet first
abbrev pub two_octets : ℕ → List ℕ
two_octets n = n / 256 ∷ n % 256 ∷ []

-- a checksum; makers differ in which octet is first
abbrev pub octets_of_checksum : Order → ℕ → List ℕ
octets_of_checksum High n = two_octets n
octets_of_checksum Swapped n = n % 256 ∷ n / 256 ∷ []

-- MessageIDCode
abbrev pub octets_of_id : Order → MessageId → List ℕ
octets_of_id order id = id.memory ∷ two_octets id.number ++ octets_of_checksum order id.crc

-- MessageActivationCode
abbrev pub octets_of_activation : Order → Activation → List ℕ
octets_of_activation order a = two_octets a.minutes ++ a.priority ∷ octets_of_id order a.id ++ a.address

-- a checksum as the number that its two octets are in an order
abbrev pub in_order : Order → ℕ → ℕ
in_order High n = n
in_order Swapped n = n % 256 * 256 + n / 256

-- the number that two octets are, from a place on
abbrev pub number_at : List ℕ → ℕ → ℕ
number_at octets place = slice_index octets place * 256 + slice_index octets (place + 1)

-- the message that five octets name
abbrev pub id_of : Order → List ℕ → MessageId
id_of order octets = record {
  memory = slice_index octets 0;
  number = number_at octets 1;
  crc = in_order order (number_at octets 3);
}

-- the activation that twelve octets are
abbrev pub activation_of : Order → List ℕ → Activation
activation_of order octets = record {
  minutes = number_at octets 0;
  priority = slice_index octets 2;
  id = record { memory = slice_index octets 3; number = number_at octets 4; crc = in_order order (number_at octets 6) };
  address = slice_index octets 8 ∷ slice_index octets 9 ∷ slice_index octets 10 ∷ slice_index octets 11 ∷ [];
}

-- the values of a MessageId
pub record IsMessageId (id : MessageId) : Type 0 where
  pub memory : id.memory < 2 ^ 8
  pub number : id.number < 2 ^ 16
  pub crc : id.crc < 2 ^ 16

-- the values of an Activation
pub record IsActivation (a : Activation) : Type 0 where
  pub minutes : a.minutes < 2 ^ 16
  pub priority : a.priority < 2 ^ 8
  pub id : IsMessageId a.id
  pub size : length a.address ≡ 4
  pub octets : All (λ octet. octet < 2 ^ 8) a.address
