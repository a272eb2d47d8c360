-- What holds of the numbers of requests, whatever comes in: commands, datagrams of anyone, ticks and restarts (this
-- profile).
use Rattle.std.specs.Prelude.{◌≡◌, ℕ, ◌+◌, ◌<◌, ◌≤◌, pos, Bool, false, List, count_by, Option, Some, None, slice_get}
use Rattle.std.specs.Ordering.{int_eq}
use Rattle.dms_wire.specs.Message.{SnmpMessage}
use Rattle.dms_wire.specs.MessageOf.{message_of}
use Rattle.dms_centre_jobs.specs.Job.{SettingsModel}
use Rattle.dms_centre.specs.Sending.{Move}
use Rattle.dms_centre_jobs.specs.Requests.{IsRequest}

-- ---- the number of a datagram

-- the octets spell a message with this request-id (RFC 1157, 4.1.1)
pub record HasNumber (number : ℕ) (octets : List ℕ) : Type 0 where
  pub message : SnmpMessage
  pub spelled : message_of octets ≡ Some message
  pub is : message.request ≡ pos number

abbrev pub is_number_of : ℕ → Option SnmpMessage → Bool
is_number_of number None = false
is_number_of number (Some message) = int_eq message.request (pos number)

abbrev pub has_number : ℕ → List ℕ → Bool
has_number number octets = is_number_of number (message_of octets)

-- ---- all that was sent, the oldest first

-- Each datagram spells a request, whose number is below the next one.
abbrev pub AreRequests : SettingsModel → ℕ → List (List ℕ) → Type 0
AreRequests settings next sent =
    (k : ℕ) (octets : List ℕ) → slice_get sent k ≡ Some octets
    → (number : ℕ) × (number < next) × IsRequest settings number octets

-- No later datagram has a lower number.
abbrev pub NumbersRise : List (List ℕ) → Type 0
NumbersRise sent =
    (j k m n : ℕ) (earlier later : List ℕ) → j ≤ k → slice_get sent j ≡ Some earlier → slice_get sent k ≡ Some later
    → HasNumber m earlier → HasNumber n later → m ≤ n

abbrev pub EqualNumbersMeanEqualOctets : List (List ℕ) → Type 0
EqualNumbersMeanEqualOctets sent =
    (j k number : ℕ) (one other : List ℕ) → slice_get sent j ≡ Some one → slice_get sent k ≡ Some other
    → HasNumber number one → HasNumber number other → one ≡ other

-- A request goes out three times at most.
abbrev pub ThreeSendsAtMost : List (List ℕ) → Type 0
ThreeSendsAtMost sent = (number : ℕ) → count_by (has_number number) sent ≤ 3

-- ---- what goes out at an input

-- Nothing; what went out before; or a new request, which takes the next number.
pub data Sends (settings : SettingsModel) (next : ℕ) (sent : List (List ℕ)) (move : Move) : Type 0 where
  Nothing : move.sent ≡ None → move.state.next ≡ next → Sends settings next sent move
  Again : (octets : List ℕ) (k : ℕ) → move.sent ≡ Some octets → slice_get sent k ≡ Some octets
      → move.state.next ≡ next → Sends settings next sent move
  New : (octets : List ℕ) → move.sent ≡ Some octets → IsRequest settings next octets → move.state.next ≡ next + 1
      → Sends settings next sent move
