-- The operator's commands (this profile): which values one can be taken with, and the job that each begins.
use Rattle.std.specs.Prelude.{◌≡◌, ℕ, ◌<◌, ◌^◌, ◌==◌, ◌&&◌, ◌||◌, Bool, true, List, length, nat_le, nat_lt}
use Rattle.std.specs.List.{All}
use Rattle.std.specs.Int.Digits.{AllBelowBase}
use Rattle.dms_codes.specs.declared.codes.Activation.{Activation}
use Rattle.dms_codes.specs.Codes.{IsActivation}
use Rattle.dms_codes.specs.Limits.{longest_text, longest_owner}
use Rattle.dms_codes.specs.Memory.{changeable_memory, volatile_memory, blank_memory}
use Rattle.dms_centre_jobs.specs.declared.step.Step.TheVariants.{Opening, Activating}
use Rattle.dms_centre_jobs.specs.Job.{PublicationModel, Publishing, Showing, Job}

-- To write a message into a row and activate it; to activate a blank message; to activate a message that is there.
pub data CommandModel : Type 0 where
  Publish : PublicationModel → CommandModel
  Blank : (number minutes priority : ℕ) (address : List ℕ) → CommandModel
  Activate : Activation → CommandModel

-- ---- with which values a command can be taken

-- Only changeable and volatile rows can be written, numbers begin at 1, and each field has its limits (NTCIP 1203,
-- dmsMessageTable).
abbrev pub is_publishable : PublicationModel → Bool
is_publishable p =
    (p.memory == changeable_memory || p.memory == volatile_memory) && nat_lt 0 p.number
    && nat_le (length p.text) longest_text && nat_le (length p.owner) longest_owner
    && nat_le p.beacon 1 && nat_le p.pixel 1 && nat_lt 0 p.run_priority

-- Blank messages have the numbers 1 to 255. Any activation is sent: the sign judges it.
abbrev pub is_good : CommandModel → Bool
is_good (Publish p) = is_publishable p
is_good (Blank number minutes priority address) = nat_lt 0 number && nat_le number 255
is_good (Activate code) = true

-- ---- the job that a command begins

-- a blank message is named without a checksum
abbrev pub blank_code : (number minutes priority : ℕ) (address : List ℕ) → Activation
blank_code number minutes priority address = record {
  minutes = minutes;
  priority = priority;
  id = record { memory = blank_memory; number = number; crc = 0 };
  address = address;
}

abbrev pub showing : Activation → Job
showing code = record { work = Showing code; step = Activating; polls = 0 }

abbrev pub job_of : CommandModel → Job
job_of (Publish p) = record { work = Publishing p; step = Opening; polls = 0 }
job_of (Blank number minutes priority address) = showing (blank_code number minutes priority address)
job_of (Activate code) = showing code

-- ---- the values of a command

pub record IsAddress (address : List ℕ) : Type 0 where
  pub size : length address ≡ 4
  pub octets : All (λ octet. octet < 2 ^ 8) address

pub record IsPublication (p : PublicationModel) : Type 0 where
  pub memory : p.memory < 2 ^ 8
  pub number : p.number < 2 ^ 16
  pub text : AllBelowBase 256 p.text
  pub owner : AllBelowBase 256 p.owner
  pub beacon : p.beacon < 2 ^ 8
  pub pixel : p.pixel < 2 ^ 8
  pub run_priority : p.run_priority < 2 ^ 8
  pub minutes : p.minutes < 2 ^ 16
  pub priority : p.priority < 2 ^ 8
  pub address : IsAddress p.address

pub data IsCommand : CommandModel → Type 0 where
  OfPublish : (p : PublicationModel) → IsPublication p → IsCommand (Publish p)
  OfBlank : (number minutes priority : ℕ) (address : List ℕ) → number < 2 ^ 16 → minutes < 2 ^ 16 → priority < 2 ^ 8
      → IsAddress address
      → IsCommand (Blank number minutes priority address)
  OfActivate : (code : Activation) → IsActivation code → IsCommand (Activate code)
