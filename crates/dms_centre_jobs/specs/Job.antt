-- What a central system is set to, what an operator publishes, and the job that a command becomes (this profile).
use Rattle.std.specs.Prelude.{ℕ, List}
use Rattle.dms_codes.specs.declared.codes.Order.{Order}
use Rattle.dms_codes.specs.declared.codes.Activation.{Activation}
use Rattle.dms_centre_jobs.specs.declared.step.Step.{Step}

-- the community of its requests (RFC 1157, 4.1), and the order in which the sign takes the octets of a checksum
pub record SettingsModel : Type 0 where
  pub community : List ℕ
  pub order : Order

-- A message to be written into a row and activated: the row, its fields (NTCIP 1203, dmsMessageTable), and how it is
-- activated (MessageActivationCode).
pub record PublicationModel : Type 0 where
  pub memory : ℕ
  pub number : ℕ
  pub text : List ℕ
  pub owner : List ℕ
  pub beacon : ℕ
  pub pixel : ℕ
  pub run_priority : ℕ
  pub minutes : ℕ
  pub priority : ℕ
  pub address : List ℕ

-- what a job is to activate: a message that it writes first, or one that the sign has
pub data Work : Type 0 where
  Publishing : PublicationModel → Work
  Showing : Activation → Work

-- polls: how many replies said that the row is still being validated
pub record Job : Type 0 where
  pub work : Work
  pub step : Step
  pub polls : ℕ
