-- The requests that go out, and what their values have to be for it (RFC 1157, 4.1).
use Rattle.std.specs.Prelude.{◌≡◌, ℕ, true, IsTrue, List, Some}
use Rattle.std.specs.Int.Digits.{AllBelowBase}
use Rattle.dms_wire.specs.MessageOf.{message_of}
use Rattle.dms_codes.specs.declared.codes.Activation.{Activation}
use Rattle.dms_codes.specs.Codes.{IsActivation}
use Rattle.dms_codes.specs.Limits.{has_community_size}
use Rattle.dms_centre_jobs.specs.declared.step.Step.{Step}
use Rattle.dms_centre_jobs.specs.Job.{SettingsModel, PublicationModel, Work, Publishing, Showing}
use Rattle.dms_centre_jobs.specs.Steps.{request_of}
use Rattle.dms_centre_jobs.specs.Commands.{IsPublication, is_publishable}

-- the community has its size, and is of octets
pub record AreSettings (settings : SettingsModel) : Type 0 where
  pub size : IsTrue (has_community_size settings.community)
  pub octets : AllBelowBase 256 settings.community

-- the values of what a job is to activate
pub data IsWork : Work → Type 0 where
  OfPublishing : (p : PublicationModel) → IsPublication p → is_publishable p ≡ true → IsWork (Publishing p)
  OfShowing : (code : Activation) → IsActivation code → IsWork (Showing code)

-- octets that spell the request of this number, of some step of some job
pub record IsRequest (settings : SettingsModel) (number : ℕ) (octets : List ℕ) : Type 0 where
  pub work : Work
  pub step : Step
  pub spelled : message_of octets ≡ Some (request_of settings number work step)
