-- Ends as their constructors give them (this profile).
use Rattle.std.specs.Prelude.{◌≡◌, ℕ, IsTrue, None}
use Rattle.dms_codes.specs.Limits.{has_community_size}
use Rattle.dms_table.specs.Stock.{table_of}
use Rattle.dms_sign.specs.declared.config.Config.{Config}
use Rattle.dms_sign.specs.Configuration.{config_of, config_fault}
use Rattle.dms_sign.specs.State.{SignState, start as sign_start}
use Rattle.dms_centre_jobs.specs.Job.{SettingsModel}
use Rattle.dms_centre.specs.State.{CentreState, start as centre_start}

-- the sign of a configuration with which nothing is wrong
pub record IsNewSign (sign : SignState) : Type 0 where
  pub config : Config
  pub faultless : config_fault config ≡ None
  pub made : sign ≡ sign_start (config_of config) (table_of config.stock)

-- a central system, whose first request has this number
pub record IsNewCentre (centre : CentreState) : Type 0 where
  pub settings : SettingsModel
  pub first : ℕ
  pub size : IsTrue (has_community_size settings.community)
  pub made : centre ≡ centre_start settings first
