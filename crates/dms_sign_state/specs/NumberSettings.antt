-- The settings that are numbers: each has a line of its own in a state's text (this profile).
use Rattle.std.specs.Prelude.{ℕ, ◌+◌, List, [], ◌∷◌, length, codes}
use Rattle.dms_sign_access.specs.declared.settings.SignSettings.{SignSettings}
use Rattle.dms_sign_state.specs.declared.number_settings.NumberSetting.{NumberSetting}
use Rattle.dms_sign_state.specs.declared.number_settings.NumberSetting.TheVariants as numbers

-- made by tools/objects.py --code

-- all of them, in the order of their lines
abbrev pub all_numbers : List NumberSetting
all_numbers = numbers.ShortPowerLossTime ∷ numbers.TimeCommLoss ∷ []

-- what its line begins with
abbrev pub number_word : NumberSetting → List ℕ
number_word numbers.ShortPowerLossTime = codes "short-power-loss-time"
number_word numbers.TimeCommLoss = codes "time-comm-loss"

-- its number among the settings
abbrev pub number_of : SignSettings → NumberSetting → ℕ
number_of settings numbers.ShortPowerLossTime = settings.short_power_loss_time
number_of settings numbers.TimeCommLoss = settings.time_comm_loss

-- the settings with this number of it
abbrev pub with_number : NumberSetting → ℕ → SignSettings → SignSettings
with_number numbers.ShortPowerLossTime number settings = record settings { short_power_loss_time = number }
with_number numbers.TimeCommLoss number settings = record settings { time_comm_loss = number }

-- the end of what is made

-- each is of two octets
abbrev pub greatest_number : ℕ
greatest_number = 65535

-- how many lines the settings have: that of the defaults, five of codes, and one of each number
abbrev pub settings_lines : ℕ
settings_lines = 6 + length all_numbers

-- the most octets that the lines of these have, each its word, a space, five digits and the end of the line
abbrev pub numbers_room : List NumberSetting → ℕ
numbers_room [] = 0
numbers_room (number ∷ numbers) = length (number_word number) + 7 + numbers_room numbers
