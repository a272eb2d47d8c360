-- How the last job of a central system ended, as C gives it (this profile).
use Rattle.std.specs.Prelude.{ℕ, ℤ, pos}
use Rattle.dms_centre.specs.declared.ended.Ended.{Ended}
use Rattle.dms_centre.specs.declared.ended.Ended.TheVariants as endings
use Rattle.dms_centre.specs.declared.ended.Why.{Why}
use Rattle.dms_centre.specs.declared.ended.Why.TheVariants as reasons

abbrev pub ended_number : Ended → ℕ
ended_number endings.Never = 0
ended_number endings.Accepted = 1
ended_number (endings.Failed step why) = 2

abbrev pub ended_step : Ended → ℕ
ended_step (endings.Failed step why) = step
ended_step ended = 0

abbrev pub why_number : Why → ℕ
why_number (reasons.Status value) = 1
why_number (reasons.WrongStatus value) = 2
why_number reasons.StillValidating = 3
why_number reasons.OtherChecksum = 4
why_number reasons.NoReply = 5
why_number reasons.NumbersUsedUp = 6
why_number reasons.OddReply = 7
why_number (reasons.Cause value) = 8
why_number reasons.Restarted = 9

-- the error-status, the status of the row, or the cause
abbrev pub why_value : Why → ℤ
why_value (reasons.Status value) = value
why_value (reasons.WrongStatus value) = value
why_value (reasons.Cause value) = value
why_value why = pos 0

abbrev pub ended_why : Ended → ℕ
ended_why (endings.Failed step why) = why_number why
ended_why ended = 0

abbrev pub ended_value : Ended → ℤ
ended_value (endings.Failed step why) = why_value why
ended_value ended = pos 0
