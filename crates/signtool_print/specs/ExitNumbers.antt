-- What the program exits with (this profile).
use Rattle.std.specs.Prelude.{ℕ}
use Rattle.signtool_print.specs.declared.statuses.ExitStatus.{ExitStatus}
use Rattle.signtool_print.specs.declared.statuses.ExitStatus.TheVariants.{Done, Refused, Misused}

-- the number of a status
abbrev pub exit_number : ExitStatus → ℕ
exit_number Done = 0
exit_number Refused = 1
exit_number Misused = 2
