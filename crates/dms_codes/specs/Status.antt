-- The statuses of a row, and what may be asked of it (NTCIP 1203, dmsMessageStatus).
use Rattle.std.specs.Prelude.{ℕ, Bool, true, false, Option, Some, None}
use Rattle.dms_codes.specs.declared.status.Status.{Status}
use Rattle.dms_codes.specs.declared.status.Status.TheVariants.{NotUsed, Modifying, Validating, Valid, Error}
use Rattle.dms_codes.specs.declared.status.Ask.{Ask}
use Rattle.dms_codes.specs.declared.status.Ask.TheVariants as asks

-- The table of statuses: a row of the first status that is asked this has the second status next. What has no entry is
-- refused.
pub data StatusStep : Status → Ask → Status → Type 0 where
  unused_modify : StatusStep NotUsed asks.Modify Modifying
  unused_release : StatusStep NotUsed asks.NotUsed NotUsed
  modifying_modify : StatusStep Modifying asks.Modify Modifying
  modifying_validate : StatusStep Modifying asks.Validate Validating
  modifying_release : StatusStep Modifying asks.NotUsed NotUsed
  valid_modify : StatusStep Valid asks.Modify Modifying
  valid_validate : StatusStep Valid asks.Validate Validating
  valid_release : StatusStep Valid asks.NotUsed NotUsed
  error_modify : StatusStep Error asks.Modify Modifying
  error_validate : StatusStep Error asks.Validate Validating
  error_release : StatusStep Error asks.NotUsed NotUsed

-- the status that the table gives, if it gives one
abbrev pub next_status : Status → Ask → Option Status
next_status NotUsed asks.Modify = Some Modifying
next_status NotUsed asks.Validate = None
next_status NotUsed asks.NotUsed = Some NotUsed
next_status Validating ask = None
next_status Modifying asks.Modify = Some Modifying
next_status Modifying asks.Validate = Some Validating
next_status Modifying asks.NotUsed = Some NotUsed
next_status Valid asks.Modify = Some Modifying
next_status Valid asks.Validate = Some Validating
next_status Valid asks.NotUsed = Some NotUsed
next_status Error asks.Modify = Some Modifying
next_status Error asks.Validate = Some Validating
next_status Error asks.NotUsed = Some NotUsed

-- the numbers that are read
abbrev pub status_number : Status → ℕ
status_number NotUsed = 1
status_number Modifying = 2
status_number Validating = 3
status_number Valid = 4
status_number Error = 5

-- the numbers that ask for a change
abbrev pub ask_number : Ask → ℕ
ask_number asks.Modify = 6
ask_number asks.Validate = 7
ask_number asks.NotUsed = 8

abbrev pub is_not_used : Status → Bool
is_not_used NotUsed = true
is_not_used _ = false

abbrev pub is_modifying : Status → Bool
is_modifying Modifying = true
is_modifying _ = false

abbrev pub is_validating : Status → Bool
is_validating Validating = true
is_validating _ = false

abbrev pub is_valid : Status → Bool
is_valid Valid = true
is_valid _ = false

abbrev pub is_validate : Ask → Bool
is_validate asks.Validate = true
is_validate _ = false
