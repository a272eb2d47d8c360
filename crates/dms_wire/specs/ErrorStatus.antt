-- The error-status of a Response: its names and numbers (RFC 1157, 4.1.1), but for readOnly, which 4.1.5 never asks
-- for.
use Rattle.std.specs.Prelude.{ℕ, ℤ, pos, negsuc, ◌==◌, if◌then◌else◌, List, codes, Option, Some, None}
use Rattle.dms_wire.specs.declared.error_status.ErrorStatus.{ErrorStatus}
use Rattle.dms_wire.specs.declared.error_status.ErrorStatus.TheVariants.{NoError, TooBig, NoSuchName, BadValue, GenErr}

abbrev pub error_status_number : ErrorStatus → ℕ
error_status_number NoError = 0
error_status_number TooBig = 1
error_status_number NoSuchName = 2
error_status_number BadValue = 3
error_status_number GenErr = 5

-- the status with a number
abbrev pub error_status_of : ℤ → Option ErrorStatus
error_status_of (pos n) =
    if n == 0 then Some NoError
    else if n == 1 then Some TooBig
    else if n == 2 then Some NoSuchName
    else if n == 3 then Some BadValue
    else if n == 5 then Some GenErr
    else None
error_status_of (negsuc n) = None

-- what it prints
abbrev pub error_status_text : ErrorStatus → List ℕ
error_status_text NoError = codes "noError"
error_status_text TooBig = codes "tooBig"
error_status_text NoSuchName = codes "noSuchName"
error_status_text BadValue = codes "badValue"
error_status_text GenErr = codes "genErr"
