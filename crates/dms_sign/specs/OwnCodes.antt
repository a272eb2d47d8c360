-- What a sign shows when it activates one of its own codes, and what it reports of a code that is refused (this
-- profile).
use Rattle.std.specs.Prelude.{ℕ, ◌==◌, List, None, Result, Ok, Err, if◌then◌else◌}
use Rattle.dms_codes.specs.declared.codes.MessageId.{MessageId}
use Rattle.dms_codes.specs.declared.codes.Activation.{Activation}
use Rattle.dms_table.specs.declared.activation.Cause.{Cause}
use Rattle.dms_codes.specs.Memory.{current_buffer}
use Rattle.dms_codes.specs.Codes.{id_of, octets_of_activation}
use Rattle.dms_table.specs.Activation.{ShownModel, blank_shown, decided, no_address}
use Rattle.dms_sign_access.specs.Reports.{refused_reports}
use Rattle.dms_sign.specs.State.{SignState}

abbrev pub showing : SignState → ShownModel → SignState
showing s shown = record s { shown = shown }

-- ---- a code that is refused

abbrev pub with_refused_code : SignState → Cause → List ℕ → SignState
with_refused_code s cause code = record s { reports = refused_reports s.reports cause code }

-- ---- a code of the sign's own

-- the activation by which the sign itself puts a message up: without an end, with the highest priority, for nobody
abbrev pub own_activation : MessageId → Activation
own_activation id = record { minutes = 65535; priority = 255; id = id; address = no_address }

-- What comes of a decision: the message is shown with this mode, or else the blank message is, and the refusal is
-- reported.
abbrev pub put_up_as_decided : SignState → MessageId → ℕ → Result ShownModel Cause → SignState
put_up_as_decided s id mode (Ok shown) = showing s (record shown { mode = mode })
put_up_as_decided s id mode (Err cause) = with_refused_code (showing s (blank_shown s.settings.defaults mode)) cause
    (octets_of_activation s.table.order (own_activation id))

-- what is shown stays, without an end
abbrev pub staying : SignState → ℕ → SignState
staying s mode = showing s (record s.shown { mode = mode; remaining = None })

-- The sign activates the message that these five octets name: what is shown stays for a code of the current buffer,
-- whatever its number and its checksum; any other code is decided on.
unfoldable pub put_up_code : SignState → List ℕ → ℕ → SignState
put_up_code s octets mode =
    let id = id_of s.table.order octets in
    if id.memory == current_buffer then staying s mode
    else put_up_as_decided s id mode (decided s.config.face s.settings.defaults s.table s.shown (own_activation id))
