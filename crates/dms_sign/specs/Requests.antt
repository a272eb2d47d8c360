-- What a sign answers to a message, where a reply may have any size, and what it is afterwards (RFC 1157, 4.1.2 to
-- 4.1.5).
use Rattle.std.specs.Prelude.{ℕ, ◌==◌, Bool, if◌then◌else◌, List, [], ◌∷◌, map, nat_eq, filter_map}
use Rattle.std.specs.Prelude.{find, Option, Some, None, unwrap_or, Result, Ok, Err}
use Rattle.std.specs.List.{position_from}
use Rattle.std.specs.Cmp.Lexicographic.{pointwise}
use Rattle.dms_wire.specs.declared.message.Kind.{Kind}
use Rattle.dms_wire.specs.declared.message.Kind.TheVariants.{Get, GetNext, Response, Set}
use Rattle.dms_wire.specs.declared.error_status.ErrorStatus.{ErrorStatus}
use Rattle.dms_wire.specs.declared.error_status.ErrorStatus.TheVariants.{NoError, NoSuchName, GenErr}
use Rattle.dms_wire.specs.Message.{VarBind, SnmpMessage}
use Rattle.dms_mib_replies.specs.Replies.{has_no_value_by, with_value_by, is_last_by, next_after_by}
use Rattle.dms_codes.specs.declared.codes.Activation.{Activation}
use Rattle.dms_table.specs.declared.activation.Cause.{Cause}
use Rattle.dms_table.specs.Rows.{TableModel, asked}
use Rattle.dms_codes.specs.Codes.{activation_of}
use Rattle.dms_table.specs.Activation.{ShownModel, decided, seconds_of}
use Rattle.dms_sign_access.specs.Reports.{accepted_reports}
use Rattle.dms_sign.specs.State.{SignState, end_duration_mode}
use Rattle.dms_sign.specs.Values.{value_of, value_after}
use Rattle.dms_sign.specs.OwnCodes.{showing, with_refused_code, put_up_code}
use Rattle.dms_sign_access.specs.Access.{Write, SetNumber, SetCode, SetField, AskRow, Activate, SetRemaining}
use Rattle.dms_sign_access.specs.Access.{is_command}
use Rattle.dms_sign.specs.SetRequest.{SetCause, is_command_at, write_at, causes, assigned}

-- what is answered: status, index and bindings; the state after it; and the activation that was accepted
pub record Answer : Type 0 where
  pub status : ErrorStatus
  pub index : ℕ
  pub bindings : List VarBind
  pub after : SignState
  pub accepted : Option Activation

-- an error repeats the bindings of the request
abbrev pub refused : SignState → List VarBind → ErrorStatus → ℕ → Answer
refused s bindings status index =
    record { status = status; index = index; bindings = bindings; after = s; accepted = None }

-- no error, and these bindings
abbrev pub granted : SignState → List VarBind → Answer
granted s bindings = record { status = NoError; index = 0; bindings = bindings; after = s; accepted = None }

-- ---- reading (RFC 1157, 4.1.2 and 4.1.3)

-- the bindings that were found, unless one at this index was not
abbrev pub found_unless : SignState → List VarBind → List VarBind → Option ℕ → Answer
found_unless s bindings found None = granted s found
found_unless s bindings found (Some index) = refused s bindings NoSuchName index

-- no instance has this name
abbrev pub has_no_value : SignState → VarBind → Bool
has_no_value s = has_no_value_by (value_of s)

-- the binding with the value that its name has
abbrev pub with_value : SignState → VarBind → VarBind
with_value s = with_value_by (value_of s)

-- a Get: each value, or noSuchName at the first name that has none (RFC 1157, 4.1.2)
abbrev pub get : SignState → List VarBind → Answer
get s bindings = found_unless s bindings (map (with_value s) bindings) (position_from (has_no_value s) 1 bindings)

-- no instance comes after this name
abbrev pub is_last : SignState → VarBind → Bool
is_last s = is_last_by (value_after s)

-- the binding of the instance that comes next
abbrev pub next_after : SignState → VarBind → VarBind
next_after s = next_after_by (value_after s)

-- a GetNext: what comes after each name, or noSuchName at the first that is the last (RFC 1157, 4.1.3)
abbrev pub get_next : SignState → List VarBind → Answer
get_next s bindings = found_unless s bindings (map (next_after s) bindings) (position_from (is_last s) 1 bindings)

-- ---- commands: each is judged on the state with the other values assigned; where it fails, none is (this profile)

-- a code that was accepted has its message up
abbrev pub activated : SignState → List ℕ → ShownModel → SignState
activated s octets shown = record (showing s shown) { reports = accepted_reports s.reports octets }

-- the answer to a code that was decided on
abbrev pub as_decided : SignState → SignState → List VarBind → ℕ → List ℕ → Result ShownModel Cause → Answer
as_decided old new bindings index octets (Ok shown) = record {
  status = NoError;
  index = 0;
  bindings = bindings;
  after = activated new octets shown;
  accepted = Some (activation_of old.table.order octets);
}
as_decided old new bindings index octets (Err cause) =
    refused (with_refused_code old cause octets) bindings GenErr index

-- the answer to what was asked of a row
abbrev pub as_asked : SignState → SignState → List VarBind → ℕ → Option TableModel → Answer
as_asked old new bindings index None = refused old bindings GenErr index
as_asked old new bindings index (Some table) = granted (record new { table = table }) bindings

-- Where no time remains the end of the duration has come (NTCIP 1203, dmsMessageTimeRemaining).
abbrev pub with_remaining : SignState → ℕ → SignState
with_remaining s minutes =
    if minutes == 0 then put_up_code s s.settings.fallbacks.end_duration end_duration_mode
    else showing s (record s.shown { remaining = seconds_of minutes })

-- the answer to a command
abbrev pub commanded : SignState → SignState → List VarBind → ℕ → Write → Answer
commanded old new bindings index (AskRow id ask) = as_asked old new bindings index (asked new.table id ask)
commanded old new bindings index (Activate octets) = as_decided old new bindings index octets
    (decided new.config.face new.settings.defaults new.table new.shown (activation_of old.table.order octets))
commanded old new bindings index (SetRemaining minutes) = granted (with_remaining new minutes) bindings
commanded old new bindings index (SetNumber object number) = granted new bindings
commanded old new bindings index (SetCode object octets) = granted new bindings
commanded old new bindings index (SetField id field) = granted new bindings

-- the answer to a SET that has a command, or none
abbrev pub commanded_if : SignState → SignState → List VarBind → ℕ → Option Write → Answer
commanded_if old new bindings index None = granted new bindings
commanded_if old new bindings index (Some command) = commanded old new bindings index command

-- ---- writing (RFC 1157, 4.1.5)

-- what the bindings write
abbrev pub writes_of : SignState → List VarBind → List Write
writes_of s bindings = filter_map (write_at s) bindings

-- the index of the command
abbrev pub command_index : SignState → List VarBind → ℕ
command_index s bindings = unwrap_or (position_from (is_command_at s) 1 bindings) 0

-- The first cause refuses a SET; without one its values are assigned, and its command is judged.
abbrev pub set_unless : SignState → List VarBind → List SetCause → Answer
set_unless s bindings (cause ∷ more) = refused s bindings cause.status cause.index
set_unless s bindings [] = commanded_if s (assigned s (writes_of s bindings)) bindings (command_index s bindings)
    (find is_command (writes_of s bindings))

-- a SET (RFC 1157, 4.1.5)
abbrev pub set : SignState → Bool → List VarBind → Answer
set s may_write bindings = set_unless s bindings (causes s may_write bindings)

-- ---- answers

abbrev pub is_community : List ℕ → List ℕ → Bool
is_community = pointwise nat_eq

abbrev pub may_write : SignState → SnmpMessage → Bool
may_write s m = is_community m.community s.config.writer

abbrev pub answer_by : SignState → SnmpMessage → Kind → Answer
answer_by s m Get = get s m.bindings
answer_by s m GetNext = get_next s m.bindings
answer_by s m Response = granted s m.bindings
answer_by s m Set = set s (may_write s m) m.bindings

-- what is answered, where a reply may have any size
unfoldable pub answer_of_any_size : SignState → SnmpMessage → Answer
answer_of_any_size s m = answer_by s m m.kind
