-- The eight steps of a job, and the request of each (NTCIP 1203 by object name; the order of the steps is this
-- profile's).
use Rattle.std.specs.Prelude.{ℕ, pos, Bool, true, false, List, [], ◌∷◌}
use Rattle.dms_wire.specs.declared.message.Kind.{Kind}
use Rattle.dms_wire.specs.declared.message.Kind.TheVariants.{Get, Set}
use Rattle.dms_wire.specs.Message.{ObjectValue, integer, octet_string, null, VarBind, SnmpMessage}
use Rattle.dms_codes.specs.declared.codes.Order.{Order}
use Rattle.dms_codes.specs.declared.codes.Activation.{Activation}
use Rattle.dms_mib.specs.declared.column.Column.{Column}
use Rattle.dms_mib.specs.declared.column.Column.TheVariants.{MultiString, Owner, Crc, Beacon, PixelService}
use Rattle.dms_mib.specs.declared.column.Column.TheVariants.{RunTimePriority, Status}
use Rattle.dms_codes.specs.declared.row_id.RowId.{RowId}
use Rattle.dms_codes.specs.Checksum.{message_checksum}
use Rattle.dms_codes.specs.Status.{ask_number}
use Rattle.dms_codes.specs.declared.status.Ask.TheVariants as asks
use Rattle.dms_codes.specs.Codes.{row_id, octets_of_activation}
use Rattle.dms_mib.specs.Names.{activate_message, activate_message_error, cell_name}
use Rattle.dms_centre_jobs.specs.declared.step.Step.{Step}
use Rattle.dms_centre_jobs.specs.declared.step.Step.TheVariants.{Opening, Opened, Filling, Validating, Polling}
use Rattle.dms_centre_jobs.specs.declared.step.Step.TheVariants.{Comparing}
use Rattle.dms_centre_jobs.specs.declared.step.Step.TheVariants.{Activating, Explaining}
use Rattle.dms_centre_jobs.specs.Job.{SettingsModel, Work, Publishing, Showing}

abbrev pub step_number : Step → ℕ
step_number Opening = 1
step_number Opened = 2
step_number Filling = 3
step_number Validating = 4
step_number Polling = 5
step_number Comparing = 6
step_number Activating = 7
step_number Explaining = 8

abbrev pub is_activating : Step → Bool
is_activating Activating = true
is_activating step = false

-- ---- what the job activates

-- The code of a publication carries the checksum of the operator's text, beacon and pixel service.
abbrev pub code_of : Work → Activation
code_of (Publishing p) = record {
  minutes = p.minutes;
  priority = p.priority;
  id = record { memory = p.memory; number = p.number; crc = message_checksum p.text p.beacon p.pixel };
  address = p.address;
}
code_of (Showing code) = code

-- the row that the code names
abbrev pub row_of : Work → RowId
row_of work = row_id (code_of work).id

-- ---- what is asked

-- asking for the value of an object (RFC 1157, 4.1.2)
abbrev pub reading : List ℕ → List VarBind
reading name = record { name = name; value = null } ∷ []

-- setting the value of an object (RFC 1157, 4.1.5)
abbrev pub writing : List ℕ → ObjectValue → List VarBind
writing name value = record { name = name; value = value } ∷ []

abbrev pub cell : Work → Column → List ℕ
cell work column = cell_name column (row_of work)

-- the values of dmsMessageStatus that ask for a change
abbrev pub modify_request : ℕ
modify_request = ask_number asks.Modify

abbrev pub validate_request : ℕ
validate_request = ask_number asks.Validate

abbrev pub field : Work → Column → ObjectValue → VarBind
field work column value = record { name = cell work column; value = value }

-- the fields of the message that is published
abbrev pub fields : Work → List VarBind
fields (Publishing p) =
    field (Publishing p) MultiString (octet_string p.text)
    ∷ field (Publishing p) Owner (octet_string p.owner)
    ∷ field (Publishing p) Beacon (integer (pos p.beacon))
    ∷ field (Publishing p) PixelService (integer (pos p.pixel))
    ∷ field (Publishing p) RunTimePriority (integer (pos p.run_priority))
    ∷ []
fields (Showing code) = []

abbrev pub bindings_of : Order → Work → Step → List VarBind
bindings_of order work Opening = writing (cell work Status) (integer (pos modify_request))
bindings_of order work Opened = reading (cell work Status)
bindings_of order work Filling = fields work
bindings_of order work Validating = writing (cell work Status) (integer (pos validate_request))
bindings_of order work Polling = reading (cell work Status)
bindings_of order work Comparing = reading (cell work Crc)
bindings_of order work Activating = writing activate_message (octet_string (octets_of_activation order (code_of work)))
bindings_of order work Explaining = reading activate_message_error

abbrev pub kind_of : Step → Kind
kind_of Opening = Set
kind_of Opened = Get
kind_of Filling = Set
kind_of Validating = Set
kind_of Polling = Get
kind_of Comparing = Get
kind_of Activating = Set
kind_of Explaining = Get

-- the last number that a request can have (this profile)
abbrev pub last_number : ℕ
last_number = 2147483647

-- the request of a step, under a number (RFC 1157, 4.1.1)
unfoldable pub request_of : SettingsModel → ℕ → Work → Step → SnmpMessage
request_of settings number work step = record {
  community = settings.community;
  kind = kind_of step;
  request = pos number;
  status = pos 0;
  index = pos 0;
  bindings = bindings_of settings.order work step;
}
