-- What the code's types say: the models of commands and jobs (this profile).
use Rattle.std.specs.Prelude.{◌≡◌, ℕ, pos, Bool, nat_lt, ◌&&◌, List, [], ◌∷◌, ◌++◌, Option}
use Rattle.dms_wire.specs.declared.message.Kind.{Kind}
use Rattle.dms_wire.specs.Message.{ObjectValue, integer, octet_string, VarBind, SnmpMessage}
use Rattle.dms_wire.specs.Written.{octets_of_bindings}
use Rattle.dms_centre_jobs.specs.declared.command.Command.{Command}
use Rattle.dms_centre_jobs.specs.declared.command.Command.TheVariants as commands
use Rattle.dms_codes.specs.declared.row_id.RowId.{RowId}
use Rattle.dms_mib.specs.declared.column.Column.{Column}
use Rattle.dms_mib.specs.declared.column.Column.TheVariants.{MultiString, Owner, Beacon, PixelService}
use Rattle.dms_mib.specs.declared.column.Column.TheVariants.{RunTimePriority}
use Rattle.dms_mib.specs.Names.{cell_name}
use Rattle.dms_centre_jobs.specs.declared.job.Job.{Job}
use Rattle.dms_centre_jobs.specs.declared.job.WrittenRowFields.{WrittenRowFields}
use Rattle.dms_centre_jobs.specs.Commands as commanding
use Rattle.dms_centre_jobs.specs.Job as models

abbrev pub command_model : Command → commanding.CommandModel
command_model (commands.Publish memory number text owner beacon pixel run_priority minutes priority address) =
    commanding.Publish (record {
      memory = memory;
      number = number;
      text = text.now;
      owner = owner.now;
      beacon = beacon;
      pixel = pixel;
      run_priority = run_priority;
      minutes = minutes;
      priority = priority;
      address = address;
    })
command_model (commands.Blank number minutes priority address) = commanding.Blank number minutes priority address
command_model (commands.Activate code) = commanding.Activate code

abbrev pub job_model : Job → models.Job
job_model job = record { work = job.work; step = job.step; polls = job.polls }

-- ---- inside the crate

-- a request with these bindings (RFC 1157, 4.1.1)
abbrev pub asking : List ℕ → Kind → ℕ → List VarBind → SnmpMessage
asking community kind number bindings = record {
  community = community;
  kind = kind;
  request = pos number;
  status = pos 0;
  index = pos 0;
  bindings = bindings;
}

-- what is there of bindings once one more was pushed
abbrev pub IsPushed : Option (List ℕ) → VarBind → Option (List ℕ) → Type 0
IsPushed old binding new = (bindings : List VarBind) → old ≡ octets_of_bindings bindings
    → new ≡ octets_of_bindings (bindings ++ binding ∷ [])

-- the numbers that name a row have one octet each (X.690, 8.19.2)
abbrev pub has_short_name : RowId → Bool
has_short_name row = nat_lt row.memory 128 && nat_lt row.number 128

-- a field of a row (NTCIP 1203, dmsMessageTable)
abbrev pub field_of : RowId → Column → ObjectValue → VarBind
field_of row column value = record { name = cell_name column row; value = value }

-- the fields of a row that is written
abbrev pub fields_of : RowId → WrittenRowFields → List VarBind
fields_of row written =
    field_of row MultiString (octet_string written.text.items)
    ∷ field_of row Owner (octet_string written.owner.items)
    ∷ field_of row Beacon (integer (pos written.attributes.beacon))
    ∷ field_of row PixelService (integer (pos written.attributes.pixel))
    ∷ field_of row RunTimePriority (integer (pos written.attributes.run_priority))
    ∷ []
