-- The bench sign as a value, and events on it that can be computed.
use Rattle.std.proofs.Common.{ℕ, true, List, [], ◌∷◌, length}
use Rattle.std.specs.Prelude.{pos, map, codes, unwrap_or, replicate}
use Rattle.std.specs.Fmt.{digits}
use Rattle.std.specs.Result.{result_ok}
use Rattle.hex.specs.Hex.{encode_with, decode_pairs, decode_of}
use Rattle.dms_wire.specs.ErrorStatus.{error_status_number}
use Rattle.dms_wire_ber.specs.Element.{element}
use Rattle.dms_wire_ber.specs.Integer.{integer_octets}
use Rattle.dms_wire_ber.specs.ObjectIdentifier.{name_octets}
use Rattle.dms_wire.specs.Canonical.{binding_octets, numbers_octets, pdu_octets, canonical}
use Rattle.dms_wire.specs.MessageOf.{message_of}
use Rattle.dms_wire.specs.declared.message.Kind.{Kind}
use Rattle.dms_wire.specs.declared.message.Kind.TheVariants.{Set}
use Rattle.dms_wire.specs.Message.{ObjectValue, integer, octet_string, VarBind}
use Rattle.dms_mib.specs.declared.column.Column.{Column}
use Rattle.dms_mib.specs.declared.column.Column.TheVariants.{MultiString, RunTimePriority, Status}
use Rattle.dms_mib.specs.Names.{object_name, cell_name}
use Rattle.dms_codes.specs.Status.{status_number}
use Rattle.dms_multi.specs.Outcomes.{outcomes_within}
use Rattle.dms_multi.specs.TagReading.{item_at, item_after_opening, item_after_closing, tag_at, body_item, name_at, letters_name, end_name, item_of, flash_of, font_of, times_of, page_time_of}
use Rattle.dms_multi.specs.Reading.{number_of, decimal_of, value_of, cut, version_of}
use Rattle.dms_face.specs.Fit.{fault_of}
use Rattle.dms_codes.specs.declared.codes.Order.TheVariants.{High}
use Rattle.dms_codes.specs.Checksum.{octet_bits}
use Rattle.dms_codes.specs.Codes.{activation_of}
use Rattle.dms_mib.specs.Names.{name_of}
use Rattle.dms_mib_instances.specs.Objects.{instances}
use Rattle.dms_table.specs.Activation.{minutes_left}
use Rattle.dms_sign.specs.Values.{scalar_value, value_at, value_after}
use Rattle.dms_sign.specs.Values as values
use Rattle.dms_sign_access.specs.Access.{is_settable_object, object_write, cell_write, write_of}
use Rattle.dms_sign_access.specs.Settings.{set_by}
use Rattle.dms_sign.specs.SetRequest.{settable_instance, write_at, causes, assigned}
use Rattle.dms_sign.specs.Requests.{answer_of_any_size, set}
use Rattle.dms_sign.specs.Reply.{reply_to}
use Rattle.dms_sign.specs.Reply as sign
use Rattle.dms_sign.specs.OwnCodes.{put_up_code}
use Rattle.dms_sign.specs.Events.{after_settling, after_duration, after_silence, after_tick, after_power_loss, after_power_return}
use Rattle.dms_centre_jobs.specs.Steps.{request_of}
use Rattle.dms_centre.specs.Sending.{sends}
use Rattle.dms_centre_jobs.specs.Commands.{CommandModel, Publish, Activate}
use Rattle.dms_centre.specs.Commands.{commanded}
use Rattle.dms_centre.specs.Inputs.{received, ticked, restarted}
use Rattle.dms_world.specs.Event.{EventModel, command, sign_tick, to_sign, to_centre, forge_sign}
use Rattle.dms_world.specs.World.{WorldModel, world_after}
use Rattle.dms_replay.specs.Script.{beginning_of}
use Rattle.dms_sign_text.proofs.BenchValue.{bench_sign}
use Rattle.dms_replay.specs.Report.{report_of}

abbrev pub bench : WorldModel
bench = beginning_of bench_sign

-- Who unfolds it unfolds both ends, so that the events compute.
unfoldable pub after : WorldModel → List EventModel → WorldModel
unfolding element integer_octets name_octets binding_octets numbers_octets pdu_octets canonical message_of fault_of outcomes_within item_at item_after_opening item_after_closing tag_at body_item name_at letters_name end_name item_of flash_of font_of times_of page_time_of number_of decimal_of value_of cut version_of octet_bits name_of instances scalar_value value_at values.value_of value_after is_settable_object object_write cell_write write_of settable_instance write_at causes set_by assigned answer_of_any_size reply_to sign.received put_up_code after_settling after_duration after_silence after_tick after_power_loss after_power_return request_of sends commanded received ticked restarted
after world events = world_after world events

-- The report of the events on the bench sign.
unfoldable pub report : List EventModel → List ℕ
unfolding after digits encode_with
report events = report_of (after bench events) (length events)

-- ---- events

-- the octets of these digits
unfoldable pub hex : List ℕ → List ℕ
unfolding decode_pairs
hex digits = unwrap_or (result_ok (decode_of digits)) []

-- a text in the first changeable row, with the run-time priority 200, without an end
abbrev pub publication : (text : List ℕ) (priority : ℕ) (address : List ℕ) → CommandModel
publication text priority address = Publish (record {
  memory = 3;
  number = 1;
  text = text;
  owner = [];
  beacon = 0;
  pixel = 0;
  run_priority = 200;
  minutes = 65535;
  priority = priority;
  address = address;
})

-- it is published
abbrev pub publish : (text : List ℕ) (priority : ℕ) (address : List ℕ) → EventModel
publish text priority address = command (publication text priority address)

-- the code of these digits is sent
abbrev pub activate : List ℕ → EventModel
activate digits = command (Activate (activation_of High (hex digits)))

-- a request is handed to the sign, and its reply to the centre
abbrev pub both : ℕ → List EventModel
both place = to_sign place ∷ to_centre place ∷ []

abbrev pub seconds : ℕ → List EventModel
seconds count = replicate count sign_tick

-- a forged request with the community that may write
unfoldable pub request : Kind → List VarBind → EventModel
unfolding element integer_octets name_octets binding_octets numbers_octets pdu_octets canonical
request kind bindings =
    forge_sign (canonical (record { community = codes "admin"; kind = kind; request = pos 9; status = pos 0; index = pos 0; bindings = bindings }))

abbrev pub set_number : (group number value : ℕ) → VarBind
set_number group number value = record { name = object_name group number; value = integer (pos value) }

abbrev pub set_code : (group number : ℕ) → List ℕ → VarBind
set_code group number digits = record { name = object_name group number; value = octet_string (hex digits) }

abbrev pub sets : VarBind → EventModel
sets binding = request Set (binding ∷ [])

-- ---- what is seen

-- what is up: the memory and number of its source, its text and mode, and the minutes that are left
pub record Seen : Type 0 where
  pub memory : ℕ
  pub number : ℕ
  pub text : List ℕ
  pub mode : ℕ
  pub minutes : ℕ

abbrev pub seen : WorldModel → Seen
seen world = record {
  memory = world.sign.shown.source.memory;
  number = world.sign.shown.source.number;
  text = world.sign.shown.text;
  mode = world.sign.shown.mode;
  minutes = minutes_left world.sign.shown.remaining;
}

-- what a SET by the community that may write is answered: its status and index
unfoldable pub status_and_index : WorldModel → List VarBind → ℕ × ℕ
unfolding after
status_and_index world bindings = (error_status_number (set world.sign true bindings).status, (set world.sign true bindings).index)

-- what is reported of activations and texts: dmsActivateMsgError, dmsMultiSyntaxError and its position
abbrev pub errors : WorldModel → List ℕ
errors world = world.sign.reports.activate_error ∷ world.sign.reports.syntax_error ∷ world.sign.reports.syntax_error_position ∷ []

-- the statuses of the changeable rows
abbrev pub statuses : WorldModel → List ℕ
statuses world = map (λ row. status_number row.status) world.sign.table.changeable

abbrev pub set_cell : Column → (memory number : ℕ) → ObjectValue → VarBind
set_cell column memory number value = record { name = cell_name column (record { memory = memory; number = number }); value = value }

-- a row is opened, filled with a text and asked to be validated
abbrev pub fills : (memory number : ℕ) → List ℕ → List EventModel
fills memory number text =
    sets (set_cell Status memory number (integer (pos 6)))
    ∷ request Set (set_cell MultiString memory number (octet_string text) ∷ set_cell RunTimePriority memory number (integer (pos 200)) ∷ [])
    ∷ sets (set_cell Status memory number (integer (pos 7))) ∷ []

-- the message that the twelve octets of these digits name is put up, by a forged request
abbrev pub puts_up : List ℕ → EventModel
puts_up digits = sets (set_code 6 3 digits)
