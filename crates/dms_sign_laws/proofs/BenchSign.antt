-- The sign of the worked examples, what is asked of it, and what is seen of it.
use Rattle.std.proofs.Common.{ℕ, zero, suc, true, false, List, [], ◌∷◌, ◌+◌, ◌-◌, ◌*◌, Option, None, if◌then◌else◌}
use Rattle.std.specs.Prelude.{pos, codes, nat_lt}
use Rattle.dms_wire.specs.ErrorStatus.{error_status_number}
use Rattle.dms_wire.specs.declared.message.Kind.{Kind}
use Rattle.dms_wire.specs.declared.message.Kind.TheVariants.{Set}
use Rattle.dms_wire.specs.Message.{ObjectValue, integer, octet_string, VarBind, SnmpMessage}
use Rattle.dms_wire.specs.MessageOf.{message_of}
use Rattle.dms_wire_ber.specs.Element.{element}
use Rattle.dms_wire_ber.specs.Integer.{integer_octets}
use Rattle.dms_wire_ber.specs.ObjectIdentifier.{name_octets}
use Rattle.dms_wire.specs.Canonical.{binding_octets, numbers_octets, pdu_octets, canonical}
use Rattle.dms_multi.specs.Outcomes.{outcomes_within}
use Rattle.dms_multi.specs.TagReading.{item_at, item_after_opening, item_after_closing, tag_at, body_item, name_at, letters_name, end_name, item_of, flash_of, font_of, times_of, page_time_of}
use Rattle.dms_multi.specs.Reading as digits
use Rattle.dms_face.specs.Fit.{fault_of}
use Rattle.dms_face.proofs.Bench.{bench}
use Rattle.dms_codes.specs.declared.codes.Order.TheVariants.{High}
use Rattle.dms_codes.specs.declared.status.Status.TheVariants.{Valid}
use Rattle.dms_mib.specs.declared.column.Column.{Column}
use Rattle.dms_codes.specs.Checksum.{octet_bits}
use Rattle.dms_table.specs.Rows.{RowModel, TableModel, unused}
use Rattle.dms_codes.specs.Codes.{octets_of_id}
use Rattle.dms_mib.specs.declared.scalar.Scalar.TheVariants.{ActivateMessage}
use Rattle.dms_mib.specs.declared.instance.Instance.{Instance}
use Rattle.dms_mib.specs.declared.instance.Instance.TheVariants.{Scalar, Cell}
use Rattle.dms_mib.specs.Names.{name_of}
use Rattle.dms_mib_instances.specs.Objects.{instances}
use Rattle.dms_sign.specs.State.{ConfigModel, SignState, start}
use Rattle.dms_sign.specs.Values.{scalar_value, value_at, value_of, value_after, bound}
use Rattle.dms_sign.specs.OwnCodes.{put_up_code}
use Rattle.dms_sign_access.specs.Access.{is_settable_object, object_write, cell_write, write_of}
use Rattle.dms_sign_access.specs.Settings.{set_by}
use Rattle.dms_sign.specs.SetRequest.{settable_instance, write_at, causes, assigned}
use Rattle.dms_sign.specs.Requests.{Answer, answer_of_any_size}
use Rattle.dms_sign.specs.Reply.{Received, reply_to, received}
use Rattle.dms_sign.specs.Events.{after_settling, after_duration, after_silence, after_tick, after_power_loss, after_power_return}

-- ---- octets

-- the number of a hexadecimal digit, 0 to 9 or a to f
abbrev digit : ℕ → ℕ
digit code = if nat_lt code 58 then code - 48 else code - 87

-- the octets of pairs of hexadecimal digits
abbrev pub octets_of : List ℕ → List ℕ
octets_of (high ∷ low ∷ more) = (16 * digit high + digit low) ∷ octets_of more
octets_of _ = []

-- ---- the sign

-- 23 columns by 14 rows and two fonts; "public" may read, and "admin" may write too
abbrev pub config : ConfigModel
config = record { face = bench; reader = codes "public"; writer = codes "admin" }

-- a valid row of this text
abbrev pub valid_row : List ℕ → ℕ → RowModel
valid_row text priority = record { text = text; owner = []; beacon = 0; pixel = 0; priority = priority; status = Valid }

-- "B" is permanent; two changeable rows and a volatile one are not used; there are beacons and no pixel service
abbrev pub bench_table : TableModel
bench_table = record {
  permanent = valid_row (codes "B") 100 ∷ [];
  changeable = unused ∷ unused ∷ [];
  volatile = unused ∷ [];
  services = record { beacon = true; pixel = false };
  order = High;
}

abbrev pub bench_sign : SignState
bench_sign = start config bench_table

-- its changeable rows are these
abbrev pub with_changeable_rows : List RowModel → SignState
with_changeable_rows rows = record bench_sign { table = record bench_table { changeable = rows } }

-- changeable row 1 is "A"
abbrev pub lettered_sign : SignState
lettered_sign = with_changeable_rows (valid_row (codes "A") 200 ∷ unused ∷ [])

-- ---- requests

-- of the community that may write
abbrev pub request : Kind → List VarBind → SnmpMessage
request kind bindings = record { community = codes "admin"; kind = kind; request = pos 1; status = pos 0; index = pos 0; bindings = bindings }

abbrev pub cell : Column → ℕ → ℕ → Instance
cell column memory number = Cell column (record { memory = memory; number = number })

abbrev pub number : Instance → ℕ → VarBind
number i n = bound i (integer (pos n))

abbrev pub octets : Instance → List ℕ → VarBind
octets i these = bound i (octet_string these)

-- the activation code of these digits
abbrev pub code : List ℕ → VarBind
code twelve = octets (Scalar ActivateMessage) (octets_of twelve)

-- ---- what comes of them; who unfolds these unfolds what computes them

-- what comes of a datagram of these digits
unfoldable pub datagram : SignState → List ℕ → Received
unfolding octet_bits element integer_octets name_octets binding_octets numbers_octets pdu_octets canonical message_of instances name_of scalar_value value_at value_of value_after is_settable_object object_write cell_write write_of settable_instance write_at causes set_by assigned answer_of_any_size reply_to received
datagram s pairs = received s (octets_of pairs)

-- what is answered, where a reply may have any size
unfoldable pub answer : SignState → Kind → List VarBind → Answer
unfolding octet_bits fault_of outcomes_within item_at item_after_opening item_after_closing tag_at body_item name_at letters_name end_name item_of flash_of font_of times_of page_time_of digits.number_of digits.decimal_of digits.value_of digits.cut digits.version_of instances name_of scalar_value value_at value_of value_after is_settable_object object_write cell_write write_of settable_instance write_at causes set_by assigned put_up_code answer_of_any_size
answer s kind bindings = answer_of_any_size s (request kind bindings)

-- the status and the index that a SET is answered
abbrev pub status_and_index : SignState → List VarBind → ℕ × ℕ
status_and_index s bindings = (error_status_number (answer s Set bindings).status, (answer s Set bindings).index)

abbrev pub after_set : SignState → List VarBind → SignState
after_set s bindings = (answer s Set bindings).after

-- what an instance reads
unfoldable pub reads : SignState → Instance → Option ObjectValue
unfolding octet_bits instances name_of scalar_value value_at value_of
reads s i = value_of s (name_of i)

-- so many seconds later
unfoldable pub later : ℕ → SignState → SignState
unfolding octet_bits fault_of outcomes_within item_at item_after_opening item_after_closing tag_at body_item name_at letters_name end_name item_of flash_of font_of times_of page_time_of digits.number_of digits.decimal_of digits.value_of digits.cut digits.version_of put_up_code after_settling after_duration after_silence after_tick
later zero s = s
later (suc seconds) s = later seconds (after_tick s)

unfoldable pub without_power : SignState → SignState
unfolding octet_bits fault_of outcomes_within item_at item_after_opening item_after_closing tag_at body_item name_at letters_name end_name item_of flash_of font_of times_of page_time_of digits.number_of digits.decimal_of digits.value_of digits.cut digits.version_of put_up_code after_power_loss
without_power s = after_power_loss s

-- with power again after so many seconds
unfoldable pub with_power : ℕ → SignState → SignState
unfolding octet_bits fault_of outcomes_within item_at item_after_opening item_after_closing tag_at body_item name_at letters_name end_name item_of flash_of font_of times_of page_time_of digits.number_of digits.decimal_of digits.value_of digits.cut digits.version_of put_up_code after_power_return
with_power seconds s = after_power_return s seconds

-- ---- what is seen of a message that is up

pub record Seen : Type 0 where
  pub text : List ℕ
  pub source : List ℕ
  pub mode : ℕ
  pub remaining : Option ℕ

abbrev pub seen : SignState → Seen
seen s = record { text = s.shown.text; source = octets_of_id High s.shown.source; mode = s.shown.mode; remaining = s.shown.remaining }

-- "A" of changeable row 1, with this mode and for so long
abbrev pub letter_a : ℕ → Option ℕ → Seen
letter_a mode remaining = record { text = codes "A"; source = octets_of (codes "0300019a66"); mode = mode; remaining = remaining }

-- blank message 1, without an end
abbrev pub blank_one : ℕ → Seen
blank_one mode = record { text = []; source = octets_of (codes "0700010000"); mode = mode; remaining = None }
