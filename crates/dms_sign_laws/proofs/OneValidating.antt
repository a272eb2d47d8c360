-- At most one row is being validated, whatever comes.
use Rattle.std.proofs.Common.{◌≡◌, ℕ, ◌+◌, ◌≤◌, ◌==◌, Bool, true, false, cond, List, [], ◌∷◌, Option, Some, None, Result, Ok, refl, sym, subst, arith}
use Rattle.std.specs.Prelude.{unwrap_or}
use Rattle.dms_wire.specs.declared.message.Kind.{Kind}
use Rattle.dms_wire.specs.Message.{VarBind, SnmpMessage}
use Rattle.dms_wire.specs.MessageOf.{message_of}
use Rattle.dms_face.specs.Face.{FaceModel}
use Rattle.dms_face.specs.Layout.{under}
use Rattle.dms_table.specs.declared.activation.Cause.{Cause}
use Rattle.dms_codes.specs.declared.row_id.RowId.{RowId}
use Rattle.dms_codes.specs.declared.status.Ask.{Ask}
use Rattle.dms_table.specs.declared.stock.Stock.{Stock}
use Rattle.dms_table.specs.Rows.{RowModel, TableModel, FieldModel, changed_in, changed_by, changed, may_ask, asked_row, asked, written_row, written, after_power, IsTable}
use Rattle.dms_codes.specs.declared.memory.Memory.{Memory}
use Rattle.dms_codes.specs.Memory.{memory_of}
use Rattle.dms_table.specs.Validation.{settled}
use Rattle.dms_table.specs.Stock.{table_of}
use Rattle.dms_table.specs.Activation.{ShownModel}
use Rattle.dms_table.proofs.OneRow.{count, one_asked_changeable, one_asked_volatile, none_more_written, none_settled, none_interrupted, none_released, none_unused}
use Rattle.dms_sign.specs.State.{ConfigModel, SignState, start}
use Rattle.dms_sign.specs.OwnCodes.{put_up_code}
use Rattle.dms_sign_access.specs.Access.{Write}
use Rattle.dms_sign.specs.SetRequest.{SetCause, with_write, with_writes, assigned}
use Rattle.dms_sign.specs.Requests.{found_unless, as_decided, as_asked, with_remaining, commanded, commanded_if, set_unless, answer_by, answer_of_any_size}
use Rattle.dms_sign.specs.Reply.{heard, dropped, on_message_if, received}
use Rattle.dms_sign.specs.Events.{after_settling, counted_down, after_duration, quieter, after_silence, after_tick, recovery_code, restored, after_power_loss, after_power_return}

-- ---- tables

-- a change that leaves one row validating in either memory
one_changed : (table new : TableModel) (memory : Option Memory) (number : ℕ) (change : RowModel → Option RowModel)
    → ((rows : List RowModel) → changed_in table.changeable number change ≡ Some rows → count rows + count table.volatile ≤ 1)
    → ((rows : List RowModel) → changed_in table.volatile number change ≡ Some rows → count table.changeable + count rows ≤ 1)
    → changed_by table memory number change ≡ Some new → IsTable new
one_changed table new memory number change first second e = grind arith

one_asked_if : (b : Bool) (table new : TableModel) (id : RowId) (ask : Ask) → IsTable table → b ≡ may_ask table ask
    → cond b (changed table id (asked_row ask)) None ≡ Some new → IsTable new
one_asked_if false table new id ask is may e = absurd (cc)
one_asked_if true table new id ask is may e =
    one_changed table new (memory_of id.memory) id.number (asked_row ask)
    (λ rows done. one_asked_changeable table ask true table.changeable table.volatile rows id.number (Ok tt) may refl refl refl is.one done tt)
    (λ rows done. one_asked_volatile table ask true table.changeable table.volatile rows id.number (Ok tt) may refl refl refl is.one done tt)
    e

one_asked : (table new : TableModel) (id : RowId) (ask : Ask) → IsTable table → asked table id ask ≡ Some new → IsTable new
one_asked table new id ask is e = one_asked_if (may_ask table ask) table new id ask is refl e

one_written : (table new : TableModel) (id : RowId) (field : FieldModel) → IsTable table → written table id field ≡ Some new → IsTable new
one_written table new id field is e =
    one_changed table new (memory_of id.memory) id.number (written_row field)
    (λ rows done. omega (arith, is.one, none_more_written field table.changeable rows id.number (Ok tt) done tt))
    (λ rows done. omega (arith, is.one, none_more_written field table.volatile rows id.number (Ok tt) done tt))
    e

one_or_old : (table : TableModel) (o : Option TableModel) → IsTable table → ((new : TableModel) → o ≡ Some new → IsTable new)
    → IsTable (unwrap_or o table)
one_or_old table o is each = grind arith

one_with_write : (table : TableModel) (write : Write) → IsTable table → IsTable (with_write table write)
one_with_write table write is = grind (arith, one_or_old, one_written)

one_with_writes : (table : TableModel) (writes : List Write) → IsTable table → IsTable (with_writes table writes)
one_with_writes table [] is = is
one_with_writes table (write ∷ writes) is = one_with_writes (with_write table write) writes (one_with_write table write is)

one_settled : (face : FaceModel) (table : TableModel) → IsTable (settled face table)
one_settled face table = grind (arith, none_settled)

one_after_power : (table : TableModel) → IsTable (after_power table)
one_after_power table = record { one = omega (arith, none_interrupted table.changeable, none_released table.volatile) }

pub one_at_start : (config : ConfigModel) (stock : Stock) → IsTable (start config (table_of stock)).table
one_at_start config stock = record { one = omega (arith, none_unused stock.changeable, none_unused stock.volatile) }

-- ---- putting up leaves the table

abbrev Keeps : SignState → SignState → Type 0
Keeps old new = new.table ≡ old.table

keeps_code : (s : SignState) (octets : List ℕ) (mode : ℕ) → Keeps s (put_up_code s octets mode)
unfolding put_up_code
keeps_code s octets mode = grind arith

one_kept : (old new : SignState) → Keeps old new → IsTable old.table → IsTable new.table
one_kept old new keeps is = subst IsTable (sym keeps) is

one_code : (s : SignState) (octets : List ℕ) (mode : ℕ) → IsTable s.table → IsTable (put_up_code s octets mode).table
one_code s octets mode is = one_kept s (put_up_code s octets mode) (keeps_code s octets mode) is

-- ---- messages

one_assigned : (s : SignState) (writes : List Write) → IsTable s.table → IsTable (assigned s writes).table
unfolding assigned
one_assigned s writes is = one_with_writes s.table writes is

one_decided : (old new : SignState) (bindings : List VarBind) (index : ℕ) (octets : List ℕ) (r : Result ShownModel Cause)
    → IsTable old.table → IsTable new.table
    → IsTable (as_decided old new bindings index octets r).after.table
one_decided old new bindings index octets r is is_new = grind arith

one_as_asked : (old new : SignState) (bindings : List VarBind) (index : ℕ) (o : Option TableModel) → IsTable old.table
    → ((table : TableModel) → o ≡ Some table → IsTable table)
    → IsTable (as_asked old new bindings index o).after.table
one_as_asked old new bindings index o is each = grind arith

one_remaining_if : (b : Bool) (s other : SignState) (octets : List ℕ) (mode : ℕ) → Keeps s other → IsTable s.table
    → IsTable (cond b (put_up_code s octets mode) other).table
one_remaining_if b s other octets mode keeps is = grind (arith, one_code, one_kept)

one_remaining : (s : SignState) (minutes : ℕ) → IsTable s.table → IsTable (with_remaining s minutes).table
one_remaining s minutes is = one_remaining_if (minutes == 0) s _ s.settings.fallbacks.end_duration _ refl is

one_commanded : (old new : SignState) (bindings : List VarBind) (index : ℕ) (write : Write) → IsTable old.table → IsTable new.table
    → IsTable (commanded old new bindings index write).after.table
one_commanded old new bindings index write is is_new = grind (arith, one_as_asked, one_asked, one_decided, one_remaining)

one_commanded_if : (old new : SignState) (bindings : List VarBind) (index : ℕ) (o : Option Write) → IsTable old.table → IsTable new.table
    → IsTable (commanded_if old new bindings index o).after.table
one_commanded_if old new bindings index o is is_new = grind (arith, one_commanded)

one_set : (s : SignState) (bindings : List VarBind) (found : List SetCause) → IsTable s.table → IsTable (set_unless s bindings found).after.table
one_set s bindings found is = grind (arith, one_commanded_if, one_assigned)

one_found : (s : SignState) (bindings found : List VarBind) (o : Option ℕ) → IsTable s.table → IsTable (found_unless s bindings found o).after.table
one_found s bindings found o is = grind arith

one_answer_by : (s : SignState) (m : SnmpMessage) (kind : Kind) → IsTable s.table → IsTable (answer_by s m kind).after.table
one_answer_by s m kind is = grind (arith, one_found, one_set)

one_answer : (s : SignState) (m : SnmpMessage) → IsTable s.table → IsTable (answer_of_any_size s m).after.table
unfolding answer_of_any_size
one_answer s m is = one_answer_by s m m.kind is

one_heard : (s : SignState) (m : SnmpMessage) (b : Bool) → IsTable s.table → IsTable (cond b (heard s m) (dropped s)).after.table
one_heard s m b is = grind (arith, one_answer)

one_message : (s : SignState) (o : Option SnmpMessage) → IsTable s.table → IsTable (on_message_if s o).after.table
one_message s o is = grind (arith, one_heard)

pub one_received : (s : SignState) (datagram : List ℕ) → IsTable s.table → IsTable (received s datagram).after.table
unfolding received
one_received s datagram is = one_message s (message_of datagram) is

-- ---- events

one_after_settling : (s : SignState) → IsTable (after_settling s).table
unfolding after_settling
one_after_settling s = one_settled (under s.config.face s.settings.defaults) s.table

one_counted_down : (s : SignState) (o : Option ℕ) → IsTable s.table → IsTable (counted_down s o).table
one_counted_down s o is = grind (arith, one_remaining_if)

one_after_duration : (s : SignState) → IsTable s.table → IsTable (after_duration s).table
unfolding after_duration
one_after_duration s is = one_counted_down s s.shown.remaining is

one_silence_if : (s : SignState) (counts ends : Bool) (octets : List ℕ) (mode : ℕ) → IsTable s.table
    → IsTable (cond counts (cond ends (put_up_code (quieter s) octets mode) (quieter s)) s).table
one_silence_if s counts ends octets mode is = grind (arith, one_code)

one_after_silence : (s : SignState) → IsTable s.table → IsTable (after_silence s).table
unfolding after_silence
one_after_silence s is = grind (arith, one_silence_if)

one_if : (b : Bool) (x y : SignState) → IsTable x.table → IsTable y.table → IsTable (cond b x y).table
one_if b x y is_x is_y = grind arith

pub one_after_tick : (s : SignState) → IsTable s.table → IsTable (after_tick s).table
unfolding after_tick
one_after_tick s is = grind (arith, one_if, one_after_silence, one_after_duration, one_after_settling)

pub one_after_power_loss : (s : SignState) → IsTable s.table → IsTable (after_power_loss s).table
unfolding after_power_loss
one_after_power_loss s is = one_if s.powered _ s (one_code (record s { shown_at_power_loss = s.shown }) s.settings.fallbacks.power_loss _ is) is

pub one_after_power_return : (s : SignState) (seconds : ℕ) → IsTable s.table → IsTable (after_power_return s seconds).table
unfolding after_power_return
one_after_power_return s seconds is = one_if s.powered s _ is (one_code (restored s) (recovery_code s seconds) _ (one_after_power s.table))
