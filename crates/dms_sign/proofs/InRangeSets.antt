-- A datagram keeps a sign in range: what it assigns, and what its command does.
use Rattle.std.proofs.Common.{◌≡◌, ℕ, zero, suc, ◌-◌, ◌≤◌, ◌==◌, ◌&&◌, Bool, true, cond, List, [], ◌∷◌, length, set, Option, Some, None, Result, slice_get, slice_set, refl, sym, subst, arith, leb}
use Rattle.std.specs.Prelude.{option_map, option_and_then, unwrap_or, ⊤}
use Rattle.std.specs.Option.{IfSome}
use Rattle.std.specs.List.{AllByRecursion}
use Rattle.std.specs.Int.Digits.{AllBelowBase}
use Rattle.std.proofs.lemmas.List.{length-set}
use Rattle.dms_wire.specs.declared.message.Kind.{Kind}
use Rattle.dms_wire.specs.Message.{ObjectValue, integer, octet_string, null, object_identifier, ip_address, counter, gauge, time_ticks, opaque, VarBind, SnmpMessage}
use Rattle.dms_wire.specs.MessageOf.{message_of}
use Rattle.dms_wire.specs.Limits.{IsValueInLimits, AreBindingsInLimits}
use Rattle.dms_wire.proofs.LimitsLaws.{spelled_in_limits}
use Rattle.dms_wire.proofs.MessageOfLaws.{read_is_spelled}
use Rattle.dms_face.specs.declared.defaults.Defaults.{Defaults}
use Rattle.dms_face.specs.Face.{FaceModel}
use Rattle.dms_face.proofs.Lists.{if_either, if_or, if_found}
use Rattle.dms_table.specs.declared.activation.Cause.{Cause}
use Rattle.dms_mib.specs.declared.column.Column.{Column}
use Rattle.dms_mib.specs.declared.column.Column.TheVariants as columns_of
use Rattle.dms_codes.specs.declared.row_id.RowId.{RowId}
use Rattle.dms_codes.specs.declared.status.Ask.{Ask}
use Rattle.dms_codes.specs.declared.status.Status.{Status}
use Rattle.dms_codes.specs.Codes.{activation_of}
use Rattle.dms_table.specs.Rows.{RowModel, TableModel, FieldModel, Text, Owner, Beacon, Pixel, Priority, numbered, changed_in, with_changeable, with_volatile, changed_by, changed, with_status, asked, with_field, written}
use Rattle.dms_codes.specs.declared.memory.Memory.{Memory}
use Rattle.dms_codes.specs.declared.memory.Memory.TheVariants.{Permanent, Changeable, Volatile, CurrentBuffer, Blank}
use Rattle.dms_codes.specs.Memory.{memory_of}
use Rattle.dms_codes.specs.Limits.{longest_text, longest_owner}
use Rattle.dms_table.specs.Activation.{ShownModel, decided}
use Rattle.dms_mib.specs.declared.scalar.Scalar.{Scalar}
use Rattle.dms_mib.specs.declared.scalar.Scalar.TheVariants as scalars
use Rattle.dms_mib.specs.declared.scalar.Scalar.TheVariants.{DefaultBackgroundColor, DefaultForegroundColor, DefaultFlashOn, DefaultFlashOff, DefaultFont, DefaultJustificationLine, DefaultJustificationPage, DefaultPageOnTime, DefaultPageOffTime, ActivateMessage, MessageTimeRemaining, ShortPowerRecoveryMessage, LongPowerRecoveryMessage, CommunicationsLossMessage, PowerLossMessage, EndDurationMessage}
use Rattle.dms_mib.specs.declared.instance.Instance.{Instance}
use Rattle.dms_mib.specs.declared.instance.Instance.TheVariants as kinds
use Rattle.dms_mib.specs.declared.objects.Access.{Access}
use Rattle.dms_mib.specs.declared.objects.Access.TheVariants as accesses
use Rattle.dms_mib.specs.declared.objects.Syntax.{Syntax}
use Rattle.dms_mib.specs.declared.objects.Syntax.TheVariants.{Range, Octets}
use Rattle.dms_mib.specs.Names.{scalar_number}
use Rattle.dms_mib.specs.Objects.{scalar_row}
use Rattle.dms_sign_access.specs.declared.reports.Reports.{Reports}
use Rattle.dms_sign_access.specs.declared.settings.Fallbacks.{Fallbacks}
use Rattle.dms_sign_access.specs.declared.settings.SignSettings.{SignSettings}
use Rattle.dms_sign.specs.State.{SignState}
use Rattle.dms_sign_access.specs.Access.{Write, SetNumber, SetCode, SetField, AskRow, Activate, SetRemaining, number_in, octets_in, font_in, ask_of, setting_in, object_write, cell_write, write_of}
use Rattle.dms_sign_access.specs.Assignment.{given, number_for, code_for}
use Rattle.dms_sign_access.specs.Ranges.{AreDefaultsInRange}
use Rattle.dms_sign_access.specs.Settings.{codes_by, defaults_by, set_by}
use Rattle.dms_sign.specs.SetRequest.{SetCause, settable_instance, write_at, with_write, with_writes, assigned}
use Rattle.dms_sign.specs.Requests.{found_unless, as_decided, as_asked, with_remaining, commanded, commanded_if, writes_of, set_unless, answer_by, answer_of_any_size}
use Rattle.dms_sign.specs.Reply.{is_heard, dropped, heard, on_message, on_message_if, received}
use Rattle.dms_sign.specs.InRange.{AreOctets, AreOctetsUpTo, IsRowInRange, IsTableInRange, AreFallbacksInRange, AreSettingsInRange, AreReportsInRange, IsSignInRange, IsBindingInLimits}
use Rattle.dms_sign.proofs.NumbersRead.{number_passes}
use Rattle.dms_sign.proofs.InRangeLists.{either, if_mapped, if_then, if_at, all_filtered}
use Rattle.dms_sign.proofs.InRangeShown.{IsDecisionInRange, showing_in_range, activation_is, decided_in_range, seconds_in_range, with_time, code_in_range}
use Rattle.dms_sign.proofs.InRangeEvents.{with_silence}

-- ---- rows that are changed

pub record AreRowsLike (old new : List RowModel) : Type 0 where
  pub each : AllByRecursion IsRowInRange new
  pub count : length new ≡ length old

all_set : (rows : List RowModel) (i : ℕ) (row : RowModel) → AllByRecursion IsRowInRange rows → IsRowInRange row
    → AllByRecursion IsRowInRange (set rows i row)
all_set [] i row all is = tt
all_set (x ∷ xs) zero row all is = (is, all.1)
all_set (x ∷ xs) (suc i) row all is = (all.0, all_set xs i row all.1 is)

changed_in_range : (rows : List RowModel) (n : ℕ) (change : RowModel → Option RowModel) → AllByRecursion IsRowInRange rows
    → ((row : RowModel) → IsRowInRange row → IfSome (change row) IsRowInRange) → IfSome (changed_in rows n change) (AreRowsLike rows)
changed_in_range rows n change all each =
    if_then IsRowInRange (AreRowsLike rows) (λ row. option_map (slice_set rows (n - 1)) (change row)) (numbered rows n)
    (λ row is. if_mapped IsRowInRange (AreRowsLike rows) (slice_set rows (n - 1)) (change row)
    (λ new h. record { each = all_set rows (n - 1) new all h; count = length-set rows (n - 1) new }) (each row is))
    (if_either IsRowInRange (n == 0) None (slice_get rows (n - 1)) tt (if_at IsRowInRange rows (n - 1) all))

changed_by_in_range : (table : TableModel) (memory : Option Memory) (number : ℕ) (change : RowModel → Option RowModel) → IsTableInRange table
    → ((row : RowModel) → IsRowInRange row → IfSome (change row) IsRowInRange) → IfSome (changed_by table memory number change) IsTableInRange
changed_by_in_range table (Some Changeable) number change is each =
    if_mapped (AreRowsLike table.changeable) IsTableInRange (with_changeable table) (changed_in table.changeable number change)
    (λ rows new. record {
      permanent = is.permanent;
      changeable = new.each;
      volatile = is.volatile;
      permanent_count = is.permanent_count;
      changeable_count = omega (arith, new.count, is.changeable_count);
      volatile_count = is.volatile_count;
    })
    (changed_in_range table.changeable number change is.changeable each)
changed_by_in_range table (Some Volatile) number change is each =
    if_mapped (AreRowsLike table.volatile) IsTableInRange (with_volatile table) (changed_in table.volatile number change)
    (λ rows new. record {
      permanent = is.permanent;
      changeable = is.changeable;
      volatile = new.each;
      permanent_count = is.permanent_count;
      changeable_count = is.changeable_count;
      volatile_count = omega (arith, new.count, is.volatile_count);
    })
    (changed_in_range table.volatile number change is.volatile each)
changed_by_in_range table (Some Permanent) number change is each = tt
changed_by_in_range table (Some CurrentBuffer) number change is each = tt
changed_by_in_range table (Some Blank) number change is each = tt
changed_by_in_range table None number change is each = tt

pub changed_table : (table : TableModel) (id : RowId) (change : RowModel → Option RowModel) → IsTableInRange table
    → ((row : RowModel) → IsRowInRange row → IfSome (change row) IsRowInRange) → IfSome (changed table id change) IsTableInRange
changed_table table id change is each = changed_by_in_range table (memory_of id.memory) id.number change is each

-- ---- asking

any_status : (row : RowModel) (o : Option Status) → IsRowInRange row → IfSome (option_map (with_status row) o) IsRowInRange
any_status row o is = grind arith

pub asked_in_range : (table : TableModel) (id : RowId) (ask : Ask) → IsTableInRange table → IfSome (asked table id ask) IsTableInRange
asked_in_range table id ask is = grind (arith, if_either, changed_table, any_status)

-- ---- writing

abbrev IsFieldInRange : FieldModel → Type 0
IsFieldInRange (Text octets) = AreOctetsUpTo longest_text octets
IsFieldInRange (Owner octets) = AreOctetsUpTo longest_owner octets
IsFieldInRange (Beacon on) = on ≤ 1
IsFieldInRange (Pixel on) = on ≤ 1
IsFieldInRange (Priority priority) = (1 ≤ priority) × (priority ≤ 255)

field_in_range : (row : RowModel) (field : FieldModel) → IsRowInRange row → IsFieldInRange field → IsRowInRange (with_field row field)
field_in_range row field is new = grind arith

written_in_range : (table : TableModel) (id : RowId) (field : FieldModel) → IsTableInRange table → IsFieldInRange field
    → IfSome (written table id field) IsTableInRange
written_in_range table id field is new = grind (arith, changed_table, if_either, field_in_range)

-- ---- what a binding writes

-- the most that a number of an object may be: those of a message that is shown are of 16 bits, the defaults are octets
abbrev most_of_group : ℕ → ℕ
most_of_group group = cond (group == 6) 65535 255

abbrev pub IsWriteInRange : Write → Type 0
IsWriteInRange (SetNumber object number) = number ≤ most_of_group (scalar_number object).0
IsWriteInRange (SetCode object octets) = AreOctets 5 octets
IsWriteInRange (SetField id field) = IsFieldInRange field
IsWriteInRange (AskRow id ask) = ⊤
IsWriteInRange (Activate octets) = AreOctets 12 octets
IsWriteInRange (SetRemaining minutes) = minutes ≤ 65535

abbrev IsWithin : (low high : ℕ) → ℕ → Type 0
IsWithin low high n = (low ≤ n) × (n ≤ high)

within_if : (low high : ℕ) (o : Option ℕ) → IfSome o (λ n. (leb low n && leb n high) ≡ true) → IfSome o (IsWithin low high)
within_if low high o is = grind arith

number_is : (low high : ℕ) (value : ObjectValue) → IfSome (number_in low high value) (IsWithin low high)
number_is low high value = within_if low high (number_in low high value) (number_passes low high value)

record AreOctetsWithin (low high : ℕ) (octets : List ℕ) : Type 0 where
  least : low ≤ length octets
  most : length octets ≤ high
  below : AllBelowBase 256 octets

octets_if : (low high : ℕ) (octets : List ℕ) (b : Bool) → AllBelowBase 256 octets → (leb low (length octets) && leb (length octets) high) ≡ b
    → IfSome (cond b (Some octets) None) (AreOctetsWithin low high)
octets_if low high octets b below e = grind arith

octets_are : (low high : ℕ) (value : ObjectValue) → IsValueInLimits value → IfSome (octets_in low high value) (AreOctetsWithin low high)
octets_are low high (integer z) within = tt
octets_are low high (octet_string octets) within = octets_if low high octets (leb low (length octets) && leb (length octets) high) within refl
octets_are low high null within = tt
octets_are low high (object_identifier numbers) within = tt
octets_are low high (ip_address address) within = tt
octets_are low high (counter n) within = tt
octets_are low high (gauge n) within = tt
octets_are low high (time_ticks n) within = tt
octets_are low high (opaque octets) within = tt

font_is : (face : FaceModel) (value : ObjectValue) → IfSome (font_in face value) (IsWithin 1 255)
font_is face value = grind arith

writes_number : (object : Scalar) (low high : ℕ) (o : Option ℕ) → high ≤ most_of_group (scalar_number object).0 → IfSome o (IsWithin low high)
    → IfSome (option_map (SetNumber object) o) IsWriteInRange
writes_number object low high o few is = grind arith

writes_code : (object : Scalar) (o : Option (List ℕ)) → IfSome o (AreOctetsWithin 5 5) → IfSome (option_map (SetCode object) o) IsWriteInRange
writes_code object o is = grind arith

writes_five : (object : Scalar) (low high : ℕ) (value : ObjectValue) → IsValueInLimits value → low ≡ 5 → high ≡ 5
    → IfSome (option_map (SetCode object) (octets_in low high value)) IsWriteInRange
writes_five object low high value within least most =
    subst (λ n. IfSome (option_map (SetCode object) (octets_in n high value)) IsWriteInRange) (sym least)
    (subst (λ n. IfSome (option_map (SetCode object) (octets_in 5 n value)) IsWriteInRange) (sym most)
    (writes_code object (octets_in 5 5 value) (octets_are 5 5 value within)))

-- an object that is assigned has room for the values of its row
abbrev IsRoomFor : Access → Scalar → Syntax → Type 0
IsRoomFor accesses.Write object (Range low high) = high ≤ most_of_group (scalar_number object).0
IsRoomFor accesses.Write object (Octets low high) = (low ≡ 5) × (high ≡ 5)
IsRoomFor accesses.Write object _ = ⊥
IsRoomFor _ object syntax = ⊤

room_for : (object : Scalar) → IsRoomFor (scalar_row object).access object (scalar_row object).syntax
room_for object = grind arith

abbrev assigned_write : Access → Syntax → Scalar → ObjectValue → Option Write
assigned_write accesses.Write syntax object value = setting_in syntax object value
assigned_write _ syntax object value = None

assigned_writes : (access : Access) (syntax : Syntax) (object : Scalar) (value : ObjectValue) → IsValueInLimits value → IsRoomFor access object syntax
    → IfSome (assigned_write access syntax object value) IsWriteInRange
assigned_writes accesses.Write (Range low high) object value within room =
    writes_number object low high (number_in low high value) room (number_is low high value)
assigned_writes accesses.Write (Octets low high) object value within room = writes_five object low high value within room.0 room.1
assigned_writes accesses.Write _ object value within room = absurd room
assigned_writes _ syntax object value within room = tt

-- by the row of the object, but for a number of a font and for commands
object_writes : (face : FaceModel) (object : Scalar) (value : ObjectValue) → IsValueInLimits value
    → IfSome (object_write face object value) IsWriteInRange
unfolding object_write
object_writes face DefaultFont value within = writes_number DefaultFont 1 255 (font_in face value) (omega arith) (font_is face value)
object_writes face ActivateMessage value within =
    if_mapped (AreOctetsWithin 12 12) IsWriteInRange Activate (octets_in 12 12 value)
    (λ octets is. record { size = omega (arith, is.least, is.most); below = is.below }) (octets_are 12 12 value within)
object_writes face MessageTimeRemaining value within =
    if_mapped (IsWithin 0 65535) IsWriteInRange SetRemaining (number_in 0 65535 value) (λ n is. is.1) (number_is 0 65535 value)
object_writes face object value within =
    assigned_writes (scalar_row object).access (scalar_row object).syntax object value within (room_for object)

cell_writes : (column : Column) (id : RowId) (value : ObjectValue) → IsValueInLimits value → IfSome (cell_write column id value) IsWriteInRange
unfolding cell_write
cell_writes columns_of.MemoryType id value within = tt
cell_writes columns_of.Number id value within = tt
cell_writes columns_of.MultiString id value within =
    if_mapped (AreOctetsWithin 0 longest_text) IsWriteInRange (λ octets. SetField id (Text octets)) (octets_in 0 longest_text value)
    (λ octets is. record { size = is.most; below = is.below }) (octets_are 0 longest_text value within)
cell_writes columns_of.Owner id value within =
    if_mapped (AreOctetsWithin 0 longest_owner) IsWriteInRange (λ octets. SetField id (Owner octets)) (octets_in 0 longest_owner value)
    (λ octets is. record { size = is.most; below = is.below }) (octets_are 0 longest_owner value within)
cell_writes columns_of.Crc id value within = tt
cell_writes columns_of.Beacon id value within =
    if_mapped (IsWithin 0 1) IsWriteInRange (λ n. SetField id (Beacon n)) (number_in 0 1 value) (λ n is. is.1) (number_is 0 1 value)
cell_writes columns_of.PixelService id value within =
    if_mapped (IsWithin 0 1) IsWriteInRange (λ n. SetField id (Pixel n)) (number_in 0 1 value) (λ n is. is.1) (number_is 0 1 value)
cell_writes columns_of.RunTimePriority id value within =
    if_mapped (IsWithin 1 255) IsWriteInRange (λ n. SetField id (Priority n)) (number_in 1 255 value) (λ n is. is) (number_is 1 255 value)
cell_writes columns_of.Status id value within =
    if_mapped (IsWithin 6 8) IsWriteInRange (λ n. AskRow id (ask_of n)) (number_in 6 8 value) (λ n is. tt) (number_is 6 8 value)

instance_writes : (face : FaceModel) (i : Instance) (value : ObjectValue) → IsValueInLimits value → IfSome (write_of face i value) IsWriteInRange
unfolding write_of
instance_writes face (kinds.Scalar object) value within = object_writes face object value within
instance_writes face (kinds.Cell column id) value within = cell_writes column id value within

any_then : {X Y : Type 0} (P : Y → Type 0) (f : X → Option Y) (o : Option X) → ((x : X) → IfSome (f x) P) → IfSome (option_and_then f o) P
any_then P f None each = tt
any_then P f (Some x) each = each x

binding_writes : (s : SignState) (binding : VarBind) → IsValueInLimits binding.value → IfSome (write_at s binding) IsWriteInRange
unfolding write_at
binding_writes s binding within =
    any_then IsWriteInRange (λ i. write_of s.config.face i binding.value) (settable_instance s binding.name)
    (λ i. instance_writes s.config.face i binding.value within)

each_binding : (bindings : List VarBind) → AreBindingsInLimits bindings → AllByRecursion IsBindingInLimits bindings
each_binding [] within = tt
each_binding (b ∷ bs) within = (record { name = within.0; value = within.1 }, each_binding bs within.2)

pub writes_in_range : (s : SignState) (bindings : List VarBind) → AreBindingsInLimits bindings → AllByRecursion IsWriteInRange (writes_of s bindings)
writes_in_range s bindings within =
    all_filtered IsBindingInLimits IsWriteInRange (write_at s) bindings (λ b is. binding_writes s b is.value) (each_binding bindings within)

-- ---- assignment

given_in_range : {B : Type 0} (P : B → Type 0) (pick : Write → Option B) (writes : List Write) (old : B)
    → ((w : Write) → IsWriteInRange w → IfSome (pick w) P)
    → AllByRecursion IsWriteInRange writes → P old → P (given pick writes old)
given_in_range P pick [] old each all is = is
given_in_range P pick (w ∷ ws) old each all is = given_in_range P pick ws (unwrap_or (pick w) old) each all.1 (if_or P (pick w) old (each w all.0) is)

number_for_is : (object : Scalar) (w : Write) → IsWriteInRange w → IfSome (number_for object w) (λ n. n ≤ most_of_group (scalar_number object).0)
number_for_is object w is = grind arith

code_for_is : (object : Scalar) (w : Write) → IsWriteInRange w → IfSome (code_for object w) (AreOctets 5)
code_for_is object w is = grind arith

given_number : (object : Scalar) (writes : List Write) (old : ℕ) → AllByRecursion IsWriteInRange writes → old ≤ most_of_group (scalar_number object).0
    → given (number_for object) writes old ≤ most_of_group (scalar_number object).0
given_number object writes old all is =
    given_in_range (λ n. n ≤ most_of_group (scalar_number object).0) (number_for object) writes old (number_for_is object) all is

given_code : (object : Scalar) (writes : List Write) (old : List ℕ) → AllByRecursion IsWriteInRange writes → AreOctets 5 old
    → AreOctets 5 (given (code_for object) writes old)
given_code object writes old all is = given_in_range (AreOctets 5) (code_for object) writes old (code_for_is object) all is

with_write_in_range : (table : TableModel) (w : Write) → IsTableInRange table → IsWriteInRange w → IsTableInRange (with_write table w)
with_write_in_range table (SetField id field) is new = if_or IsTableInRange (written table id field) table (written_in_range table id field is new) is
with_write_in_range table (SetNumber object n) is new = is
with_write_in_range table (SetCode object octets) is new = is
with_write_in_range table (AskRow id ask) is new = is
with_write_in_range table (Activate octets) is new = is
with_write_in_range table (SetRemaining minutes) is new = is

with_writes_in_range : (table : TableModel) (writes : List Write) → IsTableInRange table → AllByRecursion IsWriteInRange writes
    → IsTableInRange (with_writes table writes)
with_writes_in_range table [] is all = is
with_writes_in_range table (w ∷ ws) is all = with_writes_in_range (with_write table w) ws (with_write_in_range table w is all.0) all.1

codes_by_in_range : (f : Fallbacks) (writes : List Write) → AllByRecursion IsWriteInRange writes → AreFallbacksInRange f
    → AreFallbacksInRange (codes_by f writes)
codes_by_in_range f writes all is = record {
  short_power_recovery = given_code ShortPowerRecoveryMessage writes f.short_power_recovery all is.short_power_recovery;
  long_power_recovery = given_code LongPowerRecoveryMessage writes f.long_power_recovery all is.long_power_recovery;
  power_loss = given_code PowerLossMessage writes f.power_loss all is.power_loss;
  end_duration = given_code EndDurationMessage writes f.end_duration all is.end_duration;
  communications_loss = given_code CommunicationsLossMessage writes f.communications_loss all is.communications_loss;
}

defaults_by_in_range : (d : Defaults) (writes : List Write) → AllByRecursion IsWriteInRange writes → AreDefaultsInRange d
    → AreDefaultsInRange (defaults_by d writes)
defaults_by_in_range d writes all is = record {
  background = given_number DefaultBackgroundColor writes d.background all is.background;
  foreground = given_number DefaultForegroundColor writes d.foreground all is.foreground;
  flash_on = given_number DefaultFlashOn writes d.flash_on all is.flash_on;
  flash_off = given_number DefaultFlashOff writes d.flash_off all is.flash_off;
  font = given_number DefaultFont writes d.font all is.font;
  line = given_number DefaultJustificationLine writes d.line all is.line;
  page = given_number DefaultJustificationPage writes d.page all is.page;
  on = given_number DefaultPageOnTime writes d.on all is.on;
  off = given_number DefaultPageOffTime writes d.off all is.off;
}

-- made by tools/objects.py --code

set_by_in_range : (s : SignSettings) (writes : List Write) → AllByRecursion IsWriteInRange writes
    → AreSettingsInRange s → AreSettingsInRange (set_by s writes)
unfolding set_by
set_by_in_range s writes all is = record {
  fallbacks = codes_by_in_range s.fallbacks writes all is.fallbacks;
  short_power_loss_time = given_number scalars.ShortPowerLossTime writes s.short_power_loss_time all is.short_power_loss_time;
  time_comm_loss = given_number scalars.TimeCommLoss writes s.time_comm_loss all is.time_comm_loss;
  defaults = defaults_by_in_range s.defaults writes all is.defaults;
}

-- the end of what is made

pub assigned_in_range : (s : SignState) (writes : List Write) → IsSignInRange s → AllByRecursion IsWriteInRange writes → IsSignInRange (assigned s writes)
unfolding assigned
assigned_in_range s writes is all = record {
  config = is.config;
  table = with_writes_in_range s.table writes is.table all;
  settings = set_by_in_range s.settings writes all is.settings;
  silent_seconds = is.silent_seconds;
  shown = is.shown;
  shown_at_power_loss = is.shown_at_power_loss;
  reports = is.reports;
}

-- ---- commands

pub accepted_reports : (reports : Reports) (octets : List ℕ) → AreReportsInRange reports → AreOctets 12 octets
    → AreReportsInRange (record reports { activate_error = 2; accepted_code = octets })
accepted_reports reports octets are twelve = grind arith

as_decided_after : (old new : SignState) (bindings : List VarBind) (index : ℕ) (octets : List ℕ) (r : Result ShownModel Cause) → IsSignInRange old
    → IsSignInRange new
    → AreOctets 12 octets → IsDecisionInRange r → IsSignInRange (as_decided old new bindings index octets r).after
as_decided_after old new bindings index octets r was is twelve decision = grind arith

as_asked_after : (old new : SignState) (bindings : List VarBind) (index : ℕ) (o : Option TableModel) → IsSignInRange old → IsSignInRange new
    → IfSome o IsTableInRange
    → IsSignInRange (as_asked old new bindings index o).after
as_asked_after old new bindings index o was is table = grind arith

remaining_in_range : (s : SignState) (minutes : ℕ) → IsSignInRange s → minutes ≤ 65535 → IsSignInRange (with_remaining s minutes)
remaining_in_range s minutes is few = grind (arith, either, code_in_range, showing_in_range, with_time, seconds_in_range)

commanded_after : (old new : SignState) (bindings : List VarBind) (index : ℕ) (w : Write) → IsSignInRange old → IsSignInRange new → IsWriteInRange w
    → IsSignInRange (commanded old new bindings index w).after
commanded_after old new bindings index (AskRow id ask) was is write = grind (arith, as_asked_after, asked_in_range, as_decided_after, decided_in_range, activation_is, remaining_in_range)
commanded_after old new bindings index (Activate octets) was is write =
    as_decided_after old new bindings index octets
    (decided new.config.face new.settings.defaults new.table new.shown (activation_of old.table.order octets)) was is write
    (decided_in_range new.config.face new.settings.defaults new.table new.shown (activation_of old.table.order octets) is.settings.defaults is.table is.shown
    (activation_is old.table.order octets write.below))
commanded_after old new bindings index (SetRemaining minutes) was is write = remaining_in_range new minutes is write
commanded_after old new bindings index (SetNumber object n) was is write = is
commanded_after old new bindings index (SetCode object octets) was is write = is
commanded_after old new bindings index (SetField id field) was is write = is

commanded_if_after : (old new : SignState) (bindings : List VarBind) (index : ℕ) (o : Option Write) → IsSignInRange old → IsSignInRange new
    → IfSome o IsWriteInRange
    → IsSignInRange (commanded_if old new bindings index o).after
commanded_if_after old new bindings index o was is write = grind (arith, commanded_after)

-- ---- answers

found_after : (s : SignState) (bindings found : List VarBind) (o : Option ℕ) → IsSignInRange s → IsSignInRange (found_unless s bindings found o).after
found_after s bindings found o is = grind arith

set_unless_after : (s : SignState) (bindings : List VarBind) (found : List SetCause) → IsSignInRange s → AreBindingsInLimits bindings
    → IsSignInRange (set_unless s bindings found).after
set_unless_after s bindings found is within = grind (arith, writes_in_range, commanded_if_after, assigned_in_range, if_found)

answer_after : (s : SignState) (m : SnmpMessage) (kind : Kind) → IsSignInRange s → AreBindingsInLimits m.bindings
    → IsSignInRange (answer_by s m kind).after
answer_after s m kind is within = grind (arith, found_after, set_unless_after)

answer_in_range : (s : SignState) (m : SnmpMessage) → IsSignInRange s → AreBindingsInLimits m.bindings → IsSignInRange (answer_of_any_size s m).after
unfolding answer_of_any_size
answer_in_range s m is within = answer_after s m m.kind is within

-- ---- datagrams

heard_after : (s : SignState) (m : SnmpMessage) (b : Bool) → IsSignInRange s → AreBindingsInLimits m.bindings
    → IsSignInRange (cond b (heard s m) (dropped s)).after
heard_after s m b is within = grind (arith, with_silence, answer_in_range)

pub message_keeps_range : (s : SignState) (m : SnmpMessage) → IsSignInRange s → AreBindingsInLimits m.bindings → IsSignInRange (on_message s m).after
message_keeps_range s m is within = heard_after s m (is_heard s m) is within

datagram_after : (s : SignState) (octets : List ℕ) (o : Option SnmpMessage) → IsSignInRange s → message_of octets ≡ o
    → IsSignInRange (on_message_if s o).after
datagram_after s octets None is e = is
datagram_after s octets (Some m) is e =
    message_keeps_range s m is (spelled_in_limits m octets ((read_is_spelled octets m).0 e)).bindings

pub received_in_range : (s : SignState) (octets : List ℕ) → IsSignInRange s → IsSignInRange (received s octets).after
unfolding received
received_in_range s octets is = datagram_after s octets (message_of octets) is refl
