-- The defaults of a sign stay in their ranges, and name a font of its face.
use Rattle.std.proofs.Common.{◌≡◌, ℕ, ◌==◌, ◌&&◌, Bool, true, cond, List, [], ◌∷◌, Option, Some, None, Result, refl, leb, arith}
use Rattle.std.specs.Prelude.{option_map, option_and_then, unwrap_or, filter_map, nat_le, ⊤}
use Rattle.std.specs.Option.{IfSome}
use Rattle.std.specs.List.{AllByRecursion}
use Rattle.std.proofs.lemmas.Bool.{and_parts}
use Rattle.dms_wire.specs.declared.message.Kind.{Kind}
use Rattle.dms_wire.specs.Message.{ObjectValue, VarBind, SnmpMessage}
use Rattle.dms_wire.specs.MessageOf.{message_of}
use Rattle.dms_face.specs.declared.defaults.Defaults.{Defaults}
use Rattle.dms_face.specs.Face.{FaceModel, has_font, is_within, fit}
use Rattle.dms_face.proofs.Lists.{if_or}
use Rattle.dms_table.specs.declared.activation.Cause.{Cause}
use Rattle.dms_mib.specs.declared.column.Column.{Column}
use Rattle.dms_mib.specs.declared.column.Column.TheVariants as columns
use Rattle.dms_codes.specs.declared.row_id.RowId.{RowId}
use Rattle.dms_table.specs.Rows.{TableModel, Text, Owner, Beacon, Pixel, Priority}
use Rattle.dms_codes.specs.Limits.{longest_text, longest_owner}
use Rattle.dms_table.specs.Activation.{ShownModel}
use Rattle.dms_mib.specs.declared.scalar.Scalar.{Scalar}
use Rattle.dms_mib.specs.declared.scalar.Scalar.TheVariants as scalars
use Rattle.dms_mib.specs.declared.scalar.Scalar.TheVariants.{DefaultBackgroundColor, DefaultForegroundColor, DefaultFlashOn, DefaultFlashOff, DefaultFont, DefaultJustificationLine, DefaultJustificationPage, DefaultPageOnTime, DefaultPageOffTime, ActivateMessage, MessageTimeRemaining, ShortPowerRecoveryMessage, LongPowerRecoveryMessage, CommunicationsLossMessage, PowerLossMessage, EndDurationMessage}
use Rattle.dms_mib.specs.declared.instance.Instance.{Instance}
use Rattle.dms_mib.specs.declared.instance.Instance.TheVariants as kinds
use Rattle.dms_mib.specs.Names.{scalar_number}
use Rattle.dms_sign.specs.State.{SignState}
use Rattle.dms_sign.specs.OwnCodes.{put_up_code}
use Rattle.dms_sign_access.specs.Access.{Write, SetNumber, SetCode, SetField, AskRow, Activate, SetRemaining, number_in, octets_in, font_in, ask_of, object_write, cell_write, write_of}
use Rattle.dms_sign_access.specs.Assignment.{given, number_for}
use Rattle.dms_sign_access.specs.Settings.{set_by}
use Rattle.dms_sign.specs.SetRequest.{SetCause, settable_instance, write_at, assigned}
use Rattle.dms_sign.specs.Requests.{found_unless, as_decided, as_asked, with_remaining, commanded, commanded_if, writes_of, set_unless, answer_by, answer_of_any_size}
use Rattle.dms_sign.specs.Reply.{heard, dropped, on_message_if, received}
use Rattle.dms_sign.specs.Events.{after_settling, counted_down, after_duration, after_silence, after_tick, after_power_loss, after_power_return}
use Rattle.dms_sign.specs.Transitions.{HasFitDefaults}
use Rattle.dms_sign.proofs.NumbersRead.{number_passes}
use Rattle.dms_sign.proofs.InRangeLists.{all_filtered, all_any}
use Rattle.dms_sign.proofs.StepShown.{code_puts_up}

-- ---- what a binding writes

-- what fits the object of these numbers
abbrev number_fits : FaceModel → (group place number : ℕ) → Bool
number_fits face group place number =
    cond (group == 4)
    (cond (place == 1) (nat_le number 9)
    (cond (place == 2) (nat_le number 9)
    (cond (place == 5) (has_font face.fonts number)
    (cond (place == 6) (is_within 2 4 number) (cond (place == 7) (is_within 2 4 number) true))))) true

abbrev object_fits : FaceModel → Scalar → ℕ → Bool
object_fits face object number = number_fits face (scalar_number object).0 (scalar_number object).1 number

-- a number that fits its object
abbrev pub WriteFits : FaceModel → Write → Type 0
WriteFits face (SetNumber object number) = object_fits face object number ≡ true
WriteFits face (SetCode object octets) = ⊤
WriteFits face (SetField id field) = ⊤
WriteFits face (AskRow id ask) = ⊤
WriteFits face (Activate octets) = ⊤
WriteFits face (SetRemaining minutes) = ⊤

font_then : (face : FaceModel) (o : Option ℕ)
    → IfSome (option_and_then (λ n. cond (has_font face.fonts n) (Some n) None) o) (λ n. has_font face.fonts n ≡ true)
font_then face o = grind arith

-- a number that passes a test writes what fits
number_writes : (face : FaceModel) (object : Scalar) (test : ℕ → Bool) (o : Option ℕ) → ((n : ℕ) → test n ≡ true → object_fits face object n ≡ true)
    → IfSome o (λ n. test n ≡ true) → IfSome (option_map (SetNumber object) o) (WriteFits face)
number_writes face object test o each is = grind arith

-- any number fits an object that is no default
any_number : (face : FaceModel) (object : Scalar) (o : Option ℕ) → ((n : ℕ) → object_fits face object n ≡ true)
    → IfSome (option_map (SetNumber object) o) (WriteFits face)
any_number face object o each = grind arith

any_mapped : {A : Type 0} (face : FaceModel) (f : A → Write) (o : Option A) → ((x : A) → WriteFits face (f x)) → IfSome (option_map f o) (WriteFits face)
any_mapped face f o each = grind arith

object_writes : (face : FaceModel) (object : Scalar) (value : ObjectValue) → IfSome (object_write face object value) (WriteFits face)
unfolding object_write
object_writes face DefaultBackgroundColor value =
    number_writes face DefaultBackgroundColor (λ n. nat_le 0 n && nat_le n 9) (number_in 0 9 value) (λ n e. (and_parts (leb 0 n) (leb n 9) e).1) (number_passes 0 9 value)
object_writes face DefaultForegroundColor value =
    number_writes face DefaultForegroundColor (λ n. nat_le 0 n && nat_le n 9) (number_in 0 9 value) (λ n e. (and_parts (leb 0 n) (leb n 9) e).1) (number_passes 0 9 value)
object_writes face DefaultFlashOn value = any_number face DefaultFlashOn (number_in 0 255 value) (λ n. refl)
object_writes face DefaultFlashOff value = any_number face DefaultFlashOff (number_in 0 255 value) (λ n. refl)
object_writes face DefaultFont value = number_writes face DefaultFont (has_font face.fonts) (font_in face value) (λ n e. e) (font_then face (number_in 1 255 value))
object_writes face DefaultJustificationLine value =
    number_writes face DefaultJustificationLine (is_within 2 4) (number_in 2 4 value) (λ n e. e) (number_passes 2 4 value)
object_writes face DefaultJustificationPage value =
    number_writes face DefaultJustificationPage (is_within 2 4) (number_in 2 4 value) (λ n e. e) (number_passes 2 4 value)
object_writes face DefaultPageOnTime value = any_number face DefaultPageOnTime (number_in 0 255 value) (λ n. refl)
object_writes face DefaultPageOffTime value = any_number face DefaultPageOffTime (number_in 0 255 value) (λ n. refl)
object_writes face ActivateMessage value = any_mapped face Activate (octets_in 12 12 value) (λ x. tt)
object_writes face MessageTimeRemaining value = any_mapped face SetRemaining (number_in 0 65535 value) (λ x. tt)
object_writes face ShortPowerRecoveryMessage value = any_mapped face (SetCode ShortPowerRecoveryMessage) (octets_in 5 5 value) (λ x. tt)
object_writes face LongPowerRecoveryMessage value = any_mapped face (SetCode LongPowerRecoveryMessage) (octets_in 5 5 value) (λ x. tt)
object_writes face CommunicationsLossMessage value = any_mapped face (SetCode CommunicationsLossMessage) (octets_in 5 5 value) (λ x. tt)
object_writes face PowerLossMessage value = any_mapped face (SetCode PowerLossMessage) (octets_in 5 5 value) (λ x. tt)
object_writes face EndDurationMessage value = any_mapped face (SetCode EndDurationMessage) (octets_in 5 5 value) (λ x. tt)
-- made by tools/objects.py --code
object_writes face scalars.ShortPowerLossTime value = any_number face scalars.ShortPowerLossTime (number_in 0 65535 value) (λ n. refl)
object_writes face scalars.TimeCommLoss value = any_number face scalars.TimeCommLoss (number_in 0 65535 value) (λ n. refl)
-- the end of what is made
object_writes face _ value = tt

cell_writes : (face : FaceModel) (column : Column) (id : RowId) (value : ObjectValue) → IfSome (cell_write column id value) (WriteFits face)
unfolding cell_write
cell_writes face columns.MemoryType id value = tt
cell_writes face columns.Number id value = tt
cell_writes face columns.MultiString id value = any_mapped face (λ octets. SetField id (Text octets)) (octets_in 0 longest_text value) (λ x. tt)
cell_writes face columns.Owner id value = any_mapped face (λ octets. SetField id (Owner octets)) (octets_in 0 longest_owner value) (λ x. tt)
cell_writes face columns.Crc id value = tt
cell_writes face columns.Beacon id value = any_mapped face (λ n. SetField id (Beacon n)) (number_in 0 1 value) (λ x. tt)
cell_writes face columns.PixelService id value = any_mapped face (λ n. SetField id (Pixel n)) (number_in 0 1 value) (λ x. tt)
cell_writes face columns.RunTimePriority id value = any_mapped face (λ n. SetField id (Priority n)) (number_in 1 255 value) (λ x. tt)
cell_writes face columns.Status id value = any_mapped face (λ n. AskRow id (ask_of n)) (number_in 6 8 value) (λ x. tt)

instance_writes : (face : FaceModel) (i : Instance) (value : ObjectValue) → IfSome (write_of face i value) (WriteFits face)
unfolding write_of
instance_writes face (kinds.Scalar object) value = object_writes face object value
instance_writes face (kinds.Cell column id) value = cell_writes face column id value

any_then : {X Y : Type 0} (P : Y → Type 0) (f : X → Option Y) (o : Option X) → ((x : X) → IfSome (f x) P) → IfSome (option_and_then f o) P
any_then P f None each = tt
any_then P f (Some x) each = each x

binding_writes : (s : SignState) (binding : VarBind) → IfSome (write_at s binding) (WriteFits s.config.face)
unfolding write_at
binding_writes s binding =
    any_then (WriteFits s.config.face) (λ i. write_of s.config.face i binding.value) (settable_instance s binding.name)
    (λ i. instance_writes s.config.face i binding.value)

filtered_any : {X Y : Type 0} (P : Y → Type 0) (f : X → Option Y) (xs : List X) → ((x : X) → IfSome (f x) P) → AllByRecursion P (filter_map f xs)
filtered_any P f xs each = all_filtered (λ x. ⊤) P f xs (λ x is. each x) (all_any (λ x. ⊤) xs (λ x. tt))

pub writes_fit : (s : SignState) (bindings : List VarBind) → AllByRecursion (WriteFits s.config.face) (writes_of s bindings)
writes_fit s bindings = filtered_any (WriteFits s.config.face) (write_at s) bindings (binding_writes s)

-- ---- assignment

given_number_fits : (face : FaceModel) (object : Scalar) (write : Write) → WriteFits face write → IfSome (number_for object write) (λ n. object_fits face object n ≡ true)
given_number_fits face object write is = grind arith

given_fits : (face : FaceModel) (object : Scalar) (writes : List Write) (old : ℕ) → AllByRecursion (WriteFits face) writes → object_fits face object old ≡ true
    → object_fits face object (given (number_for object) writes old) ≡ true
given_fits face object [] old all is = is
given_fits face object (write ∷ writes) old all is = grind (arith, if_or, given_number_fits, given_fits face object writes (unwrap_or (number_for object write) old) all.1)

record AreFit (face : FaceModel) (defaults : Defaults) : Type 0 where
  background : nat_le defaults.background 9 ≡ true
  foreground : nat_le defaults.foreground 9 ≡ true
  line : is_within 2 4 defaults.line ≡ true
  page : is_within 2 4 defaults.page ≡ true
  font : has_font face.fonts defaults.font ≡ true

parts_of_fit : (face : FaceModel) (d : Defaults) → fit face.fonts d ≡ true → AreFit face d
parts_of_fit face d e = grind arith

fit_of_parts : (face : FaceModel) (d : Defaults) → AreFit face d → fit face.fonts d ≡ true
fit_of_parts face d are = grind arith

pub assigned_fit : (s : SignState) (writes : List Write) → AllByRecursion (WriteFits s.config.face) writes → HasFitDefaults s → HasFitDefaults (assigned s writes)
unfolding assigned set_by
assigned_fit s writes all is =
    let old = parts_of_fit s.config.face s.settings.defaults is in
    let face = s.config.face in
    fit_of_parts face (assigned s writes).settings.defaults (record {
      background = given_fits face DefaultBackgroundColor writes s.settings.defaults.background all old.background;
      foreground = given_fits face DefaultForegroundColor writes s.settings.defaults.foreground all old.foreground;
      line = given_fits face DefaultJustificationLine writes s.settings.defaults.line all old.line;
      page = given_fits face DefaultJustificationPage writes s.settings.defaults.page all old.page;
      font = given_fits face DefaultFont writes s.settings.defaults.font all old.font;
    })

-- ---- codes of the sign's own

code_fits : (s : SignState) (octets : List ℕ) (mode : ℕ) → HasFitDefaults s → HasFitDefaults (put_up_code s octets mode)
code_fits s octets mode is = grind (arith, code_puts_up)

fits_if : (b : Bool) (x y : SignState) → HasFitDefaults x → HasFitDefaults y → HasFitDefaults (cond b x y)
fits_if b x y first second = grind arith

-- ---- messages

decided_fits : (old new : SignState) (bindings : List VarBind) (index : ℕ) (octets : List ℕ) (r : Result ShownModel Cause) → HasFitDefaults old → HasFitDefaults new
    → HasFitDefaults (as_decided old new bindings index octets r).after
decided_fits old new bindings index octets r was is = grind arith

asked_fits : (old new : SignState) (bindings : List VarBind) (index : ℕ) (o : Option TableModel) → HasFitDefaults old → HasFitDefaults new
    → HasFitDefaults (as_asked old new bindings index o).after
asked_fits old new bindings index o was is = grind arith

remaining_fits : (s : SignState) (minutes : ℕ) → HasFitDefaults s → HasFitDefaults (with_remaining s minutes)
remaining_fits s minutes is = grind (arith, fits_if, code_fits)

command_fits : (old new : SignState) (bindings : List VarBind) (index : ℕ) (write : Write) → HasFitDefaults old → HasFitDefaults new
    → HasFitDefaults (commanded old new bindings index write).after
command_fits old new bindings index write was is = grind (arith, asked_fits, decided_fits, remaining_fits)

command_if_fits : (old new : SignState) (bindings : List VarBind) (index : ℕ) (o : Option Write) → HasFitDefaults old → HasFitDefaults new
    → HasFitDefaults (commanded_if old new bindings index o).after
command_if_fits old new bindings index o was is = grind (arith, command_fits)

set_fits : (s : SignState) (bindings : List VarBind) (found : List SetCause) → HasFitDefaults s → HasFitDefaults (set_unless s bindings found).after
set_fits s bindings found is = grind (arith, command_if_fits, assigned_fit, writes_fit)

found_fits : (s : SignState) (bindings found : List VarBind) (o : Option ℕ) → HasFitDefaults s → HasFitDefaults (found_unless s bindings found o).after
found_fits s bindings found o is = grind arith

kind_fits : (s : SignState) (m : SnmpMessage) (kind : Kind) → HasFitDefaults s → HasFitDefaults (answer_by s m kind).after
kind_fits s m kind is = grind (arith, found_fits, set_fits)

answer_fits : (s : SignState) (m : SnmpMessage) → HasFitDefaults s → HasFitDefaults (answer_of_any_size s m).after
unfolding answer_of_any_size
answer_fits s m is = kind_fits s m m.kind is

heard_fits : (s : SignState) (m : SnmpMessage) (b : Bool) → HasFitDefaults s → HasFitDefaults (cond b (heard s m) (dropped s)).after
heard_fits s m b is = grind (arith, answer_fits)

message_fits : (s : SignState) (o : Option SnmpMessage) → HasFitDefaults s → HasFitDefaults (on_message_if s o).after
message_fits s o is = grind (arith, heard_fits)

pub received_fits : (s : SignState) (datagram : List ℕ) → HasFitDefaults s → HasFitDefaults (received s datagram).after
unfolding received
received_fits s datagram is = message_fits s (message_of datagram) is

-- ---- seconds and power

settling_fits : (s : SignState) → HasFitDefaults s → HasFitDefaults (after_settling s)
unfolding after_settling
settling_fits s is = is

down_fits : (s : SignState) (o : Option ℕ) → HasFitDefaults s → HasFitDefaults (counted_down s o)
down_fits s o is = grind (arith, fits_if, code_fits)

duration_fits : (s : SignState) → HasFitDefaults s → HasFitDefaults (after_duration s)
unfolding after_duration
duration_fits s is = down_fits s s.shown.remaining is

silence_fits : (s : SignState) → HasFitDefaults s → HasFitDefaults (after_silence s)
unfolding after_silence
silence_fits s is = grind (arith, fits_if, code_fits)

pub tick_fits : (s : SignState) → HasFitDefaults s → HasFitDefaults (after_tick s)
unfolding after_tick
tick_fits s is = grind (arith, fits_if, silence_fits, duration_fits, settling_fits)

pub power_loss_fits : (s : SignState) → HasFitDefaults s → HasFitDefaults (after_power_loss s)
unfolding after_power_loss
power_loss_fits s is = grind (arith, fits_if, code_fits)

pub power_return_fits : (s : SignState) (seconds : ℕ) → HasFitDefaults s → HasFitDefaults (after_power_return s seconds)
unfolding after_power_return
power_return_fits s seconds is = grind (arith, fits_if, code_fits)
