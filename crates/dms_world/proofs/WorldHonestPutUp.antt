-- An activation of a row that is accepted puts up a message with the checksum of its code.
use Rattle.std.proofs.Common.{◌≡◌, ◌≢◌, ℕ, Bool, true, not, cond, List, [], ◌∷◌, Option, Some, None, Result, Ok, Err, arith}
use Rattle.std.specs.Prelude.{find}
use Rattle.dms_wire.specs.declared.message.Kind.{Kind}
use Rattle.dms_wire.specs.declared.message.Kind.TheVariants.{Get, GetNext, Response, Set}
use Rattle.dms_wire.specs.Message.{VarBind, SnmpMessage}
use Rattle.dms_face.specs.declared.defaults.Defaults.{Defaults}
use Rattle.dms_face.specs.Face.{FaceModel}
use Rattle.dms_face.specs.Layout.{under}
use Rattle.dms_table.specs.declared.activation.Cause.{Cause}
use Rattle.dms_table.specs.declared.activation.Cause.TheVariants as causes_of
use Rattle.dms_codes.specs.declared.codes.MessageId.{MessageId}
use Rattle.dms_codes.specs.declared.codes.Activation.{Activation}
use Rattle.dms_codes.specs.Status.{is_valid}
use Rattle.dms_table.specs.Rows.{TableModel, RowReading, row_checksum}
use Rattle.dms_codes.specs.Memory.{current_buffer, blank_memory}
use Rattle.dms_codes.specs.Codes.{activation_of}
use Rattle.dms_table.specs.Activation.{ShownModel, named, is_memory, activation_error, put_up, put_up_row, shown_by, row_refusal, unless_refused, decided}
use Rattle.dms_sign.specs.State.{SignState}
use Rattle.dms_sign_access.specs.Access.{Write, SetNumber, SetCode, SetField, AskRow, Activate, SetRemaining, is_command}
use Rattle.dms_sign.specs.SetRequest.{SetCause, causes, assigned}
use Rattle.dms_sign.specs.Requests.{as_decided, commanded, commanded_if, writes_of, set_unless, may_write, answer_by, answer_of_any_size}
use Rattle.dms_sign_laws.proofs.Accepted.{asked_accepts, found_accepts}
use Rattle.dms_world.specs.Honest.{shown_checksum}

-- what a code of a row put up has its checksum
abbrev pub HasItsChecksum : Activation → ShownModel → Type 0
HasItsChecksum code shown = code.id.memory ≢ current_buffer → code.id.memory ≢ blank_memory → shown_checksum shown ≡ code.id.crc

-- ---- what is read of a row

-- of a valid row its checksum is read
abbrev ReadsItsChecksum : RowReading → Type 0
ReadsItsChecksum message = is_valid message.row.status ≡ true → row_checksum message.row ≡ message.checksum

named_reads : (table : TableModel) (shown : ShownModel) (id : MessageId) (message : RowReading) → id.memory ≢ current_buffer → id.memory ≢ blank_memory
    → named table shown id ≡ Some message → ReadsItsChecksum message
named_reads table shown id message not_current not_blank = grind arith

-- ---- what is decided

first_two : (valid checks : Bool) (one two : Cause) (o : Option Cause) → cond (not valid) (Some one) (cond (not checks) (Some two) o) ≡ None
    → (valid ≡ true) × (checks ≡ true)
first_two valid checks one two o e = grind arith

on_message : (face : FaceModel) (defaults : Defaults) (shown up : ShownModel) (code : Activation) (message : RowReading)
    → (code.id.memory ≢ current_buffer → code.id.memory ≢ blank_memory → ReadsItsChecksum message)
    → unless_refused (put_up defaults shown code message) (activation_error face shown code message) ≡ Ok up → HasItsChecksum code up
on_message face defaults shown up code message reads e not_current not_blank = grind arith

on_named : (face : FaceModel) (defaults : Defaults) (shown up : ShownModel) (code : Activation) (o : Option RowReading)
    → (code.id.memory ≢ current_buffer → code.id.memory ≢ blank_memory → (message : RowReading) → o ≡ Some message → ReadsItsChecksum message)
    → unless_refused (put_up_row defaults shown code o) (row_refusal (under face defaults) shown code o) ≡ Ok up → HasItsChecksum code up
on_named face defaults shown up code o reads e = grind arith

on_memory : (b : Bool) (face : FaceModel) (defaults : Defaults) (table : TableModel) (shown up : ShownModel) (code : Activation)
    → unless_refused (shown_by defaults table shown code)
    (cond b (row_refusal (under face defaults) shown code (named table shown code.id)) (Some causes_of.MemoryType)) ≡ Ok up
    → HasItsChecksum code up
on_memory b face defaults table shown up code e = grind (arith, on_named, named_reads)

decided_up : (face : FaceModel) (defaults : Defaults) (table : TableModel) (shown up : ShownModel) (code : Activation)
    → decided face defaults table shown code ≡ Ok up → HasItsChecksum code up
decided_up face defaults table shown up code e = on_memory (is_memory code.id.memory) face defaults table shown up code e

-- ---- what is accepted

up_by : (old new : SignState) (bindings : List VarBind) (index : ℕ) (octets : List ℕ) (r : Result ShownModel Cause) (a : Activation)
    → ((up : ShownModel) → r ≡ Ok up → HasItsChecksum (activation_of old.table.order octets) up)
    → (as_decided old new bindings index octets r).accepted ≡ Some a → HasItsChecksum a (as_decided old new bindings index octets r).after.shown
up_by old new bindings index octets r a each e = grind arith

commanded_up : (old new : SignState) (bindings : List VarBind) (index : ℕ) (write : Write) (a : Activation)
    → (commanded old new bindings index write).accepted ≡ Some a → HasItsChecksum a (commanded old new bindings index write).after.shown
commanded_up old new bindings index (AskRow id ask) a e = absurd (asked_accepts old new bindings index _ a e)
commanded_up old new bindings index (Activate octets) a e =
    up_by old new bindings index octets (decided new.config.face new.settings.defaults new.table new.shown (activation_of old.table.order octets)) a
    (λ up is. decided_up new.config.face new.settings.defaults new.table new.shown up (activation_of old.table.order octets) is) e
commanded_up old new bindings index (SetRemaining minutes) a e = absurd (cc)
commanded_up old new bindings index (SetNumber object number) a e = absurd (cc)
commanded_up old new bindings index (SetCode object octets) a e = absurd (cc)
commanded_up old new bindings index (SetField id field) a e = absurd (cc)

if_up : (old new : SignState) (bindings : List VarBind) (index : ℕ) (o : Option Write) (a : Activation)
    → (commanded_if old new bindings index o).accepted ≡ Some a → HasItsChecksum a (commanded_if old new bindings index o).after.shown
if_up old new bindings index None a e = absurd (cc)
if_up old new bindings index (Some write) a e = commanded_up old new bindings index write a e

set_up : (s : SignState) (bindings : List VarBind) (found : List SetCause) (a : Activation)
    → (set_unless s bindings found).accepted ≡ Some a → HasItsChecksum a (set_unless s bindings found).after.shown
set_up s bindings [] a e = if_up s (assigned s (writes_of s bindings)) bindings _ (find is_command (writes_of s bindings)) a e
set_up s bindings (cause ∷ more) a e = absurd (cc)

answer_up : (s : SignState) (m : SnmpMessage) (kind : Kind) (a : Activation) → (answer_by s m kind).accepted ≡ Some a
    → HasItsChecksum a (answer_by s m kind).after.shown
answer_up s m Get a e = absurd (found_accepts s m.bindings _ _ a e)
answer_up s m GetNext a e = absurd (found_accepts s m.bindings _ _ a e)
answer_up s m Response a e = absurd (cc)
answer_up s m Set a e = set_up s m.bindings (causes s (may_write s m) m.bindings) a e

pub accepted_is_up : (s : SignState) (m : SnmpMessage) (a : Activation) → (answer_of_any_size s m).accepted ≡ Some a → HasItsChecksum a (answer_of_any_size s m).after.shown
unfolding answer_of_any_size
accepted_is_up s m a e = answer_up s m m.kind a e
