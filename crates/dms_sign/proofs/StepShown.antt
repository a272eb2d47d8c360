-- What a code puts up: the message of its row, a blank one, or what is shown already.
use Rattle.std.proofs.Common.{◌≡◌, ℕ, ◌==◌, ◌||◌, Bool, true, false, not, cond, List, Option, Some, None, Result, Ok, Err, refl, sym, ◌∙◌, arith}
use Rattle.std.specs.Prelude.{option_map, nat_lt}
use Rattle.std.proofs.lemmas.Bool.{eqb-true, not-false}
use Rattle.dms_face.specs.declared.defaults.Defaults.{Defaults}
use Rattle.dms_face.specs.declared.multi_fault.MultiFault.{MultiFault}
use Rattle.dms_face.specs.Face.{FaceModel}
use Rattle.dms_face.specs.Layout.{under}
use Rattle.dms_face.specs.Fit.{fault_of}
use Rattle.dms_face.proofs.GoodLaws.{faultless_law}
use Rattle.dms_table.specs.declared.activation.Cause.{Cause}
use Rattle.dms_table.specs.declared.activation.Cause.TheVariants as causes
use Rattle.dms_codes.specs.declared.codes.MessageId.{MessageId}
use Rattle.dms_codes.specs.declared.codes.Activation.{Activation}
use Rattle.dms_codes.specs.Status.{is_valid}
use Rattle.dms_codes.specs.Codes.{id_of}
use Rattle.dms_table.specs.Rows.{RowModel, TableModel, RowReading, blank, rows_of, numbered, blank_at, reading, blank_reading, row_checksum}
use Rattle.dms_codes.specs.Memory.{current_buffer, blank_memory}
use Rattle.dms_codes.specs.declared.mode.Mode.TheVariants.{Central}
use Rattle.dms_codes.specs.Mode.{mode_number}
use Rattle.dms_table.specs.Activation.{ShownModel, shown_reading, is_memory, named, seconds_of, put_up_row, shown_by, row_refusal, unless_refused, decided}
use Rattle.dms_table.proofs.KnownTexts.{valid_status}
use Rattle.dms_sign.specs.State.{SignState}
use Rattle.dms_sign.specs.OwnCodes.{own_activation, put_up_as_decided, staying, put_up_code}
use Rattle.dms_sign.specs.Transitions.{IsSameMessage, IsBlankedUnder, IsRowOf}

-- ---- one message

pub same_as : (shown : ShownModel) → IsSameMessage shown shown
same_as shown = record { text = refl; owner = refl; beacon = refl; pixel = refl; priority = refl; source = refl; defaults = refl }

pub same_then : (a b c : ShownModel) → IsSameMessage a b → IsSameMessage b c → IsSameMessage a c
same_then a b c one other = grind arith

pub blank_as : (defaults : Defaults) (a b : ShownModel) → IsSameMessage a b → IsBlankedUnder defaults a → IsBlankedUnder defaults b
blank_as defaults a b same is = grind arith

pub row_as : (face : FaceModel) (defaults : Defaults) (table : TableModel) (a b : ShownModel) → IsSameMessage a b → IsRowOf face defaults table a
    → IsRowOf face defaults table b
row_as face defaults table a b same is = grind arith

-- ---- what a code shows

-- the message that was shown; or a blank one; or the row that the code names
pub data Displays (face : FaceModel) (defaults : Defaults) (table : TableModel) (before : ShownModel) (id : MessageId) (shown : ShownModel) : Type 0 where
  still : IsSameMessage before shown → Displays face defaults table before id shown
  empty : IsBlankedUnder defaults shown → Displays face defaults table before id shown
  of_row : shown.source ≡ id → IsRowOf face defaults table shown → Displays face defaults table before id shown

pub displays_as : (face : FaceModel) (defaults : Defaults) (table : TableModel) (before : ShownModel) (id : MessageId) (a b : ShownModel) → IsSameMessage a b
    → Displays face defaults table before id a → Displays face defaults table before id b
displays_as face defaults table before id a b same p = grind arith

-- ---- a decision, where it is known whether the code is of the current buffer or of a blank message

abbrev pub put_up_if : Bool → Defaults → ShownModel → Activation → RowReading → ShownModel
put_up_if current defaults shown code message = record {
  text = message.row.text;
  owner = message.row.owner;
  beacon = message.row.beacon;
  pixel = message.row.pixel;
  priority = message.row.priority;
  source = cond current shown.source code.id;
  mode = mode_number Central;
  address = code.address;
  remaining = seconds_of code.minutes;
  defaults = cond current shown.defaults defaults;
}

abbrev error_if : (current blank : Bool) → FaceModel → ShownModel → Activation → RowReading → Option Cause
error_if current is_blank face shown code message =
    cond (not (is_valid message.row.status)) (Some causes.Status)
    (cond (not (is_blank || code.id.crc == message.checksum)) (Some causes.Checksum)
    (cond (nat_lt code.priority shown.priority) (Some causes.Priority) (cond current None (option_map causes.Syntax (fault_of face message.row.text)))))

abbrev decided_if : (current blank : Bool) → FaceModel → Defaults → ShownModel → Activation → Option RowReading → Result ShownModel Cause
decided_if current is_blank face defaults shown code None = Err causes.Number
decided_if current is_blank face defaults shown code (Some message) =
    unless_refused (put_up_if current defaults shown code message) (error_if current is_blank (under face defaults) shown code message)

not_refused : (shown new : ShownModel) (o : Option Cause) → unless_refused shown o ≡ Ok new → (o ≡ None) × (shown ≡ new)
not_refused shown new o e = grind arith

-- a cause that is none of these
passed : {A : Type 0} (b : Bool) (x : A) (o : Option A) → cond b (Some x) o ≡ None → (b ≡ false) × (o ≡ None)
passed true x o e = absurd (cc)
passed false x o e = (refl, e)

no_fault : (o : Option MultiFault) → option_map causes.Syntax o ≡ None → o ≡ None
no_fault o e = grind arith

-- what is shown already
current_displays : (one : Bool) (is_blank : Bool) (face : FaceModel) (defaults : Defaults) (table : TableModel) (shown : ShownModel) (code : Activation) (new : ShownModel)
    → decided_if true is_blank face defaults shown code (cond one (Some (shown_reading shown)) None) ≡ Ok new → Displays face defaults table shown code.id new
current_displays one is_blank face defaults table shown code new e = grind arith

-- a blank message
blank_displays : (numbers : Bool) (face : FaceModel) (defaults : Defaults) (table : TableModel) (shown : ShownModel) (code : Activation) (new : ShownModel)
    → code.id.memory ≡ blank_memory
    → decided_if false true face defaults shown code (option_map blank_reading (cond numbers (Some (blank code.id.number)) None)) ≡ Ok new
    → Displays face defaults table shown code.id new
blank_displays numbers face defaults table shown code new memory e = grind arith

crc_of : (code : Activation) (row : RowModel) (valid : Bool) → valid ≡ true → (false || code.id.crc == cond valid (row_checksum row) 0) ≡ true → row_checksum row ≡ code.id.crc
crc_of code row valid is e = grind arith

-- a row
row_displays : (face : FaceModel) (defaults : Defaults) (table : TableModel) (shown : ShownModel) (code : Activation) (new : ShownModel) (o : Option RowModel)
    → numbered (rows_of table code.id.memory) code.id.number ≡ o
    → decided_if false false face defaults shown code (option_map reading o) ≡ Ok new
    → Displays face defaults table shown code.id new
row_displays face defaults table shown code new o there e = grind (arith, not_refused, passed, not-false, valid_status, faultless_law, no_fault, crc_of)

named_displays : (current is_blank : Bool) (face : FaceModel) (defaults : Defaults) (table : TableModel) (shown : ShownModel) (code : Activation) (new : ShownModel)
    → (code.id.memory == blank_memory) ≡ is_blank
    → decided_if current is_blank face defaults shown code
    (cond current (cond (code.id.number == 1) (Some (shown_reading shown)) None)
    (cond is_blank (option_map blank_reading (blank_at code.id.number)) (option_map reading (numbered (rows_of table code.id.memory) code.id.number)))) ≡ Ok new
    → Displays face defaults table shown code.id new
named_displays current is_blank face defaults table shown code new is e = grind (arith, current_displays, blank_displays, eqb-true, row_displays)

known_displays : (known : Bool) (face : FaceModel) (defaults : Defaults) (table : TableModel) (shown : ShownModel) (code : Activation) (new : ShownModel)
    → cond known
    (decided_if (code.id.memory == current_buffer) (code.id.memory == blank_memory) face defaults shown code (named table shown code.id))
    (Err causes.MemoryType) ≡ Ok new
    → Displays face defaults table shown code.id new
known_displays true face defaults table shown code new e =
    named_displays (code.id.memory == current_buffer) (code.id.memory == blank_memory) face defaults table shown code new refl e
known_displays false face defaults table shown code new e = absurd (cc)

by_row : (face : FaceModel) (defaults : Defaults) (shown : ShownModel) (code : Activation) (o : Option RowReading)
    → unless_refused (put_up_row defaults shown code o) (row_refusal (under face defaults) shown code o)
    ≡ decided_if (code.id.memory == current_buffer) (code.id.memory == blank_memory) face defaults shown code o
by_row face defaults shown code None = refl
by_row face defaults shown code (Some message) = refl

by_memory : (b : Bool) (face : FaceModel) (defaults : Defaults) (table : TableModel) (shown : ShownModel) (code : Activation)
    → cond b (decided_if (code.id.memory == current_buffer) (code.id.memory == blank_memory) face defaults shown code (named table shown code.id))
    (Err causes.MemoryType)
    ≡ unless_refused (shown_by defaults table shown code)
    (cond b (row_refusal (under face defaults) shown code (named table shown code.id)) (Some causes.MemoryType))
by_memory true face defaults table shown code = sym (by_row face defaults shown code (named table shown code.id))
by_memory false face defaults table shown code = refl

pub decided_displays : (face : FaceModel) (defaults : Defaults) (table : TableModel) (shown : ShownModel) (code : Activation) (new : ShownModel)
    → decided face defaults table shown code ≡ Ok new → Displays face defaults table shown code.id new
decided_displays face defaults table shown code new e =
    known_displays (is_memory code.id.memory) face defaults table shown code new
    (by_memory (is_memory code.id.memory) face defaults table shown code ∙ e)

-- ---- codes of the sign's own

-- all but what is shown and what is reported stays
pub record KeepsRest (old new : SignState) : Type 0 where
  pub config : new.config ≡ old.config
  pub table : new.table ≡ old.table
  pub settings : new.settings ≡ old.settings
  pub shown_at_power_loss : new.shown_at_power_loss ≡ old.shown_at_power_loss

pub record PutsUp (old : SignState) (id : MessageId) (new : SignState) : Type 0 where
  pub kept_rest : KeepsRest old new
  pub shown : Displays old.config.face old.settings.defaults old.table old.shown id new.shown

by_decision : (s : SignState) (id : MessageId) (mode : ℕ) (r : Result ShownModel Cause)
    → decided s.config.face s.settings.defaults s.table s.shown (own_activation id) ≡ r → PutsUp s id (put_up_as_decided s id mode r)
by_decision s id mode (Ok shown) e = record {
  kept_rest = record { config = refl; table = refl; settings = refl; shown_at_power_loss = refl };
  shown = displays_as s.config.face s.settings.defaults s.table s.shown id shown (record shown { mode = mode })
      (record { text = refl; owner = refl; beacon = refl; pixel = refl; priority = refl; source = refl; defaults = refl })
      (decided_displays s.config.face s.settings.defaults s.table s.shown (own_activation id) shown e);
}
by_decision s id mode (Err cause) e = grind (arith, displays_as, decided_displays)

code_if : (b : Bool) (s other : SignState) (id : MessageId) (mode : ℕ) → PutsUp s id other → PutsUp s id (cond b (staying s mode) other)
code_if b s other id mode puts = grind arith

pub code_puts_up : (s : SignState) (octets : List ℕ) (mode : ℕ) → PutsUp s (id_of s.table.order octets) (put_up_code s octets mode)
unfolding put_up_code
code_puts_up s octets mode = grind (arith, code_if, by_decision)
