-- What the writes of a SET leave: rows that are not being modified stay as they are, so a command is judged alike before and after them.
use Rattle.std.proofs.Common.{◌≡◌, ◌⊎◌, inl, ℕ, zero, suc, ◌-◌, ◌==◌, ◌&&◌, Bool, true, cond, List, [], ◌∷◌, Option, Some, None, is_some, Result, refl, sym, ap, subst, ◌∙◌, arith}
use Rattle.std.specs.Prelude.{option_map, option_and_then, unwrap_or, slice_get, slice_set, ⊤}
use Rattle.std.specs.Option.{IfSome}
use Rattle.std.specs.List.{list_any}
use Rattle.dms_face.specs.declared.defaults.Defaults.{Defaults}
use Rattle.dms_face.specs.Face.{FaceModel}
use Rattle.dms_codes.specs.declared.status.Status.{Status}
use Rattle.dms_codes.specs.declared.status.Status.TheVariants.{Modifying}
use Rattle.dms_codes.specs.declared.status.Ask.{Ask}
use Rattle.dms_table.specs.declared.activation.Cause.{Cause}
use Rattle.dms_table.specs.declared.activation.Cause.TheVariants as causes
use Rattle.dms_face.specs.Layout.{under}
use Rattle.dms_codes.specs.declared.row_id.RowId.{RowId}
use Rattle.dms_codes.specs.declared.codes.Activation.{Activation}
use Rattle.dms_codes.specs.Status.{next_status, is_modifying}
use Rattle.dms_codes.specs.declared.memory.Memory.{Memory}
use Rattle.dms_codes.specs.declared.memory.Memory.TheVariants.{Permanent, Changeable, Volatile, CurrentBuffer, Blank}
use Rattle.dms_codes.specs.Memory.{memory_of}
use Rattle.dms_table.specs.Rows.{RowModel, TableModel, FieldModel, Text, Owner, Beacon, Pixel, Priority, RowReading, reading, rows_by, numbered, changed_in, with_changeable, with_volatile, changed_by, with_status, asked_row, asked, row_is_validating, with_field, written_row, written}
use Rattle.dms_codes.proofs.Options.{is_some_mapped}
use Rattle.dms_table.specs.Activation.{ShownModel, put_up_row, row_refusal, unless_refused, decided}
use Rattle.dms_sign_access.specs.Access.{Write, SetNumber, SetCode, SetField, AskRow, Activate, SetRemaining}
use Rattle.dms_sign.specs.SetRequest.{with_write, with_writes}
use Rattle.dms_sign.proofs.InRangeLists.{if_mapped}
use Rattle.dms_sign.proofs.StepRows.{field_status}

-- ---- rows

-- The row is as it was, or it was being modified and still is.
abbrev IsLike : RowModel → RowModel → Type 0
IsLike old new = (new ≡ old) ⊎ ((old.status ≡ Modifying) × (new.status ≡ Modifying))

like_then : (a b c : RowModel) → IsLike a b → IsLike b c → IsLike a c
like_then a b c p g = grind arith

abbrev AreLike : List RowModel → List RowModel → Type 0
AreLike [] [] = ⊤
AreLike (r ∷ rs) (q ∷ qs) = IsLike r q × AreLike rs qs
AreLike [] (q ∷ qs) = ⊥
AreLike (r ∷ rs) [] = ⊥

all_like : (rows : List RowModel) → AreLike rows rows
all_like [] = tt
all_like (r ∷ rs) = (inl refl, all_like rs)

all_then : (a b c : List RowModel) → AreLike a b → AreLike b c → AreLike a c
all_then [] [] [] one other = tt
all_then [] [] (z ∷ c) one other = other
all_then [] (y ∷ b) c one other = absurd one
all_then (x ∷ a) [] c one other = absurd one
all_then (x ∷ a) (y ∷ b) [] one other = other
all_then (x ∷ a) (y ∷ b) (z ∷ c) one other = (like_then x y z one.0 other.0, all_then a b c one.1 other.1)

set_like : (rows : List RowModel) (k : ℕ) (row new : RowModel) → slice_get rows k ≡ Some row → IsLike row new → AreLike rows (slice_set rows k new)
set_like [] k row new e is = absurd (cc)
set_like (x ∷ rows) zero row new e is = let same : row ≡ x = cc in (subst (λ (x : RowModel). IsLike x new) same is, all_like rows)
set_like (x ∷ rows) (suc k) row new e is = (inl refl, set_like rows k row new e is)

-- what is read at a place of lists of like rows
abbrev BothLike : Option RowModel → Option RowModel → Type 0
BothLike None None = ⊤
BothLike (Some r) (Some q) = IsLike r q
BothLike None (Some q) = ⊥
BothLike (Some r) None = ⊥

get_like : (old new : List RowModel) (k : ℕ) → AreLike old new → BothLike (slice_get old k) (slice_get new k)
get_like [] [] k are = tt
get_like [] (q ∷ qs) k are = absurd are
get_like (r ∷ rs) [] k are = absurd are
get_like (r ∷ rs) (q ∷ qs) zero are = are.0
get_like (r ∷ rs) (q ∷ qs) (suc k) are = get_like rs qs k are.1

numbered_by : (b : Bool) (o p : Option RowModel) → BothLike o p → BothLike (cond b None o) (cond b None p)
numbered_by b o p both = grind arith

numbered_like : (old new : List RowModel) (number : ℕ) → AreLike old new → BothLike (numbered old number) (numbered new number)
numbered_like old new number are = numbered_by (number == 0) (slice_get old (number - 1)) (slice_get new (number - 1)) (get_like old new (number - 1) are)

-- ---- a write

is_modified : (status : Status) → is_modifying status ≡ true → status ≡ Modifying
is_modified status e = grind arith

row_by : (rows : List RowModel) (k : ℕ) (row : RowModel) (field : FieldModel) (b c : Bool) → slice_get rows k ≡ Some row → is_modifying row.status ≡ b
    → IfSome (option_map (slice_set rows k) (cond (b && c) (Some (with_field row field)) None)) (AreLike rows)
row_by rows k row field b c there e = grind (arith, is_modified, set_like, field_status)

get_by : (rows : List RowModel) (k : ℕ) (field : FieldModel) (o : Option RowModel) → slice_get rows k ≡ o
    → IfSome (option_and_then (λ row. option_map (slice_set rows k) (written_row field row)) o) (AreLike rows)
get_by rows k field o e = grind (arith, row_by)

in_by : (rows : List RowModel) (k : ℕ) (field : FieldModel) (b : Bool)
    → IfSome (option_and_then (λ row. option_map (slice_set rows k) (written_row field row)) (cond b None (slice_get rows k))) (AreLike rows)
in_by rows k field b = grind (arith, get_by)

written_in : (rows : List RowModel) (number : ℕ) (field : FieldModel) → IfSome (changed_in rows number (written_row field)) (AreLike rows)
written_in rows number field = in_by rows (number - 1) field (number == 0)

pub record IsTableLike (old new : TableModel) : Type 0 where
  pub permanent : new.permanent ≡ old.permanent
  pub changeable : AreLike old.changeable new.changeable
  pub volatile : AreLike old.volatile new.volatile

table_like : (table : TableModel) → IsTableLike table table
table_like table = record { permanent = refl; changeable = all_like table.changeable; volatile = all_like table.volatile }

tables_then : (a b c : TableModel) → IsTableLike a b → IsTableLike b c → IsTableLike a c
tables_then a b c one other = grind (arith, all_then)

written_by : (table : TableModel) (memory : Option Memory) (number : ℕ) (field : FieldModel)
    → IfSome (changed_by table memory number (written_row field)) (IsTableLike table)
written_by table (Some Changeable) number field =
    if_mapped (AreLike table.changeable) (IsTableLike table) (with_changeable table) (changed_in table.changeable number (written_row field))
    (λ rows are. record { permanent = refl; changeable = are; volatile = all_like table.volatile }) (written_in table.changeable number field)
written_by table (Some Volatile) number field =
    if_mapped (AreLike table.volatile) (IsTableLike table) (with_volatile table) (changed_in table.volatile number (written_row field))
    (λ rows are. record { permanent = refl; changeable = all_like table.changeable; volatile = are }) (written_in table.volatile number field)
written_by table (Some Permanent) number field = tt
written_by table (Some CurrentBuffer) number field = tt
written_by table (Some Blank) number field = tt
written_by table None number field = tt

written_like : (table : TableModel) (id : RowId) (field : FieldModel) → IfSome (written table id field) (IsTableLike table)
written_like table id field = written_by table (memory_of id.memory) id.number field

or_like : (table : TableModel) (o : Option TableModel) → IfSome o (IsTableLike table) → IsTableLike table (unwrap_or o table)
or_like table None is = table_like table
or_like table (Some new) is = is

write_like : (table : TableModel) (w : Write) → IsTableLike table (with_write table w)
write_like table (SetField id field) = or_like table (written table id field) (written_like table id field)
write_like table (SetNumber object number) = table_like table
write_like table (SetCode object octets) = table_like table
write_like table (AskRow id ask) = table_like table
write_like table (Activate octets) = table_like table
write_like table (SetRemaining minutes) = table_like table

pub writes_like : (table : TableModel) (writes : List Write) → IsTableLike table (with_writes table writes)
writes_like table [] = table_like table
writes_like table (w ∷ ws) = tables_then table (with_write table w) (with_writes (with_write table w) ws) (write_like table w) (writes_like (with_write table w) ws)

-- ---- asking

like_status : (old new : RowModel) → IsLike old new → old.status ≡ new.status
like_status old new p = grind arith

any_like : (old new : List RowModel) → AreLike old new → list_any row_is_validating old ≡ list_any row_is_validating new
any_like [] [] are = refl
any_like [] (q ∷ qs) are = absurd are
any_like (r ∷ rs) [] are = absurd are
any_like (r ∷ rs) (q ∷ qs) are = grind (arith, like_status, any_like rs qs are.1)

asked_some : (rows : List RowModel) (k : ℕ) (ask : Ask) (o : Option RowModel)
    → is_some (option_and_then (λ row. option_map (slice_set rows k) (asked_row ask row)) o)
    ≡ is_some (option_and_then (λ (row : RowModel). next_status row.status ask) o)
asked_some rows k ask None = refl
asked_some rows k ask (Some row) =
    is_some_mapped (slice_set rows k) (asked_row ask row) ∙ is_some_mapped (with_status row) (next_status row.status ask)

both_asked : (ask : Ask) (o p : Option RowModel) → BothLike o p
    → option_and_then (λ (row : RowModel). next_status row.status ask) o ≡ option_and_then (λ (row : RowModel). next_status row.status ask) p
both_asked ask o p both = grind arith

asked_in : (old new : List RowModel) (number : ℕ) (ask : Ask) → AreLike old new
    → is_some (changed_in old number (asked_row ask)) ≡ is_some (changed_in new number (asked_row ask))
asked_in old new number ask are =
    asked_some old (number - 1) ask (numbered old number)
    ∙ ap is_some (both_asked ask (numbered old number) (numbered new number) (numbered_like old new number are))
    ∙ sym (asked_some new (number - 1) ask (numbered new number))

asked_by : (memory : Option Memory) (old new : TableModel) (number : ℕ) (ask : Ask) → IsTableLike old new
    → is_some (changed_by old memory number (asked_row ask)) ≡ is_some (changed_by new memory number (asked_row ask))
asked_by (Some Changeable) old new number ask like =
    is_some_mapped (with_changeable old) (changed_in old.changeable number (asked_row ask))
    ∙ asked_in old.changeable new.changeable number ask like.changeable
    ∙ sym (is_some_mapped (with_changeable new) (changed_in new.changeable number (asked_row ask)))
asked_by (Some Volatile) old new number ask like =
    is_some_mapped (with_volatile old) (changed_in old.volatile number (asked_row ask))
    ∙ asked_in old.volatile new.volatile number ask like.volatile
    ∙ sym (is_some_mapped (with_volatile new) (changed_in new.volatile number (asked_row ask)))
asked_by (Some Permanent) old new number ask like = refl
asked_by (Some CurrentBuffer) old new number ask like = refl
asked_by (Some Blank) old new number ask like = refl
asked_by None old new number ask like = refl

if_some : (b : Bool) (o p : Option TableModel) → is_some o ≡ is_some p → is_some (cond b o None) ≡ is_some (cond b p None)
if_some b o p e = grind arith

-- a row takes what is asked after the writes where it took it before
pub asked_alike : (old new : TableModel) (id : RowId) (ask : Ask) → IsTableLike old new → is_some (asked old id ask) ≡ is_some (asked new id ask)
asked_alike old new id ask like = grind (arith, any_like, if_some, asked_by, is_some)

-- ---- decisions

-- the decision on a code of a type of memory, of this row
abbrev on_row : FaceModel → Defaults → ShownModel → Activation → Option RowReading → Result ShownModel Cause
on_row face defaults shown code o =
    unless_refused (put_up_row defaults shown code o) (row_refusal (under face defaults) shown code o)

both_alike : (face : FaceModel) (defaults : Defaults) (shown : ShownModel) (code : Activation) (o p : Option RowModel) → BothLike o p
    → on_row face defaults shown code (option_map reading o) ≡ on_row face defaults shown code (option_map reading p)
both_alike face defaults shown code o p both = grind arith

rows_alike : (memory : Option Memory) (old new : TableModel) → IsTableLike old new → AreLike (rows_by old memory) (rows_by new memory)
rows_alike memory old new like = grind (arith, all_like)

read_by : (face : FaceModel) (defaults : Defaults) (shown : ShownModel) (code : Activation) (b : Bool) (o p q : Option RowReading)
    → on_row face defaults shown code p ≡ on_row face defaults shown code q
    → on_row face defaults shown code (cond b o p) ≡ on_row face defaults shown code (cond b o q)
read_by face defaults shown code b o p q e = grind arith

by_memory : (b : Bool) (x y : ShownModel) (o p : Option Cause) → unless_refused x o ≡ unless_refused y p
    → unless_refused x (cond b o (Some causes.MemoryType)) ≡ unless_refused y (cond b p (Some causes.MemoryType))
by_memory b x y o p e = grind arith

-- a code is decided on alike before and after the writes
pub decided_alike : (face : FaceModel) (defaults : Defaults) (old new : TableModel) (shown : ShownModel) (code : Activation) → IsTableLike old new
    → decided face defaults old shown code ≡ decided face defaults new shown code
decided_alike face defaults old new shown code like = grind (arith, rows_alike, both_alike, numbered_like, read_by, by_memory)
