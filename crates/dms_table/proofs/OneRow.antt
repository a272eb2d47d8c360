-- At most one row is being validated.
use Rattle.std.proofs.Common.{◌≡◌, ℕ, zero, suc, ◌+◌, ◌-◌, ◌<◌, ◌≤◌, ◌==◌, ◌&&◌, ◌||◌, Bool, true, false, not, cond, if◌then◌else◌, List, [], ◌∷◌, ◌++◌, map, replicate, length, get_or, set, take, slice_set, Option, Some, None, slice_get, Result, Ok, Err, find, refl, ap, sym, ◌∙◌, arith}
use Rattle.std.specs.Prelude.{OnOk, OnErr, option_map, option_and_then, count_by}
use Rattle.std.specs.List.{list_any}
use Rattle.std.specs.Option.{is_some}
use Rattle.std.proofs.lemmas.List.Sums.{sum_by-set, sum_by-cons}
use Rattle.std.proofs.Math.Seq.{take-append_seam}
use Rattle.std.proofs.lemmas.Option.{slice_get_within, get_or_from_slice_get}
use Rattle.dms_table.specs.declared.row.Refused.{Refused}
use Rattle.dms_codes.specs.declared.status.Status.{Status}
use Rattle.dms_codes.specs.declared.status.Status.TheVariants.{Modifying, Valid, Error}
use Rattle.dms_codes.specs.declared.status.Ask.{Ask}
use Rattle.dms_codes.specs.Status.{is_validate, is_validating, is_modifying}
use Rattle.dms_face.specs.Face.{FaceModel}
use Rattle.dms_table.specs.declared.row.Services.{Services}
use Rattle.dms_table.specs.Validation.{settled_row}
use Rattle.dms_table.specs.Rows.{RowModel, TableModel, FieldModel, row_is_validating, unused, may_ask, changed_in, asked_row, written_row, is_in_range, with_field, interrupted, released}

-- how many rows are being validated
abbrev pub count : List RowModel → ℕ
count rows = count_by row_is_validating rows

abbrev pub weight : RowModel → ℕ
weight row = cond (row_is_validating row) 1 0

pub count-cons : (row : RowModel) (rows : List RowModel) → count (row ∷ rows) ≡ weight row + count rows
count-cons row rows = sum_by-cons weight row rows

count-set : (rows : List RowModel) (i : ℕ) (old new : RowModel) → slice_get rows i ≡ Some old → count (set rows i new) + weight old ≡ count rows + weight new
count-set rows i old new e =
    let within : i < length rows = slice_get_within rows i old e in
    let there : get_or rows i old ≡ old = get_or_from_slice_get rows i old old e in
    let counted : count (set rows i new) + weight (get_or rows i old) ≡ count rows + weight new = sum_by-set weight rows i new old within in
    rw there at counted

-- ---- a change of one row

changed_one : (rows more : List RowModel) (i extra : ℕ) (row : RowModel) (o : Option RowModel)
    → ((new : RowModel) → o ≡ Some new → weight new ≡ weight row + extra)
    → slice_get rows i ≡ Some row → option_map (slice_set rows i) o ≡ Some more → count more ≡ count rows + extra
changed_one rows more i extra row None each there h = cc
changed_one rows more i extra row (Some new) each there h =
    let e : set rows i new ≡ more = cc in
    let counted : count (set rows i new) + weight row ≡ count rows + weight new = count-set rows i row new there in
    let grown : weight new ≡ weight row + extra = each new refl in
    let same : count (set rows i new) ≡ count more = ap count e in
    omega arith

changed_there : (rows more : List RowModel) (i extra : ℕ) (change : RowModel → Option RowModel) (o : Option RowModel)
    → ((row new : RowModel) → change row ≡ Some new → weight new ≡ weight row + extra)
    → slice_get rows i ≡ o → option_and_then (λ row. option_map (slice_set rows i) (change row)) o ≡ Some more → count more ≡ count rows + extra
changed_there rows more i extra change None each there h = cc
changed_there rows more i extra change (Some row) each there h = changed_one rows more i extra row (change row) (each row) there h

changed_by : (b : Bool) (rows more : List RowModel) (i extra : ℕ) (change : RowModel → Option RowModel)
    → ((row new : RowModel) → change row ≡ Some new → weight new ≡ weight row + extra)
    → option_and_then (λ row. option_map (slice_set rows i) (change row)) (if b then None else slice_get rows i) ≡ Some more → count more ≡ count rows + extra
changed_by true rows more i extra change each h = cc
changed_by false rows more i extra change each h = changed_there rows more i extra change (slice_get rows i) each refl h

-- of a call that changes a row
pub changed_one_row : (rows more : List RowModel) (number extra : ℕ) (change : RowModel → Option RowModel)
    → ((row new : RowModel) → change row ≡ Some new → weight new ≡ weight row + extra)
    → changed_in rows number change ≡ Some more → count more ≡ count rows + extra
changed_one_row rows more number extra change each changed = changed_by (number == 0) rows more (number - 1) extra change each changed

-- ---- asking

abbrev pub extra_of : Ask → ℕ
extra_of ask = cond (is_validate ask) 1 0

same_weight : (row new : RowModel) → Some row ≡ Some new → weight row ≡ weight new
same_weight row new e = let same : row ≡ new = cc in ap weight same

-- a row that takes what it is asked was not being validated, and is now where it was asked to be
record Grows (status : Status) (new : RowModel) (ask : Ask) : Type 0 where
  before : is_validating status ≡ false
  now : weight new ≡ extra_of ask

grown : (status : Status) (ask : Ask) (to new : RowModel) → is_validating status ≡ false → weight to ≡ extra_of ask → Some to ≡ Some new → Grows status new ask
grown status ask to new before weighs e = record { before = before; now = sym (same_weight to new e) ∙ weighs }

pub asked_weight : (ask : Ask) (row new : RowModel) → asked_row ask row ≡ Some new → weight new ≡ weight row + extra_of ask
asked_weight ask row new e = grind arith

-- what takes what it is asked is not being validated
pub asked_before : (ask : Ask) (row : RowModel) → is_some (asked_row ask row) ≡ true → row_is_validating row ≡ false
asked_before ask row taken = grind arith

-- and is, where it was asked to be
pub asked_now : (ask : Ask) (row new : RowModel) → is_validate ask ≡ true → asked_row ask row ≡ Some new → row_is_validating new ≡ true
asked_now ask row new asks e = grind arith

none_in : (b : Bool) (row : RowModel) (rows : List RowModel) → (list_any row_is_validating rows ≡ false → count rows ≡ 0)
    → row_is_validating row ≡ b → (b || list_any row_is_validating rows) ≡ false → count (row ∷ rows) ≡ 0
none_in b row rows more is h = grind arith

none_validating : (rows : List RowModel) → list_any row_is_validating rows ≡ false → count rows ≡ 0
none_validating [] h = refl
none_validating (row ∷ rows) h = none_in (row_is_validating row) row rows (none_validating rows) refl h

-- of a call that changes a row or is refused
changed_or_not : (result : Result Unit Refused) (rows more : List RowModel) (number extra : ℕ) (change : RowModel → Option RowModel)
    → ((row new : RowModel) → change row ≡ Some new → weight new ≡ weight row + extra)
    → OnOk result (changed_in rows number change ≡ Some more) → OnErr result (more ≡ rows) → count more ≤ count rows + extra
changed_or_not (Ok done) rows more number extra change each ok unchanged =
    let grows : count more ≡ count rows + extra = changed_one_row rows more number extra change each ok in omega (arith, grows)
changed_or_not (Err refused) rows more number extra change each ok unchanged = grind (arith, changed_one_row)

room_by : (asks one other : Bool) (m n : ℕ) → (one ≡ false → m ≡ 0) → (other ≡ false → n ≡ 0) → m + n ≤ 1
    → not (asks && (one || other)) ≡ true → m + n + cond {A = ℕ} asks 1 0 ≤ 1
room_by asks one other m n no_one no_other most may = grind arith

-- what may be asked leaves room for it
room : (ask : Ask) (xs ys : List RowModel) → count xs + count ys ≤ 1
    → not (is_validate ask && (list_any row_is_validating xs || list_any row_is_validating ys)) ≡ true → count xs + count ys + extra_of ask ≤ 1
room ask xs ys most may = grind (arith, room_by, none_validating)

may_of : (table : TableModel) (ask : Ask) (b : Bool) (xs ys : List RowModel) → b ≡ may_ask table ask → b ≡ true → xs ≡ table.changeable → ys ≡ table.volatile
    → not (is_validate ask && (list_any row_is_validating xs || list_any row_is_validating ys)) ≡ true
may_of table ask b xs ys is may changeable volatile = rw (changeable, volatile) (sym is ∙ may)

-- asking a changeable row
pub one_asked_changeable : (table : TableModel) (ask : Ask) (b : Bool) (xs ys new : List RowModel) (number : ℕ) (result : Result Unit Refused)
    → b ≡ may_ask table ask → b ≡ true → xs ≡ table.changeable → ys ≡ table.volatile → count xs + count ys ≤ 1
    → OnOk result (changed_in xs number (asked_row ask) ≡ Some new) → OnErr result (new ≡ xs) → count new + count ys ≤ 1
one_asked_changeable table ask b xs ys new number result is may changeable volatile most ok unchanged =
    omega (arith, room ask xs ys most (may_of table ask b xs ys is may changeable volatile), changed_or_not result xs new number (extra_of ask) (asked_row ask) (asked_weight ask) ok unchanged)

-- asking a volatile row
pub one_asked_volatile : (table : TableModel) (ask : Ask) (b : Bool) (xs ys new : List RowModel) (number : ℕ) (result : Result Unit Refused)
    → b ≡ may_ask table ask → b ≡ true → xs ≡ table.changeable → ys ≡ table.volatile → count xs + count ys ≤ 1
    → OnOk result (changed_in ys number (asked_row ask) ≡ Some new) → OnErr result (new ≡ ys) → count xs + count new ≤ 1
one_asked_volatile table ask b xs ys new number result is may changeable volatile most ok unchanged =
    omega (arith, room ask xs ys most (may_of table ask b xs ys is may changeable volatile), changed_or_not result ys new number (extra_of ask) (asked_row ask) (asked_weight ask) ok unchanged)

-- ---- whether a row is being validated

some_in : (b : Bool) (row : RowModel) (rows : List RowModel) → (count rows ≡ 0 → list_any row_is_validating rows ≡ false)
    → row_is_validating row ≡ b → count (row ∷ rows) ≡ 0 → (b || list_any row_is_validating rows) ≡ false
some_in b row rows more is p = grind (arith, count-cons)

pub any_validating : (rows : List RowModel) → count rows ≡ 0 → list_any row_is_validating rows ≡ false
any_validating [] none = refl
any_validating (row ∷ rows) none = some_in (row_is_validating row) row rows (any_validating rows) refl none

either_by : (one other : Bool) (m n : ℕ) → (one ≡ false → m ≡ 0) → (other ≡ false → n ≡ 0) → m + n ≡ 1 → (one || other) ≡ true
either_by one other m n no_one no_other sum = grind arith

-- so many rows tell whether there is one
pub settling_is : (b : Bool) (xs ys : List RowModel) → count xs + count ys ≡ cond b 1 0 → (list_any row_is_validating xs || list_any row_is_validating ys) ≡ b
settling_is b xs ys sum = grind (arith, either_by, none_validating, any_validating)

-- ---- writing

field_weight : (row : RowModel) (field : FieldModel) → weight (with_field row field) ≡ weight row
field_weight row field = grind arith

written_if : (b : Bool) (row other new : RowModel) → weight other ≡ weight row → (if b then Some other else None) ≡ Some new → weight new ≡ weight row + 0
written_if b row other new same e = grind arith

pub written_weight : (field : FieldModel) (row new : RowModel) → written_row field row ≡ Some new → weight new ≡ weight row + 0
written_weight field row new e = written_if (is_modifying row.status && is_in_range field) row (with_field row field) new (field_weight row field) e

some_of : {A B : Type 0} (b : Bool) (x : A) (y : B) → is_some (if b then Some x else None) ≡ true → is_some (if b then Some y else None) ≡ true
some_of b x y e = grind arith

-- what is written is not being validated
pub written_before : (field : FieldModel) (row : RowModel) → is_some (written_row field row) ≡ true → row_is_validating row ≡ false
written_before field row taken = grind arith

-- writing a row validates none
pub none_more_written : (field : FieldModel) (rows new : List RowModel) (number : ℕ) (result : Result Unit Refused)
    → OnOk result (changed_in rows number (written_row field) ≡ Some new) → OnErr result (new ≡ rows) → count new ≡ count rows
none_more_written field rows new number (Ok done) ok unchanged = omega (arith, changed_one_row rows new number 0 (written_row field) (written_weight field) ok)
none_more_written field rows new number (Err refused) ok unchanged = ap count unchanged

-- ---- nothing to settle

unsettled_by : (b : Bool) (row settled : RowModel) → b ≡ false → (if b then settled else row) ≡ row
unsettled_by b row settled is = grind arith

-- where no row is being validated, settling leaves all as they are
pub unsettled : (services : Services) (face : FaceModel) (rows : List RowModel) → list_any row_is_validating rows ≡ false → map (settled_row services face) rows ≡ rows
unsettled services face [] none = refl
unsettled services face (row ∷ rows) none =
    let parts = neither (row_is_validating row) (list_any row_is_validating rows) none in
    ap (λ first. first ∷ map (settled_row services face) rows) (unsettled_by (row_is_validating row) row _ parts.0)
    ∙ ap (λ rest. row ∷ rest) (unsettled services face rows parts.1)
  where
    neither : (a b : Bool) → (a || b) ≡ false → (a ≡ false) × (b ≡ false)
    neither false b none = (refl, none)
    neither true b none = cc

pub not_found : (rows : List RowModel) → list_any row_is_validating rows ≡ false → find row_is_validating rows ≡ None
not_found [] none = refl
not_found (row ∷ rows) none = grind (arith, not_found rows)

-- ---- a function of each row

none_mapped : (f : RowModel → RowModel) → ((row : RowModel) → weight (f row) ≡ 0) → (rows : List RowModel) → count (map f rows) ≡ 0
none_mapped f each [] = refl
none_mapped f each (row ∷ rows) = omega (arith, count-cons (f row) (map f rows), each row, none_mapped f each rows)

weight_of : (row : RowModel) (b : Bool) (status : Status) → is_validating status ≡ false → row_is_validating row ≡ b → weight (if b then record row { status = status } else row) ≡ 0
weight_of row b status h e = grind arith

pub none_interrupted : (rows : List RowModel) → count (map interrupted rows) ≡ 0
none_interrupted rows = none_mapped interrupted (λ row. weight_of row (row_is_validating row) Modifying refl refl) rows

pub none_released : (rows : List RowModel) → count (map released rows) ≡ 0
none_released rows = none_mapped released (λ row. refl) rows

not_validating : (b : Bool) → is_validating (if b then Valid else Error) ≡ false
not_validating b = grind arith

pub none_settled : (services : Services) (face : FaceModel) (rows : List RowModel) → count (map (settled_row services face) rows) ≡ 0
none_settled services face rows = grind (arith, none_mapped, weight_of, not_validating)

pub none_unused : (n : ℕ) → count (replicate n unused) ≡ 0
none_unused zero = refl
none_unused (suc n) = omega (arith, count-cons unused (replicate n unused), none_unused n)

-- a list that is filled up from another of the same length is as it was
pub refilled : {A : Type 0} (n : ℕ) (xs ys : List A) → length xs ≡ n → take n (xs ++ ys) ≡ xs
refilled n xs ys e = rw (← e) (take-append_seam xs ys)
