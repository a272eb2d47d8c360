-- The row that is being validated is known by its place.
use Rattle.std.proofs.Common.{◌≡◌, ℕ, zero, suc, ◌+◌, ◌-◌, ◌<◌, ◌≤◌, ◌==◌, ◌&&◌, not, Result, Ok, Err, Bool, true, false, cond, List, [], ◌∷◌, map, length, get_or, set, slice_set, Option, Some, None, slice_get, find, All, refl, ap, sym, subst, ◌∙◌, arith}
use Rattle.std.specs.Prelude.{OnOk, OnErr, option_map, option_and_then}
use Rattle.std.specs.Option.{is_some}
use Rattle.std.proofs.lemmas.List.Elements.{All-cons}
use Rattle.std.proofs.lemmas.Option.{get_or_from_slice_get, same_Some, slice_get_within}
use Rattle.dms_face.specs.Face.{FaceModel}
use Rattle.dms_table.specs.declared.row.Services.{Services}
use Rattle.dms_table.specs.Rows.{RowModel, FieldModel, TableModel, row_is_validating, changed_in, asked_row, written_row, is_settling, may_ask}
use Rattle.dms_table.specs.Validation.{settled_row}
use Rattle.dms_table.specs.declared.row.Refused.{Refused}
use Rattle.dms_table.specs.declared.writable.Writable.{Writable}
use Rattle.dms_table.specs.declared.writable.RowPlace.{RowPlace}
use Rattle.dms_codes.specs.declared.status.Ask.{Ask}
use Rattle.dms_codes.specs.Status.{is_validate}
use Rattle.dms_table.specs.PlaceView.{of_type, IsOnly, IsOnlyOfAll, IsPlaced, validating_if}
use Rattle.dms_table.proofs.OneRow.{count, weight, extra_of, count-cons, any_validating, unsettled, settling_is, changed_one_row, asked_weight, asked_before, asked_now, written_weight, written_before}

-- ---- the first row, and those after it

is_row : (b : Bool) → Some b ≡ Some true → b ≡ true
is_row b e = grind arith

-- a row that is being validated is counted
counted : (rows : List RowModel) (place : ℕ) → option_map row_is_validating (slice_get rows place) ≡ Some true → 1 ≤ count rows
counted [] place e = absurd (cc)
counted (row ∷ rows) zero e = grind (arith, weight, is_row, count-cons)
counted (row ∷ rows) (suc place) e = omega (arith, count-cons row rows, counted rows place e)

free_by : (b : Bool) → cond {A = ℕ} b 1 0 ≡ 0 → b ≡ false
free_by b e = grind arith

-- the others are not being validated
first_alone : (row : RowModel) (rows : List RowModel) → IsOnly 0 (row ∷ rows) → count rows ≡ 0
first_alone row rows is = grind (arith, weight, is_row, count-cons)

first_free : (row : RowModel) (rows : List RowModel) (place : ℕ) → IsOnly (suc place) (row ∷ rows) → row_is_validating row ≡ false
first_free row rows place is = free_by (row_is_validating row) (omega (arith, count-cons row rows, counted rows place is.there, is.one))

only_after : (row : RowModel) (rows : List RowModel) (place : ℕ) → IsOnly (suc place) (row ∷ rows) → IsOnly place rows
only_after row rows place is = grind (arith, weight, first_free, count-cons)

-- ---- what settling the row at the place makes of all rows

free_settled : (b : Bool) (row settled : RowModel) → b ≡ false → cond b settled row ≡ row
free_settled b row settled e = grind arith

pub only_settled : (services : Services) (face : FaceModel) (rows : List RowModel) (place : ℕ) (row : RowModel) → IsOnly place rows → slice_get rows place ≡ Some row
    → set rows place (settled_row services face row) ≡ map (settled_row services face) rows
only_settled services face [] place row is e = absurd (cc)
only_settled services face (first ∷ rows) zero row is e = grind (arith, same_Some, unsettled, any_validating, first_alone, only_after, free_settled, first_free)
only_settled services face (first ∷ rows) (suc place) row is e = grind (arith, same_Some, unsettled, any_validating, first_alone, only_after, free_settled, first_free, only_settled services face rows place row (only_after first rows place is) e)

find_by : (b : Bool) (row : RowModel) (o found : Option RowModel) → b ≡ true → found ≡ Some row → found ≡ cond b (Some row) o
find_by b row o found is e = grind arith

find_after : (b : Bool) (row : RowModel) (o found : Option RowModel) → b ≡ false → found ≡ o → found ≡ cond b (Some row) o
find_after b row o found is e = grind arith

pub only_found : (rows : List RowModel) (place : ℕ) (row : RowModel) → IsOnly place rows → slice_get rows place ≡ Some row → find row_is_validating rows ≡ Some row
only_found [] place row is e = absurd (cc)
only_found (first ∷ rows) zero row is e = grind (arith, find_by, is_row, find_after, first_free, only_after)
only_found (first ∷ rows) (suc place) row is e = grind (arith, find_by, is_row, find_after, first_free, only_after, only_found rows place row (only_after first rows place is) e)

-- ---- what holds of the row that is being validated, for each row

pub none_all : (P : RowModel → Type 0) (rows : List RowModel) → count rows ≡ 0 → All (λ row. row_is_validating row ≡ true → P row) rows
none_all P [] none = λ k d within. absurd (omega arith)
none_all P (row ∷ rows) none =
    let free : row_is_validating row ≡ false = free_by (row_is_validating row) (omega (arith, count-cons row rows, none)) in
    All-cons (λ row. row_is_validating row ≡ true → P row) row rows (λ is. absurd (cc)) (none_all P rows (omega (arith, count-cons row rows, none)))

pub only_all : (P : RowModel → Type 0) (rows : List RowModel) (place : ℕ) (row : RowModel) → IsOnly place rows → slice_get rows place ≡ Some row
    → (row_is_validating row ≡ true → P row) → All (λ row. row_is_validating row ≡ true → P row) rows
only_all P [] place row is e holds = absurd (cc)
only_all P (first ∷ rows) zero row is e holds =
    let same : first ≡ row = same_Some first row e in
    All-cons (λ row. row_is_validating row ≡ true → P row) first rows (subst (λ row. row_is_validating row ≡ true → P row) (sym same) holds)
    (none_all P rows (first_alone first rows is))
only_all P (first ∷ rows) (suc place) row is e holds =
    let free : row_is_validating first ≡ false = first_free first rows place is in
    All-cons (λ row. row_is_validating row ≡ true → P row) first rows (λ is. absurd (cc)) (only_all P rows place row (only_after first rows place is) e holds)

-- the row at the place is being validated
pub only_is : (rows : List RowModel) (place : ℕ) (row : RowModel) → IsOnly place rows → slice_get rows place ≡ Some row → row_is_validating row ≡ true
only_is rows place row is e = is_row (row_is_validating row) (sym (ap (option_map row_is_validating) e) ∙ is.there)

-- the row that a place of a slice gives
pub only_there : (rows : List RowModel) (place : ℕ) (row : RowModel) → IsOnly place rows → row ≡ get_or rows place row → slice_get rows place ≡ Some row
only_there rows place row is e = grind (arith, slice_get, get_or, get_or_from_slice_get)

pub only_within : (rows : List RowModel) (place : ℕ) → IsOnly place rows → place < length rows
only_within rows place is = within_by rows place (slice_get rows place) refl is.there
  where
    within_by : (rows : List RowModel) (place : ℕ) (o : Option RowModel) → slice_get rows place ≡ o → option_map row_is_validating o ≡ Some true → place < length rows
    within_by rows place None e there = absurd (cc)
    within_by rows place (Some row) e there = slice_get_within rows place row e

-- ---- a change of one row

-- the row at a place keeps its status where another row is changed
kept_set : (rows : List RowModel) (i place : ℕ) (row new : RowModel) → slice_get rows i ≡ Some row → row_is_validating row ≡ false
    → option_map row_is_validating (slice_get rows place) ≡ Some true → option_map row_is_validating (slice_get (set rows i new) place) ≡ Some true
kept_set [] i place row new e free there = absurd (cc)
kept_set (first ∷ rows) zero zero row new e free there = grind (arith, same_Some, is_row)
kept_set (first ∷ rows) zero (suc place) row new e free there = there
kept_set (first ∷ rows) (suc i) zero row new e free there = there
kept_set (first ∷ rows) (suc i) (suc place) row new e free there = kept_set rows i place row new e free there

pub set_there : (rows : List RowModel) (i : ℕ) (row new : RowModel) → slice_get rows i ≡ Some row → slice_get (set rows i new) i ≡ Some new
set_there [] i row new e = absurd (cc)
set_there (first ∷ rows) zero row new e = refl
set_there (first ∷ rows) (suc i) row new e = set_there rows i row new e

kept_one : (rows more : List RowModel) (i place : ℕ) (row : RowModel) (o : Option RowModel) → (is_some o ≡ true → row_is_validating row ≡ false)
    → slice_get rows i ≡ Some row → option_map (slice_set rows i) o ≡ Some more
    → option_map row_is_validating (slice_get rows place) ≡ Some true → option_map row_is_validating (slice_get more place) ≡ Some true
kept_one rows more i place row o free e changed there = grind (arith, slice_get, kept_set)

put_one : (rows more : List RowModel) (i : ℕ) (row : RowModel) (o : Option RowModel) → ((new : RowModel) → o ≡ Some new → row_is_validating new ≡ true)
    → slice_get rows i ≡ Some row → option_map (slice_set rows i) o ≡ Some more → option_map row_is_validating (slice_get more i) ≡ Some true
put_one rows more i row o is e changed = grind (arith, slice_get, set_there)

-- what a change takes is not being validated
abbrev pub Frees : (RowModel → Option RowModel) → Type 0
Frees change = (row : RowModel) → is_some (change row) ≡ true → row_is_validating row ≡ false

kept_by : (b : Bool) (o : Option RowModel) (rows more : List RowModel) (i place : ℕ) (change : RowModel → Option RowModel) → Frees change → slice_get rows i ≡ o
    → option_and_then (λ row. option_map (slice_set rows i) (change row)) (cond b None o) ≡ Some more
    → option_map row_is_validating (slice_get rows place) ≡ Some true → option_map row_is_validating (slice_get more place) ≡ Some true
kept_by true o rows more i place change frees e changed there = absurd (cc)
kept_by false None rows more i place change frees e changed there = absurd (cc)
kept_by false (Some row) rows more i place change frees e changed there = kept_one rows more i place row (change row) (frees row) e changed there

pub put_by : (b : Bool) (o : Option RowModel) (rows more : List RowModel) (i : ℕ) (change : RowModel → Option RowModel)
    → ((row new : RowModel) → change row ≡ Some new → row_is_validating new ≡ true) → slice_get rows i ≡ o
    → option_and_then (λ row. option_map (slice_set rows i) (change row)) (cond b None o) ≡ Some more
    → option_map row_is_validating (slice_get more i) ≡ Some true
put_by true o rows more i change are e changed = absurd (cc)
put_by false None rows more i change are e changed = absurd (cc)
put_by false (Some row) rows more i change are e changed = put_one rows more i row (change row) (are row) e changed

-- ---- rows of one type of memory, among all

-- a row of these is being validated, so none of the other type is
alone : (memory : Writable) (changeable volatile : List RowModel) → 1 ≤ count (of_type memory changeable volatile) → count changeable + count volatile ≡ 1
    → (count (of_type memory changeable volatile) ≡ 1) × (count (of_type memory volatile changeable) ≡ 0)
alone memory changeable volatile some one = grind arith

pub only_of_type : (place : RowPlace) (changeable volatile : List RowModel) → IsOnlyOfAll place changeable volatile
    → IsOnly place.index (of_type place.memory changeable volatile)
only_of_type place changeable volatile is = grind (arith, alone, counted)

pub none_of_other : (place : RowPlace) (changeable volatile : List RowModel) → IsOnlyOfAll place changeable volatile
    → count (of_type place.memory volatile changeable) ≡ 0
none_of_other place changeable volatile is = (alone place.memory changeable volatile (counted (of_type place.memory changeable volatile) place.index is.there) is.one).1

pub placed_at : (validating : Option RowPlace) (place : RowPlace) (changeable volatile : List RowModel) → validating ≡ Some place
    → IsPlaced validating changeable volatile → IsOnlyOfAll place changeable volatile
placed_at validating place changeable volatile is placed = subst (λ (v : Option RowPlace). IsPlaced v changeable volatile) is placed

pub placed_nowhere : (validating : Option RowPlace) (changeable volatile : List RowModel) → validating ≡ None
    → IsPlaced validating changeable volatile → IsPlaced None changeable volatile
placed_nowhere validating changeable volatile is placed = subst (λ (v : Option RowPlace). IsPlaced v changeable volatile) is placed

-- none of either type
pub none_left : (memory : Writable) (changeable volatile rows : List RowModel) → count rows ≡ 0 → count (of_type memory volatile changeable) ≡ 0
    → count (of_type memory rows changeable) + count (of_type memory volatile rows) ≡ 0
none_left memory changeable volatile rows left p = grind arith

-- those of one type are changed to these
pub changed_count : (memory : Writable) (changeable volatile rows : List RowModel)
    → count (of_type memory rows changeable) + count (of_type memory volatile rows) + count (of_type memory changeable volatile) ≡ count changeable + count volatile + count rows
changed_count memory changeable volatile rows = grind arith

pub changed_rows : (memory : Writable) (changeable volatile rows : List RowModel) → of_type memory (of_type memory rows changeable) (of_type memory volatile rows) ≡ rows
changed_rows memory changeable volatile rows = grind arith

abbrev pub IsValidatingAt : List RowModel → ℕ → Type 0
IsValidatingAt rows index = option_map row_is_validating (slice_get rows index) ≡ Some true

kept_there : (memory other : Writable) (changeable volatile rows : List RowModel) (index : ℕ)
    → (IsValidatingAt (of_type memory changeable volatile) index → IsValidatingAt rows index) → IsValidatingAt (of_type other changeable volatile) index
    → IsValidatingAt (of_type other (of_type memory rows changeable) (of_type memory volatile rows)) index
kept_there memory other changeable volatile rows index kept there = grind arith

-- a change that validates no row leaves the place
pub kept_place : (memory : Writable) (validating : Option RowPlace) (changeable volatile more : List RowModel) (number : ℕ) (change : RowModel → Option RowModel)
    → Frees change → changed_in (of_type memory changeable volatile) number change ≡ Some more → count more ≡ count (of_type memory changeable volatile)
    → IsPlaced validating changeable volatile → IsPlaced validating (of_type memory more changeable) (of_type memory volatile more)
kept_place memory None changeable volatile more number change frees changed same is = grind (arith, changed_count, kept_there, kept_by, slice_get)
kept_place memory (Some place) changeable volatile more number change frees changed same is =
    let rows : List RowModel = of_type memory changeable volatile in
    record {
      there = kept_there memory place.memory changeable volatile more place.index
          (kept_by (number == 0) (slice_get rows (number - 1)) rows more (number - 1) place.index change frees refl changed) is.there;
      one = omega (arith, same, is.one, changed_count memory changeable volatile more);
    }

-- ---- asking

-- a change that validates its row makes it the only one
pub put_there : (memory : Writable) (changeable volatile more : List RowModel) (number index extra : ℕ) (change : RowModel → Option RowModel)
    → ((row new : RowModel) → change row ≡ Some new → row_is_validating new ≡ true) → ((row new : RowModel) → change row ≡ Some new → weight new ≡ weight row + extra)
    → extra ≡ 1 → index + 1 ≡ number → changed_in (of_type memory changeable volatile) number change ≡ Some more → count changeable + count volatile ≡ 0
    → IsOnlyOfAll (record { memory = memory; index = index }) (of_type memory more changeable) (of_type memory volatile more)
put_there memory changeable volatile more number index extra change validates grows one numbered changed none =
    let rows : List RowModel = of_type memory changeable volatile in
    let here : number - 1 ≡ index = omega (arith, numbered) in
    record {
      there = subst (λ (rows : List RowModel). IsValidatingAt rows index) (sym (changed_rows memory changeable volatile more))
          (subst (IsValidatingAt more) here (put_by (number == 0) (slice_get rows (number - 1)) rows more (number - 1) change validates refl changed));
      one = omega (arith, one, none, changed_count memory changeable volatile more, changed_one_row rows more number extra change grows changed);
    }

asked_by : (asks : Bool) (memory : Writable) (validating : Option RowPlace) (ask : Ask) (changeable volatile more : List RowModel) (number index : ℕ) → is_validate ask ≡ asks
    → (asks && is_some validating) ≡ false → index + 1 ≡ number → changed_in (of_type memory changeable volatile) number (asked_row ask) ≡ Some more
    → IsPlaced validating changeable volatile
    → IsPlaced (cond asks (Some (record { memory = memory; index = index })) validating) (of_type memory more changeable) (of_type memory volatile more)
asked_by true memory (Some other) ask changeable volatile more number index asks free numbered changed is = absurd (cc)
asked_by true memory None ask changeable volatile more number index asks free numbered changed is =
    put_there memory changeable volatile more number index (extra_of ask) (asked_row ask) (λ row new e. asked_now ask row new asks e) (asked_weight ask)
    (ap (λ b. cond {A = ℕ} b 1 0) asks) numbered changed is
asked_by false memory validating ask changeable volatile more number index asks free numbered changed is =
    let none : extra_of ask ≡ 0 = ap (λ b. cond {A = ℕ} b 1 0) asks in
    let same : count more ≡ count (of_type memory changeable volatile) =
    omega (arith, none, changed_one_row (of_type memory changeable volatile) more number (extra_of ask) (asked_row ask) (asked_weight ask) changed) in
    kept_place memory validating changeable volatile more number (asked_row ask) (asked_before ask) changed same is

-- ---- whether a row is being validated

placed_count : (validating : Option RowPlace) (changeable volatile : List RowModel) → IsPlaced validating changeable volatile
    → count changeable + count volatile ≡ cond (is_some validating) 1 0
placed_count validating changeable volatile is = grind arith

pub placed_settling : (validating : Option RowPlace) (table : TableModel) → IsPlaced validating table.changeable table.volatile → is_settling table ≡ is_some validating
placed_settling validating table is =
    settling_is (is_some validating) table.changeable table.volatile (placed_count validating table.changeable table.volatile is)

free_after : (asks has settling : Bool) → settling ≡ has → not (asks && settling) ≡ true → (asks && has) ≡ false
free_after asks has settling is may = grind arith

may_place : (validating : Option RowPlace) (table : TableModel) (ask : Ask) → IsPlaced validating table.changeable table.volatile → may_ask table ask ≡ true
    → (is_validate ask && is_some validating) ≡ false
may_place validating table ask is may = free_after (is_validate ask) (is_some validating) (is_settling table) (placed_settling validating table is) may

-- a row has taken what it was asked
pub asked_place : (memory : Writable) (validating after : Option RowPlace) (table : TableModel) (ask : Ask) (more : List RowModel) (number index : ℕ)
    → IsPlaced validating table.changeable table.volatile → may_ask table ask ≡ true → index + 1 ≡ number
    → changed_in (of_type memory table.changeable table.volatile) number (asked_row ask) ≡ Some more
    → after ≡ validating_if (is_validate ask) (record { memory = memory; index = index }) validating
    → IsPlaced after (of_type memory more table.changeable) (of_type memory table.volatile more)
asked_place memory validating after table ask more number index is may numbered changed e = grind (arith, asked_by, may_place)

-- ---- writing

-- rows that stay as they are
pub same_place : (memory : Writable) (validating : Option RowPlace) (changeable volatile more : List RowModel) → more ≡ of_type memory changeable volatile
    → IsPlaced validating changeable volatile → IsPlaced validating (of_type memory more changeable) (of_type memory volatile more)
same_place memory validating changeable volatile more same is = grind arith

-- a row was written, or not
pub written_place : (memory : Writable) (validating : Option RowPlace) (field : FieldModel) (changeable volatile more : List RowModel) (number : ℕ)
    (result : Result Unit Refused) → OnOk result (changed_in (of_type memory changeable volatile) number (written_row field) ≡ Some more)
    → OnErr result (more ≡ of_type memory changeable volatile)
    → IsPlaced validating changeable volatile → IsPlaced validating (of_type memory more changeable) (of_type memory volatile more)
written_place memory validating field changeable volatile more number (Ok done) ok unchanged is =
    let rows : List RowModel = of_type memory changeable volatile in
    let same : count more ≡ count rows = omega (arith, changed_one_row rows more number 0 (written_row field) (written_weight field) ok) in
    kept_place memory validating changeable volatile more number (written_row field) (written_before field) ok same is
written_place memory validating field changeable volatile more number (Err refused) ok unchanged is = grind (arith, count, changed_one_row, written_weight, kept_place, written_before, same_place)
