-- The state of a sign is put back in a sign that is made alike: no line of it is at fault.
use Rattle.std.proofs.Common.{◌≡◌, ℕ, ◌+◌, ◌-◌, ◌≤◌, ◌==◌, ◌&&◌, ◌||◌, Bool, true, false, not, cond, List, [], ◌∷◌, ◌++◌, length, set, replicate, slice_get, slice_set, Option, Some, None, Ok, refl, ap, sym, ◌∙◌, arith, append_assoc, length-append}
use Rattle.std.specs.Prelude.{option_map, option_and_then, unwrap_or}
use Rattle.std.specs.Option.{option_or}
use Rattle.std.specs.List.{AllByRecursion, list_any}
use Rattle.std.proofs.lemmas.Bool.{eqb-true}
use Rattle.dms_codes.specs.Codes.{octets_of_id, id_of, IsMessageId}
use Rattle.dms_codes.specs.Status.{is_not_used, is_validating}
use Rattle.dms_table.specs.declared.row.Services.{Services}
use Rattle.dms_table.specs.declared.saved_row.RowFault.{RowFault}
use Rattle.dms_table.specs.declared.saved_row.RowFault.TheVariants as row_faults
use Rattle.dms_table.specs.Rows.{RowModel, TableModel, unused, numbered, changed_in, with_changeable, with_volatile, row_is_validating, IsTable}
use Rattle.dms_table.specs.SavedRows.{put_over, place_fault, may_put, value_fault, row_fault, IsEmptyWhereUnused}
use Rattle.dms_table.proofs.OneRow.{count, weight, count-cons, any_validating, none_unused}
use Rattle.dms_sign.specs.declared.sign.restoring.SignParts.{SignParts}
use Rattle.dms_sign.specs.State.{SignState}
use Rattle.dms_sign.specs.Restoring.{with_table, with_parts, parts_fault}
use Rattle.dms_sign_state.specs.declared.field.Stored.{Stored}
use Rattle.dms_sign_state.specs.declared.field.Stored.TheVariants.{Changeable, Volatile}
use Rattle.dms_sign_state.specs.StateText.{used_row, used_rows, fields_of}
use Rattle.dms_sign_restored.specs.Restored.{parts_of, stored_id, and_then, unless_misfit, row_misfit, part_misfit, with_row, with_rows, with_rest, with_fields}
use Rattle.dms_sign_restored.specs.Alike.{AreMadeAlike}
use Rattle.dms_sign_restored.proofs.RestoredText.{rows_in, having, same_rows, rows_had, had_again}
use Rattle.dms_sign_restored.proofs.SameSign.{AreIdsOfOctets, table_apart}

-- ---- an element behind others

at_seam : {A : Type 0} (front rest : List A) (x : A) → slice_get (front ++ x ∷ rest) (length front) ≡ Some x
at_seam [] rest x = refl
at_seam (y ∷ front) rest x = at_seam front rest x

set_at_seam : {A : Type 0} (front rest : List A) (x y : A) → set (front ++ x ∷ rest) (length front) y ≡ front ++ y ∷ rest
set_at_seam [] rest x y = refl
set_at_seam (z ∷ front) rest x y = ap (λ xs. z ∷ xs) (set_at_seam front rest x y)

-- the row of a number from 1
pub number_is : (none : Bool) (rows : List RowModel) (n : ℕ) (x : RowModel) → (n == 0) ≡ none → 1 ≤ n → slice_get rows (n - 1) ≡ Some x
    → cond none None (slice_get rows (n - 1)) ≡ Some x
number_is true rows n x is least e = let zero_now : n ≡ 0 = eqb-true n 0 is in absurd (omega (arith, zero_now, least))
number_is false rows n x is least e = e

seam_there : (rows front rest : List RowModel) (n : ℕ) → rows ≡ front ++ unused ∷ rest → n ≡ length front + 1 → numbered rows n ≡ Some unused
seam_there rows front rest n are number =
    let place : n - 1 ≡ length front = omega (arith, number) in
    number_is (n == 0) rows n unused refl (omega (arith, number))
    (ap (slice_get rows) place ∙ ap (λ rows. slice_get rows (length front)) are ∙ at_seam front rest unused)

seam_changed : (rows front rest : List RowModel) (n : ℕ) (row : RowModel) → rows ≡ front ++ unused ∷ rest → n ≡ length front + 1
    → changed_in rows n (put_over row) ≡ Some (front ++ row ∷ rest)
seam_changed rows front rest n row are number =
    let place : n - 1 ≡ length front = omega (arith, number) in
    ap (option_and_then (λ x. option_map (slice_set rows (n - 1)) (put_over row x))) (seam_there rows front rest n are number)
    ∙ ap Some (ap (λ i. set rows i row) place ∙ ap (λ rows. set rows (length front) row) are ∙ set_at_seam front rest unused row)

-- ---- one row

no_fault : (value : Option RowFault) (may : Bool) (there : Option RowModel) → value ≡ None → may ≡ true → there ≡ Some unused
    → option_or value (cond may (place_fault there) (Some row_faults.Validating)) ≡ None
no_fault value may there good room is = grind arith

row_back : (stored : Stored) (line n : ℕ) (row : RowModel) (s : SignState) (front rest : List RowModel) → rows_in stored s.table ≡ front ++ unused ∷ rest
    → n ≡ length front + 1 → value_fault s.table.services row ≡ None → may_put s.table row.status ≡ true
    → with_row stored line (used_row n row) s ≡ Ok (having stored s (front ++ row ∷ rest))
row_back Changeable line n row s front rest are number good may =
    let id = stored_id Changeable (used_row n row) in
    let none : row_fault s.table id row ≡ None =
    no_fault (value_fault s.table.services row) (may_put s.table row.status) (numbered s.table.changeable n) good may
    (seam_there s.table.changeable front rest n are number) in
    ap (λ o. unless_misfit (unwrap_or (option_map (with_table s) (option_map (with_changeable s.table) o)) s) (option_map (row_misfit line) (row_fault s.table id row)))
    (seam_changed s.table.changeable front rest n row are number)
    ∙ ap (λ o. unless_misfit (having Changeable s (front ++ row ∷ rest)) (option_map (row_misfit line) o)) none
row_back Volatile line n row s front rest are number good may =
    let id = stored_id Volatile (used_row n row) in
    let none : row_fault s.table id row ≡ None =
    no_fault (value_fault s.table.services row) (may_put s.table row.status) (numbered s.table.volatile n) good may
    (seam_there s.table.volatile front rest n are number) in
    ap (λ o. unless_misfit (unwrap_or (option_map (with_table s) (option_map (with_volatile s.table) o)) s) (option_map (row_misfit line) (row_fault s.table id row)))
    (seam_changed s.table.volatile front rest n row are number)
    ∙ ap (λ o. unless_misfit (having Volatile s (front ++ row ∷ rest)) (option_map (row_misfit line) o)) none

-- ---- at most one row is being validated

-- the rows of the other type of memory
abbrev beside : Stored → TableModel → List RowModel
beside Changeable table = table.volatile
beside Volatile table = table.changeable

count_append : (front rows : List RowModel) → count (front ++ rows) ≡ count front + count rows
count_append [] rows = let none : count [] ≡ 0 = refl in omega (arith, none)
count_append (row ∷ front) rows = omega (arith, count-cons row (front ++ rows), count-cons row front, count_append front rows)

count_one : (front : List RowModel) (row : RowModel) → count (front ++ row ∷ []) ≡ count front + weight row
count_one front row = let none : count [] ≡ 0 = refl in omega (arith, none, count_append front (row ∷ []), count-cons row [])

may_by : (validating : Bool) (changeable volatile : List RowModel) → cond {A = ℕ} validating 1 0 + count changeable + count volatile ≤ 1
    → not (validating && (list_any row_is_validating changeable || list_any row_is_validating volatile)) ≡ true
may_by true changeable volatile few =
    let none : count changeable ≡ 0 = omega (arith, few) in
    let others : count volatile ≡ 0 = omega (arith, few) in
    ap (λ b. not (b || list_any row_is_validating volatile)) (any_validating changeable none) ∙ ap not (any_validating volatile others)
may_by false changeable volatile few = refl

may_be_put : (stored : Stored) (table : TableModel) (row : RowModel) → weight row + count (rows_in stored table) + count (beside stored table) ≤ 1
    → may_put table row.status ≡ true
may_be_put Changeable table row few = may_by (is_validating row.status) table.changeable table.volatile few
may_be_put Volatile table row few =
    let turned : weight row + count table.changeable + count table.volatile ≤ 1 = omega (arith, few) in
    may_by (is_validating row.status) table.changeable table.volatile turned

-- ---- rows, one after another

-- a row that can be put where it was
pub record IsStored (services : Services) (row : RowModel) : Type 0 where
  pub empty : IsEmptyWhereUnused row
  pub good : is_not_used row.status ≡ false → value_fault services row ≡ None

services_had : (stored : Stored) (s : SignState) (rows : List RowModel) → (having stored s rows).table.services ≡ s.table.services
services_had Changeable s rows = refl
services_had Volatile s rows = refl

beside_had : (stored : Stored) (s : SignState) (rows : List RowModel) → beside stored (having stored s rows).table ≡ beside stored s.table
beside_had Changeable s rows = refl
beside_had Volatile s rows = refl

-- these rows stand behind others, for which there is room
record IsBehind (stored : Stored) (services : Services) (n : ℕ) (front rows : List RowModel) (s : SignState) : Type 0 where
  are : rows_in stored s.table ≡ front ++ replicate (length rows) unused
  number : n ≡ length front + 1
  has : s.table.services ≡ services
  one : count front + count rows + count (beside stored s.table) ≤ 1

-- all of these rows are put from there on
abbrev ComeBack : Stored → Services → List RowModel → Type 0
ComeBack stored services rows = (line n : ℕ) (front : List RowModel) (s : SignState) → IsBehind stored services n front rows s
    → with_rows stored line (used_rows n rows) s ≡ Ok (having stored s (front ++ rows))

longer : (front : List RowModel) (row : RowModel) → length (front ++ row ∷ []) ≡ length front + 1
longer front row = length-append front (row ∷ [])

-- the row after those is not used
next_unused : (stored : Stored) (services : Services) (n : ℕ) (front rows : List RowModel) (row : RowModel) (s : SignState) → row ≡ unused
    → IsBehind stored services n front (row ∷ rows) s → IsBehind stored services (n + 1) (front ++ row ∷ []) rows s
next_unused stored services n front rows row s empty is = record {
  are =
      is.are ∙ ap (λ x. front ++ x ∷ replicate (length rows) unused) (sym empty)
      ∙ sym (append_assoc front (row ∷ []) (replicate (length rows) unused));
  number = omega (arith, is.number, longer front row);
  has = is.has;
  one = omega (arith, is.one, count_one front row, count-cons row rows);
}

-- the row after those is put
next_used : (stored : Stored) (services : Services) (n : ℕ) (front rows : List RowModel) (row : RowModel) (s : SignState)
    → IsBehind stored services n front (row ∷ rows) s
    → IsBehind stored services (n + 1) (front ++ row ∷ []) rows (having stored s (front ++ row ∷ replicate (length rows) unused))
next_used stored services n front rows row s is =
    let now = front ++ row ∷ replicate (length rows) unused in
    let same : count (beside stored (having stored s now).table) ≡ count (beside stored s.table) = ap count (beside_had stored s now) in
    record {
      are = rows_had stored s now ∙ sym (append_assoc front (row ∷ []) (replicate (length rows) unused));
      number = omega (arith, is.number, longer front row);
      has = services_had stored s now ∙ is.has;
      one = omega (arith, is.one, same, count_one front row, count-cons row rows);
    }

may_come : (stored : Stored) (services : Services) (n : ℕ) (front rows : List RowModel) (row : RowModel) (s : SignState)
    → IsBehind stored services n front (row ∷ rows) s → may_put s.table row.status ≡ true
may_come stored services n front rows row s is =
    let free = replicate (length rows) unused in
    let all : count (rows_in stored s.table) ≡ count (front ++ unused ∷ free) = ap count is.are in
    let few : weight row + count (rows_in stored s.table) + count (beside stored s.table) ≤ 1 =
    let idle : weight unused ≡ 0 = refl in
    omega (arith, is.one, all, idle, count_append front (unused ∷ free), count-cons unused free, none_unused (length rows), count-cons row rows) in
    may_be_put stored s.table row few

row_comes : (free : Bool) (stored : Stored) (services : Services) (line n : ℕ) (front rows : List RowModel) (row : RowModel) (s : SignState)
    → is_not_used row.status ≡ free → IsStored services row → ComeBack stored services rows → IsBehind stored services n front (row ∷ rows) s
    → with_rows stored line (cond free (used_rows (n + 1) rows) (used_row n row ∷ used_rows (n + 1) rows)) s ≡ Ok (having stored s (front ++ row ∷ rows))
row_comes true stored services line n front rows row s e can more is =
    more line (n + 1) (front ++ row ∷ []) s (next_unused stored services n front rows row s (can.empty e) is)
    ∙ ap (λ rows. Ok (having stored s rows)) (append_assoc front (row ∷ []) rows)
row_comes false stored services line n front rows row s e can more is =
    let now = front ++ row ∷ replicate (length rows) unused in
    let good : value_fault s.table.services row ≡ None = ap (λ services. value_fault services row) is.has ∙ can.good e in
    ap (λ r. and_then r (with_rows stored (line + 1) (used_rows (n + 1) rows)))
    (row_back stored line n row s front (replicate (length rows) unused) is.are is.number good (may_come stored services n front rows row s is))
    ∙ more (line + 1) (n + 1) (front ++ row ∷ []) (having stored s now) (next_used stored services n front rows row s is)
    ∙ ap Ok (had_again stored s now ((front ++ row ∷ []) ++ rows))
    ∙ ap (λ rows. Ok (having stored s rows)) (append_assoc front (row ∷ []) rows)

rows_back : (stored : Stored) (services : Services) (rows : List RowModel) → AllByRecursion (IsStored services) rows → ComeBack stored services rows
rows_back stored services [] all = λ line n front s is. ap Ok (same_rows stored s ∙ ap (having stored s) is.are)
rows_back stored services (row ∷ rows) all = λ line n front s is.
    row_comes (is_not_used row.status) stored services line n front rows row s refl all.0 (rows_back stored services rows all.1) is

-- ---- the whole

-- what a sign has beside its rows and what it is made with
abbrev pub parts_in : SignState → SignParts
parts_in s = record {
  settings = s.settings;
  silent_seconds = s.silent_seconds;
  shown = s.shown;
  shown_at_power_loss = s.shown_at_power_loss;
  reports = s.reports;
  powered = s.powered;
}

-- a sign whose rows and parts can be taken up
pub record CanBeTakenUp (s : SignState) : Type 0 where
  pub one : IsTable s.table
  pub changeable : AllByRecursion (IsStored s.table.services) s.table.changeable
  pub volatile : AllByRecursion (IsStored s.table.services) s.table.volatile
  pub shown : IsMessageId s.shown.source
  pub kept : IsMessageId s.shown_at_power_loss.source
  pub parts : parts_fault s (parts_in s) ≡ None

-- its parts are those that its fields say
parts_again : AreIdsOfOctets → (s : SignState) → IsMessageId s.shown.source → IsMessageId s.shown_at_power_loss.source
    → parts_of s.table.order (fields_of s) ≡ parts_in s
parts_again ids s shown kept =
    let other = id_of s.table.order (octets_of_id s.table.order s.shown_at_power_loss.source) in
    ap (λ source. record (parts_in s) {
      shown = record s.shown { source = source };
      shown_at_power_loss = record s.shown_at_power_loss { source = other };
    }) (ids s.table.order s.shown.source shown)
    ∙ ap (λ source. record (parts_in s) { shown_at_power_loss = record s.shown_at_power_loss { source = source } })
    (ids s.table.order s.shown_at_power_loss.source kept)

-- the table with no row in use that can be changed
abbrev emptied : TableModel → TableModel
emptied table = record table {
  changeable = replicate (length table.changeable) unused;
  volatile = replicate (length table.volatile) unused;
}

-- a sign that is made as another, with its table emptied
abbrev anew : SignState → SignState → SignState
anew base s = record base { config = s.config; table = emptied s.table }

anew_is : (base s : SignState) → AreMadeAlike base s → base.table.changeable ≡ replicate (length base.table.changeable) unused
    → base.table.volatile ≡ replicate (length base.table.volatile) unused → base ≡ anew base s
anew_is base s alike changeable volatile =
    ap (λ config. record base { config = config }) alike.config
    ∙ ap (λ table. record base { config = s.config; table = table })
    (table_apart base.table (emptied s.table) alike.permanent (changeable ∙ ap (λ n. replicate n unused) alike.changeable)
    (volatile ∙ ap (λ n. replicate n unused) alike.volatile) alike.services alike.order)

rest_back : AreIdsOfOctets → (base s : SignState) → CanBeTakenUp s → with_rest (fields_of s) (record base { config = s.config; table = s.table }) ≡ Ok s
rest_back ids base s can =
    let last : SignState = record base { config = s.config; table = s.table } in
    ap (λ parts. unless_misfit (with_parts last parts) (option_map (part_misfit (fields_of s)) (parts_fault last parts)))
    (parts_again ids s can.shown can.kept)
    ∙ ap (λ o. unless_misfit s (option_map (part_misfit (fields_of s)) o)) can.parts

back_anew : AreIdsOfOctets → (base s : SignState) → CanBeTakenUp s → with_fields (fields_of s) (anew base s) ≡ Ok s
unfolding with_fields
back_anew ids base s can =
    let f = fields_of s in
    let first = anew base s in
    let mid = having Changeable first s.table.changeable in
    let few : count [] + count s.table.changeable + count (replicate (length s.table.volatile) unused) ≤ 1 =
    let none : count [] ≡ 0 = refl in omega (arith, none, can.one.one, none_unused (length s.table.volatile)) in
    let one : count [] + count s.table.volatile + count s.table.changeable ≤ 1 =
    let none : count [] ≡ 0 = refl in omega (arith, none, can.one.one) in
    ap (λ r. and_then r (λ s. and_then (with_rows Volatile (2 + length f.changeable) f.volatile s) (with_rest f)))
    (rows_back Changeable s.table.services s.table.changeable can.changeable 2 1 [] first (record { are = refl; number = refl; has = refl; one = few }))
    ∙ ap (λ r. and_then r (with_rest f))
    (rows_back Volatile s.table.services s.table.volatile can.volatile (2 + length f.changeable) 1 [] mid (record { are = refl; number = refl; has = refl; one = one }))
    ∙ rest_back ids base s can

-- The fields of a sign make that sign of one that is made alike.
pub taken_back : AreIdsOfOctets → (base s : SignState) → AreMadeAlike base s → base.table.changeable ≡ replicate (length base.table.changeable) unused
    → base.table.volatile ≡ replicate (length base.table.volatile) unused → CanBeTakenUp s → with_fields (fields_of s) base ≡ Ok s
taken_back ids base s alike changeable volatile can =
    ap (with_fields (fields_of s)) (anew_is base s alike changeable volatile) ∙ back_anew ids base s can
