-- The rows of a type of memory, one by one.
use Rattle.std.proofs.Common.{◌≡◌, ℕ, ◌+◌, ◌-◌, ◌<◌, ◌==◌, Bool, true, false, cond, List, [], ◌∷◌, ◌++◌, length, take, get_or, slice_get, flat_map, Some, None, option_map, refl, sym, ap, ◌∙◌, subst, arith}
use Rattle.std.specs.List.{enumerate_from}
use Rattle.std.proofs.lemmas.Bool.{eqb-true}
use Rattle.std.proofs.lemmas.List.{flat_map_more}
use Rattle.std.proofs.lemmas.Option.{slice_get-get_or, same_Some}
use Rattle.dms_text_filling.specs.Filling.{Puts}
use Rattle.dms_text_filling.proofs.Parts.{two}
use Rattle.dms_face.proofs.Lists.{numbered_more}
use Rattle.dms_codes.specs.Memory.{blank_memory}
use Rattle.dms_codes.specs.Status.{is_not_used}
use Rattle.dms_sign_state.specs.Fields.{UsedRow}
use Rattle.dms_sign_state.specs.FieldsText.{row_line, row_lines}
use Rattle.dms_sign_state.specs.StateText.{used_row, used_rows, row_text, rows_text}
use Rattle.dms_table.specs.Rows.{RowModel, TableModel, RowReading, rows_of, numbered, row_read, reading, blank_reading, blank_at}

-- the text of one row more
pub row_more : {A : Type 0} (text : ℕ × A → List ℕ) (xs : List A) (n : ℕ) (x : A) (from now next : ℕ) (before written last : List ℕ) → n < length xs
    → x ≡ get_or xs n x → Puts (flat_map text (enumerate_from 1 (take n xs))) from before now written → Puts (text (n + 1, x)) now written next last
    → Puts (flat_map text (enumerate_from 1 (take (n + 1) xs))) from before next last
row_more text xs n x from now next before written last less is so_far more =
    subst (λ rows. Puts rows from before next last)
    (flat_map_more text [] (enumerate_from 1 (take n xs)) (n + 1, x)
    ∙ ap (λ y. flat_map text (enumerate_from 1 (take n xs) ++ (n + 1, y) ∷ [])) is
    ∙ ap (λ xs. flat_map text xs) (numbered_more xs n x less))
    (two so_far more)

-- where a branch ends
pub reached : {octets before after last : List ℕ} {from to end : ℕ} → end ≡ to → last ≡ after → Puts octets from before to after
    → Puts octets from before end last
reached {octets} {before} {after} {last} {from} {to} {end} one other puts =
    subst (λ n. Puts octets from before n last) (sym one) (subst (λ xs. Puts octets from before to xs) (sym other) puts)

-- ---- what is read of a row

numbered_by : (none : Bool) (rows : List RowModel) (n index : ℕ) (other : RowModel) → (n == 0) ≡ none → n ≡ index + 1 → index < length rows
    → cond none None (slice_get rows (n - 1)) ≡ Some (get_or rows index other)
numbered_by true rows n index other is number less = let zero_is : n ≡ 0 = eqb-true n 0 is in absurd (omega (arith, zero_is, number))
numbered_by false rows n index other is number less =
    let here : n - 1 ≡ index = omega (arith, number) in
    ap (slice_get rows) here ∙ slice_get-get_or rows index other less

-- the row at an index has the number after it
read_at : (table : TableModel) (kind index : ℕ) (other : RowModel) → (kind == blank_memory) ≡ false → index < length (rows_of table kind)
    → row_read table (record { memory = kind; number = index + 1 }) ≡ Some (reading (get_or (rows_of table kind) index other))
read_at table kind index other stored less =
    ap (λ is. cond is (option_map blank_reading (blank_at (index + 1))) (option_map reading (numbered (rows_of table kind) (index + 1)))) stored
    ∙ ap (option_map reading) (numbered_by (index + 1 == 0) (rows_of table kind) (index + 1) index other refl refl less)

pub row_read_at : (table : TableModel) (kind index : ℕ) (view : RowReading) → (kind == blank_memory) ≡ false → index < length (rows_of table kind)
    → Some view ≡ row_read table (record { memory = kind; number = index + 1 }) → view.row ≡ get_or (rows_of table kind) index view.row
row_read_at table kind index view stored less is =
    ap (λ (reading : RowReading). reading.row) (same_Some view (reading (get_or (rows_of table kind) index view.row)) (is ∙ read_at table kind index view.row stored less))

-- there is such a row
pub no_row_missing : (table : TableModel) (kind index : ℕ) (other : RowModel) → (kind == blank_memory) ≡ false → index < length (rows_of table kind)
    → None ≡ row_read table (record { memory = kind; number = index + 1 }) → ⊥
no_row_missing table kind index other stored less is = let no = is ∙ read_at table kind index other stored less in cc

-- ---- the rows that are used

used_after : (name : List ℕ) (number : ℕ) (rows : List RowModel) → flat_map (row_text name) (enumerate_from number rows) ≡ row_lines name (used_rows number rows)
used_after name number [] = refl
used_after name number (row ∷ rows) = chosen (is_not_used row.status) (row_line name (used_row number row)) (used_row number row) (used_rows (number + 1) rows) refl (used_after name (number + 1) rows)
  where
    chosen : (unused : Bool) (line : List ℕ) (one : UsedRow) (others : List UsedRow) {written : List ℕ} → line ≡ row_line name one → written ≡ row_lines name others
        → cond unused [] line ++ written ≡ row_lines name (cond unused others (one ∷ others))
    chosen true line one others is rest = rest
    chosen false line one others {written} is rest = ap (λ line. line ++ written) is ∙ ap (λ written. row_line name one ++ written) rest

pub used_lines : (name : List ℕ) (rows : List RowModel) → rows_text name rows ≡ row_lines name (used_rows 1 rows)
used_lines name rows = used_after name 1 rows
