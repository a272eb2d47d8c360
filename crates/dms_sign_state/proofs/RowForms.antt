-- The rows of a type of memory, one after the other.
use Rattle.std.proofs.Common.{◌≡◌, ℕ, zero, suc, ◌+◌, ◌-◌, ◌<◌, ◌≤◌, Bool, true, false, cond, List, [], ◌∷◌, ◌++◌, length, Result, Ok, Err, codes, refl, sym, ap, subst, ◌∙◌, append_assoc, append-nil, arith, inl, inr}
use Rattle.std.specs.Prelude.{nat_le}
use Rattle.std.proofs.lemmas.Bool.{cases_Bool, and_parts, and_from, and_right, leb-true, le-leb}
use Rattle.dms_codes.specs.declared.status.Status.TheVariants.{Modifying}
use Rattle.dms_sign_state.specs.declared.field.Stored.{Stored}
use Rattle.dms_sign_state.specs.declared.field.Stored.TheVariants.{Changeable, Volatile}
use Rattle.dms_sign_state.specs.declared.field.SignStateField.TheVariants as fields
use Rattle.dms_sign_state.specs.declared.field.SignFieldLack.{SignFieldLack}
use Rattle.dms_sign_state.specs.declared.field.UnreadSignField.{UnreadSignField}
use Rattle.dms_sign_state.specs.declared.field.UnreadSignField.TheVariants as unread
use Rattle.dms_sign_state.specs.Fields.{UsedRow, IsUsedRow, AreUsedRows}
use Rattle.dms_sign_state.specs.FieldsText.{row_line, row_lines}
use Rattle.dms_sign_state.specs.FieldFaults.{stored_name, most_rows}
use Rattle.dms_text_exact.specs.Fronts.{starts_with}
use Rattle.dms_sign_state.specs.WordReading.{◌>>=◌, Reader, Fails}
use Rattle.dms_sign_state.specs.FieldReading.{row_field, has_row, rows_at}
use Rattle.dms_sign_state.proofs.Forms.{bind_ok, bind_err, goes_on, ok_is}
use Rattle.dms_sign_state.proofs.LineForms.{row_read}
use Rattle.dms_sign_state.proofs.FieldForms.{Stops, Reads, Any, field_reads, stops_as}
use Rattle.dms_sign_state.proofs.SettingForms.{blank_message}

abbrev failed : {A : Type 0} → SignFieldLack → Result A SignFieldLack
failed lack = Err lack

abbrev Rows : Type 0
Rows = List UsedRow × List ℕ

-- no row of this type of memory follows
abbrev pub NoRow : Stored → List ℕ → Type 0
NoRow stored rest = starts_with (stored_name stored ++ codes " ") rest ≡ false

row_first : (stored : Stored) (row : UsedRow) (rest : List ℕ) → starts_with (stored_name stored ++ codes " ") (row_line (stored_name stored) row ++ rest) ≡ true
row_first Changeable row rest = refl
row_first Volatile row rest = refl

module _ (stored : Stored) where
  abbrev name : List ℕ
  name = stored_name stored

  abbrev most : ℕ
  most = most_rows stored

  abbrev one_row : ℕ → Reader UsedRow
  one_row least = row_field stored least

  abbrev others : ℕ → UsedRow × List ℕ → Result Rows SignFieldLack
  others more row = rows_at stored more (row.0.number + 1) row.1 >>= λ others. Ok (row.0 ∷ others.0, others.1)

  abbrev chosen : Bool → ℕ → ℕ → List ℕ → Result Rows SignFieldLack
  chosen test more least text = cond test (one_row least text >>= λ row. others more row) (Ok ([], text))

  chosen_is : (more least : ℕ) (text : List ℕ) → rows_at stored (suc more) least text ≡ chosen (has_row stored least text) more least text
  unfolding rows_at
  chosen_is more least text = refl

  one_reads : (least : ℕ) → least ≤ most → Reads (row_line name) (IsUsedRow least most) Any (one_row least)
  unfolding row_field
  one_reads least le =
      field_reads (fields.Row stored least) (row_read stored least)
      (record { number = least; status = Modifying; message = blank_message.0 }, ((omega arith, le), (refl, blank_message.1))) (λ t s. s) (λ t s. s)

  one_found : (least : ℕ) (text : List ℕ) (x : UsedRow × List ℕ) → one_row least text ≡ Ok x → IsUsedRow least most x.0 × (text ≡ row_line name x.0 ++ x.1)
  unfolding row_field
  one_found least text x e = (row_read stored least).found (record { wanted = fields.Row stored least; left = length text }) text x e

  one_only : (least : ℕ) (row : UsedRow) (rest : List ℕ) → IsUsedRow least most row → one_row least (row_line name row ++ rest) ≡ Ok (row, rest)
  unfolding row_field
  one_only least row rest good = (row_read stored least).only (record { wanted = fields.Row stored least; left = length (row_line name row ++ rest) }) row rest good

  abbrev Found : ℕ → List ℕ → Rows → Type 0
  Found least text x = AreUsedRows least most x.0 × (text ≡ row_lines name x.0 ++ x.1)

  rows_found : (more least : ℕ) (text : List ℕ) (x : Rows) → rows_at stored more least text ≡ Ok x → Found least text x
  unfolding rows_at
  rows_found zero least text x e = subst (λ x. Found least text x) (ok_is ([], text) x e) (tt, refl)
  rows_found (suc more) least text x e =
      elim (cases_Bool (has_row stored least text)) [
        | inl is ↦
            let read : chosen true more least text ≡ Ok x = ap (λ test. chosen test more least text) (sym is) ∙ e in
            let first = bind_ok (one_row least text) (λ row. others more row) x read in
            let rest = bind_ok (rows_at stored more (first.0.0.number + 1) first.0.1) (λ others. Ok (first.0.0 ∷ others.0, others.1)) x first.2 in
            let row = one_found least text first.0 first.1 in
            let ih = rows_found more (first.0.0.number + 1) first.0.1 rest.0 rest.1 in
            subst (λ x. Found least text x) (ok_is (first.0.0 ∷ rest.0.0, rest.0.1) x rest.2)
            ((row.0, ih.0), row.1 ∙ ap (λ rest. row_line name first.0.0 ++ rest) ih.1 ∙ sym (append_assoc (row_line name first.0.0) (row_lines name rest.0.0) rest.0.1))
        | inr not ↦
            let read : chosen false more least text ≡ Ok x = ap (λ test. chosen test more least text) (sym not) ∙ e in
            subst (λ x. Found least text x) (ok_is ([], text) x read) (tt, refl)
      ]

  rows_only : (more least : ℕ) (rows : List UsedRow) (rest : List ℕ) → most < least + more → AreUsedRows least most rows → NoRow stored rest
      → rows_at stored more least (row_lines name rows ++ rest) ≡ Ok (rows, rest)
  unfolding rows_at
  rows_only zero least [] rest bound good next = refl
  rows_only zero least (row ∷ rows) rest bound good next = absurd (omega (arith, bound, good.0.0.0, good.0.0.1))
  rows_only (suc more) least [] rest bound good next = ap (λ test. chosen test more least rest) (and_right (nat_le least most) (starts_with (name ++ codes " ") rest) next)
  rows_only (suc more) least (row ∷ rows) rest bound good next =
      let after = row_lines name rows ++ rest in
      let text = row_line name row ++ after in
      let is : has_row stored least text ≡ true = and_from (nat_le least most) (starts_with (name ++ codes " ") text) (le-leb least most (omega (arith, good.0.0.0, good.0.0.1))) (row_first stored row after) in
      let first : one_row least text ≡ Ok (row, after) = one_only least row after good.0 in
      ap (λ text. rows_at stored (suc more) least text) (append_assoc (row_line name row) (row_lines name rows) rest)
      ∙ chosen_is more least text
      ∙ ap (λ test. chosen test more least text) is
      ∙ goes_on (one_row least text) (λ row. others more row) (row, after) first
      ∙ goes_on (rows_at stored more (row.number + 1) after) (λ others. Ok (row ∷ others.0, others.1)) (rows, rest)
      (rows_only more (row.number + 1) rows rest (omega (arith, bound, good.0.0.0)) good.1 next)

  abbrev Stop : ℕ → List ℕ → SignFieldLack → Type 0
  Stop least text lack = Stops (row_lines name) (AreUsedRows least most) (NoRow stored) text lack

  first_stop : (least : ℕ) (text : List ℕ) (lack : SignFieldLack) → Stops (row_line name) (IsUsedRow least most) Any text lack → Stop least text lack
  first_stop least text lack stop =
      stops_as (row_lines name) (AreUsedRows least most) (NoRow stored) text lack stop λ more next.
      let on = stop.goes_on more tt in
      (on.0 ∷ [], (on.1, tt), on.2, on.3, ap (λ line. line ++ more) (append-nil (row_line name on.0)) ∙ on.4)

  later_stop : (least : ℕ) (text rest : List ℕ) (row : UsedRow) (lack : SignFieldLack) → IsUsedRow least most row → text ≡ row_line name row ++ rest → Stop (row.number + 1) rest lack → Stop least text lack
  later_stop least text rest row lack good is stop = record {
    before = row_line name row ++ stop.before;
    rest = stop.rest;
    parts = is ∙ ap (λ rest. row_line name row ++ rest) stop.parts ∙ sym (append_assoc (row_line name row) stop.before stop.rest);
    left = stop.left;
    lacks = stop.lacks;
    goes_on = λ more next.
        let on = stop.goes_on more next in
        (row ∷ on.0, (good, on.1), on.2, on.3, append_assoc (row_line name row) (row_lines name on.0) more ∙ ap (λ rest. row_line name row ++ rest) on.4 ∙ sym (append_assoc (row_line name row) stop.before on.2));
  }

  rows_stop : (more least : ℕ) (text : List ℕ) (lack : SignFieldLack) → rows_at stored more least text ≡ Err lack → Stop least text lack
  unfolding rows_at
  rows_stop zero least text lack e = absurd (let never : Ok ([], text) ≡ failed {A = Rows} lack = e in cc)
  rows_stop (suc more) least text lack e =
      elim (cases_Bool (has_row stored least text)) [
        | inl is ↦
            let read : chosen true more least text ≡ Err lack = ap (λ test. chosen test more least text) (sym is) ∙ e in
            let le : least ≤ most = leb-true least most (and_parts (nat_le least most) (starts_with (name ++ codes " ") text) is).0 in
            elim (bind_err (one_row least text) (λ row. others more row) lack read) [
              | inl first ↦ first_stop least text lack ((one_reads least le).stops text lack first)
              | inr x ↦
                  let row = (one_reads least le).found text x.0 x.1 in
                  elim (bind_err (rows_at stored more (x.0.0.number + 1) x.0.1) (λ others. Ok (x.0.0 ∷ others.0, others.1)) lack x.2) [
                    | inl later ↦ later_stop least text x.0.1 x.0.0 lack row.0 row.1 (rows_stop more (x.0.0.number + 1) x.0.1 lack later)
                    | inr y ↦ absurd (let never : Ok (x.0.0 ∷ y.0.0, y.0.1) ≡ failed {A = Rows} lack = y.2 in cc)
                  ]
            ]
        | inr not ↦ absurd (let never : Ok ([], text) ≡ failed {A = Rows} lack = ap (λ test. chosen test more least text) (sym not) ∙ e in cc)
      ]

  pub rows_reads : Reads (row_lines name) (AreUsedRows 1 most) (NoRow stored) (rows_at stored most 1)
  rows_reads = record {
    found = λ text x e. rows_found most 1 text x e;
    only = λ rows rest good next. rows_only most 1 rows rest (omega arith) good next;
    stops = λ text lack e. rows_stop most 1 text lack e;
    some = ([], tt);
  }

-- ---- as a loop reads them

-- what was read before, and what is still read
abbrev pub with_front : List UsedRow → Result Rows SignFieldLack → Result Rows SignFieldLack
with_front front read = read >>= λ x. Ok (front ++ x.0, x.1)

regroup : (front : List UsedRow) (row : UsedRow) (read : Result Rows SignFieldLack) → with_front front (read >>= λ x. Ok (row ∷ x.0, x.1)) ≡ with_front (front ++ row ∷ []) read
regroup front row (Ok x) = ap (λ (rows : List UsedRow). Ok (rows, x.1)) (sym (append_assoc front (row ∷ []) x.0))
regroup front row (Err lack) = refl

-- a row more
pub row_more : (stored : Stored) (front : List UsedRow) (count i least : ℕ) (text : List ℕ) (row : UsedRow) (after : List ℕ) (total : Result Rows SignFieldLack) → i < count
    → has_row stored least text ≡ true → row_field stored least text ≡ Ok (row, after)
    → with_front front (rows_at stored (count - i) least text) ≡ total → with_front (front ++ row ∷ []) (rows_at stored (count - (i + 1)) (row.number + 1) after) ≡ total
row_more stored front count i least text row after total less is read so_far =
    let more = count - (i + 1) in
    let k : count - i ≡ suc more = omega (arith, less) in
    sym (ap (λ k. with_front front (rows_at stored k least text)) k
    ∙ ap (λ rows. with_front front rows) (chosen_is stored more least text ∙ ap (λ test. chosen stored test more least text) is ∙ goes_on (one_row stored least text) (λ row. others stored more row) (row, after) read)
    ∙ regroup front row (rows_at stored more (row.number + 1) after))
    ∙ so_far

-- a row lacks
pub row_lacks : (stored : Stored) (error : UnreadSignField) (front : List UsedRow) (count i least : ℕ) (text : List ℕ) (total : Result Rows SignFieldLack) → i < count
    → has_row stored least text ≡ true → Fails error (row_field stored least text)
    → with_front front (rows_at stored (count - i) least text) ≡ total → Fails error total
row_lacks stored unread.Memory front count i least text total less is fails so_far = tt
row_lacks stored (unread.Lacks lack) front count i least text total less is fails so_far =
    let more = count - (i + 1) in
    let k : count - i ≡ suc more = omega (arith, less) in
    sym so_far ∙ ap (λ k. with_front front (rows_at stored k least text)) k
    ∙ ap (λ rows. with_front front rows) (chosen_is stored more least text ∙ ap (λ test. chosen stored test more least text) is ∙ ap (λ row. row >>= λ row. others stored more row) fails)

-- no row is next
pub no_row : (stored : Stored) (front : List UsedRow) (count i least : ℕ) (text : List ℕ) (total : Result Rows SignFieldLack) → i < count
    → has_row stored least text ≡ false → with_front front (rows_at stored (count - i) least text) ≡ total → total ≡ Ok (front, text)
no_row stored front count i least text total less not so_far =
    let more = count - (i + 1) in
    let k : count - i ≡ suc more = omega (arith, less) in
    sym so_far ∙ ap (λ k. with_front front (rows_at stored k least text)) k
    ∙ ap (λ rows. with_front front rows) (chosen_is stored more least text ∙ ap (λ test. chosen stored test more least text) not)
    ∙ ap (λ (rows : List UsedRow). Ok (rows, text)) (append-nil front)

-- all of them are read
pub all_rows : (stored : Stored) (front : List UsedRow) (count i least : ℕ) (text : List ℕ) (total : Result Rows SignFieldLack) → count ≤ i
    → with_front front (rows_at stored (count - i) least text) ≡ total → total ≡ Ok (front, text)
unfolding rows_at
all_rows stored front count i least text total le so_far =
    let k : count - i ≡ 0 = omega (arith, le) in
    sym so_far ∙ ap (λ k. with_front front (rows_at stored k least text)) k ∙ ap (λ (rows : List UsedRow). Ok (rows, text)) (append-nil front)
