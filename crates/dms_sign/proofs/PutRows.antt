-- What is known of texts, once a row of a saved state was put.
use Rattle.std.proofs.Common.{◌≡◌, ℕ, zero, suc, ◌+◌, ◌-◌, ◌<◌, ◌==◌, Bool, true, false, cond, List, [], ◌∷◌, get_or, set, slice_set, length, Option, Some, None, slice_get, refl, ap, sym, ◌∙◌, arith}
use Rattle.std.specs.Prelude.{option_map, option_and_then}
use Rattle.std.proofs.lemmas.Bool.{eqb-true, eqb-false}
use Rattle.std.proofs.lemmas.List.{get_or-set_other}
use Rattle.std.proofs.lemmas.Option.{slice_get_within, same_Some}
use Rattle.dms_face.specs.declared.defaults.Defaults.{Defaults}
use Rattle.dms_face.specs.Face.{FaceModel}
use Rattle.dms_face.specs.Layout.{under}
use Rattle.dms_face.specs.Fit.{IsGood}
use Rattle.dms_codes.specs.declared.row_id.RowId.{RowId}
use Rattle.dms_codes.specs.declared.memory.Memory.{Memory}
use Rattle.dms_codes.specs.declared.memory.Memory.TheVariants as memories
use Rattle.dms_codes.specs.declared.status.Status.TheVariants.{Valid}
use Rattle.dms_codes.specs.Memory.{memory_of}
use Rattle.dms_codes.specs.Status.{is_not_used}
use Rattle.dms_table.specs.declared.writable.Writable.{Writable}
use Rattle.dms_table.specs.declared.writable.Writable.TheVariants.{Changeable, Volatile}
use Rattle.dms_table.specs.Rows.{RowModel, TableModel, rows_of, numbered, changed_in, changed_by, changed}
use Rattle.dms_table.specs.Validation.{HasGoodTextWhereValid}
use Rattle.dms_table.specs.PlaceView.{writable_by, writable, of_type}
use Rattle.dms_table.specs.SavedRows.{put_over}
use Rattle.dms_table.proofs.Memories.{rows_of_type, other_rows}
use Rattle.dms_table.proofs.Writables.{with_type}
use Rattle.dms_sign.specs.declared.known_texts.KnownTexts.{KnownTexts}
use Rattle.dms_sign.specs.KnownTexts.{first_entry, kept_in, forgotten_in, forgotten, AreKnown}
use Rattle.dms_sign.proofs.KnownTexts.{HasEntries, set_elsewhere, not_zero}

-- ---- the rows, once one was put

put_is : (free : Bool) (put : RowModel) (rows more : List RowModel) (i : ℕ) → option_map (slice_set rows i) (cond free (Some put) None) ≡ Some more
    → set rows i put ≡ more
put_is true put rows more i e = same_Some (set rows i put) more e
put_is false put rows more i e = absurd (cc)

put_there : (o : Option RowModel) (put : RowModel) (rows more : List RowModel) (i : ℕ)
    → option_and_then (λ row. option_map (slice_set rows i) (put_over put row)) o ≡ Some more → set rows i put ≡ more
put_there None put rows more i e = absurd (cc)
put_there (Some row) put rows more i e = put_is (is_not_used row.status) put rows more i e

put_set : (put : RowModel) (rows more : List RowModel) (number : ℕ) → changed_in rows number (put_over put) ≡ Some more → set rows (number - 1) put ≡ more
put_set put rows more number e = put_there (cond (number == 0) None (slice_get rows (number - 1))) put rows more (number - 1) e

put_within : (b : Bool) (o : Option RowModel) (put : RowModel) (rows more : List RowModel) (i : ℕ) → slice_get rows i ≡ o
    → option_and_then (λ row. option_map (slice_set rows i) (put_over put row)) (cond b None o) ≡ Some more → i < length rows
put_within true o put rows more i there e = absurd (cc)
put_within false None put rows more i there e = absurd (cc)
put_within false (Some row) put rows more i there e = slice_get_within rows i row there

-- a row of this type of memory was put
record IsPut (kind : Writable) (put : RowModel) (number : ℕ) (old new : TableModel) : Type 0 where
  more : List RowModel
  within : number - 1 < length (of_type kind old.changeable old.volatile)
  rows : set (of_type kind old.changeable old.volatile) (number - 1) put ≡ more
  is : with_type old kind more ≡ new

in_changeable : (put : RowModel) (number : ℕ) (old new : TableModel) (o : Option (List RowModel)) → changed_in old.changeable number (put_over put) ≡ o
    → option_map (λ (rows : List RowModel). record old { changeable = rows }) o ≡ Some new → IsPut Changeable put number old new
in_changeable put number old new None found e = absurd (cc)
in_changeable put number old new (Some more) found e =
    record { more = more; within = put_within (number == 0) (slice_get old.changeable (number - 1)) put old.changeable more (number - 1) refl found; rows = put_set put old.changeable more number found; is = same_Some (record old { changeable = more }) new e }

in_volatile : (put : RowModel) (number : ℕ) (old new : TableModel) (o : Option (List RowModel)) → changed_in old.volatile number (put_over put) ≡ o
    → option_map (λ (rows : List RowModel). record old { volatile = rows }) o ≡ Some new → IsPut Volatile put number old new
in_volatile put number old new None found e = absurd (cc)
in_volatile put number old new (Some more) found e =
    record { more = more; within = put_within (number == 0) (slice_get old.volatile (number - 1)) put old.volatile more (number - 1) refl found; rows = put_set put old.volatile more number found; is = same_Some (record old { volatile = more }) new e }

put_by : (memory : Option Memory) (kind : Writable) (put : RowModel) (number : ℕ) (old new : TableModel) → writable_by memory ≡ Some kind
    → changed_by old memory number (put_over put) ≡ Some new → IsPut kind put number old new
put_by (Some memories.Changeable) Changeable put number old new is e = in_changeable put number old new (changed_in old.changeable number (put_over put)) refl e
put_by (Some memories.Volatile) Volatile put number old new is e = in_volatile put number old new (changed_in old.volatile number (put_over put)) refl e
put_by (Some memories.Changeable) Volatile put number old new is e = absurd (cc)
put_by (Some memories.Volatile) Changeable put number old new is e = absurd (cc)
put_by (Some memories.Permanent) kind put number old new is e = absurd (cc)
put_by (Some memories.CurrentBuffer) kind put number old new is e = absurd (cc)
put_by (Some memories.Blank) kind put number old new is e = absurd (cc)
put_by None kind put number old new is e = absurd (cc)

none_by : (memory : Option Memory) (put : RowModel) (number : ℕ) (old new : TableModel) → writable_by memory ≡ None
    → changed_by old memory number (put_over put) ≡ Some new → ⊥
none_by memory put number old new is e = grind arith

-- ---- what is known of a row of the same type, and of another

unknown_at : (entries : List (Option Defaults)) (i : ℕ) (kept : Defaults) → get_or (set entries i None) i None ≡ Some kept → ⊥
unknown_at [] i kept e = cc
unknown_at (x ∷ xs) zero kept e = cc
unknown_at (x ∷ xs) (suc i) kept e = unknown_at xs i kept e

-- what is known of a row, from its entry and its place
abbrev IsGoodAt : FaceModel → Defaults → List (Option Defaults) → List RowModel → ℕ → ℕ → Type 0
IsGoodAt face kept entries rows entry k =
    (row : RowModel) → get_or entries entry None ≡ Some kept → slice_get rows k ≡ Some row → row.status ≡ Valid → IsGood (under face kept) row.text

of_same : (is_place : Bool) (face : FaceModel) (kept : Defaults) (entries : List (Option Defaults)) (rows : List RowModel) (put row : RowModel) (start place k : ℕ)
    → (k == place) ≡ is_place → IsGoodAt face kept entries rows (start + k) k → get_or (set entries (start + place) None) (start + k) None ≡ Some kept
    → slice_get (set rows place put) k ≡ Some row → row.status ≡ Valid → IsGood (under face kept) row.text
of_same true face kept entries rows put row start place k is good entry there valid =
    absurd (unknown_at entries (start + place) kept (ap (λ k. get_or (set entries (start + place) None) (start + k) None) (sym (eqb-true k place is)) ∙ entry))
of_same false face kept entries rows put row start place k is good entry there valid =
    let other : k ≡ place → ⊥ = eqb-false k place is in
    let elsewhere : start + k ≡ start + place → ⊥ = λ e. other (omega (arith, e)) in
    good row (sym (get_or-set_other entries (start + place) (start + k) None None elsewhere) ∙ entry)
    (sym (set_elsewhere rows place k put other) ∙ there) valid

of_other : (face : FaceModel) (kept : Defaults) (entries : List (Option Defaults)) (rows : List RowModel) (row : RowModel) (forgot entry k : ℕ)
    → (entry ≡ forgot → ⊥) → IsGoodAt face kept entries rows entry k → get_or (set entries forgot None) entry None ≡ Some kept
    → slice_get rows k ≡ Some row → row.status ≡ Valid → IsGood (under face kept) row.text
of_other face kept entries rows row forgot entry k other good e there valid =
    good row (sym (get_or-set_other entries forgot entry None None other) ∙ e) there valid

-- the row at this index of a type of memory, once one of this type or of the other was put
row_of_types : (one other : Writable) (face : FaceModel) (known : KnownTexts) (kept : Defaults) (table : TableModel) (put row : RowModel) (place k : ℕ)
    → HasEntries known table → place < length (of_type other table.changeable table.volatile)
    → IsGoodAt face kept known.rows (of_type one table.changeable table.volatile) (first_entry one + k) k
    → get_or (set known.rows (first_entry other + place) None) (first_entry one + k) None ≡ Some kept
    → slice_get (of_type one (of_type other (set (of_type other table.changeable table.volatile) place put) table.changeable) (of_type other table.volatile (set (of_type other table.changeable table.volatile) place put))) k ≡ Some row
    → row.status ≡ Valid → IsGood (under face kept) row.text
row_of_types Changeable Changeable face known kept table put row place k has within good entry there valid =
    of_same (k == place) face kept known.rows table.changeable put row 0 place k refl good entry there valid
row_of_types Changeable Volatile face known kept table put row place k has within good entry there valid =
    of_other face kept known.rows table.changeable row (64 + place) (0 + k) k
    (λ same. omega (arith, same, slice_get_within table.changeable k row there, has.changeable)) good entry there valid
row_of_types Volatile Changeable face known kept table put row place k has within good entry there valid =
    of_other face kept known.rows table.volatile row (0 + place) (64 + k) k
    (λ same. omega (arith, same, within, has.changeable)) good entry there valid
row_of_types Volatile Volatile face known kept table put row place k has within good entry there valid =
    of_same (k == place) face kept known.rows table.volatile put row 64 place k refl good entry there valid

-- the table, once a row was put
table_put : (kind : Writable) (put : RowModel) (number : ℕ) (old new : TableModel) (is : IsPut kind put number old new)
    → with_type old kind (set (of_type kind old.changeable old.volatile) (number - 1) put) ≡ new
table_put kind put number old new is = ap (with_type old kind) is.rows ∙ is.is

known_of_types : (o : Option Writable) (kind : Writable) (known : KnownTexts) (face : FaceModel) (put : RowModel) (old new : TableModel) (at memory number : ℕ) (kept : Defaults)
    → writable memory ≡ o → HasEntries known old → at - 1 < length (of_type kind old.changeable old.volatile)
    → with_type old kind (set (of_type kind old.changeable old.volatile) (at - 1) put) ≡ new
    → kept_in (forgotten_in known (Some kind) at) o number ≡ Some kept
    → (kept_in known o number ≡ Some kept → HasGoodTextWhereValid (under face kept) old memory number) → HasGoodTextWhereValid (under face kept) new memory number
known_of_types None kind known face put old new at memory number kept is has within made entry good = λ row there valid.
    good entry row (ap (λ (rows : List RowModel). numbered rows number) (other_rows old new memory is (ap (λ (t : TableModel). t.permanent) made)) ∙ there) valid
known_of_types (Some one) kind known face put old new at memory number kept is has within made entry good = λ row there valid.
    let after : TableModel = with_type old kind (set (of_type kind old.changeable old.volatile) (at - 1) put) in
    let seen = not_zero (number == 0) (slice_get (of_type one after.changeable after.volatile) (number - 1)) row
    (ap (λ (rows : List RowModel). numbered rows number) (sym (rows_of_type after memory one is))
    ∙ ap (λ (t : TableModel). numbered (rows_of t memory) number) made ∙ there) in
    row_of_types one kind face known kept old put row (at - 1) (number - 1) has within
    (λ row entry e valid. good entry row (ap (λ (rows : List RowModel). numbered rows number) (rows_of_type old memory one is)
    ∙ ap (λ b. cond b None (slice_get (of_type one old.changeable old.volatile) (number - 1))) seen.0 ∙ e) valid)
    entry seen.1 valid

known_by : (o : Option Writable) (known : KnownTexts) (face : FaceModel) (put : RowModel) (old new : TableModel) (id : RowId) → writable id.memory ≡ o
    → HasEntries known old → changed old id (put_over put) ≡ Some new → AreKnown known face old → AreKnown (forgotten_in known o id.number) face new
known_by None known face put old new id is has e good = absurd (none_by (memory_of id.memory) put id.number old new is e)
known_by (Some kind) known face put old new id is has e good = λ memory number kept entry.
    let found = put_by (memory_of id.memory) kind put id.number old new is e in
    known_of_types (writable memory) kind known face put old new id.number memory number kept refl has found.within (table_put kind put id.number old new found) entry
    (good memory number kept)

-- Nothing is known of a row that was put.
pub known_put : (known : KnownTexts) (face : FaceModel) (put : RowModel) (old new : TableModel) (id : RowId) → HasEntries known old
    → changed old id (put_over put) ≡ Some new → AreKnown known face old → AreKnown (forgotten known id.memory id.number) face new
known_put known face put old new id has e good = known_by (writable id.memory) known face put old new id refl has e good
