-- The text of each valid row for which defaults are kept stays good under them.
use Rattle.std.proofs.Common.{◌≡◌, ℕ, zero, suc, ◌+◌, ◌-◌, ◌<◌, ◌≤◌, ◌==◌, Bool, true, false, cond, List, [], ◌∷◌, map, get_or, set, replicate, length, Option, Some, None, slice_get, All, refl, ap, sym, subst, ◌∙◌, arith}
use Rattle.std.specs.Prelude.{IfSome, option_map}
use Rattle.std.specs.Option.{option_copied}
use Rattle.std.specs.Borrow.{Bor}
use Rattle.std.proofs.lemmas.Bool.{eqb-true, eqb-false}
use Rattle.std.proofs.lemmas.List.{get_or-set_same, get_or-set_other}
use Rattle.std.proofs.lemmas.Option.{slice_get_within, get_or_from_slice_get, same_Some}
use Rattle.dms_face.specs.declared.defaults.Defaults.{Defaults}
use Rattle.dms_face.specs.Face.{FaceModel}
use Rattle.dms_face.specs.Layout.{under}
use Rattle.dms_face.specs.Fit.{IsGood}
use Rattle.dms_codes.specs.declared.status.Status.TheVariants.{Valid, Error}
use Rattle.dms_codes.specs.declared.memory.Memory.{Memory}
use Rattle.dms_codes.specs.declared.memory.Memory.TheVariants as memories
use Rattle.dms_codes.specs.Memory.{memory_of}
use Rattle.dms_table.specs.declared.row.Services.{Services}
use Rattle.dms_table.specs.declared.writable.RowPlace.{RowPlace}
use Rattle.dms_table.specs.declared.writable.Writable.{Writable}
use Rattle.dms_table.specs.declared.writable.Writable.TheVariants.{Changeable, Volatile}
use Rattle.dms_table.specs.Rows.{RowModel, TableModel, rows_by, rows_of, numbered, row_is_validating}
use Rattle.dms_table.specs.Validation.{verdict_of, passes, settled_row, settled, IsShowable, HasGoodTextWhereValid}
use Rattle.dms_table.specs.PlaceView.{writable_by, writable, of_type, IsOnly, IsOnlyOfAll, IsPlaced}
use Rattle.dms_table.specs.Stock.{PermanentRowsAreGood}
use Rattle.dms_table.proofs.OneRow.{count, unsettled, any_validating}
use Rattle.dms_table.proofs.Places.{only_of_type, none_of_other, only_settled, only_is, set_there}
use Rattle.dms_table.proofs.Memories.{rows_of_type, other_rows}
use Rattle.dms_sign.specs.declared.known_texts.KnownTexts.{KnownTexts}
use Rattle.dms_sign.specs.KnownTexts.{first_entry, kept_in, kept_for, first_known, noted, AreKnown}
use Rattle.dms_sign.proofs.StepRows.{KeepsRows, good_where_passes}

-- ---- no row becomes valid

pub known_kept : (known : KnownTexts) (face : FaceModel) (old new : TableModel) → KeepsRows old new → AreKnown known face old → AreKnown known face new
known_kept known face old new keeps good = λ memory number defaults kept row there valid.
    good memory number defaults kept row (keeps.rows memory number row there valid) valid

-- ---- what a judge of a code is told

pub known_where_kept : (o : Option (Bor Defaults)) (known : KnownTexts) (face : FaceModel) (table : TableModel) (memory number : ℕ)
    → option_copied o ≡ kept_for known memory number → AreKnown known face table
    → IfSome o (λ defaults. HasGoodTextWhereValid (under face defaults.now) table memory number)
known_where_kept None known face table memory number is good = tt
known_where_kept (Some defaults) known face table memory number is good = good memory number defaults.now (sym is)

-- ---- a row is settled

pub set_elsewhere : (rows : List RowModel) (place k : ℕ) (new : RowModel) → (k ≡ place → ⊥) → slice_get (set rows place new) k ≡ slice_get rows k
set_elsewhere [] place k new other = refl
set_elsewhere (row ∷ rows) zero zero new other = absurd (other refl)
set_elsewhere (row ∷ rows) zero (suc k) new other = refl
set_elsewhere (row ∷ rows) (suc place) zero new other = refl
set_elsewhere (row ∷ rows) (suc place) (suc k) new other = set_elsewhere rows place k new (λ e. other (ap suc e))

settled_by : (face : FaceModel) (validating passed : Bool) (old row : RowModel) → validating ≡ true → (passed ≡ true → IsGood face old.text)
    → cond validating (record old { status = cond passed Valid Error }) old ≡ row → row.status ≡ Valid → IsGood face row.text
settled_by face validating passed old row is good e valid = grind arith

-- the row at a place was settled under these defaults
place_settled : (is_place : Bool) (services : Services) (face : FaceModel) (defaults kept : Defaults) (entries : List (Option Defaults)) (start : ℕ) (rows : List RowModel)
    (place k : ℕ) (old row : RowModel) → (k == place) ≡ is_place → IsOnly place rows → slice_get rows place ≡ Some old → start + place < length entries
    → get_or (set entries (start + place) (Some defaults)) (start + k) None ≡ Some kept
    → ((row : RowModel) → get_or entries (start + k) None ≡ Some kept → slice_get rows k ≡ Some row → row.status ≡ Valid → IsGood (under face kept) row.text)
    → slice_get (map (settled_row services (under face defaults)) rows) k ≡ Some row → row.status ≡ Valid
    → IsGood (under face kept) row.text
place_settled true services face defaults kept entries start rows place k old row is only there room entry good e valid =
    let face' : FaceModel = under face defaults in
    let at : k ≡ place = eqb-true k place is in
    let got : slice_get (map (settled_row services face') rows) place ≡ Some row =
    ap (λ k. slice_get (map (settled_row services face') rows) k) (sym at) ∙ e in
    let new : settled_row services face' old ≡ row = same_Some (settled_row services face' old) row
    (sym (set_there rows place old (settled_row services face' old) there)
    ∙ ap (λ (rows : List RowModel). slice_get rows place) (only_settled services face' rows place old only there) ∙ got) in
    let noted : get_or (set entries (start + place) (Some defaults)) (start + k) None ≡ Some defaults =
    ap (λ k. get_or (set entries (start + place) (Some defaults)) (start + k) None) at ∙ get_or-set_same entries (start + place) (Some defaults) None room in
    subst (λ (d : Defaults). IsGood (under face d) row.text) (same_Some defaults kept (sym noted ∙ entry))
    (settled_by face' (row_is_validating old) (passes (verdict_of services face' old)) old row (only_is rows place old only there)
    (good_where_passes services face' old) new valid)
place_settled false services face defaults kept entries start rows place k old row is only there room entry good e valid =
    let face' : FaceModel = under face defaults in
    let other : k ≡ place → ⊥ = eqb-false k place is in
    let got : slice_get rows k ≡ Some row =
    sym (set_elsewhere rows place k (settled_row services face' old) other)
    ∙ ap (λ (rows : List RowModel). slice_get rows k) (only_settled services face' rows place old only there) ∙ e in
    let elsewhere : start + k ≡ start + place → ⊥ = λ e. other (omega (arith, e)) in
    good row (sym (get_or-set_other entries (start + place) (start + k) (Some defaults) None elsewhere) ∙ entry) got valid

is_none : option_map row_is_validating None ≡ Some true → ⊥
is_none e = cc

list_settled : (o : Option RowModel) (services : Services) (face : FaceModel) (defaults kept : Defaults) (entries : List (Option Defaults)) (start : ℕ) (rows : List RowModel)
    (place k : ℕ) (row : RowModel) → slice_get rows place ≡ o → IsOnly place rows → start + place < length entries
    → get_or (set entries (start + place) (Some defaults)) (start + k) None ≡ Some kept
    → ((row : RowModel) → get_or entries (start + k) None ≡ Some kept → slice_get rows k ≡ Some row → row.status ≡ Valid → IsGood (under face kept) row.text)
    → slice_get (map (settled_row services (under face defaults)) rows) k ≡ Some row → row.status ≡ Valid
    → IsGood (under face kept) row.text
list_settled None services face defaults kept entries start rows place k row there only room entry good e valid =
    absurd (is_none (ap (option_map row_is_validating) (sym there) ∙ only.there))
list_settled (Some old) services face defaults kept entries start rows place k row there only room entry good e valid =
    place_settled (k == place) services face defaults kept entries start rows place k old row refl only there room entry good e valid

-- no row of these was settled
list_still : (services : Services) (face : FaceModel) (rows : List RowModel) (k : ℕ) (row : RowModel) → count rows ≡ 0
    → slice_get (map (settled_row services face) rows) k ≡ Some row → slice_get rows k ≡ Some row
list_still services face rows k row none e = sym (ap (λ (rows : List RowModel). slice_get rows k) (unsettled services face rows (any_validating rows none))) ∙ e

-- the defaults of another row stay
other_entry : (entries : List (Option Defaults)) (defaults kept : Defaults) (place entry : ℕ) → (entry ≡ place → ⊥)
    → get_or (set entries place (Some defaults)) entry None ≡ Some kept → get_or entries entry None ≡ Some kept
other_entry entries defaults kept place entry other e = sym (get_or-set_other entries place entry (Some defaults) None other) ∙ e

-- there is an entry for each row that can be changed
pub record HasEntries (known : KnownTexts) (table : TableModel) : Type 0 where
  pub entries : length known.rows ≡ 80
  pub changeable : length table.changeable ≤ 64
  pub volatile : length table.volatile ≤ 16

pub only_within : (rows : List RowModel) (place : ℕ) → IsOnly place rows → place < length rows
only_within rows place only = grind (arith, slice_get, slice_get_within)

-- the row at this index of a type of memory, once one of this type or of the other is settled
row_settled : (memory other : Writable) (services : Services) (face : FaceModel) (known : KnownTexts) (defaults kept : Defaults) (table : TableModel)
    (index k : ℕ) (row : RowModel) → HasEntries known table
    → IsOnly index (of_type other table.changeable table.volatile) → count (of_type other table.volatile table.changeable) ≡ 0
    → get_or (set known.rows (first_entry other + index) (Some defaults)) (first_entry memory + k) None ≡ Some kept
    → ((row : RowModel) → get_or known.rows (first_entry memory + k) None ≡ Some kept → slice_get (of_type memory table.changeable table.volatile) k ≡ Some row → row.status ≡ Valid
    → IsGood (under face kept) row.text)
    → slice_get (of_type memory (map (settled_row services (under face defaults)) table.changeable) (map (settled_row services (under face defaults)) table.volatile)) k ≡ Some row
    → row.status ≡ Valid
    → IsGood (under face kept) row.text
row_settled Changeable Changeable services face known defaults kept table index k row has only none entry good e valid =
    list_settled (slice_get table.changeable index) services face defaults kept known.rows 0 table.changeable index k row refl only
    (omega (arith, only_within table.changeable index only, has.changeable, has.entries)) entry good e valid
row_settled Changeable Volatile services face known defaults kept table index k row has only none entry good e valid =
    let there : slice_get table.changeable k ≡ Some row = list_still services (under face defaults) table.changeable k row none e in
    good row (other_entry known.rows defaults kept (64 + index) (0 + k)
    (λ same. omega (arith, same, slice_get_within table.changeable k row there, has.changeable)) entry) there valid
row_settled Volatile Changeable services face known defaults kept table index k row has only none entry good e valid =
    let there : slice_get table.volatile k ≡ Some row = list_still services (under face defaults) table.volatile k row none e in
    good row (other_entry known.rows defaults kept (0 + index) (64 + k)
    (λ same. omega (arith, same, only_within table.changeable index only, has.changeable)) entry) there valid
row_settled Volatile Volatile services face known defaults kept table index k row has only none entry good e valid =
    list_settled (slice_get table.volatile index) services face defaults kept known.rows 64 table.volatile index k row refl only
    (omega (arith, only_within table.volatile index only, has.volatile, has.entries)) entry good e valid

pub not_zero : (b : Bool) (o : Option RowModel) (row : RowModel) → cond b None o ≡ Some row → (b ≡ false) × (o ≡ Some row)
not_zero b o row e = grind arith

known_of_type : (o : Option Writable) (place : RowPlace) (known : KnownTexts) (face : FaceModel) (defaults kept : Defaults) (old : TableModel) (memory number : ℕ)
    → writable memory ≡ o → HasEntries known old → IsOnlyOfAll place old.changeable old.volatile
    → kept_in (noted known place defaults) o number ≡ Some kept
    → (kept_in known o number ≡ Some kept → HasGoodTextWhereValid (under face kept) old memory number)
    → HasGoodTextWhereValid (under face kept) (settled (under face defaults) old) memory number
known_of_type None place known face defaults kept old memory number is has only entry good = λ row there valid.
    good entry row (ap (λ (rows : List RowModel). numbered rows number) (other_rows old (settled (under face defaults) old) memory is refl) ∙ there) valid
known_of_type (Some kind) place known face defaults kept old memory number is has only entry good = λ row there valid.
    let new : TableModel = settled (under face defaults) old in
    let at = not_zero (number == 0) (slice_get (of_type kind new.changeable new.volatile) (number - 1)) row
    (ap (λ (rows : List RowModel). numbered rows number) (sym (rows_of_type new memory kind is)) ∙ there) in
    row_settled kind place.memory old.services face known defaults kept old place.index (number - 1) row has (only_of_type place old.changeable old.volatile only)
    (none_of_other place old.changeable old.volatile only) entry
    (λ row entry e valid. good entry row (ap (λ (rows : List RowModel). numbered rows number) (rows_of_type old memory kind is)
    ∙ ap (λ b. cond b None (slice_get (of_type kind old.changeable old.volatile) (number - 1))) at.0 ∙ e) valid)
    at.1 valid

pub known_settled : (place : RowPlace) (known : KnownTexts) (face : FaceModel) (defaults : Defaults) (old : TableModel) → HasEntries known old
    → IsPlaced (Some place) old.changeable old.volatile → AreKnown known face old → AreKnown (noted known place defaults) face (settled (under face defaults) old)
known_settled place known face defaults old has placed good = λ memory number kept entry.
    known_of_type (writable memory) place known face defaults kept old memory number refl has placed entry (good memory number kept)

-- ---- a table as it is made

shown_at : (services : Services) (face : FaceModel) (rows : List RowModel) (k : ℕ) (row : RowModel) → All (IsShowable services face) rows
    → slice_get rows k ≡ Some row → IsGood face row.text
shown_at services face rows k row each e = grind (arith, get_or_from_slice_get, slice_get_within)

-- the rows of a type of memory that cannot be changed are permanent ones, or there are none
made_at : (memory : Option Memory) (face : FaceModel) (table : TableModel) (k : ℕ) (row : RowModel) → PermanentRowsAreGood face table
    → writable_by memory ≡ None → slice_get (rows_by table memory) k ≡ Some row → IsGood face row.text
made_at (Some memories.Permanent) face table k row good is e = shown_at table.services face table.permanent k row good e
made_at (Some memories.Changeable) face table k row good is e = absurd (cc)
made_at (Some memories.Volatile) face table k row good is e = absurd (cc)
made_at (Some memories.CurrentBuffer) face table k row good is e = absurd (cc)
made_at (Some memories.Blank) face table k row good is e = absurd (cc)
made_at None face table k row good is e = absurd (cc)

unknown : {A : Type 0} (n k : ℕ) (x : A) → get_or (replicate n None) k None ≡ Some x → ⊥
unknown zero k x e = cc
unknown (suc n) zero x e = cc
unknown (suc n) (suc k) x e = unknown n k x e

made_of_type : (o : Option Writable) (face : FaceModel) (table : TableModel) (defaults : Defaults) (memory number : ℕ) → writable memory ≡ o
    → PermanentRowsAreGood face table → kept_in (first_known face.defaults) o number ≡ Some defaults → HasGoodTextWhereValid (under face defaults) table memory number
made_of_type None face table defaults memory number is good kept = λ row there valid.
    subst (λ (d : Defaults). IsGood (under face d) row.text) (same_Some face.defaults defaults kept)
    (made_at (memory_of memory) face table (number - 1) row good is
    (not_zero (number == 0) (slice_get (rows_of table memory) (number - 1)) row there).1)
made_of_type (Some kind) face table defaults memory number is good kept = λ row there valid.
    absurd (unknown 80 (first_entry kind + (number - 1)) defaults kept)

-- The text of a permanent row alone is known.
pub known_made : (known : KnownTexts) (face : FaceModel) (table : TableModel) → known ≡ first_known face.defaults → PermanentRowsAreGood face table
    → AreKnown known face table
known_made known face table is good = λ memory number defaults kept.
    made_of_type (writable memory) face table defaults memory number refl good
    (ap (λ (known : KnownTexts). kept_for known memory number) (sym is) ∙ kept)
