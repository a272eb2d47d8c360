-- Each row that is valid after any events was good when it was settled.
use Rattle.std.proofs.Common.{◌≡◌, Option, ◌≢◌, ℕ, zero, suc, ◌-◌, ◌==◌, Bool, true, false, cond, List, [], ◌∷◌, length, replicate, Some, None, slice_get, refl, subst, arith}
use Rattle.std.specs.List.{list_all}
use Rattle.std.proofs.lemmas.Bool.{and_parts}
use Rattle.dms_face.specs.Face.{FaceModel}
use Rattle.dms_face.specs.Layout.{under}
use Rattle.dms_codes.specs.declared.status.Status.TheVariants.{Valid, Validating}
use Rattle.dms_table.specs.declared.row.Services.{Services}
use Rattle.dms_table.specs.Rows.{RowModel, TableModel, unused, rows_by, numbered}
use Rattle.dms_codes.specs.declared.memory.Memory.{Memory}
use Rattle.dms_codes.specs.declared.memory.Memory.TheVariants.{Permanent, Changeable, Volatile, CurrentBuffer, Blank}
use Rattle.dms_codes.specs.Memory.{permanent_memory, memory_of}
use Rattle.dms_table.specs.Validation.{IsShowable, CameToBeValid, was_valid, was_settled as came_settled}
use Rattle.dms_table.proofs.GoodRows.{showable}
use Rattle.dms_sign.proofs.StepRows.{good_where_passes}
use Rattle.dms_sign.specs.Construction.{row_may_stand}
use Rattle.dms_world.specs.Event.{EventModel}
use Rattle.dms_world.specs.World.{WorldModel, IsFresh, world_at}
use Rattle.dms_world.specs.Backed.{stored_row}
use Rattle.dms_world.specs.GoodRows.{CouldBeShown, WasGood, was_made, was_settled, ValidRowsWereGood}
use Rattle.dms_world.proofs.WorldSignSteps.{world_step}
use Rattle.dms_world.proofs.WorldSignSound.{IsSoundAt, sound_at}

abbrev pub GoodRowsAt : WorldModel → List EventModel → ℕ → Type 0
GoodRowsAt world events count =
    (memory number : ℕ) (row : RowModel) → stored_row (world_at world events count).sign.table memory number ≡ Some row → row.status ≡ Valid
    → WasGood world events count memory number row

-- ---- one event more

good_more : (world : WorldModel) (events : List EventModel) (count memory number : ℕ) (row : RowModel) → WasGood world events count memory number row
    → WasGood world events (suc count) memory number row
good_more world events count memory number row (was_made is could) = was_made is could
good_more world events count memory number row (was_settled is before less first then could) = was_settled is before (omega arith) first then could

-- what the sign has, and its face, are those of the start
could_be : (world : WorldModel) (events : List EventModel) (count : ℕ) (row : RowModel) → IsSoundAt world events count
    → IsShowable (world_at world events count).sign.table.services (under (world_at world events count).sign.config.face (world_at world events count).sign.settings.defaults) row
    → CouldBeShown world (world_at world events count).sign.settings.defaults row
could_be world events count row sound can = grind arith

is_changed : (old new : TableModel) (memory number : ℕ) (row : RowModel) → new.permanent ≡ old.permanent → row.status ≡ Valid
    → stored_row old memory number ≡ Some (record row { status = Validating }) → stored_row new memory number ≡ Some row → memory ≢ permanent_memory
is_changed old new memory number row same valid before then = grind arith

good_came : (world : WorldModel) (events : List EventModel) (count memory number : ℕ) (row : RowModel) → GoodRowsAt world events count
    → stored_row (world_at world events (suc count)).sign.table memory number ≡ Some row → row.status ≡ Valid
    → IsSoundAt world events count
    → (world_at world events (suc count)).sign.table.permanent ≡ (world_at world events count).sign.table.permanent
    → CameToBeValid (world_at world events count).sign.table.services
    (under (world_at world events count).sign.config.face (world_at world events count).sign.settings.defaults)
    (stored_row (world_at world events count).sign.table memory number) row
    → WasGood world events (suc count) memory number row
good_came world events count memory number row good there valid sound permanent (was_valid before) =
    good_more world events count memory number row (good memory number row before valid)
good_came world events count memory number row good there valid sound permanent (came_settled before can) =
    was_settled
    (is_changed (world_at world events count).sign.table (world_at world events (suc count)).sign.table memory number row permanent valid before there)
    count (omega arith) before there (could_be world events count row sound can)

good_next : (world : WorldModel) (events : List EventModel) (count : ℕ) → IsFresh world → GoodRowsAt world events count → GoodRowsAt world events (suc count)
good_next world events count fresh good = λ memory number row there valid.
    let table = (world_step world events count).step.table in
    good_came world events count memory number row good there valid (sound_at world events fresh count) table.permanent (table.rows memory number row there valid)

-- ---- the start

at_place : (test : RowModel → Bool) (rows : List RowModel) (place : ℕ) (row : RowModel) → list_all test rows ≡ true → slice_get rows place ≡ Some row → test row ≡ true
at_place test [] place row all e = absurd (cc)
at_place test (x ∷ xs) zero row all e = grind (arith, and_parts)
at_place test (x ∷ xs) (suc place) row all e = at_place test xs place row (and_parts (test x) (list_all test xs) all).1 e

never_at : (n place : ℕ) (row : RowModel) → slice_get (replicate n unused) place ≡ Some row → row.status ≡ Valid → {P : Type 0} → P
never_at zero place row e valid = absurd (cc)
never_at (suc n) zero row e valid = grind arith
never_at (suc n) (suc place) row e valid = never_at n place row e valid

can_stand : (services : Services) (face : FaceModel) (row : RowModel) → row_may_stand services face row ≡ true → IsShowable services face row
can_stand services face row e = grind (arith, and_parts, showable, good_where_passes)

permanent_can : (b : Bool) (services : Services) (face : FaceModel) (rows : List RowModel) (place : ℕ) (row : RowModel) → list_all (row_may_stand services face) rows ≡ true
    → cond b None (slice_get rows place) ≡ Some row → IsShowable services face row
permanent_can b services face rows place row all e = grind (arith, can_stand, at_place)

none_valid : (b : Bool) (rows : List RowModel) (place : ℕ) (row : RowModel) → rows ≡ replicate (length rows) unused → cond b None (slice_get rows place) ≡ Some row
    → row.status ≡ Valid → {P : Type 0} → P
none_valid true rows place row are e valid = absurd (cc)
none_valid false rows place row are e valid =
    never_at (length rows) place row (subst (λ (xs : List RowModel). slice_get xs place ≡ Some row) are e) valid

none_in_none : (b : Bool) (place : ℕ) (row : RowModel) → cond b None (slice_get [] place) ≡ Some row → {P : Type 0} → P
none_in_none b place row e = grind arith

-- a table in which only permanent rows are used
record IsStart (face : FaceModel) (table : TableModel) : Type 0 where
  permanent : list_all (row_may_stand table.services face) table.permanent ≡ true
  changeable : table.changeable ≡ replicate (length table.changeable) unused
  volatile : table.volatile ≡ replicate (length table.volatile) unused

permanent_alone : (memory : ℕ) → memory_of memory ≡ Some Permanent → memory ≡ permanent_memory
permanent_alone memory is = grind arith

start_rows : (o : Option Memory) (face : FaceModel) (table : TableModel) (memory number : ℕ) (row : RowModel) → IsStart face table
    → memory_of memory ≡ o → numbered (rows_by table o) number ≡ Some row → row.status ≡ Valid
    → (memory ≡ permanent_memory) × IsShowable table.services face row
start_rows (Some Permanent) face table memory number row start is e valid =
    (permanent_alone memory is, permanent_can (number == 0) table.services face table.permanent (number - 1) row start.permanent e)
start_rows (Some Changeable) face table memory number row start is e valid = none_valid (number == 0) table.changeable (number - 1) row start.changeable e valid
start_rows (Some Volatile) face table memory number row start is e valid = none_valid (number == 0) table.volatile (number - 1) row start.volatile e valid
start_rows (Some CurrentBuffer) face table memory number row start is e valid = none_in_none (number == 0) (number - 1) row e
start_rows (Some Blank) face table memory number row start is e valid = none_in_none (number == 0) (number - 1) row e
start_rows None face table memory number row start is e valid = none_in_none (number == 0) (number - 1) row e

is_start : (world : WorldModel) → IsFresh world → IsStart (under world.sign.config.face world.sign.config.face.defaults) world.sign.table
is_start world fresh = grind arith

good_first : (world : WorldModel) (events : List EventModel) → IsFresh world → GoodRowsAt world events zero
good_first world events fresh = λ memory number row there valid.
    let made =
    start_rows (memory_of memory)
    (under world.sign.config.face world.sign.config.face.defaults) world.sign.table memory number row (is_start world fresh) refl there valid in
    was_made made.0 made.1

pub good_rows_at : (world : WorldModel) (events : List EventModel) → IsFresh world → (count : ℕ) → GoodRowsAt world events count
good_rows_at world events fresh zero = good_first world events fresh
good_rows_at world events fresh (suc count) = good_next world events count fresh (good_rows_at world events fresh count)

pub valid_rows_were_good : (world : WorldModel) (events : List EventModel) → IsFresh world → ValidRowsWereGood world events
valid_rows_were_good world events fresh = good_rows_at world events fresh (length events)
