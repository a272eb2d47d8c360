-- What holds of a sign's rows and defaults after any events (this profile).
use Rattle.std.specs.Prelude.{◌≡◌, ◌≢◌, ℕ, suc, ◌<◌, IsTrue, List, length, Some}
use Rattle.dms_face.specs.declared.defaults.Defaults.{Defaults}
use Rattle.dms_face.specs.Face.{fit}
use Rattle.dms_face.specs.Layout.{under}
use Rattle.dms_codes.specs.declared.status.Status.TheVariants.{Valid, Validating}
use Rattle.dms_table.specs.Rows.{RowModel, IsTable}
use Rattle.dms_codes.specs.Memory.{permanent_memory}
use Rattle.dms_table.specs.Validation.{IsShowable}
use Rattle.dms_world.specs.Event.{EventModel}
use Rattle.dms_world.specs.World.{WorldModel, world_at, world_after}
use Rattle.dms_world.specs.Backed.{stored_row}

-- the row could be shown under these defaults
abbrev pub CouldBeShown : WorldModel → Defaults → RowModel → Type 0
CouldBeShown world defaults row = IsShowable world.sign.table.services (under world.sign.config.face defaults) row

-- Why a row is valid after the first events, so many of them: it is permanent, and was good under the face's own
-- defaults as the sign was made; or one of the events settled it, and it was good under the defaults of that moment.
pub data WasGood (world : WorldModel) (events : List EventModel) (count memory number : ℕ)
    (row : RowModel) : Type 0 where
  was_made : memory ≡ permanent_memory → CouldBeShown world world.sign.config.face.defaults row
      → WasGood world events count memory number row
  was_settled : memory ≢ permanent_memory → (before : ℕ) → before < count
      → stored_row (world_at world events before).sign.table memory number ≡ Some (record row { status = Validating })
      → stored_row (world_at world events (suc before)).sign.table memory number ≡ Some row
      → CouldBeShown world (world_at world events before).sign.settings.defaults row
      → WasGood world events count memory number row

-- each row that is valid was good when it was settled
abbrev pub ValidRowsWereGood : WorldModel → List EventModel → Type 0
ValidRowsWereGood world events =
    (memory number : ℕ) (row : RowModel) → stored_row (world_after world events).sign.table memory number ≡ Some row
    → row.status ≡ Valid
    → WasGood world events (length events) memory number row

-- at most one row is being validated
abbrev pub OneRowIsValidating : WorldModel → List EventModel → Type 0
OneRowIsValidating world events = IsTable (world_after world events).sign.table

-- the defaults stay in their ranges and name a font of the face, and so does the copy that belongs to what is shown
pub record DefaultsFit (world : WorldModel) (events : List EventModel) : Type 0 where
  pub own : IsTrue (fit world.sign.config.face.fonts (world_after world events).sign.settings.defaults)
  pub copied : IsTrue (fit world.sign.config.face.fonts (world_after world events).sign.shown.defaults)
