-- What a sign shows is blank, or a message that was validated and whose checksum stands in the code that activated it
-- (this profile).
use Rattle.std.specs.Prelude.{◌≡◌, ◌⊎◌, ℕ, ◌≤◌, List, [], length, slice_get, Option, Some}
use Rattle.dms_face.specs.declared.defaults.Defaults.{Defaults}
use Rattle.dms_face.specs.Layout.{under}
use Rattle.dms_codes.specs.declared.status.Status.TheVariants.{Valid}
use Rattle.dms_codes.specs.declared.codes.MessageId.{MessageId}
use Rattle.dms_codes.specs.declared.codes.Activation.{Activation}
use Rattle.dms_codes.specs.Checksum.{message_checksum}
use Rattle.dms_table.specs.Rows.{RowModel, TableModel, rows_of, numbered}
use Rattle.dms_codes.specs.Memory.{blank_memory}
use Rattle.dms_table.specs.Validation.{IsShowable}
use Rattle.dms_table.specs.Activation.{ShownModel, shown_row}
use Rattle.dms_sign.specs.Transitions.{IsOwnCode}
use Rattle.dms_world.specs.Event.{EventModel}
use Rattle.dms_world.specs.World.{WorldModel, world_at, world_after}

-- it stands in the list
abbrev pub Has : {X : Type 0} → List X → X → Type 0
Has xs x = (place : ℕ) × (slice_get xs place ≡ Some x)

-- nothing is shown
pub record IsBlank (shown : ShownModel) : Type 0 where
  pub memory : shown.source.memory ≡ blank_memory
  pub text : shown.text ≡ []
  pub beacon : shown.beacon ≡ 0
  pub pixel : shown.pixel ≡ 0

-- ---- the code that activated it

-- after the first events, so many of them, an activation with this code had been accepted
abbrev pub WasPutUp : WorldModel → List EventModel → ℕ → MessageId → Type 0
WasPutUp world events count id =
    (number : ℕ) × (code : Activation) × Has (world_at world events count).accepted (number, code) × (code.id ≡ id)

-- by then the code had stood among the sign's own
abbrev pub WasTheSigns : WorldModel → List EventModel → ℕ → MessageId → Type 0
WasTheSigns world events count id =
    (earlier : ℕ) × (earlier ≤ count)
    × IsOwnCode world.sign.table.order (world_at world events earlier).sign.settings.fallbacks id

-- ---- the row that the code names

-- the row of a type of memory that has this number; blank messages are kept in none
abbrev pub stored_row : TableModel → (memory number : ℕ) → Option RowModel
stored_row table memory number = numbered (rows_of table memory) number

-- the row was valid and held what is shown
pub record Held (row : RowModel) (shown : ShownModel) : Type 0 where
  pub valid : row.status ≡ Valid
  pub text : row.text ≡ shown.text
  pub owner : row.owner ≡ shown.owner
  pub beacon : row.beacon ≡ shown.beacon
  pub pixel : row.pixel ≡ shown.pixel
  pub priority : row.priority ≡ shown.priority

-- by then the row that the code names had held it
abbrev pub WasHeld : WorldModel → List EventModel → ℕ → ShownModel → Type 0
WasHeld world events count shown =
    (earlier : ℕ) × (row : RowModel) × (earlier ≤ count)
    × (stored_row (world_at world events earlier).sign.table shown.source.memory shown.source.number ≡ Some row)
    × Held row shown

-- ---- the defaults of then

-- by then the sign had had these defaults
abbrev pub WereDefaults : WorldModel → List EventModel → ℕ → Defaults → Type 0
WereDefaults world events count defaults =
    (earlier : ℕ) × (earlier ≤ count) × ((world_at world events earlier).sign.settings.defaults ≡ defaults)

-- ---- what is shown

-- It is good under the copy of the defaults that was made as it was activated, and the sign has what it needs; its
-- checksum is that of its source; the source is the code of an accepted activation or was one of the sign's own; and
-- the source's row held it.
pub record IsValidated (world : WorldModel) (events : List EventModel) (count : ℕ) (shown : ShownModel) : Type 0 where
  pub good : IsShowable world.sign.table.services (under world.sign.config.face shown.defaults) (shown_row shown)
  pub checksum : message_checksum shown.text shown.beacon shown.pixel ≡ shown.source.crc
  pub source : WasPutUp world events count shown.source ⊎ WasTheSigns world events count shown.source
  pub row : WasHeld world events count shown

abbrev pub IsBackedAt : WorldModel → List EventModel → ℕ → ShownModel → Type 0
IsBackedAt world events count shown = IsBlank shown ⊎ IsValidated world events count shown

-- what is shown after all events
abbrev pub IsBacked : WorldModel → List EventModel → Type 0
IsBacked world events = IsBackedAt world events (length events) (world_after world events).sign.shown

-- the copy of the defaults that belongs to what is shown, a blank message too, was the sign's once
abbrev pub CopiedDefaults : WorldModel → List EventModel → Type 0
CopiedDefaults world events = WereDefaults world events (length events) (world_after world events).sign.shown.defaults
