-- What one thing that comes to a sign makes of its rows and of what it shows: a datagram, a second, a loss of power or
-- its return (this profile).
use Rattle.std.specs.Prelude.{IsTrue, ◌≡◌, ◌⊎◌, ℕ, [], Option, Some}
use Rattle.dms_face.specs.declared.defaults.Defaults.{Defaults}
use Rattle.dms_face.specs.Face.{FaceModel, fit}
use Rattle.dms_face.specs.Layout.{under}
use Rattle.dms_face.specs.Fit.{IsGood}
use Rattle.dms_codes.specs.declared.status.Status.TheVariants.{Valid}
use Rattle.dms_codes.specs.declared.codes.Order.{Order}
use Rattle.dms_codes.specs.declared.codes.MessageId.{MessageId}
use Rattle.dms_codes.specs.declared.codes.Activation.{Activation}
use Rattle.dms_codes.specs.Checksum.{message_checksum}
use Rattle.dms_codes.specs.Codes.{id_of}
use Rattle.dms_table.specs.Rows.{RowModel, TableModel, rows_of, numbered}
use Rattle.dms_codes.specs.Memory.{blank_memory}
use Rattle.dms_table.specs.Validation.{CameToBeValid}
use Rattle.dms_table.specs.Activation.{ShownModel}
use Rattle.dms_sign_access.specs.declared.settings.Fallbacks.{Fallbacks}
use Rattle.dms_sign.specs.State.{SignState}

-- ---- rows

-- What a sign has stays, and so do its permanent rows; each row that is valid now was so before, or it was being
-- validated and can be shown on this face.
pub record TableStep (face : FaceModel) (old new : TableModel) : Type 0 where
  pub permanent : new.permanent ≡ old.permanent
  pub services : new.services ≡ old.services
  pub order : new.order ≡ old.order
  pub rows : (memory number : ℕ) (row : RowModel) → numbered (rows_of new memory) number ≡ Some row → row.status ≡ Valid
      → CameToBeValid old.services face (numbered (rows_of old memory) number) row

-- ---- what is shown

-- one message, whatever put it up and however long it stays
pub record IsSameMessage (old new : ShownModel) : Type 0 where
  pub text : new.text ≡ old.text
  pub owner : new.owner ≡ old.owner
  pub beacon : new.beacon ≡ old.beacon
  pub pixel : new.pixel ≡ old.pixel
  pub priority : new.priority ≡ old.priority
  pub source : new.source ≡ old.source
  pub defaults : new.defaults ≡ old.defaults

-- a blank message, with a copy of the defaults
pub record IsBlankedUnder (defaults : Defaults) (shown : ShownModel) : Type 0 where
  pub memory : shown.source.memory ≡ blank_memory
  pub text : shown.text ≡ []
  pub beacon : shown.beacon ≡ 0
  pub pixel : shown.pixel ≡ 0
  pub copied : shown.defaults ≡ defaults

-- the row that the source names, with a copy of the defaults: it is valid, its text is good under them, and its
-- checksum is the source's
pub record IsRowOf (face : FaceModel) (defaults : Defaults) (table : TableModel) (shown : ShownModel) : Type 0 where
  pub row : RowModel
  pub there : numbered (rows_of table shown.source.memory) shown.source.number ≡ Some row
  pub valid : row.status ≡ Valid
  pub text : row.text ≡ shown.text
  pub owner : row.owner ≡ shown.owner
  pub beacon : row.beacon ≡ shown.beacon
  pub pixel : row.pixel ≡ shown.pixel
  pub priority : row.priority ≡ shown.priority
  pub good : IsGood (under face defaults) shown.text
  pub checksum : message_checksum shown.text shown.beacon shown.pixel ≡ shown.source.crc
  pub copied : shown.defaults ≡ defaults

-- the code stands in one of the objects that hold a sign's own codes
abbrev pub IsOwnCode : Order → Fallbacks → MessageId → Type 0
IsOwnCode order fallbacks id =
    (id ≡ id_of order fallbacks.short_power_recovery) ⊎ (id ≡ id_of order fallbacks.long_power_recovery)
    ⊎ (id ≡ id_of order fallbacks.power_loss) ⊎ (id ≡ id_of order fallbacks.end_duration)
    ⊎ (id ≡ id_of order fallbacks.communications_loss)

-- Why this is shown now: it stayed; or what was shown at a loss of power is shown once more; or a blank message is; or
-- a row is, by the code that was accepted or by one of the sign's own.
pub data ShowsNow (old new : SignState) (accepted : Option Activation) : Type 0 where
  stayed : IsSameMessage old.shown new.shown → ShowsNow old new accepted
  came_back : IsSameMessage old.shown_at_power_loss new.shown → ShowsNow old new accepted
  blanked : IsBlankedUnder new.settings.defaults new.shown → ShowsNow old new accepted
  activated : (code : Activation) → accepted ≡ Some code → new.shown.source ≡ code.id
      → IsRowOf new.config.face new.settings.defaults new.table new.shown → ShowsNow old new accepted
  fell_back : IsOwnCode new.table.order new.settings.fallbacks new.shown.source
      → IsRowOf new.config.face new.settings.defaults new.table new.shown → ShowsNow old new accepted

-- ---- the step

-- The sign stays the one that was made; rows become valid under the defaults of before; and what was shown at a loss
-- of power is what was before, or what was shown.
pub record IsSignStep (old new : SignState) (accepted : Option Activation) : Type 0 where
  pub config : new.config ≡ old.config
  pub table : TableStep (under old.config.face old.settings.defaults) old.table new.table
  pub shown : ShowsNow old new accepted
  pub shown_at_power_loss : (new.shown_at_power_loss ≡ old.shown_at_power_loss) ⊎ (new.shown_at_power_loss ≡ old.shown)

-- the defaults are in their ranges, and name a font of the face
abbrev pub HasFitDefaults : SignState → Type 0
HasFitDefaults s = IsTrue (fit s.config.face.fonts s.settings.defaults)
