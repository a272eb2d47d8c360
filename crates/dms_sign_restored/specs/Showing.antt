-- What a sign that was put in a state shows: nothing, or a message that it can show (NTCIP 1203, dmsActivateMessage,
-- and this profile).
use Rattle.std.specs.Prelude.{◌≡◌, ◌⊎◌, List, []}
use Rattle.dms_codes.specs.Checksum.{message_checksum}
use Rattle.dms_codes.specs.Memory.{blank_memory}
use Rattle.dms_face.specs.Layout.{under}
use Rattle.dms_table.specs.Activation.{ShownModel, shown_row}
use Rattle.dms_table.specs.Validation.{IsShowable}
use Rattle.dms_sign.specs.State.{SignState}

-- its source is a blank message, and it has nothing to show
pub record IsBlankMessage (shown : ShownModel) : Type 0 where
  pub memory : shown.source.memory ≡ blank_memory
  pub text : shown.text ≡ []
  pub beacon : shown.beacon ≡ 0
  pub pixel : shown.pixel ≡ 0

-- it is good under the copy of the defaults that stands with it, the sign has what it needs, and its checksum is that
-- of its source
pub record IsGoodMessage (s : SignState) (shown : ShownModel) : Type 0 where
  pub good : IsShowable s.table.services (under s.config.face shown.defaults) (shown_row shown)
  pub checksum : message_checksum shown.text shown.beacon shown.pixel ≡ shown.source.crc

abbrev pub CanStand : SignState → ShownModel → Type 0
CanStand s shown = IsBlankMessage shown ⊎ IsGoodMessage s shown

-- so it is with what is shown, and with what was shown as the power was lost
pub record ShowsWhatIsGood (s : SignState) : Type 0 where
  pub shown : CanStand s s.shown
  pub kept : CanStand s s.shown_at_power_loss
