-- What a sign takes up of a saved state, and what it refuses (this profile).
use Rattle.std.specs.Prelude.{ℕ, ◌*◌, ◌==◌, ◌&&◌, Bool, not, nat_le, if◌then◌else◌, Option, Some, None, option_map}
use Rattle.std.specs.Option.{option_or, is_some}
use Rattle.dms_codes.specs.declared.codes.MessageId.{MessageId}
use Rattle.dms_codes.specs.Codes.{row_id}
use Rattle.dms_face.specs.Face.{FaceModel, fit}
use Rattle.dms_face.specs.Layout.{under}
use Rattle.dms_face.specs.Fit.{fault_of}
use Rattle.dms_table.specs.Rows.{TableModel, row_read}
use Rattle.dms_table.specs.Activation.{ShownModel}
use Rattle.dms_table.specs.SavedShown.{shown_fault}
use Rattle.dms_sign.specs.declared.sign.restoring.SignParts.{SignParts}
use Rattle.dms_sign_access.specs.declared.restoring.MessageFault.{MessageFault}
use Rattle.dms_sign_access.specs.declared.restoring.MessageFault.TheVariants as messages
use Rattle.dms_sign_access.specs.declared.restoring.StateFault.{StateFault}
use Rattle.dms_sign_access.specs.declared.restoring.StateFault.TheVariants as faults
use Rattle.dms_sign_access.specs.declared.settings.SignSettings.{SignSettings}
use Rattle.dms_sign_access.specs.Reports.{report_fault}
use Rattle.dms_sign.specs.State.{SignState, power_loss_mode}
use Rattle.dms_sign.specs.InRange.{most_minutes}

abbrev pub with_table : SignState → TableModel → SignState
with_table s table = record s { table = table }

-- the sign with these parts
abbrev pub with_parts : SignState → SignParts → SignState
with_parts s parts = record s {
  settings = parts.settings;
  silent_seconds = parts.silent_seconds;
  shown = parts.shown;
  shown_at_power_loss = parts.shown_at_power_loss;
  reports = parts.reports;
  powered = parts.powered;
}

-- ---- messages

-- there is a row of this name; what is shown is none, and blank messages are rows
abbrev pub names_a_row : TableModel → MessageId → Bool
names_a_row table id = is_some (row_read table (row_id id))

-- the first thing for which a sign with this table cannot show a message
abbrev pub standing_fault : TableModel → FaceModel → ShownModel → Option MessageFault
standing_fault table face shown =
    if not (names_a_row table shown.source) then Some messages.Source
    else if shown.beacon == 1 && not table.services.beacon then Some messages.Beacons
    else if shown.pixel == 1 && not table.services.pixel then Some messages.PixelService
    else if not (fit face.fonts shown.defaults) then Some messages.Defaults
    else option_map messages.Text (fault_of (under face shown.defaults) shown.text)

-- the first thing for which a message is not taken up
abbrev pub message_fault : TableModel → FaceModel → ShownModel → Option MessageFault
message_fault table face shown =
    option_or (option_map messages.Shown (shown_fault shown)) (standing_fault table face shown)

-- ---- the parts

-- the first thing that is wrong with what was set, and with the silence
abbrev pub set_fault : FaceModel → SignSettings → ℕ → Option StateFault
set_fault face settings silent_seconds =
    if not (fit face.fonts settings.defaults) then Some faults.Defaults
    else if not (nat_le silent_seconds (60 * most_minutes)) then Some faults.Silence
    else None

-- Without power is shown what a loss of power put up, and there alone; before it something else was.
abbrev pub has_its_power : SignParts → Bool
has_its_power parts =
    (if parts.powered then not (parts.shown.mode == power_loss_mode) else parts.shown.mode == power_loss_mode)
    && not (parts.shown_at_power_loss.mode == power_loss_mode)

-- the first thing that is wrong with the reports, and with the power
abbrev pub told_fault : SignParts → Option StateFault
told_fault parts =
    option_or (option_map faults.Reports (report_fault parts.reports))
    (if has_its_power parts then None else Some faults.Power)

-- the first thing for which the parts are not taken up
abbrev pub parts_fault : SignState → SignParts → Option StateFault
parts_fault s parts =
    option_or (set_fault s.config.face parts.settings parts.silent_seconds)
    (option_or (option_map faults.Shown (message_fault s.table s.config.face parts.shown))
    (option_or (option_map faults.Kept (message_fault s.table s.config.face parts.shown_at_power_loss))
    (told_fault parts)))
