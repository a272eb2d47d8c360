-- What a saved state says of a message that is shown or was kept, and why there is no such message (this profile).
use Rattle.std.specs.Prelude.{ℕ, ◌*◌, ◌==◌, ◌&&◌, ◌||◌, Bool, true, not, if◌then◌else◌}
use Rattle.std.specs.Prelude.{Option, Some, None, nat_le, length}
use Rattle.std.specs.Option.{option_or}
use Rattle.dms_codes.specs.Checksum.{message_checksum}
use Rattle.dms_codes.specs.Memory.{blank_memory}
use Rattle.dms_codes.specs.declared.mode.Mode.TheVariants.{Central, PowerRecovery, CommunicationsLoss, PowerLoss}
use Rattle.dms_codes.specs.declared.mode.Mode.TheVariants.{EndDuration}
use Rattle.dms_codes.specs.Mode.{mode_number}
use Rattle.dms_table.specs.declared.saved_shown.SavedShown.{SavedShown}
use Rattle.dms_table.specs.declared.saved_shown.ShownFault.{ShownFault}
use Rattle.dms_table.specs.declared.saved_shown.ShownFault.TheVariants as faults
use Rattle.dms_table.specs.Rows.{Text, Owner, Beacon, Pixel, Priority, is_in_range}
use Rattle.dms_table.specs.Activation.{ShownModel}

-- the message that is saved
abbrev pub shown_saved : SavedShown → ShownModel
shown_saved saved = record {
  text = saved.text.now;
  owner = saved.owner.now;
  beacon = saved.beacon;
  pixel = saved.pixel;
  priority = saved.priority;
  source = saved.source;
  mode = saved.mode;
  address = saved.address;
  remaining = saved.remaining;
  defaults = saved.defaults;
}

-- the numbers of what puts a message up
abbrev pub is_mode : ℕ → Bool
is_mode number =
    number == mode_number Central || number == mode_number PowerRecovery || number == mode_number CommunicationsLoss
    || number == mode_number PowerLoss || number == mode_number EndDuration

-- the source has the checksum of the message; that of a blank message is not compared
abbrev pub has_its_checksum : ShownModel → Bool
has_its_checksum shown =
    shown.source.memory == blank_memory
    || message_checksum shown.text shown.beacon shown.pixel == shown.source.crc

-- the blank message of this number is shown
abbrev pub is_blank_of : ℕ → ShownModel → Bool
is_blank_of number shown =
    length shown.text == 0 && length shown.owner == 0 && shown.beacon == 0 && shown.pixel == 0
    && shown.priority == number

-- a source that is a blank message is the one that is shown
abbrev pub is_blank_by_its_source : ShownModel → Bool
is_blank_by_its_source shown =
    not (shown.source.memory == blank_memory) || is_blank_of shown.source.number shown

-- no end; or, but for what a loss of power put up, the seconds of the most minutes that are an end
abbrev pub is_time : ℕ → Option ℕ → Bool
is_time mode None = true
is_time mode (Some seconds) = not (mode == mode_number PowerLoss) && nat_le seconds (65534 * 60)

-- the first thing that is wrong with the row of a message
abbrev pub message_fault : ShownModel → Option ShownFault
message_fault shown =
    if not (is_in_range (Text shown.text)) then Some faults.Text
    else if not (is_in_range (Owner shown.owner)) then Some faults.Owner
    else if not (is_in_range (Beacon shown.beacon)) then Some faults.Beacon
    else if not (is_in_range (Pixel shown.pixel)) then Some faults.Pixel
    else if not (is_in_range (Priority shown.priority)) then Some faults.Priority
    else None

-- the first thing that is wrong with how it came up
abbrev pub showing_fault : ShownModel → Option ShownFault
showing_fault shown =
    if not (has_its_checksum shown) then Some faults.Checksum
    else if not (is_blank_by_its_source shown) then Some faults.Blank
    else if not (is_mode shown.mode) then Some faults.Mode
    else if not (is_time shown.mode shown.remaining) then Some faults.Remaining
    else None

-- the first thing for which there is no such message
abbrev pub shown_fault : ShownModel → Option ShownFault
shown_fault shown = option_or (message_fault shown) (showing_fault shown)
