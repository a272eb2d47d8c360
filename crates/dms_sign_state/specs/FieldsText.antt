-- The text of a state's fields (this profile). Each line begins with the name of a field; numbers are decimal, octets
-- are pairs of small hexadecimal digits. What the description of the sign says does not stand in it, nor what is
-- computed.
use Rattle.std.specs.Prelude.{ℕ, Bool, true, false, List, [], ◌++◌, codes, decimal, flat_map, Option, Some, None}
use Rattle.dms_wire_ber.specs.NameText.{dotted}
use Rattle.dms_text_values.specs.ValueText.{octets_text}
use Rattle.dms_codes.specs.Status.{status_number}
use Rattle.dms_face.specs.declared.defaults.Defaults.{Defaults}
use Rattle.dms_sign_access.specs.declared.settings.Fallbacks.{Fallbacks}
use Rattle.dms_sign_access.specs.declared.settings.SignSettings.{SignSettings}
use Rattle.dms_sign_access.specs.declared.reports.Reports.{Reports}
use Rattle.dms_sign_state.specs.declared.number_settings.NumberSetting.{NumberSetting}
use Rattle.dms_sign_state.specs.NumberSettings.{all_numbers, number_word, number_of}
use Rattle.dms_sign_state.specs.Fields.{MessageModel, UsedRow, PutModel, FieldsModel}

-- ---- lines

-- a field that is a number
abbrev pub number_line : List ℕ → ℕ → List ℕ
number_line name number = name ++ codes " " ++ decimal number ++ codes "\n"

-- the same, where the name is of two parts
abbrev pub part_line : List ℕ → List ℕ → ℕ → List ℕ
part_line name part number = name ++ part ++ codes " " ++ decimal number ++ codes "\n"

-- a field that is octets: those of a code
abbrev pub octets_line : List ℕ → List ℕ → List ℕ
octets_line name octets = (name ++ codes " ") ++ octets_text octets ++ codes "\n"

-- the nine defaults, in the order of a description: colours and flash times, font and justifications, times of a page
abbrev pub colour_words : Defaults → List ℕ
colour_words d =
    codes " " ++ decimal d.background ++ codes " " ++ decimal d.foreground
    ++ codes " " ++ decimal d.flash_on ++ codes " " ++ decimal d.flash_off

abbrev pub layout_words : Defaults → List ℕ
layout_words d = codes " " ++ decimal d.font ++ codes " " ++ decimal d.line ++ codes " " ++ decimal d.page

abbrev pub time_words : Defaults → List ℕ
time_words d = codes " " ++ decimal d.on ++ codes " " ++ decimal d.off ++ codes "\n"

abbrev pub defaults_words : Defaults → List ℕ
defaults_words d = colour_words d ++ layout_words d ++ time_words d

-- octets, after a space
abbrev pub octets_word : List ℕ → List ℕ
octets_word octets = codes " " ++ octets_text octets

-- the beacon, the pixel service and the priority of a message
abbrev pub attribute_words : MessageModel → List ℕ
attribute_words m =
    codes " " ++ decimal m.beacon ++ codes " " ++ decimal m.pixel ++ codes " " ++ decimal m.priority ++ codes "\n"

-- a message, in the words of a permanent row in a description
abbrev pub message_words : MessageModel → List ℕ
message_words m = octets_word m.text ++ octets_word m.owner ++ attribute_words m

-- ---- rows

-- a row with its number and the number of its status
abbrev pub row_begun : List ℕ → UsedRow → List ℕ
row_begun name row = name ++ codes " " ++ decimal row.number ++ codes " " ++ decimal (status_number row.status)

abbrev pub row_line : List ℕ → UsedRow → List ℕ
row_line name row = row_begun name row ++ message_words row.message

-- the rows of a type of memory that are used, by their numbers
abbrev pub row_lines : List ℕ → List UsedRow → List ℕ
row_lines name rows = flat_map (row_line name) rows

-- ---- what was set

abbrev pub fallbacks_text : Fallbacks → List ℕ
fallbacks_text f =
    octets_line (codes "short-power-recovery") f.short_power_recovery
    ++ octets_line (codes "long-power-recovery") f.long_power_recovery
    ++ octets_line (codes "power-loss") f.power_loss
    ++ octets_line (codes "end-duration") f.end_duration
    ++ octets_line (codes "communications-loss") f.communications_loss

abbrev pub setting_line : SignSettings → NumberSetting → List ℕ
setting_line settings number = number_line (number_word number) (number_of settings number)

-- a line for each setting that is a number
abbrev pub numbers_text : SignSettings → List ℕ
numbers_text settings = flat_map (setting_line settings) all_numbers

abbrev pub settings_text : SignSettings → List ℕ
settings_text settings =
    (codes "defaults" ++ defaults_words settings.defaults)
    ++ fallbacks_text settings.fallbacks
    ++ numbers_text settings

-- ---- what is shown

abbrev pub message_line : List ℕ → MessageModel → List ℕ
message_line name message = name ++ message_words message

-- the code that names its source, as dmsMsgTableSource reads it
abbrev pub source_line : List ℕ → List ℕ → List ℕ
source_line name source = (name ++ codes "-source ") ++ octets_text source ++ codes "\n"

-- who put it up
abbrev pub address_line : List ℕ → List ℕ → List ℕ
address_line name address = (name ++ codes "-address ") ++ (dotted address ++ codes "\n")

-- the seconds until its end; without an end there is no line
abbrev pub remaining_text : List ℕ → Option ℕ → List ℕ
remaining_text name None = []
remaining_text name (Some seconds) = part_line name (codes "-remaining") seconds

-- the copy of the defaults
abbrev pub copied_line : List ℕ → Defaults → List ℕ
copied_line name defaults = (name ++ codes "-defaults") ++ defaults_words defaults

abbrev pub put_text : List ℕ → PutModel → List ℕ
put_text name put =
    message_line name put.message
    ++ source_line name put.source
    ++ part_line name (codes "-mode") put.mode
    ++ address_line name put.address
    ++ remaining_text name put.remaining
    ++ copied_line name put.defaults

-- ---- what is reported

abbrev pub reports_text : Reports → List ℕ
reports_text reports =
    number_line (codes "validate-error") reports.validate_error
    ++ number_line (codes "activate-error") reports.activate_error
    ++ number_line (codes "syntax-error") reports.syntax_error
    ++ number_line (codes "syntax-error-position") reports.syntax_error_position
    ++ octets_line (codes "accepted-code") reports.accepted_code
    ++ octets_line (codes "failed-code") reports.failed_code

-- ---- the whole

abbrev pub powered_number : Bool → ℕ
powered_number true = 1
powered_number false = 0

-- the power and the end
abbrev pub last_lines : Bool → List ℕ
last_lines powered = codes "powered " ++ decimal (powered_number powered) ++ codes "\nend\n"

-- the first number is that of this form
unfoldable pub text_of_fields : FieldsModel → List ℕ
text_of_fields f =
    codes "state 1 sign\n"
    ++ (row_lines (codes "changeable") f.changeable ++ row_lines (codes "volatile") f.volatile)
    ++ settings_text f.settings
    ++ number_line (codes "silent") f.silent_seconds
    ++ put_text (codes "shown") f.shown
    ++ put_text (codes "kept") f.shown_at_power_loss
    ++ reports_text f.reports
    ++ last_lines f.powered
