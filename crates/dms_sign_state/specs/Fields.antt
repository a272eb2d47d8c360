-- The fields of a state's text: what of a state can be written and read back (this profile).
use Rattle.std.specs.Prelude.{◌≡◌, ℕ, ◌+◌, ◌≤◌, Bool, false, List, [], ◌∷◌, length, Option, IfSome}
use Rattle.std.specs.List.{AllByRecursion}
use Rattle.hex.specs.Hex.{IsBytes}
use Rattle.dms_codes.specs.Limits.{longest_text, longest_owner, most_changeable_rows, most_volatile_rows}
use Rattle.dms_codes.specs.declared.status.Status.{Status}
use Rattle.dms_codes.specs.Status.{is_not_used}
use Rattle.dms_face.specs.declared.defaults.Defaults.{Defaults}
use Rattle.dms_sign_access.specs.declared.settings.Fallbacks.{Fallbacks}
use Rattle.dms_sign_access.specs.declared.settings.SignSettings.{SignSettings}
use Rattle.dms_sign_access.specs.declared.reports.Reports.{Reports}
use Rattle.dms_sign_state.specs.NumberSettings.{all_numbers, number_of, greatest_number}

-- ---- fields

-- a message
pub record MessageModel : Type 0 where
  pub text : List ℕ
  pub owner : List ℕ
  pub beacon : ℕ
  pub pixel : ℕ
  pub priority : ℕ

-- a row that is used
pub record UsedRow : Type 0 where
  pub number : ℕ
  pub status : Status
  pub message : MessageModel

-- what is shown: its message, the five octets of its source, how it came up and by whom, the seconds that are left or
-- no end, and its copy of the defaults
pub record PutModel : Type 0 where
  pub message : MessageModel
  pub source : List ℕ
  pub mode : ℕ
  pub address : List ℕ
  pub remaining : Option ℕ
  pub defaults : Defaults

pub record FieldsModel : Type 0 where
  pub changeable : List UsedRow
  pub volatile : List UsedRow
  pub settings : SignSettings
  pub silent_seconds : ℕ
  pub shown : PutModel
  -- what was shown as the power was lost
  pub shown_at_power_loss : PutModel
  pub reports : Reports
  pub powered : Bool

-- ---- their ranges

-- at most so many octets
abbrev pub AreOctets : ℕ → List ℕ → Type 0
AreOctets most octets = (length octets ≤ most) × IsBytes octets

-- just so many octets
abbrev pub IsCode : ℕ → List ℕ → Type 0
IsCode size octets = (length octets ≡ size) × IsBytes octets

abbrev pub IsMessage : MessageModel → Type 0
IsMessage m =
    AreOctets longest_text m.text × (AreOctets longest_owner m.owner
    × ((m.beacon ≤ 255) × ((m.pixel ≤ 255) × (m.priority ≤ 255))))

-- a used row of a number from least to most
abbrev pub IsUsedRow : ℕ → ℕ → UsedRow → Type 0
IsUsedRow least most row =
    ((least ≤ row.number) × (row.number ≤ most)) × ((is_not_used row.status ≡ false) × IsMessage row.message)

-- used rows from a number on, in the order of their numbers, each number once
abbrev pub AreUsedRows : ℕ → ℕ → List UsedRow → Type 0
AreUsedRows least most [] = Unit {0}
AreUsedRows least most (row ∷ rows) = IsUsedRow least most row × AreUsedRows (row.number + 1) most rows

-- each default is an octet
abbrev pub AreDefaults : Defaults → Type 0
AreDefaults d =
    ((d.background ≤ 255) × ((d.foreground ≤ 255) × ((d.flash_on ≤ 255) × (d.flash_off ≤ 255))))
    × (((d.font ≤ 255) × ((d.line ≤ 255) × (d.page ≤ 255))) × ((d.on ≤ 255) × (d.off ≤ 255)))

abbrev pub AreFallbacks : Fallbacks → Type 0
AreFallbacks f =
    IsCode 5 f.short_power_recovery × (IsCode 5 f.long_power_recovery × (IsCode 5 f.power_loss
    × (IsCode 5 f.end_duration × IsCode 5 f.communications_loss)))

abbrev pub AreSettings : SignSettings → Type 0
AreSettings s =
    AreDefaults s.defaults × (AreFallbacks s.fallbacks
    × AllByRecursion (λ number. number_of s number ≤ greatest_number) all_numbers)

abbrev pub IsAddress : List ℕ → Type 0
IsAddress address = IsCode 4 address

abbrev pub IsPut : PutModel → Type 0
IsPut p =
    IsMessage p.message × (IsCode 5 p.source × ((p.mode ≤ 255) × (IsAddress p.address
    × (IfSome p.remaining (λ seconds. seconds ≤ 4294967295) × AreDefaults p.defaults))))

abbrev pub AreReports : Reports → Type 0
AreReports r =
    ((r.validate_error ≤ 255) × ((r.activate_error ≤ 255)
    × ((r.syntax_error ≤ 255) × (r.syntax_error_position ≤ 65535))))
    × (IsCode 12 r.accepted_code × IsCode 12 r.failed_code)

-- what a text can say
pub record AreFields (f : FieldsModel) : Type 0 where
  pub changeable : AreUsedRows 1 most_changeable_rows f.changeable
  pub volatile : AreUsedRows 1 most_volatile_rows f.volatile
  pub settings : AreSettings f.settings
  pub silent : f.silent_seconds ≤ 4294967295
  pub shown : IsPut f.shown
  pub kept : IsPut f.shown_at_power_loss
  pub reports : AreReports f.reports
