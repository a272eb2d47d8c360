-- What is wrong with a text that is no state's (this profile).
use Rattle.std.specs.Prelude.{◌≡◌, ℕ, ◌+◌, ◌≤◌, ◌==◌, List, ◌++◌, count_by, codes, Result, Ok, Err}
use Rattle.std.specs.Str.{byte}
use Rattle.dms_codes.specs.Limits.{most_changeable_rows, most_volatile_rows}
use Rattle.dms_sign_state.specs.declared.field.Put.{Put}
use Rattle.dms_sign_state.specs.declared.field.Put.TheVariants.{Shown, Kept}
use Rattle.dms_sign_state.specs.declared.field.Stored.{Stored}
use Rattle.dms_sign_state.specs.declared.field.Stored.TheVariants.{Changeable, Volatile}
use Rattle.dms_sign_state.specs.declared.field.SignStateField.{SignStateField}
use Rattle.dms_sign_state.specs.declared.field.SignStateField.TheVariants as fields
use Rattle.dms_sign_state.specs.declared.field.SignStateFault.{SignStateFault}
use Rattle.dms_sign_state.specs.declared.field.StateError.{StateError}
use Rattle.dms_sign_state.specs.declared.field.StateError.TheVariants as errors
use Rattle.dms_sign_state.specs.NumberSettings.{number_word, greatest_number}
use Rattle.dms_sign_state.specs.Fields.{FieldsModel, AreFields, AreDefaults, IsCode, IsMessage, IsAddress, IsUsedRow}
use Rattle.dms_sign_state.specs.FieldsText.{number_line, part_line, octets_line, defaults_words, message_line}
use Rattle.dms_sign_state.specs.FieldsText.{source_line, address_line, copied_line, row_line, text_of_fields}

abbrev pub put_name : Put → List ℕ
put_name Shown = codes "shown"
put_name Kept = codes "kept"

abbrev pub stored_name : Stored → List ℕ
stored_name Changeable = codes "changeable"
stored_name Volatile = codes "volatile"

abbrev pub most_rows : Stored → ℕ
most_rows Changeable = most_changeable_rows
most_rows Volatile = most_volatile_rows

-- what is spelled so stands at the front of a text
abbrev pub Begins : {A : Type 0} → (A → List ℕ) → (A → Type 0) → List ℕ → Type 0
Begins {A} spelled Good text = (value : A) × Good value × (rest : List ℕ) × (text ≡ spelled value ++ rest)

abbrev pub NumberStands : List ℕ → ℕ → List ℕ → Type 0
NumberStands name most = Begins (number_line name) (λ number. number ≤ most)

abbrev pub CodeStands : List ℕ → ℕ → List ℕ → Type 0
CodeStands name size = Begins (octets_line name) (IsCode size)

-- the line of a field stands at the front of a text
abbrev pub Stands : SignStateField → List ℕ → Type 0
Stands fields.Form text = (rest : List ℕ) × (text ≡ codes "state 1 sign\n" ++ rest)
Stands (fields.Row stored least) text = Begins (row_line (stored_name stored)) (IsUsedRow least (most_rows stored)) text
Stands fields.Defaults text = Begins (λ d. codes "defaults" ++ defaults_words d) AreDefaults text
Stands fields.ShortPowerRecovery text = CodeStands (codes "short-power-recovery") 5 text
Stands fields.LongPowerRecovery text = CodeStands (codes "long-power-recovery") 5 text
Stands fields.PowerLoss text = CodeStands (codes "power-loss") 5 text
Stands fields.EndDuration text = CodeStands (codes "end-duration") 5 text
Stands fields.CommunicationsLoss text = CodeStands (codes "communications-loss") 5 text
Stands (fields.Number number) text = NumberStands (number_word number) greatest_number text
Stands fields.Silent text = NumberStands (codes "silent") 4294967295 text
Stands (fields.Message put) text = Begins (message_line (put_name put)) IsMessage text
Stands (fields.Source put) text = Begins (source_line (put_name put)) (IsCode 5) text
Stands (fields.Mode put) text = Begins (part_line (put_name put) (codes "-mode")) (λ mode. mode ≤ 255) text
Stands (fields.Address put) text = Begins (address_line (put_name put)) IsAddress text
Stands (fields.Remaining put) text =
    Begins (part_line (put_name put) (codes "-remaining")) (λ seconds. seconds ≤ 4294967295) text
Stands (fields.Copied put) text = Begins (copied_line (put_name put)) AreDefaults text
Stands fields.ValidateError text = NumberStands (codes "validate-error") 255 text
Stands fields.ActivateError text = NumberStands (codes "activate-error") 255 text
Stands fields.SyntaxError text = NumberStands (codes "syntax-error") 255 text
Stands fields.SyntaxErrorPosition text = NumberStands (codes "syntax-error-position") 65535 text
Stands fields.AcceptedCode text = CodeStands (codes "accepted-code") 12 text
Stands fields.FailedCode text = CodeStands (codes "failed-code") 12 text
Stands fields.Powered text = NumberStands (codes "powered") 1 text
Stands fields.End text = text ≡ codes "end\n"

-- the text of a state
abbrev pub IsStateText : List ℕ → Type 0
IsStateText text = (fields : FieldsModel) × AreFields fields × (text ≡ text_of_fields fields)

-- a text goes wrong: what stands before is the beginning of a state, which could go on with the wanted field, and that
-- field does not stand there
pub record IsFaultOf (text : List ℕ) (fault : SignStateFault) : Type 0 where
  pub before : List ℕ
  pub rest : List ℕ
  pub parts : text ≡ before ++ rest
  pub line : fault.line ≡ count_by (λ octet. octet == byte "\n") before + 1
  pub goes_on : (other : List ℕ) × Stands fault.wanted other × IsStateText (before ++ other)
  pub lacks : Stands fault.wanted rest → ⊥

-- the error that a text gives
abbrev pub IsErrorOf : List ℕ → StateError → Type 0
IsErrorOf text errors.Memory = Unit {0}
IsErrorOf text (errors.Fault fault) = IsFaultOf text fault

-- these fields are read, unless memory runs out
abbrev pub AreRead : FieldsModel → Result FieldsModel StateError → Type 0
AreRead fields (Ok read) = read ≡ fields
AreRead fields (Err errors.Memory) = Unit {0}
AreRead fields (Err (errors.Fault fault)) = ⊥
