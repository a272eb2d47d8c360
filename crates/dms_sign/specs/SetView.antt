-- What the code answers to a SET; only proofs go through these (this profile).
use Rattle.std.specs.Prelude.{◌≡◌, ◌≤◌, ℕ, Bool, true, false, List, map, take, Option, None, Result, Ok, Err, ⊤}
use Rattle.dms_wire.specs.Message.{VarBind}
use Rattle.dms_wire.specs.declared.error_status.ErrorStatus.TheVariants.{NoError}
use Rattle.dms_codes.specs.declared.codes.Activation.{Activation}
use Rattle.dms_sign_access.specs.declared.settings.SignSettings.{SignSettings}
use Rattle.dms_sign_access.specs.declared.access.Change.{Change}
use Rattle.dms_sign_access.specs.ChangeView.{write_by}
use Rattle.dms_sign_access.specs.Settings.{set_by}
use Rattle.dms_sign_access.specs.Access.{Write, SetNumber, SetCode, SetField, AskRow, Activate, SetRemaining}
use Rattle.dms_sign.specs.declared.sign.set_request.SetRefusal.{SetRefusal}
use Rattle.dms_sign.specs.State.{SignState}
use Rattle.dms_sign.specs.InRange.{AreOctets}
use Rattle.dms_sign.specs.SetRequest.{SetCause, with_writes}
use Rattle.dms_sign.specs.Requests.{Answer, writes_of}

abbrev pub refusal_of : SetRefusal → SetCause
refusal_of refusal = record { index = refusal.index; status = refusal.status }

-- the code's result says what the answer is
abbrev pub Says : Result (Option Activation) SetRefusal → Answer → Type 0
Says (Ok accepted) answer = (answer.status ≡ NoError) × (answer.index ≡ 0) × (answer.accepted ≡ accepted)
Says (Err refusal) answer = (answer.status ≡ refusal.status) × (answer.index ≡ refusal.index) × (answer.accepted ≡ None)

-- the octets of an activation
abbrev pub IsCommandInRange : Write → Type 0
IsCommandInRange (Activate octets) = AreOctets 12 octets
IsCommandInRange (SetNumber object number) = ⊤
IsCommandInRange (SetCode object octets) = ⊤
IsCommandInRange (SetField id field) = ⊤
IsCommandInRange (AskRow id ask) = ⊤
IsCommandInRange (SetRemaining minutes) = ⊤

-- a field of a row
abbrev pub is_field : Write → Bool
is_field (SetField id field) = true
is_field (SetNumber object number) = false
is_field (SetCode object octets) = false
is_field (AskRow id ask) = false
is_field (Activate octets) = false
is_field (SetRemaining minutes) = false

-- where no field is written, the table stays
abbrev pub StaysWithout : Bool → SignState → List VarBind → Type 0
StaysWithout fields s bindings = fields ≡ false → with_writes s.table (writes_of s bindings) ≡ s.table

-- how many changes are kept
abbrev pub most_kept : ℕ
most_kept = 64

-- what the bindings write was kept, where there are no more than so many
abbrev pub AreKept : List Change → ℕ → SignState → List VarBind → Type 0
AreKept kept count s bindings = count ≤ most_kept → map write_by (take count kept) ≡ writes_of s bindings

-- the settings are those that the bindings leave
abbrev pub AreLeft : SignSettings → List VarBind → SignState → Type 0
AreLeft settings bindings s = settings ≡ set_by s.settings (writes_of s bindings)
