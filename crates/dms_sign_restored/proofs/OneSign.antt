-- A text puts a sign in one state at most.
use Rattle.std.proofs.Common.{◌≡◌, ℕ, List, Ok, ap, sym, ◌∙◌}
use Rattle.dms_sign.specs.declared.config.Config.{Config}
use Rattle.dms_sign.specs.State.{SignState}
use Rattle.dms_sign_state.specs.Fields.{FieldsModel, AreFields}
use Rattle.dms_sign_state.specs.FieldsText.{text_of_fields}
use Rattle.dms_sign_restored.specs.Restored.{with_fields, made, IsPut, IsRestored}
use Rattle.dms_sign_restored.proofs.RestoredText.{ok_is}

-- two lists of fields have two texts
abbrev pub TellApart : Type 0
TellApart = (one other : FieldsModel) → AreFields one → AreFields other → text_of_fields one ≡ text_of_fields other → one ≡ other

pub one_put : TellApart → (sign : SignState) (text : List ℕ) (one other : SignState) → IsPut sign text one → IsPut sign text other → one ≡ other
one_put apart sign text one other by also =
    let same = apart by.fields also.fields by.said.0 also.said.0 (sym by.said.1 ∙ also.said.1) in
    ok_is one other (with_fields by.fields sign) by.taken_up (ap (λ fields. with_fields fields sign) same ∙ also.taken_up)

pub one_restored : TellApart → (config : Config) (text : List ℕ) (one other : SignState) → IsRestored config text one → IsRestored config text other → one ≡ other
one_restored apart config text one other by also = one_put apart (made config) text one other by.state also.state
