-- A sign that is put in the state of a saved sign is that sign.
use Rattle.std.proofs.Common.{◌≡◌, ℕ, List, ap, sym, subst, ◌∙◌}
use Rattle.dms_table.specs.Rows.{TableModel}
use Rattle.dms_table.specs.SavedRows.{AreEmptyWhereUnused}
use Rattle.dms_sign.specs.declared.config.Config.{Config}
use Rattle.dms_sign.specs.Construction.{CanBeMade}
use Rattle.dms_sign.specs.State.{ConfigModel, SignState, start}
use Rattle.dms_sign.specs.InRange.{IsSignInRange}
use Rattle.dms_sign_state.specs.Fields.{FieldsModel, AreFields}
use Rattle.dms_sign_state.specs.FieldsText.{text_of_fields}
use Rattle.dms_sign_state.specs.StateText.{fields_of, text_of_state}
use Rattle.dms_sign_restored.specs.Restored.{made, Say, IsPut, IsRestored}
use Rattle.dms_sign_restored.specs.Alike.{AreMadeAlike}
use Rattle.dms_sign_restored.proofs.RestoredText.{AreOctetsOfIds, IsPutBy, restored_by, put_into}
use Rattle.dms_sign_restored.proofs.OneSign.{TellApart}
use Rattle.dms_sign_restored.proofs.FieldsInRange.{fields_in_range}
use Rattle.dms_sign_restored.proofs.SameSign.{AreIdsOfOctets, IsSound, signs_apart}

alike_with : (a b c : SignState) → AreMadeAlike a b → AreMadeAlike b c → AreMadeAlike a c
alike_with a b c one other = record {
  config = one.config ∙ other.config;
  permanent = one.permanent ∙ other.permanent;
  changeable = one.changeable ∙ other.changeable;
  volatile = one.volatile ∙ other.volatile;
  services = one.services ∙ other.services;
  order = one.order ∙ other.order;
}

sound : (s : SignState) → IsSignInRange s → AreEmptyWhereUnused s.table.changeable → AreEmptyWhereUnused s.table.volatile → IsSound s
sound s is changeable volatile =
    record { changeable = changeable; volatile = volatile; shown = is.shown.source; kept = is.shown_at_power_loss.source }

-- what is known of a sign by its type
pub record IsKept (s : SignState) : Type 0 where
  pub in_range : IsSignInRange s
  pub changeable : AreEmptyWhereUnused s.table.changeable
  pub volatile : AreEmptyWhereUnused s.table.volatile

pub kept_by : (s : SignState) (table : TableModel) → table ≡ s.table → IsSignInRange s → AreEmptyWhereUnused table.changeable → AreEmptyWhereUnused table.volatile → IsKept s
kept_by s table same is changeable volatile = record {
  in_range = is;
  changeable = subst (λ (table : TableModel). AreEmptyWhereUnused table.changeable) same changeable;
  volatile = subst (λ (table : TableModel). AreEmptyWhereUnused table.volatile) same volatile;
}

said_of : TellApart → (saved : SignState) (fields : FieldsModel) → IsSignInRange saved → Say (text_of_state saved) fields → fields ≡ fields_of saved
unfolding text_of_state
said_of apart saved fields is said = apart fields (fields_of saved) said.0 (fields_in_range saved is) (sym said.1)

again_by : TellApart → AreIdsOfOctets → (sign saved again : SignState) (fields : FieldsModel) → IsKept saved → IsKept again → Say (text_of_state saved) fields
    → IsPutBy fields sign again → AreMadeAlike sign saved → again ≡ saved
again_by apart ids sign saved again fields is also said by alike =
    signs_apart ids again saved (alike_with again sign saved by.alike alike)
    (sound again also.in_range also.changeable also.volatile) (sound saved is.in_range is.changeable is.volatile)
    (by.fields_now ∙ said_of apart saved fields is.in_range said)

pub put_again : TellApart → AreIdsOfOctets → AreOctetsOfIds → (saved again : SignState) → IsKept saved → IsKept again → (config : ConfigModel) (table : TableModel)
    → CanBeMade config table → AreMadeAlike (start config table) saved → IsPut (start config table) (text_of_state saved) again → again ≡ saved
put_again apart ids octets saved again is also config table can alike put =
    again_by apart ids (start config table) saved again put.fields is also put.said
    (put_into octets config table (text_of_state saved) again can put) alike

pub restored_again : TellApart → AreIdsOfOctets → AreOctetsOfIds → (saved again : SignState) → IsKept saved → IsKept again → (config : Config)
    → AreMadeAlike (made config) saved → IsRestored config (text_of_state saved) again → again ≡ saved
restored_again apart ids octets saved again is also config alike restored =
    again_by apart ids (made config) saved again restored.state.fields is also restored.state.said
    (restored_by octets config (text_of_state saved) again restored) alike
