-- The entry of a ledger at an index, of the entries of the code.
use Rattle.std.proofs.Common.{◌≡◌, ◌∙◌, ℕ, List, Option, option_map, slice_get, sym, ap}
use Rattle.std.proofs.lemmas.Option.{slice_get-map}
use Rattle.dms_centre.specs.declared.ledger.Entry.{Entry}
use Rattle.dms_centre.specs.State as state
use Rattle.dms_centre.specs.CodeView.{entry_model, ledger_model}

pub entry_at : (entries : List (ℕ × Entry)) (ledger : List state.Entry) (index : ℕ) (found : Option (ℕ × Entry))
    → ledger_model entries ≡ ledger → found ≡ slice_get entries index → slice_get ledger index ≡ option_map entry_model found
entry_at entries ledger index found is at =
    ap (λ xs. slice_get xs index) (sym is) ∙ slice_get-map entry_model entries index ∙ ap (option_map entry_model) (sym at)
