-- The code of the last entry of a ledger.
use Rattle.std.proofs.Common.{◌≡◌, ℕ, zero, suc, ◌+◌, ◌-◌, List, [], ◌∷◌, length, slice_get, Some, sym, ap, arith}
use Rattle.std.proofs.lemmas.Option.{none-some}
use Rattle.dms_codes.specs.declared.codes.Activation.{Activation}
use Rattle.dms_centre.specs.declared.ledger.Entry.{Entry}
use Rattle.dms_centre.specs.CodeView.{ledger_model}
use Rattle.dms_centre_restored.specs.StateReading.{same_codes, has_last_code}

last_at : (entries : List (ℕ × Entry)) (n : ℕ) (code : Activation) (number : ℕ) (entry : Entry) → n + 1 ≡ length entries → slice_get entries n ≡ Some (number, entry)
    → same_codes entry.code code ≡ has_last_code (ledger_model entries) code
last_at [] n code number entry is last = absurd (omega arith)
last_at (e ∷ []) zero code number entry is last =
    let same : e ≡ (number, entry) = cc in
    ap (λ (e : ℕ × Entry). same_codes e.1.code code) (sym same)
last_at (e ∷ []) (suc n) code number entry is last = absurd (omega arith)
last_at (e ∷ next ∷ entries) zero code number entry is last = absurd (omega arith)
last_at (e ∷ next ∷ entries) (suc n) code number entry is last = last_at (next ∷ entries) n code number entry (omega arith) last

pub last_code_is : (entries : List (ℕ × Entry)) (code : Activation) (number : ℕ) (entry : Entry) → Some (number, entry) ≡ slice_get entries (length entries - 1)
    → same_codes entry.code code ≡ has_last_code (ledger_model entries) code
last_code_is [] code number entry last = absurd (none-some (number, entry) (sym last))
last_code_is (e ∷ entries) code number entry last = last_at (e ∷ entries) (length (e ∷ entries) - 1) code number entry (omega arith) (sym last)
