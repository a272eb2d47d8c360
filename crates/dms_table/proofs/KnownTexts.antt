-- The row that a code names has a good text where that is known.
use Rattle.std.proofs.Common.{◌≡◌, ℕ, ◌==◌, ◌&&◌, Bool, true, false, cond, Option, Some, None, nat_le, refl, subst, arith}
use Rattle.std.specs.Prelude.{option_map}
use Rattle.std.proofs.lemmas.Bool.{eqb-true}
use Rattle.dms_face.specs.Face.{FaceModel}
use Rattle.dms_face.specs.Fit.{IsGood, fault_of}
use Rattle.dms_face.proofs.GoodLaws.{faultless_law, empty_is_good}
use Rattle.dms_codes.specs.declared.codes.MessageId.{MessageId}
use Rattle.dms_codes.specs.declared.status.Status.{Status}
use Rattle.dms_codes.specs.declared.status.Status.TheVariants.{Valid}
use Rattle.dms_codes.specs.Status.{is_valid}
use Rattle.dms_codes.specs.Memory.{current_buffer, blank_memory}
use Rattle.dms_table.specs.Rows.{RowModel, TableModel, RowReading, rows_of, numbered, blank, blank_at, blank_reading, reading}
use Rattle.dms_table.specs.Validation.{HasGoodTextWhereValid}
use Rattle.dms_table.specs.Activation.{ShownModel, shown_reading, named}

pub valid_status : (status : Status) → is_valid status ≡ true → status ≡ Valid
valid_status status h = grind arith

abbrev HasGoodReading : FaceModel → RowReading → Type 0
HasGoodReading face message = is_valid message.row.status ≡ true → IsGood face message.row.text

blank_good : (face : FaceModel) (b : Bool) (number : ℕ) (message : RowReading) → option_map blank_reading (cond b (Some (blank number)) None) ≡ Some message
    → HasGoodReading face message
blank_good face b number message e = grind (arith, empty_is_good)

read_good : (face : FaceModel) (o : Option RowModel) (message : RowReading) → ((row : RowModel) → o ≡ Some row → row.status ≡ Valid → IsGood face row.text)
    → option_map reading o ≡ Some message → HasGoodReading face message
read_good face None message good e = absurd (cc)
read_good face (Some row) message good e =
    let same : reading row ≡ message = cc in
    subst (HasGoodReading face) same (λ valid. good row refl (valid_status row.status valid))

row_good : (is_current is_one is_blank : Bool) (face : FaceModel) (table : TableModel) (shown : ShownModel) (memory number : ℕ) (message : RowReading)
    → HasGoodTextWhereValid face table memory number → (is_current ≡ true → ⊥)
    → cond is_current (cond is_one (Some (shown_reading shown)) None)
    (cond is_blank (option_map blank_reading (blank_at number)) (option_map reading (numbered (rows_of table memory) number))) ≡ Some message
    → HasGoodReading face message
row_good true one blank face table shown memory number message good other e = absurd (other refl)
row_good false one true face table shown memory number message good other e = blank_good face (nat_le 1 number && nat_le number 255) number message e
row_good false one false face table shown memory number message good other e =
    read_good face (numbered (rows_of table memory) number) message good e

-- a row that a code names, and that is not what is shown
pub named_faultless : (face : FaceModel) (table : TableModel) (shown : ShownModel) (id : MessageId) (message : RowReading)
    → HasGoodTextWhereValid face table id.memory id.number → named table shown id ≡ Some message → is_valid message.row.status ≡ true → (id.memory ≡ current_buffer → ⊥) → fault_of face message.row.text ≡ None
named_faultless face table shown id message good e valid other =
    (faultless_law face message.row.text).1
    (row_good (id.memory == current_buffer) (id.number == 1) (id.memory == blank_memory) face table shown id.memory id.number message good
    (λ is. other (eqb-true id.memory current_buffer is)) e valid)
