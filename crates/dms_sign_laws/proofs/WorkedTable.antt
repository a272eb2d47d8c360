-- The message table of the bench sign: rows that are opened, filled and validated, computed.
use Rattle.std.proofs.Common.{◌≡◌, ℕ, List, [], ◌∷◌, map, Option, Some, None, refl}
use Rattle.std.specs.Prelude.{pos, codes}
use Rattle.dms_wire.specs.Message.{ObjectValue, integer, octet_string}
use Rattle.dms_codes.specs.declared.status.Status.TheVariants.{Modifying}
use Rattle.dms_mib.specs.declared.column.Column.TheVariants.{MultiString, Crc, Status}
use Rattle.dms_table.specs.Rows.{RowModel, unused}
use Rattle.dms_mib.specs.declared.scalar.Scalar.TheVariants.{ValidateMessageError, MultiSyntaxError, MultiSyntaxErrorPosition}
use Rattle.dms_mib.specs.declared.instance.Instance.TheVariants.{Scalar}
use Rattle.dms_sign.specs.State.{SignState}
use Rattle.dms_sign_laws.proofs.BenchSign.{bench_sign, with_changeable_rows, lettered_sign, valid_row, cell, number, octets, code, answer, status_and_index, after_set, reads, later, seen, letter_a}

-- a row of this text that is being modified
abbrev open_row : List ℕ → RowModel
open_row text = record (valid_row text 200) { status = Modifying }

-- changeable row 1 has no text, and is being modified
abbrev opened_sign : SignState
opened_sign = with_changeable_rows (open_row [] ∷ unused ∷ [])

-- ---- filling

-- modifyReq and a text in one SET: the row was not being modified before it, genErr, index 2
opened_and_filled : status_and_index bench_sign (number (cell Status 3 1) 6 ∷ octets (cell MultiString 3 1) (codes "A") ∷ []) ≡ (5, 2)
unfolding answer
opened_and_filled = refl

-- and nothing is set
opened_and_filled_sets_nothing : after_set bench_sign (number (cell Status 3 1) 6 ∷ octets (cell MultiString 3 1) (codes "A") ∷ []) ≡ bench_sign
unfolding answer
opened_and_filled_sets_nothing = refl

-- the text "B" and validateReq on a row that is being modified: noError
filled_and_validated : status_and_index opened_sign (octets (cell MultiString 3 1) (codes "B") ∷ number (cell Status 3 1) 7 ∷ []) ≡ (0, 0)
unfolding answer
filled_and_validated = refl

-- a second after it
abbrev filled_sign : SignState
filled_sign = later 1 (after_set opened_sign (octets (cell MultiString 3 1) (codes "B") ∷ number (cell Status 3 1) 7 ∷ []))

-- the row is valid
valid_a_second_later : reads filled_sign (cell Status 3 1) ≡ Some (integer (pos 4))
unfolding answer reads later
valid_a_second_later = refl

-- its checksum is 7502
checksum_a_second_later : reads filled_sign (cell Crc 3 1) ≡ Some (integer (pos 29954))
unfolding answer reads later
checksum_a_second_later = refl

-- a text and notUsedReq in one SET: the row is empty after it
filled_and_released : after_set opened_sign (octets (cell MultiString 3 1) (codes "B") ∷ number (cell Status 3 1) 8 ∷ []) ≡ bench_sign
unfolding answer
filled_and_released = refl

-- ---- what is up does not follow its row

-- "A" is up, then its row is set to modifyReq and to the text "B"
abbrev changed_row : SignState
changed_row =
    after_set (after_set (after_set lettered_sign (code (codes "ffffff0300019a66c0000201") ∷ [])) (number (cell Status 3 1) 6 ∷ []))
    (octets (cell MultiString 3 1) (codes "B") ∷ [])

-- the row reads "B"
row_is_changed : reads changed_row (cell MultiString 3 1) ≡ Some (octet_string (codes "B"))
unfolding answer reads
row_is_changed = refl

-- "A" is still up
message_is_not_changed : seen changed_row ≡ letter_a 8 None
unfolding answer
message_is_not_changed = refl

-- the current buffer reads it
current_buffer_is_not_changed : reads changed_row (cell MultiString 5 1) ≡ Some (octet_string (codes "A"))
unfolding answer reads
current_buffer_is_not_changed = refl

-- ---- one row at a time

-- changeable row 1 is being validated
abbrev pub validating_sign : SignState
validating_sign = after_set (with_changeable_rows (open_row (codes "A") ∷ open_row (codes "A") ∷ [])) (number (cell Status 3 1) 7 ∷ [])

-- its status is validating
is_validating : reads validating_sign (cell Status 3 1) ≡ Some (integer (pos 3))
unfolding answer reads
is_validating = refl

-- changeable row 2 may not be: genErr
one_at_a_time : status_and_index validating_sign (number (cell Status 3 2) 7 ∷ []) ≡ (5, 1)
unfolding answer
one_at_a_time = refl

-- ---- verdicts

-- what is reported of a row a second after validateReq: its status, dmsValidateMessageError, dmsMultiSyntaxError and its position
abbrev told_of : RowModel → List (Option ObjectValue)
told_of row =
    let s = later 1 (after_set (with_changeable_rows (row ∷ unused ∷ [])) (number (cell Status 3 1) 7 ∷ [])) in
    reads s (cell Status 3 1) ∷ reads s (Scalar ValidateMessageError) ∷ reads s (Scalar MultiSyntaxError) ∷ reads s (Scalar MultiSyntaxErrorPosition) ∷ []

abbrev numbers : List ℕ → List (Option ObjectValue)
numbers these = map (λ n. Some (integer (pos n))) these

-- nothing is wrong, and the sign has beacons
beacon_is_there : told_of (record (open_row (codes "A")) { beacon = 1 }) ≡ numbers (4 ∷ 2 ∷ 2 ∷ 0 ∷ [])
unfolding answer reads later
beacon_is_there = refl

-- a tag without an end: syntaxMULTI, unsupportedTag at 0
tag_without_an_end : told_of (open_row (codes "[nl")) ≡ numbers (5 ∷ 5 ∷ 3 ∷ 0 ∷ [])
unfolding answer reads later
tag_without_an_end = refl

-- a pixel service that the sign has not is reported first, and the text is not looked at
no_pixel_service : told_of (record (open_row (codes "[nl")) { pixel = 1 }) ≡ numbers (5 ∷ 4 ∷ 2 ∷ 0 ∷ [])
unfolding answer reads later
no_pixel_service = refl
