-- Defaults that are written on the bench sign, computed.
use Rattle.std.proofs.Common.{◌≡◌, ℕ, List, [], ◌∷◌, Some, refl, map}
use Rattle.std.specs.Prelude.{pos, codes}
use Rattle.dms_wire.specs.ErrorStatus.{error_status_number}
use Rattle.dms_wire.specs.declared.message.Kind.TheVariants.{Set}
use Rattle.dms_wire.specs.Message.{VarBind, integer}
use Rattle.dms_codes.specs.declared.status.Status.TheVariants.{Modifying}
use Rattle.dms_mib.specs.declared.column.Column.TheVariants.{Status}
use Rattle.dms_table.specs.Rows.{unused}
use Rattle.dms_mib.specs.declared.scalar.Scalar.TheVariants.{DefaultBackgroundColor, DefaultForegroundColor, DefaultFlashOn, DefaultFlashOff, DefaultFont, DefaultJustificationLine, DefaultJustificationPage, DefaultPageOnTime, DefaultPageOffTime, ActivateMsgError, MultiSyntaxError, MultiSyntaxErrorPosition, LongPowerRecoveryMessage}
use Rattle.dms_mib.specs.declared.instance.Instance.TheVariants.{Scalar}
use Rattle.dms_sign.specs.State.{SignState}
use Rattle.dms_sign_laws.proofs.BenchSign.{octets_of, bench_sign, with_changeable_rows, lettered_sign, valid_row, cell, number, octets, code, datagram, answer, status_and_index, after_set, reads, later, without_power, with_power, seen, blank_one}

-- defaultFont is set to 2, which has the letter "A" alone
abbrev font_two : List ℕ
font_two = codes "302b020100040561646d696ea31f02010902010002010030143012060d2b060104018936040203040500020102"

abbrev small_sign : SignState
small_sign = (datagram bench_sign font_two).after

-- it reads 2
font_is_two : reads small_sign (Scalar DefaultFont) ≡ Some (integer (pos 2))
unfolding datagram reads
font_is_two = refl

-- ---- a text that is wrong under the defaults of now: "B" of permanent row 1

abbrev permanent_one : List ℕ
permanent_one = codes "ffffff020001750200000000"

abbrev refused_sign : SignState
refused_sign = after_set small_sign (code permanent_one ∷ [])

-- genErr
activation_is_refused : status_and_index small_sign (code permanent_one ∷ []) ≡ (5, 1)
unfolding datagram answer
activation_is_refused = refl

-- what was up stays
blank_stays : seen refused_sign ≡ blank_one 10
unfolding datagram answer
blank_stays = refl

-- dmsActivateMsgError is syntaxMULTI
cause_is_the_text : reads refused_sign (Scalar ActivateMsgError) ≡ Some (integer (pos 8))
unfolding datagram answer reads
cause_is_the_text = refl

-- dmsMultiSyntaxError is characterNotDefined
character_is_not_defined : reads refused_sign (Scalar MultiSyntaxError) ≡ Some (integer (pos 7))
unfolding datagram answer reads
character_is_not_defined = refl

-- at the first octet of the text
first_character_is_not : reads refused_sign (Scalar MultiSyntaxErrorPosition) ≡ Some (integer (pos 0))
unfolding datagram answer reads
first_character_is_not = refl

-- its row stays valid
row_stays_valid : reads refused_sign (cell Status 2 1) ≡ Some (integer (pos 4))
unfolding datagram answer reads
row_stays_valid = refl

-- a later acceptance leaves what is reported of the text
fault_stays_told : reads (after_set refused_sign (code (codes "ffffff0700ff000000000000") ∷ [])) (Scalar MultiSyntaxError) ≡ Some (integer (pos 7))
unfolding datagram answer reads
fault_stays_told = refl

-- ---- what is up keeps its defaults

abbrev pub changeable_one : List ℕ
changeable_one = codes "ffffff0300019a6600000000"

-- "A" is up, then defaultFont is set to 2
abbrev pub copied_sign : SignState
copied_sign = (datagram (after_set lettered_sign (code changeable_one ∷ [])) font_two).after

-- what is up keeps the defaults that it came up with
copy_has_font_one : copied_sign.shown.defaults.font ≡ 1
unfolding datagram answer
copy_has_font_one = refl

-- those of now are others
sign_has_font_two : copied_sign.settings.defaults.font ≡ 2
unfolding datagram answer
sign_has_font_two = refl

-- put up again it is accepted
again_accepted : status_and_index copied_sign (code changeable_one ∷ []) ≡ (0, 0)
unfolding datagram answer
again_accepted = refl

-- its copy is that of now
again_has_font_two : (after_set copied_sign (code changeable_one ∷ [])).shown.defaults.font ≡ 2
unfolding datagram answer
again_has_font_two = refl

-- a code of the current buffer keeps the copy
current_buffer_keeps_font_one : (after_set copied_sign (code (codes "ffffff0500019a6600000000") ∷ [])).shown.defaults.font ≡ 1
unfolding datagram answer
current_buffer_keeps_font_one = refl

-- so does a loss of power, after which what was up stays
abbrev returned_sign : SignState
returned_sign = with_power 9 (without_power (after_set copied_sign (octets (Scalar LongPowerRecoveryMessage) (octets_of (codes "0500010000")) ∷ [])))

-- what comes up again has its old copy
loss_of_power_keeps_font_one : returned_sign.shown.defaults.font ≡ 1
unfolding datagram answer without_power with_power
loss_of_power_keeps_font_one = refl

-- the sign keeps what was written
loss_of_power_keeps_font_two : returned_sign.settings.defaults.font ≡ 2
unfolding datagram answer without_power with_power
loss_of_power_keeps_font_two = refl

-- ---- a default and a code in one SET: the code is judged under the new default

abbrev font_and_code : List VarBind
font_and_code = number (Scalar DefaultFont) 2 ∷ code permanent_one ∷ []

-- genErr, index 2
code_is_refused : status_and_index bench_sign font_and_code ≡ (5, 2)
unfolding answer
code_is_refused = refl

-- the default is not set
font_is_still_one : reads (after_set bench_sign font_and_code) (Scalar DefaultFont) ≡ Some (integer (pos 1))
unfolding answer reads
font_is_still_one = refl

-- dmsActivateMsgError is syntaxMULTI
cause_is_told : reads (after_set bench_sign font_and_code) (Scalar ActivateMsgError) ≡ Some (integer (pos 8))
unfolding answer reads
cause_is_told = refl

-- ---- a text that is wrong under the one font and right under the other: a new line, then "A"

-- changeable row 1 is of this text, and is being modified
abbrev two_lines : SignState
two_lines = with_changeable_rows (record (valid_row (codes "[nl]A") 9) { status = Modifying } ∷ unused ∷ [])

-- two lines of font 1 are too high: an error
error_before : reads (later 1 (after_set two_lines (number (cell Status 3 1) 7 ∷ []))) (cell Status 3 1) ≡ Some (integer (pos 5))
unfolding answer reads later
error_before = refl

-- a second after validateReq, with font 2
abbrev validated_after : SignState
validated_after = later 1 (after_set (datagram two_lines font_two).after (number (cell Status 3 1) 7 ∷ []))

-- validated there, it is valid
valid_after : reads validated_after (cell Status 3 1) ≡ Some (integer (pos 4))
unfolding datagram answer reads later
valid_after = refl

-- it stays so when the font goes back
stays_valid : reads (after_set validated_after (number (Scalar DefaultFont) 1 ∷ [])) (cell Status 3 1) ≡ Some (integer (pos 4))
unfolding datagram answer reads later
stays_valid = refl

-- ---- values

-- the status that a SET of one default is answered
abbrev statuses : List VarBind → List ℕ
statuses bindings = map (λ binding. error_status_number (answer bench_sign Set (binding ∷ [])).status) bindings

-- out of range, or not a font of the face: badValue
bad_values : statuses
    (number (Scalar DefaultBackgroundColor) 10 ∷ number (Scalar DefaultForegroundColor) 10 ∷ number (Scalar DefaultFlashOn) 256
    ∷ number (Scalar DefaultFlashOff) 256 ∷ number (Scalar DefaultFont) 3 ∷ number (Scalar DefaultFont) 0 ∷ number (Scalar DefaultFont) 258
    ∷ number (Scalar DefaultJustificationLine) 1 ∷ number (Scalar DefaultJustificationLine) 5 ∷ number (Scalar DefaultJustificationPage) 1
    ∷ number (Scalar DefaultJustificationPage) 5 ∷ number (Scalar DefaultPageOnTime) 256 ∷ number (Scalar DefaultPageOffTime) 256 ∷ [])
    ≡ 3 ∷ 3 ∷ 3 ∷ 3 ∷ 3 ∷ 3 ∷ 3 ∷ 3 ∷ 3 ∷ 3 ∷ 3 ∷ 3 ∷ 3 ∷ []
unfolding answer
bad_values = refl

-- the greatest values and the least
good_values : statuses
    (number (Scalar DefaultBackgroundColor) 9 ∷ number (Scalar DefaultForegroundColor) 0 ∷ number (Scalar DefaultFlashOn) 255
    ∷ number (Scalar DefaultFlashOff) 0 ∷ number (Scalar DefaultFont) 2 ∷ number (Scalar DefaultJustificationLine) 2
    ∷ number (Scalar DefaultJustificationPage) 4 ∷ number (Scalar DefaultPageOnTime) 255 ∷ number (Scalar DefaultPageOffTime) 0 ∷ [])
    ≡ 0 ∷ 0 ∷ 0 ∷ 0 ∷ 0 ∷ 0 ∷ 0 ∷ 0 ∷ 0 ∷ []
unfolding answer
good_values = refl

-- "public" may not write it: noSuchName, index 1
reader_writes_no_default : (datagram bench_sign (codes "302c02010004067075626c6963a31f02010902010002010030143012060d2b060104018936040203040500020102")).reply
    ≡ Some (octets_of (codes "302c02010004067075626c6963a21f02010902010202010130143012060d2b060104018936040203040500020102"))
unfolding datagram
reader_writes_no_default = refl
