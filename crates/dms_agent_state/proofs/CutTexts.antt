-- The text of an agent's state is cut behind the text of its sign's: before that ends no line of it is `end`.
use Rattle.std.proofs.Common.{◌≡◌, ℕ, ◌+◌, ◌-◌, ◌<◌, ◌≤◌, ◌^◌, ◌==◌, Bool, true, false, cond, List, [], ◌∷◌, ◌++◌, codes, decimal, length, take, drop, flat_map, Option, Some, None, IfSome, refl, ap, subst, ◌∙◌, append_assoc, arith}
use Rattle.std.specs.Prelude.{◌&&◌, nat_le}
use Rattle.std.specs.List.{list_any, list_all, AllByRecursion}
use Rattle.std.proofs.lemmas.Bool.{or_parts, and_parts, and_right, leb-true}
use Rattle.std.proofs.lemmas.Fmt.{decimal_digit}
use Rattle.std.proofs.lemmas.List.{take_at, length-append}
use Rattle.hex.specs.Hex.{IsBytes}
use Rattle.dms_wire_ber.specs.NameText.{dotted}
use Rattle.dms_text_values.specs.ValueText.{octets_text}
use Rattle.dms_codes.specs.Status.{status_number}
use Rattle.dms_codes.specs.declared.status.Status.{Status}
use Rattle.dms_codes.specs.declared.status.Status.TheVariants as statuses
use Rattle.dms_face.specs.declared.defaults.Defaults.{Defaults}
use Rattle.dms_sign_access.specs.declared.settings.Fallbacks.{Fallbacks}
use Rattle.dms_sign_access.specs.declared.settings.SignSettings.{SignSettings}
use Rattle.dms_sign_access.specs.declared.reports.Reports.{Reports}
use Rattle.dms_sign.specs.State.{SignState}
use Rattle.dms_sign.specs.InRange.{IsSignInRange}
use Rattle.dms_sign_restored.proofs.FieldsInRange.{fields_in_range}
use Rattle.dms_sign_state.specs.StateText.{fields_of, text_of_state}
use Rattle.dms_sign_state.specs.declared.number_settings.NumberSetting.{NumberSetting}
use Rattle.dms_sign_state.specs.NumberSettings.{all_numbers, number_word, number_of, greatest_number}
use Rattle.dms_sign_state.specs.Fields.{MessageModel, UsedRow, PutModel, FieldsModel, AreFields, IsMessage, AreUsedRows, AreDefaults, AreFallbacks, AreSettings, IsPut, AreReports, IsCode, IsAddress}
use Rattle.dms_sign_state.specs.FieldsText.{number_line, part_line, octets_line, colour_words, layout_words, defaults_words, octets_word, message_words, row_begun, row_line, row_lines, fallbacks_text, setting_line, settings_text, source_line, address_line, remaining_text, copied_line, put_text, reports_text, last_lines, text_of_fields}
use Rattle.dms_sign_state.proofs.Forms.{IsFree}
use Rattle.dms_sign_state.proofs.HexWords.{octets_free}
use Rattle.dms_agent_state.specs.Parts.{ends_here, behind_end, sign_part}
use Rattle.dms_text_exact.proofs.FrontLaws.{free_append}
use Rattle.dms_text_exact.proofs.NumberLaws.{decimal_free}
use Rattle.dms_text_exact.proofs.AddressLaws.{address_free}

-- ---- lines

-- whole lines, none of which is `end`
record Passes (lines : List ℕ) : Type 0 where
  passes : (rest : List ℕ) → behind_end true (lines ++ rest) ≡ behind_end true rest

two : {a b : List ℕ} → Passes a → Passes b → Passes (a ++ b)
two {a} {b} one other =
    record { passes = λ rest. ap (behind_end true) (append_assoc a b rest) ∙ one.passes (b ++ rest) ∙ other.passes rest }

-- to the newline
runs_on : (word rest : List ℕ) → IsFree 10 word → behind_end false (word ++ 10 ∷ rest) ≡ behind_end true rest
runs_on [] rest free = refl
runs_on (x ∷ word) rest free =
    let parts = or_parts (x == 10) (list_any (λ octet. octet == 10) word) free in
    ap (λ b. behind_end b (word ++ 10 ∷ rest)) parts.0 ∙ runs_on word rest parts.1

abbrev IsOther : List ℕ → Type 0
IsOther word = (rest : List ℕ) → ends_here (word ++ 10 ∷ rest) ≡ false

passed : (word rest : List ℕ) → IsFree 10 word → IsOther word → behind_end true ((word ++ codes "\n") ++ rest) ≡ behind_end true rest
passed [] rest free other = refl
passed (x ∷ word) rest free other =
    let parts = or_parts (x == 10) (list_any (λ octet. octet == 10) word) free in
    ap (behind_end true) (append_assoc (x ∷ word) (codes "\n") rest)
    ∙ ap (λ b. cond b (drop 4 (x ∷ (word ++ 10 ∷ rest))) (behind_end (x == 10) (word ++ 10 ∷ rest))) (other rest)
    ∙ ap (λ b. behind_end b (word ++ 10 ∷ rest)) parts.0 ∙ runs_on word rest parts.1

line : (word : List ℕ) → IsFree 10 word → IsOther word → Passes (word ++ codes "\n")
line word free other = record { passes = λ rest. passed word rest free other }

-- a word, and the rest of its line
ended : (first word : List ℕ) → IsFree 10 first → IsFree 10 word → IsOther (first ++ word) → Passes (first ++ (word ++ codes "\n"))
ended first word one free other =
    subst Passes (append_assoc first word (codes "\n")) (line (first ++ word) (free_append 10 first word one free) other)

-- ---- words

abbrev Free : List ℕ → Type 0
Free word = IsFree 10 word

octet_word : (n : ℕ) → n ≤ 65535 → Free (codes " " ++ decimal n)
octet_word n small = decimal_free 10 n (omega arith) (omega (arith, small))

-- a space and a number behind others
and_number : (words : List ℕ) (n : ℕ) → Free words → n ≤ 65535 → Free (words ++ codes " " ++ decimal n)
and_number words n free small =
    free_append 10 (words ++ codes " ") (decimal n) (free_append 10 words (codes " ") free refl) (decimal_free 10 n (omega arith) (omega (arith, small)))

octets_word_free : (octets : List ℕ) → IsBytes octets → Free (octets_word octets)
octets_word_free octets all = octets_free 10 octets (omega arith) all

-- ---- the lines of defaults and of messages, behind their names

abbrev default_words : Defaults → List ℕ
default_words d = (colour_words d ++ layout_words d) ++ (codes " " ++ decimal d.on ++ codes " " ++ decimal d.off)

default_words_are : (d : Defaults) → default_words d ++ codes "\n" ≡ defaults_words d
default_words_are d = append_assoc (colour_words d ++ layout_words d) (codes " " ++ decimal d.on ++ codes " " ++ decimal d.off) (codes "\n")

default_words_free : (d : Defaults) → AreDefaults d → Free (default_words d)
default_words_free d are =
    free_append 10 (colour_words d ++ layout_words d) (codes " " ++ decimal d.on ++ codes " " ++ decimal d.off)
    (free_append 10 (colour_words d) (layout_words d)
    (and_number (codes " " ++ decimal d.background ++ codes " " ++ decimal d.foreground ++ codes " " ++ decimal d.flash_on) d.flash_off
    (and_number (codes " " ++ decimal d.background ++ codes " " ++ decimal d.foreground) d.flash_on
    (and_number (codes " " ++ decimal d.background) d.foreground (octet_word d.background (omega (arith, are.0.0))) (omega (arith, are.0.1.0))) (omega (arith, are.0.1.1.0)))
    (omega (arith, are.0.1.1.1)))
    (and_number (codes " " ++ decimal d.font ++ codes " " ++ decimal d.line) d.page
    (and_number (codes " " ++ decimal d.font) d.line (octet_word d.font (omega (arith, are.1.0.0))) (omega (arith, are.1.0.1.0))) (omega (arith, are.1.0.1.1))))
    (and_number (codes " " ++ decimal d.on) d.off (octet_word d.on (omega (arith, are.1.1.0))) (omega (arith, are.1.1.1)))

defaults_pass : (name : List ℕ) (d : Defaults) → Free name → AreDefaults d → IsOther (name ++ default_words d) → Passes (name ++ defaults_words d)
defaults_pass name d free are other =
    subst (λ words. Passes (name ++ words)) (default_words_are d) (ended name (default_words d) free (default_words_free d are) other)

abbrev words_of_message : MessageModel → List ℕ
words_of_message m =
    (octets_word m.text ++ octets_word m.owner) ++ (codes " " ++ decimal m.beacon ++ codes " " ++ decimal m.pixel ++ codes " " ++ decimal m.priority)

message_is : (m : MessageModel) → words_of_message m ++ codes "\n" ≡ message_words m
message_is m =
    append_assoc (octets_word m.text ++ octets_word m.owner) (codes " " ++ decimal m.beacon ++ codes " " ++ decimal m.pixel ++ codes " " ++ decimal m.priority) (codes "\n")

message_free : (m : MessageModel) → IsMessage m → Free (words_of_message m)
message_free m is =
    free_append 10 (octets_word m.text ++ octets_word m.owner) (codes " " ++ decimal m.beacon ++ codes " " ++ decimal m.pixel ++ codes " " ++ decimal m.priority)
    (free_append 10 (octets_word m.text) (octets_word m.owner) (octets_word_free m.text is.0.1) (octets_word_free m.owner is.1.0.1))
    (and_number (codes " " ++ decimal m.beacon ++ codes " " ++ decimal m.pixel) m.priority
    (and_number (codes " " ++ decimal m.beacon) m.pixel (octet_word m.beacon (omega (arith, is.1.1.0))) (omega (arith, is.1.1.1.0))) (omega (arith, is.1.1.1.1)))

message_passes : (name : List ℕ) (m : MessageModel) → Free name → IsMessage m → IsOther (name ++ words_of_message m) → Passes (name ++ message_words m)
message_passes name m free is other =
    subst (λ words. Passes (name ++ words)) (message_is m) (ended name (words_of_message m) free (message_free m is) other)

-- ---- rows

-- a text of which it is known how it begins
abbrev BeginsOther : List ℕ → Type 0
BeginsOther name = (rest : List ℕ) → ends_here (name ++ rest) ≡ false

other_by : (name word : List ℕ) → BeginsOther name → IsOther (name ++ word)
other_by name word begins rest = ap ends_here (append_assoc name word (10 ∷ rest)) ∙ begins (word ++ 10 ∷ rest)

status_small : (s : Status) → status_number s ≤ 65535
status_small statuses.NotUsed = omega arith
status_small statuses.Modifying = omega arith
status_small statuses.Validating = omega arith
status_small statuses.Valid = omega arith
status_small statuses.Error = omega arith

begun_other : (name : List ℕ) (row : UsedRow) (word : List ℕ) → BeginsOther name → IsOther (row_begun name row ++ word)
begun_other name row word begins rest =
    let number = codes " " ++ decimal row.number in
    let status = codes " " ++ decimal (status_number row.status) in
    let grouped : (row_begun name row ++ word) ++ 10 ∷ rest ≡ name ++ (codes " " ++ (decimal row.number ++ (codes " " ++ (decimal (status_number row.status) ++ (word ++ 10 ∷ rest))))) =
    group name (codes " ") (decimal row.number) (decimal (status_number row.status)) word (10 ∷ rest) in
    ap ends_here grouped ∙ begins _
  where
    group : (name s number status word rest : List ℕ) → ((name ++ s ++ number ++ s ++ status) ++ word) ++ rest ≡ name ++ (s ++ (number ++ (s ++ (status ++ (word ++ rest)))))
    group name s number status word rest = simp append_assoc

row_passes : (name : List ℕ) (least most : ℕ) (row : UsedRow) → Free name → BeginsOther name → most ≤ 65535 → least ≤ row.number → row.number ≤ most → IsMessage row.message
    → Passes (row_line name row)
row_passes name least most row free begins small low high is =
    message_passes (row_begun name row) row.message
    (and_number (name ++ codes " " ++ decimal row.number) (status_number row.status) (and_number name row.number free (omega (arith, high, small))) (status_small row.status))
    is (begun_other name row (words_of_message row.message) begins)

rows_pass : (name : List ℕ) (least most : ℕ) (rows : List UsedRow) → Free name → BeginsOther name → most ≤ 65535 → AreUsedRows least most rows → Passes (row_lines name rows)
rows_pass name least most [] free begins small are = record { passes = λ rest. refl }
rows_pass name least most (row ∷ rows) free begins small are =
    two (row_passes name least most row free begins small are.0.0.0 are.0.0.1 are.0.1.1)
    (rows_pass name (row.number + 1) most rows free begins small are.1)

-- ---- settings

code_passes : (name : List ℕ) (size : ℕ) (octets : List ℕ) → Free name → BeginsOther name → IsCode size octets → Passes (octets_line name octets)
code_passes name size octets free begins is =
    line ((name ++ codes " ") ++ octets_text octets)
    (free_append 10 (name ++ codes " ") (octets_text octets) (free_append 10 name (codes " ") free refl) (octets_free 10 octets (omega arith) is.1))
    (λ rest. ap ends_here (append_assoc (name ++ codes " ") (octets_text octets) (10 ∷ rest) ∙ append_assoc name (codes " ") (octets_text octets ++ 10 ∷ rest)) ∙ begins _)

number_passes : (name : List ℕ) (n : ℕ) → Free name → BeginsOther name → n < 2 ^ 64 → Passes (number_line name n)
number_passes name n free begins small =
    line ((name ++ codes " ") ++ decimal n)
    (free_append 10 (name ++ codes " ") (decimal n) (free_append 10 name (codes " ") free refl) (decimal_free 10 n (omega arith) small))
    (λ rest. ap ends_here (append_assoc (name ++ codes " ") (decimal n) (10 ∷ rest) ∙ append_assoc name (codes " ") (decimal n ++ 10 ∷ rest)) ∙ begins _)

fallbacks_pass : (f : Fallbacks) → AreFallbacks f → Passes (fallbacks_text f)
fallbacks_pass f are =
    two
    (two
    (two
    (two
    (code_passes (codes "short-power-recovery") 5 f.short_power_recovery refl (λ rest. refl) are.0)
    (code_passes (codes "long-power-recovery") 5 f.long_power_recovery refl (λ rest. refl) are.1.0))
    (code_passes (codes "power-loss") 5 f.power_loss refl (λ rest. refl) are.1.1.0))
    (code_passes (codes "end-duration") 5 f.end_duration refl (λ rest. refl) are.1.1.1.0))
    (code_passes (codes "communications-loss") 5 f.communications_loss refl (λ rest. refl) are.1.1.1.1)

-- a word of four octets or more, of one line, begins no line `end`
begins_other : (word : List ℕ) → Free word → 4 ≤ length word → BeginsOther word
begins_other [] free long rest = absurd (omega (arith, long))
begins_other (a ∷ []) free long rest = absurd (omega (arith, long))
begins_other (a ∷ b ∷ []) free long rest = absurd (omega (arith, long))
begins_other (a ∷ b ∷ c ∷ []) free long rest = absurd (omega (arith, long))
begins_other (a ∷ b ∷ c ∷ d ∷ word) free long rest =
    let behind_a = or_parts (a == 10) (list_any (λ octet. octet == 10) (b ∷ c ∷ d ∷ word)) free in
    let behind_b = or_parts (b == 10) (list_any (λ octet. octet == 10) (c ∷ d ∷ word)) behind_a.1 in
    let behind_c = or_parts (c == 10) (list_any (λ octet. octet == 10) (d ∷ word)) behind_b.1 in
    let last = or_parts (d == 10) (list_any (λ octet. octet == 10) word) behind_c.1 in
    and_right (a == 101) _ (and_right (b == 110) _ (and_right (c == 100) _ (ap (λ is. is && true) last.0)))

abbrev is_broken : NumberSetting → Bool
is_broken number = list_any (λ octet. octet == 10) (number_word number)

abbrev is_long : NumberSetting → Bool
is_long number = nat_le 4 (length (number_word number))

numbers_pass : (s : SignSettings) (numbers : List NumberSetting) → list_any is_broken numbers ≡ false → list_all is_long numbers ≡ true
    → AllByRecursion (λ number. number_of s number ≤ greatest_number) numbers → Passes (flat_map (setting_line s) numbers)
numbers_pass s [] whole long are = record { passes = λ rest. refl }
numbers_pass s (number ∷ numbers) whole long are =
    let free = or_parts (is_broken number) (list_any is_broken numbers) whole in
    let size = and_parts (is_long number) (list_all is_long numbers) long in
    let begins = begins_other (number_word number) free.0 (leb-true 4 (length (number_word number)) size.0) in
    two (number_passes (number_word number) (number_of s number) free.0 begins (omega (arith, are.0))) (numbers_pass s numbers free.1 size.1 are.1)

settings_pass : (s : SignSettings) → AreSettings s → Passes (settings_text s)
settings_pass s are =
    two
    (two
    (defaults_pass (codes "defaults") s.defaults refl are.0 (other_by (codes "defaults") (default_words s.defaults) (λ rest. refl)))
    (fallbacks_pass s.fallbacks are.1.0))
    (numbers_pass s all_numbers refl refl are.1.1)

-- ---- what is shown

-- the name of a field of two parts begins no line `end`, whatever its second part
abbrev BeginsNone : List ℕ → Type 0
BeginsNone name = (rest : List ℕ) → ends_here (name ++ rest) ≡ false

both_other : (name part : List ℕ) → BeginsNone name → BeginsNone (name ++ part)
both_other name part begins rest = ap ends_here (append_assoc name part rest) ∙ begins (part ++ rest)

source_passes : (name : List ℕ) (octets : List ℕ) → Free name → BeginsNone name → IsCode 5 octets → Passes (source_line name octets)
source_passes name octets free begins is =
    line ((name ++ codes "-source ") ++ octets_text octets)
    (free_append 10 (name ++ codes "-source ") (octets_text octets) (free_append 10 name (codes "-source ") free refl) (octets_free 10 octets (omega arith) is.1))
    (other_by (name ++ codes "-source ") (octets_text octets) (both_other name (codes "-source ") begins))

part_passes : (name part : List ℕ) (n : ℕ) → Free name → Free part → BeginsNone name → n < 2 ^ 64 → Passes (part_line name part n)
part_passes name part n free other begins small = number_passes (name ++ part) n (free_append 10 name part free other) (both_other name part begins) small

address_passes : (name address : List ℕ) → Free name → BeginsNone name → IsAddress address → Passes (address_line name address)
address_passes name address free begins is =
    ended (name ++ codes "-address ") (dotted address) (free_append 10 name (codes "-address ") free refl) (address_free 10 address (omega arith) is.1)
    (other_by (name ++ codes "-address ") (dotted address) (both_other name (codes "-address ") begins))

remaining_passes : (name : List ℕ) (seconds : Option ℕ) → Free name → BeginsNone name → IfSome seconds (λ seconds. seconds ≤ 4294967295) → Passes (remaining_text name seconds)
remaining_passes name None free begins small = record { passes = λ rest. refl }
remaining_passes name (Some seconds) free begins small = part_passes name (codes "-remaining") seconds free refl begins (omega (arith, small))

copied_passes : (name : List ℕ) (d : Defaults) → Free name → BeginsNone name → AreDefaults d → Passes (copied_line name d)
copied_passes name d free begins are =
    defaults_pass (name ++ codes "-defaults") d (free_append 10 name (codes "-defaults") free refl) are
    (other_by (name ++ codes "-defaults") (default_words d) (both_other name (codes "-defaults") begins))

put_passes : (name : List ℕ) (p : PutModel) → Free name → BeginsNone name → IsPut p → Passes (put_text name p)
put_passes name p free begins is =
    two
    (two
    (two
    (two
    (two
    (message_passes name p.message free is.0 (other_by name (words_of_message p.message) begins))
    (source_passes name p.source free begins is.1.0))
    (part_passes name (codes "-mode") p.mode free refl begins (omega (arith, is.1.1.0))))
    (address_passes name p.address free begins is.1.1.1.0))
    (remaining_passes name p.remaining free begins is.1.1.1.1.0))
    (copied_passes name p.defaults free begins is.1.1.1.1.1)

-- ---- what is reported

reports_pass : (r : Reports) → AreReports r → Passes (reports_text r)
reports_pass r are =
    two
    (two
    (two
    (two
    (two
    (number_passes (codes "validate-error") r.validate_error refl (λ rest. refl) (omega (arith, are.0.0)))
    (number_passes (codes "activate-error") r.activate_error refl (λ rest. refl) (omega (arith, are.0.1.0))))
    (number_passes (codes "syntax-error") r.syntax_error refl (λ rest. refl) (omega (arith, are.0.1.1.0))))
    (number_passes (codes "syntax-error-position") r.syntax_error_position refl (λ rest. refl) (omega (arith, are.0.1.1.1))))
    (code_passes (codes "accepted-code") 12 r.accepted_code refl (λ rest. refl) are.1.0))
    (code_passes (codes "failed-code") 12 r.failed_code refl (λ rest. refl) are.1.1)

-- ---- the whole

-- the line of the power, and the end
last_ends : (powered : Bool) (rest : List ℕ) → behind_end true (last_lines powered ++ rest) ≡ rest
last_ends true rest = ap (λ digits. behind_end true ((codes "powered " ++ digits ++ codes "\nend\n") ++ rest)) (decimal_digit 1 (omega arith))
last_ends false rest = ap (λ digits. behind_end true ((codes "powered " ++ digits ++ codes "\nend\n") ++ rest)) (decimal_digit 0 (omega arith))

pub behind_fields : (f : FieldsModel) (rest : List ℕ) → AreFields f → behind_end true (text_of_fields f ++ rest) ≡ rest
unfolding text_of_fields
behind_fields f rest are =
    let rows = row_lines (codes "changeable") f.changeable ++ row_lines (codes "volatile") f.volatile in
    let before =
    codes "state 1 sign\n" ++ rows ++ settings_text f.settings ++ number_line (codes "silent") f.silent_seconds ++ put_text (codes "shown") f.shown
    ++ put_text (codes "kept") f.shown_at_power_loss ++ reports_text f.reports in
    let form : Passes (codes "state 1 sign\n") = record { passes = λ rest. refl } in
    let passes : Passes before =
    two
    (two
    (two
    (two
    (two
    (two form
    (two
    (rows_pass (codes "changeable") 1 64 f.changeable refl (λ rest. refl) (omega arith) are.changeable)
    (rows_pass (codes "volatile") 1 16 f.volatile refl (λ rest. refl) (omega arith) are.volatile)))
    (settings_pass f.settings are.settings))
    (number_passes (codes "silent") f.silent_seconds refl (λ rest. refl) (omega (arith, are.silent))))
    (put_passes (codes "shown") f.shown refl (λ rest. refl) are.shown))
    (put_passes (codes "kept") f.shown_at_power_loss refl (λ rest. refl) are.kept))
    (reports_pass f.reports are.reports) in
    ap (behind_end true) (append_assoc before (last_lines f.powered) rest) ∙ passes.passes (last_lines f.powered ++ rest) ∙ last_ends f.powered rest

-- what stands before what stands behind the end
pub cut_before : (front rest : List ℕ) → behind_end true (front ++ rest) ≡ rest → sign_part (front ++ rest) ≡ front
cut_before front rest behind =
    let size : length (front ++ rest) - length (behind_end true (front ++ rest)) ≡ length front =
    omega (arith, length-append front rest, ap length behind) in
    ap (λ n. take n (front ++ rest)) size ∙ take_at front rest (length front) refl

pub behind_state : (s lent : SignState) (rest : List ℕ) → lent ≡ s → IsSignInRange lent → behind_end true (text_of_state s ++ rest) ≡ rest
unfolding text_of_state
behind_state s lent rest same is = behind_fields (fields_of s) rest (fields_in_range s (subst IsSignInRange same is))
