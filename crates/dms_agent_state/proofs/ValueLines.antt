-- What is written of objects whose values managers set is read again.
use Rattle.std.proofs.Common.{◌≡◌, ℕ, ◌+◌, ◌<◌, true, cond, List, [], ◌∷◌, ◌++◌, codes, length, map, filter, Some, Ok, refl, sym, ap, ◌∙◌, append_assoc, append-nil, arith, inl, inr}
use Rattle.std.specs.Fmt.{signed_decimal}
use Rattle.std.proofs.lemmas.Bool.{cases_Bool}
use Rattle.hex.specs.Hex.{IsBytes}
use Rattle.dms_wire_ber.specs.NameText.{dotted}
use Rattle.dms_wire_ber.specs.ObjectIdentifier.{IsNameInLimits}
use Rattle.dms_wire.specs.Message.{ObjectValue, VarBind, integer, octet_string, null, object_identifier, ip_address, counter, gauge, time_ticks, opaque}
use Rattle.dms_text.specs.Words.{parts_of, words_of}
use Rattle.dms_text.specs.Reading.{keyword_at}
use Rattle.dms_text.proofs.WordLaws.{word_only, keyword_only}
use Rattle.dms_text_values.specs.ValueReading.{value_at}
use Rattle.dms_text_values.specs.ValueText.{octets_text, value_text}
use Rattle.dms_sign_state.proofs.Forms.{IsFree}
use Rattle.dms_sign_state.proofs.HexWords.{octets_free}
use Rattle.dms_device.specs.Object.{DeviceObject, can_be_sent}
use Rattle.dms_device.specs.Objects.{binding_of}
use Rattle.dms_agent_state.specs.SpelledValue.{SpellsValue}
use Rattle.dms_agent_state.proofs.ObjectWordLaws.{name_only, name_some}
use Rattle.dms_agent_state.proofs.ValueLaws.{value_only}
use Rattle.dms_agent_state.specs.AgentText.{value_line, kept_lines}
use Rattle.dms_agent_state.specs.ValueLines.{with_value, with_name, with_word, behind_set, set_of, in_line, put_before, sets_at}
use Rattle.dms_agent_state.specs.Alike.{IsSettable, CanBeSaved, CanAllBeSaved, kept_bindings}
use Rattle.dms_agent_state.proofs.LinesRead.{some_part}
use Rattle.dms_text_exact.proofs.FrontLaws.{free_append, part_first, part_only}
use Rattle.dms_text_exact.proofs.NumberLaws.{signed_free}
use Rattle.dms_agent_state.proofs.WordForms.{spells_integer, spells_octets, name_free, spells_name}

-- the words of a value, and that they stand in one line, without a carriage return
pub record Worded (value : ObjectValue) : Type 0 where
  pub spelled : SpellsValue value (words_of (value_text value))
  pub free : IsFree 10 (value_text value)
  pub bare : IsFree 13 (value_text value)

integer_worded : (z : _) → can_be_sent (integer z) ≡ true → Worded (integer z)
integer_worded z sent =
    let word = signed_decimal z in
    let words : words_of (codes "INTEGER " ++ word) ≡ codes "INTEGER" ∷ word ∷ [] =
    part_first 32 (codes "INTEGER") word refl ∙ ap (λ words. codes "INTEGER" ∷ words) (part_only 32 word (signed_free 32 z (omega arith) sent)) in
    record {
      spelled = record { word = word; words_are = words; spelled = spells_integer z sent };
      free = signed_free 10 z (omega arith) sent;
      bare = signed_free 13 z (omega arith) sent;
    }

octets_worded : (octets : List ℕ) → IsBytes octets → Worded (octet_string octets)
octets_worded octets all =
    let word = octets_text octets in
    let words : words_of (codes "OCTET STRING " ++ word) ≡ codes "OCTET" ∷ codes "STRING" ∷ word ∷ [] =
    part_first 32 (codes "OCTET") (codes "STRING " ++ word) refl
    ∙ ap (λ words. codes "OCTET" ∷ words) (part_first 32 (codes "STRING") word refl
    ∙ ap (λ words. codes "STRING" ∷ words) (part_only 32 word (octets_free 32 octets (omega arith) all))) in
    record {
      spelled = record { word = word; words_are = words; spelled = spells_octets octets all };
      free = octets_free 10 octets (omega arith) all;
      bare = octets_free 13 octets (omega arith) all;
    }

-- a line without its newline
abbrev pub words_in : List ℕ → ObjectValue → List ℕ
words_in name value = codes "set " ++ (dotted name ++ (codes " " ++ value_text value))

pub line_grouped : (name : List ℕ) (value : ObjectValue) (rest : List ℕ) → value_line name value ++ rest ≡ words_in name value ++ 10 ∷ rest
line_grouped name value rest = grouped (codes "set ") (codes " ") (dotted name) (value_text value) (codes "\n") rest
  where
    grouped : (set s name value end rest : List ℕ) → ((set ++ name ++ s) ++ value ++ end) ++ rest ≡ (set ++ (name ++ (s ++ value))) ++ (end ++ rest)
    grouped set s name value end rest = simp append_assoc

pub words_free : (name : List ℕ) (value : ObjectValue) → IsNameInLimits name → Worded value → IsFree 10 (words_in name value)
words_free name value within worded =
    free_append 10 (dotted name) (codes " " ++ value_text value) (name_free 10 name (omega arith) within) worded.free

pub words_are : (name : List ℕ) (value : ObjectValue) → IsNameInLimits name → words_of (words_in name value) ≡ codes "set" ∷ dotted name ∷ words_of (value_text value)
words_are name value within =
    part_first 32 (codes "set") (dotted name ++ (codes " " ++ value_text value)) refl
    ∙ ap (λ words. codes "set" ∷ words) (part_first 32 (dotted name) (value_text value) (name_free 32 name (omega arith) within))

read_again : (name : List ℕ) (value : ObjectValue) → IsNameInLimits name → Worded value → set_of (words_in name value) ≡ Ok (record { name = name; value = value })
unfolding set_of
read_again name value within worded =
    let word = dotted name in
    let words = words_of (value_text value) in
    let read : value_at words ≡ Some (value, []) = ap value_at (sym (append-nil words)) ∙ value_only value words [] worded.spelled in
    ap (λ words. behind_set (keyword_at (codes "set") words)) (words_are name value within)
    ∙ ap behind_set (keyword_only (codes "set") (word ∷ words) (omega arith))
    ∙ ap with_word (word_only word words (name_some word name (spells_name name within)))
    ∙ ap (with_name words) (name_only word name (spells_name name within))
    ∙ ap (with_value name) read

-- ---- all lines

pub worded_by : (object : DeviceObject) → object.by_manager ≡ true → CanBeSaved object → Worded object.value
worded_by object by is = of_value object.value (is.settable by)
  where
    of_value : (value : ObjectValue) → IsSettable value → Worded value
    of_value (integer z) sent = integer_worded z sent
    of_value (octet_string octets) all = octets_worded octets all
    of_value null is = absurd is
    of_value (object_identifier numbers) is = absurd is
    of_value (ip_address octets) is = absurd is
    of_value (counter n) is = absurd is
    of_value (gauge n) is = absurd is
    of_value (time_ticks n) is = absurd is
    of_value (opaque octets) is = absurd is

-- the values of all lines, whatever number the first has
pub all_read_again : (number : ℕ) (objects : List DeviceObject) → CanAllBeSaved objects → sets_at number (parts_of 10 (kept_lines objects)) ≡ Ok (kept_bindings objects)
all_read_again number [] all = refl
all_read_again number (object ∷ more) all =
    elim (cases_Bool object.by_manager) [
      | inl by ↦ by_a_manager by (all_read_again (number + 1) more all.1)
      | inr other ↦
          ap (λ b. sets_at number (parts_of 10 (cond b (value_line object.name object.value) [] ++ kept_lines more))) other
          ∙ all_read_again number more all.1
          ∙ ap (λ b. Ok (map binding_of (cond b (object ∷ filter (λ object. object.by_manager) more) (filter (λ object. object.by_manager) more)))) (sym other)
    ]
  where
    onward : (line : List ℕ) (parts : List (List ℕ)) (binding : VarBind) → 0 < length parts → set_of line ≡ Ok binding
        → sets_at number (line ∷ parts) ≡ put_before (Ok binding) (sets_at (number + 1) parts)
    onward line [] binding some read = absurd (omega (arith, some))
    onward line (next ∷ parts) binding some read = ap (λ read. put_before (in_line number read) (sets_at (number + 1) (next ∷ parts))) read

    by_a_manager : object.by_manager ≡ true → sets_at (number + 1) (parts_of 10 (kept_lines more)) ≡ Ok (kept_bindings more)
        → sets_at number (parts_of 10 (kept_lines (object ∷ more))) ≡ Ok (kept_bindings (object ∷ more))
    by_a_manager by later =
        let worded = worded_by object by all.0 in
        let line = words_in object.name object.value in
        let rest = kept_lines more in
        ap (λ b. sets_at number (parts_of 10 (cond b (value_line object.name object.value) [] ++ rest))) by
        ∙ ap (λ text. sets_at number (parts_of 10 text)) (line_grouped object.name object.value rest)
        ∙ ap (sets_at number) (part_first 10 line rest (words_free object.name object.value all.0.name worded))
        ∙ onward line (parts_of 10 rest) (binding_of object) (some_part rest) (read_again object.name object.value all.0.name worded)
        ∙ ap (put_before (Ok (binding_of object))) later
        ∙ ap (λ b. Ok (map binding_of (cond b (object ∷ filter (λ object. object.by_manager) more) (filter (λ object. object.by_manager) more)))) (sym by)
