-- The lines of what is saved of objects, each without its newline.
use Rattle.std.proofs.Common.{◌≡◌, ℕ, zero, suc, ◌-◌, ◌==◌, false, cond, List, [], ◌∷◌, ◌++◌, codes, length, take, map, filter, slice_index, refl, sym, ap, ◌∙◌, arith, inl, inr}
use Rattle.std.specs.List.{list_any}
use Rattle.std.specs.Str.Lines.{lines, strip_carriage_return}
use Rattle.std.proofs.lemmas.Bool.{or_parts, cases_Bool}
use Rattle.dms_wire_ber.specs.NameText.{dotted}
use Rattle.dms_wire_ber.specs.ObjectIdentifier.{IsNameInLimits}
use Rattle.dms_wire.specs.Message.{ObjectValue, VarBind}
use Rattle.dms_text.proofs.LineLaws.{line_first}
use Rattle.dms_text_values.specs.ValueText.{value_text}
use Rattle.dms_sign_state.proofs.Forms.{IsFree}
use Rattle.dms_device.specs.Object.{DeviceObject}
use Rattle.dms_device.specs.Objects.{binding_of}
use Rattle.dms_agent_state.specs.AgentText.{value_line, kept_lines}
use Rattle.dms_agent_state.specs.Alike.{CanAllBeSaved, kept_bindings}
use Rattle.dms_agent_state.proofs.TakenOver.{is_kept}
use Rattle.dms_text_exact.proofs.FrontLaws.{free_append, part_first}
use Rattle.dms_agent_state.proofs.WordForms.{name_free}
use Rattle.dms_agent_state.proofs.ValueLines.{Worded, words_in, line_grouped, words_free, worded_by}

-- the line of a binding
abbrev pub line_of : VarBind → List ℕ
line_of binding = words_in binding.name binding.value

-- ---- no carriage return

no_return_at : (line : List ℕ) (place : ℕ) → IsFree 13 line → (slice_index line place == 13) ≡ false
no_return_at [] place free = refl
no_return_at (x ∷ line) zero free = (or_parts (x == 13) (list_any (λ octet. octet == 13) line) free).0
no_return_at (x ∷ line) (suc place) free = no_return_at line place (or_parts (x == 13) (list_any (λ octet. octet == 13) line) free).1

whole : (line : List ℕ) → IsFree 13 line → strip_carriage_return line ≡ line
whole line free = ap (λ b. cond b (take (length line - 1) line) line) (no_return_at line (length line - 1) free)

words_bare : (name : List ℕ) (value : ObjectValue) → IsNameInLimits name → Worded value → IsFree 13 (words_in name value)
words_bare name value within worded =
    free_append 13 (dotted name) (codes " " ++ value_text value) (name_free 13 name (omega arith) within) worded.bare

-- ---- lines

first_is : (name : List ℕ) (value : ObjectValue) (rest : List ℕ) → IsNameInLimits name → Worded value
    → lines (value_line name value ++ rest) ≡ words_in name value ∷ lines rest
first_is name value rest within worded =
    let line = words_in name value in
    ap lines (line_grouped name value rest)
    ∙ line_first (line ++ 10 ∷ rest) line rest (part_first 10 line rest (words_free name value within worded))
    ∙ ap (λ line. line ∷ lines rest) (whole line (words_bare name value within worded))

-- those of the values that managers set, in the order of names
pub saved_lines : (objects : List DeviceObject) → CanAllBeSaved objects → lines (kept_lines objects) ≡ map line_of (kept_bindings objects)
saved_lines [] all = refl
saved_lines (object ∷ more) all =
    elim (cases_Bool object.by_manager) [
      | inl by ↦
          ap (λ b. lines (cond b (value_line object.name object.value) [] ++ kept_lines more)) by
          ∙ first_is object.name object.value (kept_lines more) all.0.name (worded_by object by all.0)
          ∙ ap (λ rest. words_in object.name object.value ∷ rest) (saved_lines more all.1)
          ∙ ap (λ b. map line_of (map binding_of (cond b (object ∷ filter is_kept more) (filter is_kept more)))) (sym by)
      | inr other ↦
          ap (λ b. lines (cond b (value_line object.name object.value) [] ++ kept_lines more)) other
          ∙ saved_lines more all.1
          ∙ ap (λ b. map line_of (map binding_of (cond b (object ∷ filter is_kept more) (filter is_kept more)))) (sym other)
    ]
