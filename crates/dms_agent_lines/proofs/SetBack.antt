-- The lines of a saved text, handed over one by one.
use Rattle.std.proofs.Common.{◌≡◌, ℕ, true, false, cond, List, [], ◌∷◌, ◌++◌, codes, map, filter, Option, Some, None, refl, sym, ap, ap₂, subst, ◌∙◌, inl, inr}
use Rattle.std.specs.Prelude.{⊤, nat_eq}
use Rattle.std.specs.List.{list_all}
use Rattle.std.specs.Cmp.Lexicographic.{pointwise}
use Rattle.std.specs.Str.Lines.{lines}
use Rattle.std.proofs.lemmas.Bool.{and_parts, cases_Bool}
use Rattle.dms_wire_ber.specs.NameOrder.{is_before}
use Rattle.dms_wire_ber.specs.NameText.{dotted}
use Rattle.dms_wire_ber.specs.ObjectIdentifier.{IsNameInLimits}
use Rattle.dms_wire.specs.Message.{ObjectValue, VarBind}
use Rattle.dms_text.specs.Words.{words_of}
use Rattle.dms_text_streams.specs.Conversation.{ok_line}
use Rattle.dms_text_values.specs.ValueText.{value_text}
use Rattle.dms_sign_state.specs.StateText.{text_of_state}
use Rattle.dms_device.specs.declared.access.ManagerAccess.{ManagerAccess}
use Rattle.dms_device.specs.Object.{DeviceObject, admits}
use Rattle.dms_device.specs.Objects.{has_name, comes_after, rises, binding_of}
use Rattle.dms_device.specs.Setting.{set_to, set_by_binding}
use Rattle.dms_device.proofs.Order.{names_itself, after_differs}
use Rattle.dms_agent.specs.declared.agent.Agent.{Agent}
use Rattle.dms_agent_state.specs.AgentText.{kept_lines, text_of_agent}
use Rattle.dms_agent_state.specs.PutBack.{with_values}
use Rattle.dms_agent_state.specs.Alike.{CanAllBeSaved, kept_bindings, AreAlike, AreFirmwares}
use Rattle.dms_agent_state.proofs.TakenOver.{is_kept, binds_after, all_later, all_put_back, same_lines}
use Rattle.dms_agent_state.proofs.WordForms.{spells_name}
use Rattle.dms_agent_state.proofs.ValueLines.{Worded, words_in, words_are, worded_by}
use Rattle.dms_agent_state.proofs.SavedLines.{line_of, saved_lines}
use Rattle.dms_agent_lines.specs.AgentCall.{put_back, save}
use Rattle.dms_agent_lines.specs.AgentLine.{SpellsAgentCall}
use Rattle.dms_agent_lines.specs.AgentAnswer.{access_of, value_refusal, put_unless, answer_text, after_line, after_lines}
use Rattle.dms_agent_lines.proofs.CallLaws.{text_of_call, after_the_call}
use Rattle.dms_agent_lines.proofs.Named.{access_first}

-- ---- what lines spell

spelled_line : (name : List ℕ) (value : ObjectValue) → IsNameInLimits name → Worded value
    → SpellsAgentCall (put_back (record { name = name; value = value })) (words_in name value)
spelled_line name value within worded = record {
  name_word = dotted name;
  value_words = words_of (value_text value);
  words_are = words_are name value within;
  name = spells_name name within;
  value = worded.spelled;
}

abbrev AreSpelled : List VarBind → Type 0
AreSpelled [] = ⊤
AreSpelled (b ∷ more) = SpellsAgentCall (put_back b) (line_of b) × AreSpelled more

all_spelled : (objects : List DeviceObject) → CanAllBeSaved objects → AreSpelled (kept_bindings objects)
all_spelled [] all = tt
all_spelled (x ∷ xs) all =
    let more = all_spelled xs all.1 in
    elim (cases_Bool x.by_manager) [
      | inl by ↦
          subst (λ t. AreSpelled (map binding_of (cond t (x ∷ filter is_kept xs) (filter is_kept xs)))) (sym by)
          (spelled_line x.name x.value all.0.name (worded_by x by all.0), more)
      | inr other ↦ subst (λ t. AreSpelled (map binding_of (cond t (x ∷ filter is_kept xs) (filter is_kept xs)))) (sym other) more
    ]

-- ---- which values objects take

abbrev IsTaken : List DeviceObject → VarBind → Type 0
IsTaken objects b = value_refusal (access_of objects b.name) b.value ≡ None

abbrev AreTaken : List DeviceObject → List VarBind → Type 0
AreTaken objects [] = ⊤
AreTaken objects (b ∷ more) = IsTaken objects b × AreTaken objects more

-- a value that is put back leaves the names and what may be written
record IsLike (y x : DeviceObject) : Type 0 where
  name : y.name ≡ x.name
  access : y.access ≡ x.access

like_set : (x : DeviceObject) (value : ObjectValue) → IsLike (set_to x value) x
like_set x value = elim (admits x.access value) as (λ t. IsLike (cond t (record x { value = value; is_set = true; by_manager = true }) x) x) [
  | true ↦ record { name = refl; access = refl }
  | false ↦ record { name = refl; access = refl }
]

like_before : (b : VarBind) (x : DeviceObject) → IsLike (set_by_binding b x) x
like_before b x =
    let set = like_set x b.value in
    elim (has_name b.name x) as (λ t. IsLike (cond t (set_to x b.value) x) x) [ true ↦ set | false ↦ record { name = refl; access = refl } ]

same_access : (b : VarBind) (objects : List DeviceObject) (name : List ℕ) → access_of (map (set_by_binding b) objects) name ≡ access_of objects name
same_access b [] name = refl
same_access b (x ∷ xs) name =
    let y = set_by_binding b x in
    let like = like_before b x in
    access_first name y (map (set_by_binding b) xs)
    ∙ first_alike name y x (access_of (map (set_by_binding b) xs) name) like
    ∙ ap (λ rest. cond (has_name name x) (Some x.access) rest) (same_access b xs name)
    ∙ sym (access_first name x xs)
  where
    first_alike : (name : List ℕ) (y x : DeviceObject) (rest : Option ManagerAccess) → IsLike y x → cond (has_name name y) (Some y.access) rest ≡ cond (has_name name x) (Some x.access) rest
    first_alike name y x rest like =
        ap (λ n. cond (pointwise nat_eq n name) (Some y.access) rest) like.name ∙ ap (λ access. cond (has_name name x) (Some access) rest) like.access

still_taken : (b : VarBind) (objects : List DeviceObject) (more : List VarBind) → AreTaken objects more → AreTaken (map (set_by_binding b) objects) more
still_taken b objects [] all = tt
still_taken b objects (next ∷ more) all =
    (ap (λ access. value_refusal access next.value) (same_access b objects next.name) ∙ all.0, still_taken b objects more all.1)

-- bindings of names that come behind an object are taken by the objects behind it
taken_behind : (y : DeviceObject) (ys : List DeviceObject) (bindings : List VarBind) → list_all (binds_after y.name) bindings ≡ true → AreTaken ys bindings → AreTaken (y ∷ ys) bindings
taken_behind y ys [] later all = tt
taken_behind y ys (b ∷ more) later all =
    let parts = and_parts (is_before y.name b.name) (list_all (binds_after y.name) more) later in
    let behind : access_of (y ∷ ys) b.name ≡ access_of ys b.name =
    access_first b.name y ys ∙ ap (λ t. cond t (Some y.access) (access_of ys b.name)) (after_differs b.name y parts.0) in
    (ap (λ access. value_refusal access b.value) behind ∙ all.0, taken_behind y ys more parts.1 all.1)

taken_first : (x y : DeviceObject) (ys : List DeviceObject) → x.name ≡ y.name → x.access ≡ y.access → admits x.access x.value ≡ true → IsTaken (y ∷ ys) (binding_of x)
taken_first x y ys name access admitted =
    ap (λ access. value_refusal access x.value)
    (access_first x.name y ys ∙ ap (λ t. cond t (Some y.access) (access_of ys x.name)) (names_itself x.name y (sym name)))
    ∙ ap (λ t. cond t None (Some (codes "the object does not take this value"))) (subst (λ access. admits access x.value ≡ true) access admitted)

all_taken : (xs ys : List DeviceObject) → rises xs ≡ true → CanAllBeSaved xs → AreAlike xs ys → AreTaken ys (kept_bindings xs)
all_taken [] ys rise all alike = tt
all_taken (x ∷ xs) [] rise all alike = absurd alike
all_taken (x ∷ xs) (y ∷ ys) rise all alike =
    let parts = and_parts (list_all (comes_after x.name) xs) (rises xs) rise in
    let later = subst (λ n. list_all (binds_after n) (kept_bindings xs) ≡ true) alike.0 (all_later x.name xs parts.0) in
    let more = taken_behind y ys (kept_bindings xs) later (all_taken xs ys parts.1 all.1 alike.2) in
    elim (cases_Bool x.by_manager) [
      | inl by ↦
          subst (λ t. AreTaken (y ∷ ys) (map binding_of (cond t (x ∷ filter is_kept xs) (filter is_kept xs)))) (sym by)
          (taken_first x y ys alike.0 alike.1 (all.0.admitted by), more)
      | inr other ↦ subst (λ t. AreTaken (y ∷ ys) (map binding_of (cond t (x ∷ filter is_kept xs) (filter is_kept xs)))) (sym other) more
    ]

-- ---- lines, one by one

-- a line that puts a value back
pub one_line : (a : Agent) (binding : VarBind) (line : List ℕ) → SpellsAgentCall (put_back binding) line → value_refusal (access_of a.device binding.name) binding.value ≡ None
    → after_line a line ≡ with_values a (binding ∷ [])
one_line a binding line spelled taken = after_the_call a line (put_back binding) spelled ∙ ap (put_unless a binding) taken

in_turn : (a : Agent) (bindings : List VarBind) → AreSpelled bindings → AreTaken a.device bindings → after_lines a (map line_of bindings) ≡ with_values a bindings
in_turn a [] spelled taken = refl
in_turn a (b ∷ more) spelled taken =
    ap (λ a. after_lines a (map line_of more)) (one_line a b (line_of b) spelled.0 taken.0)
    ∙ in_turn (with_values a (b ∷ [])) more spelled.1 (still_taken b a.device more taken.1)

-- all lines of a saved text
pub all_lines : (objects : List DeviceObject) (a : Agent) → rises objects ≡ true → CanAllBeSaved objects → AreAlike objects a.device
    → after_lines a (lines (kept_lines objects)) ≡ with_values a (kept_bindings objects)
all_lines objects a rise all alike =
    ap (after_lines a) (saved_lines objects all)
    ∙ in_turn a (kept_bindings objects) (all_spelled objects all) (all_taken objects a.device rise all alike)

same_agent : (saved a : Agent) → rises saved.device ≡ true → CanAllBeSaved saved.device → AreAlike saved.device a.device → AreFirmwares a.device
    → text_of_state a.sign ≡ text_of_state saved.sign → text_of_agent (with_values a (kept_bindings saved.device)) ≡ text_of_agent saved
same_agent saved a rise all alike none same =
    ap₂ (λ sign lines. sign ++ lines) same
    (ap kept_lines (all_put_back saved.device a.device rise all alike) ∙ same_lines saved.device a.device alike none)

-- the answer to a line that asks for the state behind them
pub saved_again : (saved a : Agent) (line : List ℕ) → rises saved.device ≡ true → CanAllBeSaved saved.device → AreAlike saved.device a.device → AreFirmwares a.device
    → text_of_state a.sign ≡ text_of_state saved.sign → SpellsAgentCall save line
    → answer_text (after_lines a (lines (kept_lines saved.device))) line ≡ text_of_agent saved ++ ok_line
saved_again saved a line rise all alike none same asks =
    text_of_call (after_lines a (lines (kept_lines saved.device))) line save asks
    ∙ ap (λ a. text_of_agent a ++ ok_line) (all_lines saved.device a rise all alike)
    ∙ ap (λ text. text ++ ok_line) (same_agent saved a rise all alike none same)
