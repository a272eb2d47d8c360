-- Two states that a central system comes to have two texts.
use Rattle.std.proofs.Common.{◌≡◌, ℕ, ◌+◌, ◌≤◌, ◌<◌, ◌^◌, List, [], ◌∷◌, ◌++◌, codes, decimal, refl, sym, ap, ◌∙◌, append_assoc, append-nil, subst, arith}
use Rattle.std.specs.List.{AllByRecursion}
use Rattle.dms_text_forms.specs.LineText.{code_text}
use Rattle.dms_codes.specs.declared.codes.Order.{Order}
use Rattle.dms_codes.specs.declared.codes.Activation.{Activation}
use Rattle.dms_centre.specs.declared.outcome.Outcome.{Outcome}
use Rattle.dms_centre_jobs.specs.Job.{SettingsModel}
use Rattle.dms_centre.specs.Texts.{outcome_text}
use Rattle.dms_centre.specs.State.{Entry, CentreState}
use Rattle.dms_centre_state.specs.CentreText.{number_line, last_line, phase_text, ledger_line, ledger_lines, text_of_state}
use Rattle.dms_centre.specs.Invariant.{Rise}
use Rattle.dms_centre_state.specs.Reached.{IsEntry, IsPhaseOf, IsReached}
use Rattle.dms_centre_state.proofs.Tells.{Tells, cancel, other_texts, after_tells, pair_tells, made_tells, number_tells}
use Rattle.dms_centre_state.proofs.Groupings.{of_entry, of_state}
use Rattle.dms_centre_state.proofs.Words.{field_tells, code_tells}
use Rattle.dms_centre_state.proofs.Jobs.{phase_tells}
use Rattle.dms_centre_state.proofs.Endings.{outcome_tells, ended_tells}

-- ---- the ledger

abbrev IsSaid : Entry → Type 0
IsSaid entry = (entry.number < 2 ^ 64) × IsEntry entry

abbrev entry_of : ℕ × (Activation × Outcome) → Entry
entry_of x = record { number = x.0; code = x.1.0; outcome = x.1.1 }

entry_tells : (order : Order) → Tells (ledger_line order) IsSaid
entry_tells order =
    made_tells entry_of (λ (entry : Entry). (entry.number, (entry.code, entry.outcome))) (ledger_line order) IsSaid
    (λ entry is. (
      (is.0, (is.1.code, is.1.outcome)),
      refl,
      of_entry (codes "ledger ") (codes " ") (decimal entry.number) (code_text order entry.code) (outcome_text entry.outcome ++ codes "\n"),
    ))
    (after_tells (codes "ledger ") (pair_tells (number_tells 32 (omega arith)) (pair_tells (code_tells order 32 (omega arith)) outcome_tells)))

ledger_only : (order : Order) (one other : List Entry) → AllByRecursion IsSaid one → AllByRecursion IsSaid other
    → ledger_lines order one ++ codes "end\n" ≡ ledger_lines order other ++ codes "end\n" → one ≡ other
ledger_only order [] [] ga gb e = refl
ledger_only order [] (d ∷ other) ga gb e = absurd (other_texts 0 _ _ refl e)
ledger_only order (c ∷ one) [] ga gb e = absurd (other_texts 0 _ _ refl e)
ledger_only order (c ∷ one) (d ∷ other) ga gb e =
    let end = codes "end\n" in
    let same =
    (entry_tells order).only c d (ledger_lines order one ++ end) (ledger_lines order other ++ end) ga.0 gb.0
    (sym (append_assoc (ledger_line order c) (ledger_lines order one) end) ∙ e ∙ append_assoc (ledger_line order d) (ledger_lines order other) end) in
    ap (λ x. x ∷ one) same.0 ∙ ap (λ xs. d ∷ xs) (ledger_only order one other ga.1 gb.1 same.1)

rise_least : (least next : ℕ) (ledger : List Entry) → Rise least next ledger → least ≤ next
rise_least least next [] rise = rise
rise_least least next (entry ∷ ledger) rise = omega (arith, rise.0, rise_least (entry.number + 1) next ledger rise.1)

are_said : (least next : ℕ) (ledger : List Entry) → next < 2 ^ 32 → Rise least next ledger → AllByRecursion IsEntry ledger → AllByRecursion IsSaid ledger
are_said least next [] small rise are = tt
are_said least next (entry ∷ ledger) small rise are =
    let below = rise_least (entry.number + 1) next ledger rise.1 in
    ((omega (arith, below, small), are.0), are_said (entry.number + 1) next ledger small rise.1 are.1)

-- ---- states

same_state : (one other : CentreState) → one.settings ≡ other.settings → one.next ≡ other.next → one.phase ≡ other.phase → one.ledger ≡ other.ledger
    → one.last ≡ other.last → one ≡ other
same_state one other settings next phase ledger last =
    ap (λ x. record one { settings = x }) settings
    ∙ ap (λ x. record one { settings = other.settings; next = x }) next
    ∙ ap (λ x. record one { settings = other.settings; next = other.next; phase = x }) phase
    ∙ ap (λ x. record other { ledger = x; last = one.last }) ledger
    ∙ ap (λ x. record other { last = x }) last

text_is : (s : CentreState)
    → text_of_state s
    ≡ codes "state 1 centre\n" ++ (number_line (codes "next") s.next ++ (last_line s.last ++ (phase_text s.settings.order s.phase ++ (ledger_lines s.settings.order s.ledger
    ++ codes "end\n"))))
unfolding text_of_state
text_is s =
    sym (append-nil (text_of_state s))
    ∙ of_state (codes "state 1 centre\n") (number_line (codes "next") s.next) (last_line s.last) (phase_text s.settings.order s.phase)
    (ledger_lines s.settings.order s.ledger) (codes "end\n") []

pub texts_tell : (one other : CentreState) → IsReached one → IsReached other → one.settings ≡ other.settings → text_of_state one ≡ text_of_state other → one ≡ other
texts_tell one other r q settings e =
    let order = one.settings.order in
    let fields = cancel (codes "state 1 centre\n") _ _ (sym (text_is one) ∙ e ∙ text_is other) in
    let next = (field_tells (codes "next")).only one.next other.next _ _ (omega (arith, r.next)) (omega (arith, q.next)) fields in
    let last = ended_tells.only one.last other.last _ _ r.last q.last next.1 in
    let other_phase : IsPhaseOf one.settings one.next other.phase =
    subst (λ s. IsPhaseOf s one.next other.phase) (sym settings) (subst (λ n. IsPhaseOf other.settings n other.phase) (sym next.0) q.phase) in
    let rest = last.1
    ∙ ap (λ (s : SettingsModel). phase_text s.order other.phase ++ (ledger_lines s.order other.ledger ++ codes "end\n")) (sym settings) in
    let phase = (phase_tells one.settings one.next).only one.phase other.phase _ _ r.phase other_phase rest in
    let ledger =
    ledger_only order one.ledger other.ledger (are_said 0 one.next one.ledger r.next r.ledger.rise r.ledger.entries)
    (are_said 0 other.next other.ledger q.next q.ledger.rise q.ledger.entries) phase.1 in
    same_state one other settings next.0 phase.0 ledger last.0
