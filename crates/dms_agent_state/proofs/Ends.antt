-- A text that is passed line by line up to its first line `end`.
use Rattle.std.proofs.Common.{◌≡◌, ℕ, zero, suc, ◌+◌, ◌<◌, ◌≤◌, ◌==◌, Bool, true, false, cond, not, List, [], ◌∷◌, length, get_or, take, drop, codes, Option, Some, None, refl, sym, ap, ◌∙◌, add-one, arith}
use Rattle.std.specs.List.{position_or_len}
use Rattle.std.proofs.lemmas.Option.{cond_some, same_Some}
use Rattle.std.proofs.lemmas.List.{length-append, length-drop}
use Rattle.std.proofs.lemmas.List.Quantifiers.{position-Some}
use Rattle.dms_text.specs.Words.{index_of}
use Rattle.dms_text.specs.Reading.{◌>>=◌}
use Rattle.dms_text_exact.specs.Fronts.{behind, cut_at}
use Rattle.dms_text_exact.proofs.FrontLaws.{cut_found}
use Rattle.dms_agent_state.specs.Parts.{ends_here, behind_end}

-- what stands behind the end of all stands behind that of what is left, with which a line begins
abbrev pub IsPassed : (all rest : List ℕ) → Type 0
IsPassed all rest = behind_end true rest ≡ behind_end true all

-- ---- a line `end`

begun : (text : List ℕ) → ends_here text ≡ false → behind_end true text ≡ behind_end false text
begun [] other = refl
begun (octet ∷ octets) other = ap (λ b. cond b (drop 4 (octet ∷ octets)) (behind_end (octet == 10) octets)) other

ended : (text : List ℕ) → ends_here text ≡ true → drop 4 text ≡ behind_end true text
ended [] ends = absurd cc
ended (octet ∷ octets) ends = sym (ap (λ b. cond b (drop 4 (octet ∷ octets)) (behind_end (octet == 10) octets)) ends)

no_end : (b : Bool) (rest : List ℕ) → cond b (Some rest) None ≡ None → b ≡ false
no_end true rest e = absurd cc
no_end false rest e = refl

pub end_here : (all rest objects : List ℕ) → Some objects ≡ behind (codes "end\n") rest → IsPassed all rest → objects ≡ behind_end true all
unfolding behind
end_here all rest objects e passed =
    let is = cond_some (ends_here rest) (drop 4 rest) objects (sym e) in
    sym is.1 ∙ ended rest is.0 ∙ passed

pub end_shorter : (rest objects : List ℕ) → Some objects ≡ behind (codes "end\n") rest → length objects ≤ length rest
unfolding behind
end_shorter rest objects e = omega (arith, ap length (cond_some (ends_here rest) (drop 4 rest) objects (sym e)).1, length-drop 4 rest)

not_here : (rest : List ℕ) → None ≡ behind (codes "end\n") rest → ends_here rest ≡ false
unfolding behind
not_here rest e = no_end (ends_here rest) (drop 4 rest) (sym e)

-- ---- another line

walk : (text : List ℕ) (index : ℕ) → index < length text → (get_or text index 0 == 10) ≡ true → ((k : ℕ) → k < index → (get_or text k 0 == 10) ≡ false)
    → behind_end false text ≡ behind_end true (drop (suc index) text)
walk [] index less at before = absurd (omega (arith, less))
walk (octet ∷ octets) zero less at before = ap (λ b. behind_end b octets) at
walk (octet ∷ octets) (suc index) less at before =
    ap (λ b. behind_end b octets) (before 0 (omega arith))
    ∙ walk octets index (omega (arith, less)) at (λ k below. before (suc k) (omega (arith, below)))

last : (text : List ℕ) → length text ≤ position_or_len (λ octet. octet == 10) text → behind_end false text ≡ []
last [] all = refl
last (octet ∷ octets) all = further (octet == 10) all (last octets)
  where
    further : (b : Bool) → suc (length octets) ≤ cond (not b) (1 + position_or_len (λ octet. octet == 10) octets) 0
        → (length octets ≤ position_or_len (λ octet. octet == 10) octets → behind_end false octets ≡ []) → behind_end b octets ≡ []
    further true all more = absurd (omega (arith, all))
    further false all more = more (omega (arith, all))

nowhere : (text : List ℕ) → index_of 10 text ≡ None → length text ≤ position_or_len (λ octet. octet == 10) text
nowhere text e = grind (arith, e)

abbrev cut_here : List ℕ → ℕ → Option (List ℕ × List ℕ)
cut_here text index = Some (take index text, drop (index + 1) text)

after_line : (text : List ℕ) (cut : List ℕ × List ℕ) → cut_at 10 text ≡ Some cut → behind_end false text ≡ behind_end true cut.1
unfolding cut_at
after_line text cut e = of_index (index_of 10 text) refl e
  where
    of_index : (found : Option ℕ) → index_of 10 text ≡ found → (found >>= cut_here text) ≡ Some cut
        → behind_end false text ≡ behind_end true cut.1
    of_index None is e = absurd cc
    of_index (Some index) is e =
        let at = position-Some (λ octet. octet == 10) text index 0 is in
        walk text index at.0 at.1 at.2 ∙ ap (λ k. behind_end true (drop k text)) (sym (add-one index))
        ∙ ap (λ (cut : List ℕ × List ℕ). behind_end true cut.1) (same_Some _ _ e)

no_line : (text : List ℕ) → cut_at 10 text ≡ None → behind_end false text ≡ []
unfolding cut_at
no_line text e = of_index (index_of 10 text) refl e
  where
    of_index : (found : Option ℕ) → index_of 10 text ≡ found → (found >>= cut_here text) ≡ None → behind_end false text ≡ []
    of_index None is e = last text (nowhere text is)
    of_index (Some index) is e = absurd cc

pub line_passed : (all rest line after : List ℕ) → None ≡ behind (codes "end\n") rest → Some (line, after) ≡ cut_at 10 rest → IsPassed all rest → IsPassed all after
line_passed all rest line after other e passed =
    sym (begun rest (not_here rest other) ∙ after_line rest (line, after) (sym e)) ∙ passed

pub shorter : (rest line after : List ℕ) → Some (line, after) ≡ cut_at 10 rest → length after < length rest
shorter rest line after e = omega (arith, ap length (cut_found 10 rest (line, after) (sym e)), length-append line (10 ∷ after))

pub all_passed : (all rest : List ℕ) → None ≡ behind (codes "end\n") rest → None ≡ cut_at 10 rest → IsPassed all rest → [] ≡ behind_end true all
all_passed all rest other e passed = sym (begun rest (not_here rest other) ∙ no_line rest (sym e)) ∙ passed
