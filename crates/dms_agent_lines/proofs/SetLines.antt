-- The lines of the objects that were set, appended one by one.
use Rattle.std.proofs.Common.{◌≡◌, ℕ, List, [], ◌∷◌, ◌++◌, sym, ap, ◌∙◌, append_assoc, append-nil}
use Rattle.dms_device.specs.Object.{DeviceObject}
use Rattle.dms_agent_lines.specs.AgentAnswer.{set_line, set_lines}

pub three : (old one two new first second third : List ℕ) → one ≡ old ++ first → two ≡ one ++ second → new ≡ two ++ third → new ≡ old ++ (first ++ second ++ third)
three old one two new first second third a b c = c ∙ ap (λ xs. xs ++ third) (b ∙ ap (λ xs. xs ++ second) a) ∙ grouped old first second third
  where
    grouped : (old first second third : List ℕ) → ((old ++ first) ++ second) ++ third ≡ old ++ (first ++ second ++ third)
    grouped old first second third = simp append_assoc

pub ruleset parts = (three)

-- what is written and what the rest gives are the whole text
abbrev pub IsListed : (old now : List ℕ) (all rest : List DeviceObject) → Type 0
IsListed old now all rest = now ++ set_lines rest ≡ old ++ set_lines all

pub listed_starts : (old now : List ℕ) (all rest : List DeviceObject) → now ≡ old → rest ≡ all → IsListed old now all rest
listed_starts old now all rest same whole = ap (λ xs. xs ++ set_lines rest) same ∙ ap (λ r. old ++ set_lines r) whole

pub listed_more : (old now next : List ℕ) (object : DeviceObject) (all rest more : List DeviceObject) → rest ≡ object ∷ more
    → next ≡ now ++ set_line object → IsListed old now all rest → IsListed old next all more
listed_more old now next object all rest more is written so_far =
    ap (λ xs. xs ++ set_lines more) written ∙ append_assoc now (set_line object) (set_lines more) ∙ ap (λ r. now ++ set_lines r) (sym is) ∙ so_far

pub listed_all : (old now : List ℕ) (all rest : List DeviceObject) → rest ≡ [] → IsListed old now all rest → now ≡ old ++ set_lines all
listed_all old now all rest is so_far = sym (append-nil now) ∙ ap (λ r. now ++ set_lines r) (sym is) ∙ so_far

pub ruleset lines = (listed_starts, listed_more, listed_all)
