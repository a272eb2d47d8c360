-- The description of the bench sign is read.
use Rattle.std.proofs.Common.{◌≡◌, ◌⊎◌, ℕ, List, subst, sym, ◌∙◌, inl, inr}
use Rattle.dms_text.specs.Lines.{kept_lines}
use Rattle.dms_sign_text.specs.declared.fault.DescriptionFault.{DescriptionFault}
use Rattle.dms_sign_text.specs.declared.fault.DescriptionFault.TheVariants.{Line, Memory}
use Rattle.dms_sign_text.specs.Description.{Description, SpellsSign}
use Rattle.dms_sign_text.specs.BenchSign.{bench_text}
use Rattle.dms_sign_text.proofs.BenchValue.{bench_sign}
use Rattle.dms_sign_text.proofs.BenchText.{spells_the_bench_sign}

-- no line of it is wrong
pub no_wrong_line : (text : List ℕ) (fault : DescriptionFault) (number : ℕ) → text ≡ bench_text → fault ≡ Line number
    → (fault ≡ Memory) ⊎ ((it : Description) → SpellsSign (kept_lines text) it → ⊥) → ⊥
no_wrong_line text fault number is line (inl memory) = absurd (let wrong : Line number ≡ Memory = sym line ∙ memory in cc)
no_wrong_line text fault number is line (inr none) =
    none bench_sign (subst (λ (octets : List ℕ). SpellsSign (kept_lines octets) bench_sign) (sym is) spells_the_bench_sign)
