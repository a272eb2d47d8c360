use Rattle.std.proofs.Common.{◌≡◌, ℕ, ◌==◌, Bool, true, false, cond, Option, Some, None, refl, ap, sym, ◌∙◌, arith}
use Rattle.std.proofs.lemmas.Bool.{eqb-true}
use Rattle.dms_codes.specs.declared.memory.Memory.{Memory}
use Rattle.dms_codes.specs.declared.memory.Memory.TheVariants.{Permanent, Changeable, Volatile, CurrentBuffer, Blank}
use Rattle.dms_codes.specs.Memory.{memory_number, memory_of}
use Rattle.dms_codes.proofs.laws.types_of_memory_have_their_numbers.Goals as goal

-- the first type of memory is that of the number, or it is one of the others
first : (b : Bool) (number : ℕ) (kind memory : Memory) (others : Option Memory) → (number == memory_number kind) ≡ b
    → (others ≡ Some memory → memory_number memory ≡ number) → cond b (Some kind) others ≡ Some memory → memory_number memory ≡ number
first true number kind memory others is more e =
    let same : kind ≡ memory = cc in ap memory_number (sym same) ∙ sym (eqb-true number (memory_number kind) is)
first false number kind memory others is more e = more e

found : (number : ℕ) (memory : Memory) → memory_of number ≡ Some memory → memory_number memory ≡ number
found number memory e =
    first (number == 2) number Permanent memory _ refl
    (first (number == 3) number Changeable memory _ refl
    (first (number == 4) number Volatile memory _ refl
    (first (number == 5) number CurrentBuffer memory _ refl
    (first (number == 7) number Blank memory None refl (λ none. absurd (cc)))))) e

back : (memory : Memory) → memory_of (memory_number memory) ≡ Some memory
back memory = grind arith

pub returns : goal.returns
returns c = λ number memory. (found number memory, λ e. ap memory_of (sym e) ∙ back memory)
