-- The line of what is shown, which is put in parts.
use Rattle.std.proofs.Common.{◌≡◌, ℕ, List, ◌++◌, append_assoc, arith}

regroup : (old source mode_word mode priority_word priority left_word left text_word text end : List ℕ)
    → (((old ++ source) ++ (mode_word ++ mode ++ priority_word ++ priority)) ++ (left_word ++ left)) ++ (text_word ++ text ++ end)
    ≡ old ++ (source ++ mode_word ++ mode ++ priority_word ++ priority ++ left_word ++ left ++ text_word ++ text ++ end)
regroup old source mode_word mode priority_word priority left_word left text_word text end = simp append_assoc

-- the four parts of the line of what is shown
pub four_parts : (old first second third last source mode_word mode priority_word priority left_word left text_word text end : List ℕ)
    → first ≡ old ++ source → second ≡ first ++ (mode_word ++ mode ++ priority_word ++ priority) → third ≡ second ++ (left_word ++ left)
    → last ≡ third ++ (text_word ++ text ++ end)
    → last ≡ old ++ (source ++ mode_word ++ mode ++ priority_word ++ priority ++ left_word ++ left ++ text_word ++ text ++ end)
four_parts old first second third last source mode_word mode priority_word priority left_word left text_word text end one two three four = grind (arith, regroup)
