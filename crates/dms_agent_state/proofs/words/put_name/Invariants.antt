use Rattle.std.proofs.Common.{◌≡◌, ◌∷◌, ◌++◌}
use Rattle.dms_wire_ber.specs.NameText.{dotted}
use Rattle.dms_text_filling.specs.Filling.{Puts}
use Rattle.dms_agent_state.proofs.words.put_name.Given as goal

-- what was put of the numbers, and what is left of them
abbrev pub invariant-loop-number : goal.invariant-loop-number
invariant-loop-number l =
    (l.first ∷ (l.yielded ++ l.rest) ≡ l.name) × Puts (dotted (l.first ∷ l.yielded)) l.place l.fn.buffer l.end l.buffer
