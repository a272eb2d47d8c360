use Rattle.std.proofs.Common.{◌≡◌, ◌∷◌, ◌++◌}
use Rattle.std.specs.Fmt.{HasWritten, IsPlainFormatter}
use Rattle.dms_wire_ber.specs.NameText.{dotted}
use Rattle.dms_wire_ber.proofs.object_identifier.OidDisplay.fmt.Given as goal

-- what was written of the numbers, and what is left of them
abbrev pub invariant-loop-number : goal.invariant-loop-number
invariant-loop-number g l =
    (l.first ∷ (l.yielded ++ l.rest) ≡ l.self)
    × (IsPlainFormatter l.fn.f → HasWritten g.W.Write.write_str_gives l.fn.f (dotted (l.first ∷ l.yielded)) l.f)
