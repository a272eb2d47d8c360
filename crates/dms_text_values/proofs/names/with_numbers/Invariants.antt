use Rattle.std.proofs.Common.{◌≡◌, ◌+◌, ◌*◌, ◌≤◌}
use Rattle.arrayvec.specs.ArrayVec.{array_vec_len}
use Rattle.dms_text_values.specs.NameReading.{numbers_at}
use Rattle.dms_text_values.specs.View.{with_numbers}
use Rattle.dms_text_values.proofs.names.with_numbers.Given as goal

abbrev pub invariant-loop-rest : goal.invariant-loop-rest
invariant-loop-rest l =
    (with_numbers l.all.items (numbers_at l.left l.rest) ≡ with_numbers l.fn.content.items (numbers_at 126 l.fn.parts))
    × (array_vec_len l.all + 5 * l.left ≤ 635)

abbrev pub decreases-loop-rest : goal.decreases-loop-rest
decreases-loop-rest l = l.left
