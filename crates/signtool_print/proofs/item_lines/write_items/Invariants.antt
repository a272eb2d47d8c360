use Rattle.dms_multi.specs.Outcomes.{outcomes_of}
use Rattle.signtool_print.proofs.Appended.{IsListed}
use Rattle.signtool_print.proofs.item_lines.write_items.Given as goal

abbrev pub invariant-loop-outcome : goal.invariant-loop-outcome
invariant-loop-outcome l = IsListed l.initial.lines.items l.lines.items (outcomes_of l.text) l.outcome-iterator
