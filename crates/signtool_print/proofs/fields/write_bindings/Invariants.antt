use Rattle.signtool_print.proofs.Appended.{IsBound}
use Rattle.signtool_print.proofs.fields.write_bindings.Given as goal

abbrev pub invariant-loop-binding : goal.invariant-loop-binding
invariant-loop-binding l = IsBound l.initial.lines.items l.lines.items l.fn.bindings l.binding-iterator
