use Rattle.std.proofs.Common.{◌≡◌, ◌++◌, List}
use Rattle.dms_wire.specs.Message.{VarBind}
use Rattle.dms_wire.specs.Written.{octets_of_bindings}
use Rattle.dms_wire.proofs.binding.BindingOctets.fill.Given as goal

-- the bindings that were pushed, and those that are left
abbrev pub invariant-loop-binding : goal.invariant-loop-binding
invariant-loop-binding l = (done : List VarBind) × (l.self ≡ octets_of_bindings done) × (done ++ l.rest ≡ l.initial.rest)
