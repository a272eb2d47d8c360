use Rattle.std.proofs.Common.{◌≡◌, ◌++◌, List}
use Rattle.dms_wire.specs.Message.{VarBind}
use Rattle.dms_mib_instances.specs.Places.{HasCounts}
use Rattle.dms_sign.specs.State.{SignState}
use Rattle.dms_sign.specs.SetRequest.{with_writes}
use Rattle.dms_sign.specs.Requests.{writes_of}
use Rattle.dms_sign.proofs.sign.set_request.write_fields.Given as goal

-- the bindings that were walked, and those that are left
abbrev pub invariant-loop-binding : goal.invariant-loop-binding
invariant-loop-binding l =
    (done : List VarBind) × (done ++ l.rest ≡ l.binds)
    × ((s : SignState) → HasCounts s.table l.counts → s.config.face ≡ l.face → l.table ≡ with_writes l.initial.table (writes_of s done))
