use Rattle.std.proofs.Common.{◌<◌, ap, arith}
use Rattle.dms_face.specs.declared.room.Run.{Run}
use Rattle.dms_face.specs.Layout.{under}
use Rattle.dms_face.proofs.RunLaws.{taken_run}
use Rattle.dms_face.proofs.totals.Totals.take_run.Goals as goal

pub returns-clause-walked : goal.returns-clause-walked
returns-clause-walked c = λ defaults end answer state.
    let some : 0 < c.run_limit-limit.result = omega (arith, c.if-limit-eq0.false) in
    taken_run (under c.args.face.now defaults) end c.run_limit-limit.result c.args.self.now c.place-place.result c.at-size.result.size c.run_after-rest.new.size c.set_size.new.self
    c.args.text.now c.run_after-rest.result.now answer (c.run_limit-limit.ensures.running some) c.place-place.ensures (ap (λ (run : Run). run.size) c.at-size.ensures)
    c.run_after-rest.ensures.rest c.run_after-rest.ensures.size c.set_size.ensures state
