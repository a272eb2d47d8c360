use Rattle.std.proofs.Common.{◌≡◌, rules}
use Rattle.std.specs.Prelude.{codes}
use Rattle.dms_replay.proofs.ScriptRead.{bench_first}
use Rattle.dms_replay.proofs.script.after_bench.Goals as goal

pub returns-then-eq-clause-bench : goal.returns-then-eq-clause-bench
returns-then-eq-clause-bench c =
    let is : c.in_ok-line.line.octets.now ≡ codes "bench" = search rules in
    bench_first c.args.octets.now c.of-lines.result c.next_line.new.self c.in_ok-line.line c.of-lines.ensures c.in_ok-line.ensures.line is
