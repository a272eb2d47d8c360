use Rattle.dms_replay.specs.Script.{beginning_of}
use Rattle.dms_replay.proofs.ScriptRanges.{script_is_fresh, script_ranges}
use Rattle.dms_replay.proofs.laws.scripts_run_lawfully.Goals as goal

pub returns : goal.returns
returns c = λ octets sign events all spelled.
    let fresh = script_is_fresh octets sign events all spelled in
    let ranges = script_ranges octets sign events spelled in
    record {
      fresh = fresh;
      ranges = ranges;
      headline = c.headline_holds.ensures (beginning_of sign) events fresh ranges;
      always = c.always_holds.ensures (beginning_of sign) events fresh ranges;
    }
