use Rattle.std.proofs.Common.{refl, arith, length-take, length-drop, ◌-◌, length, drop}
use Rattle.dms_text_filling.proofs.Digits.{no_digits, eight_more, one_more, all_digits}
use Rattle.dms_text_filling.proofs.filling.put_pairs.Goals as goal

pub eights-init : goal.eights-init
eights-init c = record {
  begun = no_digits c.args.octets.now c.args.place c.args.buffer.now (omega arith) (omega arith);
  short = omega arith;
}

pub eights-preserved : goal.eights-preserved
eights-preserved c =
    let put = c.put_eight-end.ensures in
    let rest = c.eights.rest.now in record {
      begun =
          eight_more c.args.octets.now rest c.args.place c.eights.end c.put_eight-end.result c.args.buffer.now c.eights.buffer c.put_eight-end.new.buffer
          c.in-len8-up.len_at_least c.eights.invariant.begun put.octets;
      short = omega (arith, c.eights.invariant.short, put.short, c.in-len8-up.len_at_least, length-take (length rest - 8) (drop 8 rest), length-drop 8 rest);
    }

pub last-preserved : goal.last-preserved
last-preserved c =
    let put = c.put-end.ensures in
    let rest = c.last.rest.now in record {
      begun =
          one_more c.args.octets.now rest _ c.two_digits-high.result.0 c.two_digits-high.result.1 c.args.place c.last.end c.put-end.result c.args.buffer.now c.last.buffer c.put-end.new.buffer
          c.in-len1-up.len_at_least c.last.invariant.begun c.two_digits-high.ensures.first c.two_digits-high.ensures.second refl put.octets;
      short = omega (arith, c.last.invariant.short, put.short, c.in-len1-up.len_at_least, length-take (length rest - 1) (drop 1 rest), length-drop 1 rest);
    }

pub returns-clause-octets : goal.returns-clause-octets
returns-clause-octets c =
    all_digits c.args.octets.now c.last.rest.now c.args.place c.last.end c.args.buffer.now c.last.buffer (omega arith) c.last.invariant.begun
