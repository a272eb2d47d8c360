use Rattle.std.proofs.Common.{arith}
use Rattle.dms_text_filling.proofs.Parts.{nothing}
use Rattle.dms_sign_state.proofs.NumberForms.{one_put, room_left}
use Rattle.dms_sign_state.proofs.saving.put_numbers.Goals as goal

pub loop-number-init : goal.loop-number-init
loop-number-init c = record { octets = nothing c.args.place c.args.buffer.now (omega arith) (omega arith); short = omega arith }

pub loop-number-preserved : goal.loop-number-preserved
loop-number-preserved c = record {
  octets =
      one_put c.args.settings.now c.loop-number.number-index _ c.args.place c.loop-number.end c.put_setting-end.result c.args.buffer.now c.loop-number.buffer
      c.put_setting-end.new.buffer (omega arith) c.loop-number.invariant.octets c.put_setting-end.ensures.octets;
  short =
      room_left c.loop-number.number-index _ c.args.place c.loop-number.end c.put_setting-end.result (omega arith) c.loop-number.invariant.short
      c.put_setting-end.ensures.short;
}
