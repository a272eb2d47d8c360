use Rattle.dms_sign_laws.proofs.OneValidating.{one_at_start, one_received, one_after_tick, one_after_power_loss, one_after_power_return}
use Rattle.dms_sign_laws.proofs.laws.at_most_one_row_validates.Goals as goal

pub returns : goal.returns
returns c = record {
  start = one_at_start;
  datagram = one_received;
  tick = one_after_tick;
  power_loss = one_after_power_loss;
  power_return = one_after_power_return;
}
