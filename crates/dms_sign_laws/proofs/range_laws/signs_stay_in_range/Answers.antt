use Rattle.dms_sign.proofs.InRangeEvents.{tick_in_range, power_loss_in_range, power_return_in_range}
use Rattle.dms_sign.proofs.InRangeSets.{message_keeps_range, received_in_range}
use Rattle.dms_sign.proofs.InRangeStart.{made_in_range, faultless_is_stocked}
use Rattle.dms_sign_laws.proofs.range_laws.signs_stay_in_range.Goals as goal

pub returns-clause-made : goal.returns-clause-made
returns-clause-made c = made_in_range

pub returns-clause-stocked : goal.returns-clause-stocked
returns-clause-stocked c = faultless_is_stocked

pub returns-clause-datagram : goal.returns-clause-datagram
returns-clause-datagram c = received_in_range

pub returns-clause-message : goal.returns-clause-message
returns-clause-message c = message_keeps_range

pub returns-clause-tick : goal.returns-clause-tick
returns-clause-tick c = tick_in_range

pub returns-clause-power_loss : goal.returns-clause-power_loss
returns-clause-power_loss c = power_loss_in_range

pub returns-clause-power_return : goal.returns-clause-power_return
returns-clause-power_return c = power_return_in_range
