use Rattle.dms_sign.proofs.StepDefaults.{received_fits, tick_fits, power_loss_fits, power_return_fits}
use Rattle.dms_sign_laws.proofs.step_laws.defaults_stay_fit.Goals as goal

pub returns : goal.returns
returns c = record { datagram = received_fits; tick = tick_fits; power_loss = power_loss_fits; power_return = power_return_fits }
