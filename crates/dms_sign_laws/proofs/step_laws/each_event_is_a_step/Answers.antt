use Rattle.dms_sign_laws.proofs.StepEvents.{step_received, step_tick, step_power_loss, step_power_return}
use Rattle.dms_sign_laws.proofs.step_laws.each_event_is_a_step.Goals as goal

pub returns : goal.returns
returns c = record { datagram = step_received; tick = step_tick; power_loss = step_power_loss; power_return = step_power_return }
