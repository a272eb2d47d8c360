use Rattle.std.proofs.Common.{◌≡◌, IfOk, false, subst}
use Rattle.dms_wire.specs.View.{object_value}
use Rattle.dms_device.specs.Object.{DeviceObject}
use Rattle.dms_agent_lines.proofs.Faultless.{faultless, memory_alone, numbers_again}
use Rattle.dms_agent_lines.proofs.answering.made.Goals as goal

pub returns-clause-made : goal.returns-clause-made
returns-clause-made c =
    subst (λ name. IfOk c.new.result
    (λ (object : DeviceObject). object
    ≡ record { name = name; value = object_value c.args.value.now; access = c.args.access; is_set = false; by_manager = false }))
    (numbers_again c.args.name.now c.content.result.now c.numbers.ensures.in_limits c.content.ensures) c.new.ensures.made

pub returns-clause-memory : goal.returns-clause-memory
returns-clause-memory c =
    memory_alone c.new.result _
    (faultless c.args.name.now c.content.result.now (object_value c.args.value.now) c.args.access c.numbers.ensures.in_limits c.content.ensures
    c.requires.sent c.requires.fit)
    c.new.ensures.fault
