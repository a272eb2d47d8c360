use Rattle.signtool_acts.proofs.act.act_counted.Goals as goal

pub returns : goal.returns
returns g c = (c.act_saying.result, c.number.ensures, c.act_saying.ensures)
