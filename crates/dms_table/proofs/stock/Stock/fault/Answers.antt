use Rattle.std.proofs.Common.{sym, ◌∙◌, None, Some}
use Rattle.dms_table.proofs.Stands.{fault_is}
use Rattle.dms_table.proofs.stock.Stock.fault.Goals as goal

pub returns-in-None-clause-first : goal.returns-in-None-clause-first
returns-in-None-clause-first c =
    fault_is c.args.face.now c.args.self.now c.are_counts.result None c.services.result c.defaults.result c.are_counts.ensures c.if-not-are_counts.false c.services.ensures c.defaults.ensures.value (sym c.in-None.is ∙ c.first_that_may_not_stand.ensures.place)

pub returns-in-Some-clause-first : goal.returns-in-Some-clause-first
returns-in-Some-clause-first c =
    fault_is c.args.face.now c.args.self.now c.are_counts.result (Some c.in-Some.place) c.services.result c.defaults.result c.are_counts.ensures c.if-not-are_counts.false c.services.ensures c.defaults.ensures.value (sym c.in-Some.is ∙ c.first_that_may_not_stand.ensures.place)
