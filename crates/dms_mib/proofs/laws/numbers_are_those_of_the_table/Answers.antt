use Rattle.dms_mib.proofs.Table.{numbers, rising, each}
use Rattle.dms_mib.proofs.laws.numbers_are_those_of_the_table.Goals as goal

pub returns-clause-numbers : goal.returns-clause-numbers
returns-clause-numbers c = numbers

pub returns-clause-each : goal.returns-clause-each
returns-clause-each c = each

pub returns-clause-order : goal.returns-clause-order
returns-clause-order c = rising
