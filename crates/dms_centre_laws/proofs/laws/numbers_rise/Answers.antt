use Rattle.dms_centre_laws.proofs.NumberLaws.{are_requests, numbers_rise, next_number}
use Rattle.dms_centre_laws.proofs.laws.numbers_rise.Goals as goal

pub returns-clause-requests : goal.returns-clause-requests
returns-clause-requests c = are_requests

pub returns-clause-rise : goal.returns-clause-rise
returns-clause-rise c = numbers_rise

pub returns-clause-next : goal.returns-clause-next
returns-clause-next c = next_number
