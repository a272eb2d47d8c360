use Rattle.dms_sign_laws.proofs.InRangeReplies.{spelled_response_within, too_big_within}
use Rattle.dms_sign.proofs.InRangeValues.{instance_within, value_of_within, value_after_within}
use Rattle.dms_sign_laws.proofs.range_laws.answers_are_in_limits.Goals as goal

pub returns-clause-instance : goal.returns-clause-instance
returns-clause-instance c = instance_within

pub returns-clause-value : goal.returns-clause-value
returns-clause-value c = value_of_within

pub returns-clause-next : goal.returns-clause-next
returns-clause-next c = value_after_within

pub returns-clause-response : goal.returns-clause-response
returns-clause-response c = spelled_response_within

pub returns-clause-too_big : goal.returns-clause-too_big
returns-clause-too_big c = too_big_within
