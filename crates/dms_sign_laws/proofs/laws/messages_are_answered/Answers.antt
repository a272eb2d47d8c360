use Rattle.std.proofs.Common.{ap, ◌∙◌}
use Rattle.dms_wire.proofs.MessageOfLaws.{read_is_spelled}
use Rattle.dms_sign.specs.Reply.{heard, dropped, on_message_if, received}
use Rattle.std.specs.Prelude.{if◌then◌else◌}
use Rattle.dms_sign_laws.proofs.laws.messages_are_answered.Goals as goal

pub returns-clause-reply : goal.returns-clause-reply
unfolding received
returns-clause-reply c = λ s m datagram spelled is.
    ap (λ found. (on_message_if s found).reply) ((read_is_spelled datagram m).1 spelled)
    ∙ ap (λ b. (if b then heard s m else dropped s).reply) is

pub returns-clause-after : goal.returns-clause-after
unfolding received
returns-clause-after c = λ s m datagram spelled. ap (λ found. (on_message_if s found).after) ((read_is_spelled datagram m).1 spelled)
