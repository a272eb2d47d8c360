-- What a Get leaves is what `heard` leaves.
use Rattle.std.proofs.Common.{◌≡◌, ℕ, IsTrue, List, Some, None, refl, sym, ◌∙◌}
use Rattle.std.specs.Prelude.{codes}
use Rattle.dms_wire.specs.Message.{SnmpMessage}
use Rattle.dms_wire.specs.MessageOf.{message_of}
use Rattle.dms_sign.specs.State.{SignState}
use Rattle.dms_sign.specs.Reply.{received, after_get}
use Rattle.dms_sign.specs.Promises.{is_get}
use Rattle.dms_sign_laws.proofs.Silence.{answered_get, unanswered}
use Rattle.dms_sign_lines.specs.SignCall.{datagram, heard}
use Rattle.dms_sign_lines.specs.SignLine.{SpellsSignCall}
use Rattle.dms_sign_lines.specs.Answer.{after_line}
use Rattle.dms_sign_lines.proofs.CallLaws.{after_the_call}

heard_line : (s : SignState) → after_line s (codes "heard") ≡ after_get s
heard_line s = after_the_call s (codes "heard") heard refl

pub get_leaves : (s : SignState) (m : SnmpMessage) (octets reply line : List ℕ) → message_of octets ≡ Some m → IsTrue (is_get m.kind)
    → (received s octets).reply ≡ Some reply → SpellsSignCall (datagram octets) line → after_line s line ≡ after_line s (codes "heard")
get_leaves s m octets reply line read get answered spelled =
    after_the_call s line (datagram octets) spelled ∙ answered_get s m octets reply read get answered ∙ sym (heard_line s)

pub none_leaves : (s : SignState) (octets line : List ℕ) → (received s octets).reply ≡ None → SpellsSignCall (datagram octets) line → after_line s line ≡ s
none_leaves s octets line none spelled = after_the_call s line (datagram octets) spelled ∙ unanswered s octets none
