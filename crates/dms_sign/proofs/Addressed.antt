-- A message for the sign comes to what its kind says, and another to nothing.
use Rattle.std.proofs.Common.{◌≡◌, ℕ, Bool, true, false, ◌&&◌, cond, List, Option, Some, None, Result, Ok, IfOk, refl, ap, subst, ◌∙◌, arith}
use Rattle.dms_wire_ber.specs.declared.fault.WireFault.{WireFault}
use Rattle.dms_wire.specs.declared.message.Kind.{Kind}
use Rattle.dms_wire.specs.declared.message.Message.{Message}
use Rattle.dms_wire.specs.Message.{SnmpMessage}
use Rattle.dms_wire.specs.View.{snmp_message}
use Rattle.dms_wire.specs.Spelling.{Spells}
use Rattle.dms_wire.specs.MessageOf.{message_of}
use Rattle.dms_wire.proofs.MessageOfLaws.{read_is_spelled}
use Rattle.dms_sign.specs.State.{SignState}
use Rattle.dms_sign.specs.Reply.{is_request, heard, dropped, on_message, on_message_if, received}
use Rattle.dms_sign.specs.ReplyView.{is_addressed, answered}

by_kind : (s : SignState) (m : SnmpMessage) (powered ours : Bool) (kind : Kind) → (powered && ours) ≡ true
    → cond (powered && is_request kind && ours) (heard s m) (dropped s) ≡ answered s m kind
by_kind s m powered ours kind e = grind arith

by_none : (s : SignState) (m : SnmpMessage) (powered ours : Bool) (kind : Kind) → (powered && ours) ≡ false
    → cond (powered && is_request kind && ours) (heard s m) (dropped s) ≡ dropped s
by_none s m powered ours kind e = grind arith

pub on_addressed : (s : SignState) (m : SnmpMessage) → is_addressed s m ≡ true → on_message s m ≡ answered s m m.kind
on_addressed s m e = by_kind s m s.powered _ m.kind e

pub not_addressed : (s : SignState) (m : SnmpMessage) → is_addressed s m ≡ false → on_message s m ≡ dropped s
not_addressed s m e = by_none s m s.powered _ m.kind e

heard_as : (octets : List ℕ) (m : SnmpMessage) → Spells m octets → message_of octets ≡ Some m
heard_as octets m spells = (read_is_spelled octets m).1 spells

by_found : (octets : List ℕ) (found : Option SnmpMessage) → message_of octets ≡ found → ((m : SnmpMessage) → Spells m octets → ⊥) → found ≡ None
by_found octets None is never = refl
by_found octets (Some m) is never = absurd (never m ((read_is_spelled octets m).0 is))

pub unheard : (octets : List ℕ) → ((m : SnmpMessage) → Spells m octets → ⊥) → message_of octets ≡ None
unheard octets never = by_found octets (message_of octets) refl never

-- what was read is taken as the message that the octets spell
taken : (s : SignState) (octets : List ℕ) (r : Result Message WireFault) (m : Message) → r ≡ Ok m
    → IfOk r (λ m. Spells (snmp_message m) octets) → received s octets ≡ on_message s (snmp_message m)
unfolding received
taken s octets r m is found =
    ap (on_message_if s) (heard_as octets (snmp_message m) (subst (λ r. IfOk r (λ m. Spells (snmp_message m) octets)) is found))

pub answered_where : (s : SignState) (octets : List ℕ) (r : Result Message WireFault) (m : Message) → r ≡ Ok m
    → IfOk r (λ m. Spells (snmp_message m) octets) → is_addressed s (snmp_message m) ≡ true
    → received s octets ≡ answered s (snmp_message m) m.kind
answered_where s octets r m is found ours = taken s octets r m is found ∙ on_addressed s (snmp_message m) ours

pub dropped_where : (s : SignState) (octets : List ℕ) (r : Result Message WireFault) (m : Message) → r ≡ Ok m
    → IfOk r (λ m. Spells (snmp_message m) octets) → is_addressed s (snmp_message m) ≡ false
    → received s octets ≡ dropped s
dropped_where s octets r m is found others = taken s octets r m is found ∙ not_addressed s (snmp_message m) others

pub ruleset by_address = (on_addressed, not_addressed, unheard)
