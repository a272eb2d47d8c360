-- A datagram changes nothing where no request waits.
use Rattle.std.proofs.Common.{◌≡◌, ℕ, false, List, Option, None, Some, refl}
use Rattle.std.proofs.lemmas.Bool.{true≢false}
use Rattle.dms_wire.specs.Message.{SnmpMessage}
use Rattle.dms_wire.specs.MessageOf.{message_of}
use Rattle.dms_centre.specs.State.{CentreState, Phase, Idle, Awaits, Due}
use Rattle.dms_centre.specs.Sending.{rests}
use Rattle.dms_centre.specs.Inputs.{on_message, on_datagram, received}
use Rattle.dms_centre.specs.ByPhase.{is_awaiting}

unheard_message : (state : CentreState) (phase : Phase) (message : SnmpMessage) → is_awaiting phase ≡ false → rests state ≡ on_message state phase message
unheard_message state Idle message idle = refl
unheard_message state (Awaits job pending) message idle = absurd (true≢false idle)
unheard_message state (Due job) message idle = refl

unheard_datagram : (state : CentreState) (message : Option SnmpMessage) → is_awaiting state.phase ≡ false → rests state ≡ on_datagram state message
unheard_datagram state None idle = refl
unheard_datagram state (Some message) idle = unheard_message state state.phase message idle

pub unheard : (state : CentreState) (octets : List ℕ) → is_awaiting state.phase ≡ false → rests state ≡ received state octets
unfolding received
unheard state octets idle = unheard_datagram state (message_of octets) idle
