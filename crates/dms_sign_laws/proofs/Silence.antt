-- A Get ends the silence, and leaves all else as it is; what is not answered changes nothing.
use Rattle.std.proofs.Common.{◌≡◌, ℕ, Bool, true, cond, IsTrue, List, Option, Some, None, arith}
use Rattle.dms_wire.specs.declared.message.Kind.{Kind}
use Rattle.dms_wire.specs.Message.{VarBind, SnmpMessage}
use Rattle.dms_wire.specs.MessageOf.{message_of}
use Rattle.dms_sign.specs.State.{SignState}
use Rattle.dms_sign.specs.Requests.{found_unless, answer_by, answer_of_any_size}
use Rattle.dms_sign.specs.Reply.{is_heard, heard, dropped, after_get, on_message_if, received}
use Rattle.dms_sign.specs.Promises.{is_get}

same_found : (s : SignState) (bindings found : List VarBind) (o : Option ℕ) → (found_unless s bindings found o).after ≡ s
same_found s bindings found o = grind arith

same_by : (s : SignState) (m : SnmpMessage) (kind : Kind) → IsTrue (is_get kind) → (answer_by s m kind).after ≡ s
same_by s m kind get = grind arith

same_answer : (s : SignState) (m : SnmpMessage) → IsTrue (is_get m.kind) → (answer_of_any_size s m).after ≡ s
unfolding answer_of_any_size
same_answer s m get = same_by s m m.kind get

has_power : (s : SignState) (m : SnmpMessage) → is_heard s m ≡ true → s.powered ≡ true
has_power s m e = grind arith

get_if : (b : Bool) (s : SignState) (m : SnmpMessage) (reply : List ℕ) → is_heard s m ≡ b → IsTrue (is_get m.kind)
    → (cond b (heard s m) (dropped s)).reply ≡ Some reply → (cond b (heard s m) (dropped s)).after ≡ after_get s
get_if b s m reply e get answered = grind (arith, same_answer, has_power)

pub answered_get : (s : SignState) (m : SnmpMessage) (datagram reply : List ℕ) → message_of datagram ≡ Some m → IsTrue (is_get m.kind)
    → (received s datagram).reply ≡ Some reply → (received s datagram).after ≡ after_get s
unfolding received
answered_get s m datagram reply read get answered = grind (arith, get_if)

none_of : (s : SignState) (o : Option SnmpMessage) → (on_message_if s o).reply ≡ None → (on_message_if s o).after ≡ s
none_of s o p = grind arith

pub unanswered : (s : SignState) (datagram : List ℕ) → (received s datagram).reply ≡ None → (received s datagram).after ≡ s
unfolding received
unanswered s datagram none = none_of s (message_of datagram) none
