-- What is written of a reply is the reply to the answer.
use Rattle.std.proofs.Common.{◌≡◌, ℕ, List, Option, Some, None, refl, map, arith}
use Rattle.std.specs.List.{position_from}
use Rattle.dms_wire.specs.declared.error_status.ErrorStatus.{ErrorStatus}
use Rattle.dms_wire.specs.ErrorStatus.{error_status_number}
use Rattle.dms_wire.specs.Message.{VarBind, SnmpMessage}
use Rattle.dms_mib_replies.specs.Replies.{reply_found, get_reply, get_next_reply}
use Rattle.dms_sign.specs.State.{SignState}
use Rattle.dms_sign.specs.Values.{value_of, value_after}
use Rattle.dms_sign.specs.Requests.{Answer, found_unless, get, get_next, has_no_value, with_value, is_last, next_after}
use Rattle.dms_sign.specs.Reply.{reply_to}
use Rattle.dms_sign.specs.ReplyView.{reply_with}

-- the reply that repeats the bindings, where that is the answer
pub reply_says : (m : SnmpMessage) (a : Answer) (status : ErrorStatus) (index : ℕ) → a.status ≡ status → a.index ≡ index → a.bindings ≡ m.bindings
    → reply_with m (error_status_number status) index m.bindings ≡ reply_to m a
unfolding reply_to
reply_says m a status index s i b = grind arith

-- the reply that has what was found
found_says : (s : SignState) (m : SnmpMessage) (found : List VarBind) (o : Option ℕ) → reply_found m found o ≡ reply_to m (found_unless s m.bindings found o)
unfolding reply_to
found_says s m found None = refl
found_says s m found (Some index) = refl

pub get_says : (s : SignState) (m : SnmpMessage) → get_reply (value_of s) m ≡ reply_to m (get s m.bindings)
unfolding get_reply
get_says s m = found_says s m (map (with_value s) m.bindings) (position_from (has_no_value s) 1 m.bindings)

pub get_next_says : (s : SignState) (m : SnmpMessage) → get_next_reply (value_after s) m ≡ reply_to m (get_next s m.bindings)
unfolding get_next_reply
get_next_says s m = found_says s m (map (next_after s) m.bindings) (position_from (is_last s) 1 m.bindings)

pub ruleset says = (get_says, get_next_says)
