-- The numbers that a message reports are in the range of a whole number.
use Rattle.std.proofs.Common.{◌≡◌, ℕ, ℤ, Bool, true, false, if◌then◌else◌, IsTrue, List, [], ◌∷◌, Some, None, subst, nat_eq}
use Rattle.std.specs.List.{AllByRecursion}
use Rattle.std.specs.Cmp.Lexicographic.{pointwise}
use Rattle.std.proofs.lemmas.Option.{same_Some}
use Rattle.dms_wire_ber.specs.Integer.{in_range}
use Rattle.dms_wire.specs.Message.{ObjectValue, integer, octet_string, null, object_identifier, ip_address, counter, gauge, time_ticks, opaque, VarBind, SnmpMessage}
use Rattle.dms_wire.specs.MessageOf.{message_of}
use Rattle.dms_wire.specs.Spelling.{IsValue, AreBindings, Spells}
use Rattle.dms_wire.proofs.MessageOfLaws.{read_is_spelled}
use Rattle.dms_centre.specs.Replies.{integer_of, number_read}

abbrev pub IsInRange : ObjectValue → Type 0
IsInRange (integer z) = IsTrue (in_range z)
IsInRange value = Unit {0}

abbrev pub AreInRange : List VarBind → Type 0
AreInRange bindings = AllByRecursion (λ (b : VarBind). IsInRange b.value) bindings

pub record IsHeard (message : SnmpMessage) : Type 0 where
  pub status : IsTrue (in_range message.status)
  pub bindings : AreInRange message.bindings

value_heard : (value : ObjectValue) (octets : List ℕ) → IsValue value octets → IsInRange value
value_heard (integer z) octets is = is.spelled.range
value_heard (octet_string s) octets is = tt
value_heard null octets is = tt
value_heard (object_identifier numbers) octets is = tt
value_heard (ip_address address) octets is = tt
value_heard (counter n) octets is = tt
value_heard (gauge n) octets is = tt
value_heard (time_ticks n) octets is = tt
value_heard (opaque s) octets is = tt

bindings_heard : (bindings : List VarBind) (octets : List ℕ) → AreBindings bindings octets → AreInRange bindings
bindings_heard [] octets are = tt
bindings_heard (b ∷ bindings) octets are = (value_heard b.value _ are.first.spelled.second, bindings_heard bindings _ are.second)

pub heard : (octets : List ℕ) (message : SnmpMessage) → message_of octets ≡ Some message → IsHeard message
heard octets message read =
    let spells : Spells message octets = (read_is_spelled octets message).0 read in
    let pdu = spells.message.spelled.second.second.spelled in
    record { status = pdu.second.first.spelled.range; bindings = bindings_heard message.bindings _ pdu.second.second.second.spelled }

none_is : (n : ℤ) → None ≡ Some n → ⊥
none_is n e = absurd cc

integer_read : (test : Bool) (value : ObjectValue) (number : ℤ) → (if test then integer_of value else None) ≡ Some number → IsInRange value → IsTrue (in_range number)
integer_read false value number e is = absurd (none_is number e)
integer_read true (integer z) number e is = subst (λ z. IsTrue (in_range z)) (same_Some z number e) is
integer_read true (octet_string s) number e is = absurd (none_is number e)
integer_read true null number e is = absurd (none_is number e)
integer_read true (object_identifier numbers) number e is = absurd (none_is number e)
integer_read true (ip_address address) number e is = absurd (none_is number e)
integer_read true (counter n) number e is = absurd (none_is number e)
integer_read true (gauge n) number e is = absurd (none_is number e)
integer_read true (time_ticks n) number e is = absurd (none_is number e)
integer_read true (opaque s) number e is = absurd (none_is number e)

-- what a GET read
pub number_heard : (asked answered : List VarBind) (number : ℤ) → number_read asked answered ≡ Some number → AreInRange answered → IsTrue (in_range number)
number_heard [] answered number e are = absurd (none_is number e)
number_heard (a ∷ []) [] number e are = absurd (none_is number e)
number_heard (a ∷ []) (b ∷ []) number e are = integer_read (pointwise nat_eq b.name a.name) b.value number e are.0
number_heard (a ∷ []) (b ∷ c ∷ answered) number e are = absurd (none_is number e)
number_heard (a ∷ d ∷ asked) answered number e are = absurd (none_is number e)
