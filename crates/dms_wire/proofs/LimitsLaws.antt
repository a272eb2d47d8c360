-- What octets spell is in the limits.
use Rattle.std.proofs.Common.{◌≡◌, ℕ, pos, ◌^◌, ◌<◌, List, [], ◌∷◌, subst, ltb-true, arith}
use Rattle.std.specs.Int.Digits.{AllBelowBase}
use Rattle.dms_wire.specs.Message.{ObjectValue, integer, octet_string, null, object_identifier, ip_address, counter, gauge, time_ticks, opaque, VarBind, SnmpMessage}
use Rattle.dms_wire_ber.specs.Integer.{IsInteger}
use Rattle.dms_wire_ber.specs.Element.{IsElement, ◌⨾◌}
use Rattle.dms_wire.specs.Spelling.{IsValue, AreBindings, Spells}
use Rattle.dms_wire.specs.Limits.{IsValueInLimits, AreBindingsInLimits, IsMessageInLimits}
use Rattle.dms_wire_ber.proofs.BelowBase.{below_front, below_back}
use Rattle.dms_wire_ber.proofs.NameLimits.{name_within}

-- a content's octets are among those of its element
content_below : (tag : ℕ) (P : List ℕ → Type 0) (bytes : List ℕ) (is : IsElement tag P bytes) → AllBelowBase 256 bytes → AllBelowBase 256 is.content
content_below tag P bytes is below = grind (arith, below_back)

octets_below : (tag : ℕ) (octets bytes : List ℕ) → IsElement tag (λ content. content ≡ octets) bytes → AllBelowBase 256 bytes → AllBelowBase 256 octets
octets_below tag octets bytes is below = subst (AllBelowBase 256) is.spelled (content_below tag (λ content. content ≡ octets) bytes is below)

natural_small : (tag n : ℕ) (bytes : List ℕ) → IsElement tag (IsInteger (pos n)) bytes → n < 2 ^ 32
natural_small tag n bytes is = ltb-true n (2 ^ 32) is.spelled.range

value_within : (v : ObjectValue) (bytes : List ℕ) → IsValue v bytes → AllBelowBase 256 bytes → IsValueInLimits v
value_within (integer z) bytes is below = is.spelled.range
value_within (octet_string s) bytes is below = octets_below 4 s bytes is below
value_within null bytes is below = tt
value_within (object_identifier numbers) bytes is below = name_within numbers is.content is.spelled
value_within (ip_address address) bytes is below = (subst (AllBelowBase 256) is.spelled.0 (content_below 64 _ bytes is below), is.spelled.1)
value_within (counter n) bytes is below = natural_small 65 n bytes is
value_within (gauge n) bytes is below = natural_small 66 n bytes is
value_within (time_ticks n) bytes is below = natural_small 67 n bytes is
value_within (opaque s) bytes is below = octets_below 68 s bytes is below

-- the octets of the one and of the other are among those of both
front_below : (P Q : List ℕ → Type 0) (bytes : List ℕ) (is : (P ⨾ Q) bytes) → AllBelowBase 256 bytes → AllBelowBase 256 is.front
front_below P Q bytes is below = below_front 256 is.front is.back (subst (AllBelowBase 256) is.parts below)

back_below : (P Q : List ℕ → Type 0) (bytes : List ℕ) (is : (P ⨾ Q) bytes) → AllBelowBase 256 bytes → AllBelowBase 256 is.back
back_below P Q bytes is below = below_back 256 is.front is.back (subst (AllBelowBase 256) is.parts below)

bindings_within : (bs : List VarBind) (bytes : List ℕ) → AreBindings bs bytes → AllBelowBase 256 bytes → AreBindingsInLimits bs
bindings_within [] bytes are below = tt
bindings_within (b ∷ bs) bytes are below =
    let members = are.first.spelled in
    let inside = content_below 48 _ are.front are.first (front_below _ _ bytes are below) in (
      name_within b.name members.first.content members.first.spelled,
      value_within b.value members.back members.second (back_below _ _ are.first.content members inside),
      bindings_within bs are.back are.second (back_below _ _ bytes are below),
    )

pub spelled_in_limits : (m : SnmpMessage) (octets : List ℕ) → Spells m octets → IsMessageInLimits m
spelled_in_limits m octets spells =
    let message = spells.message.spelled in
    let inside = content_below 48 _ octets spells.message spells.octets in
    let after_version = back_below _ _ spells.message.content message inside in
    let community = front_below _ _ message.back message.second after_version in
    let pdu = message.second.second.spelled in
    let list = pdu.second.second.second in
    let tagged = back_below _ _ message.back message.second after_version in
    let numbers = content_below _ _ message.second.back message.second.second tagged in
    let after_request = back_below _ _ message.second.second.content pdu numbers in
    let after_status = back_below _ _ pdu.back pdu.second after_request in
    let after_index = back_below _ _ pdu.second.back pdu.second.second after_status in
    record {
      community = octets_below 4 m.community message.second.front message.second.first community;
      request = pdu.first.spelled.range;
      status = pdu.second.first.spelled.range;
      index = pdu.second.second.first.spelled.range;
      bindings = bindings_within m.bindings list.content list.spelled (content_below 48 _ pdu.second.second.back list after_index);
    }
