-- The shortest spelling of a message in the limits spells it, where it fits a datagram.
use Rattle.std.proofs.Common.{◌≡◌, ℕ, ℤ, pos, IsTrue, ◌^◌, ◌<◌, ◌≤◌, List, [], ◌∷◌, ◌++◌, length, refl, arith, flat_map, lt-ltb, append_assoc}
use Rattle.std.specs.Int.Digits.{AllBelowBase}
use Rattle.dms_wire.specs.declared.message.Kind.{Kind}
use Rattle.dms_wire.specs.Message.{ObjectValue, integer, octet_string, null, object_identifier, ip_address, counter, gauge, time_ticks, opaque, VarBind, SnmpMessage}
use Rattle.dms_wire_ber.specs.Integer.{IsInteger, in_range}
use Rattle.dms_wire_ber.specs.ObjectIdentifier.{IsName}
use Rattle.dms_wire_ber.specs.Element.{IsElement, ◌⨾◌}
use Rattle.dms_wire.specs.Spelling.{IsAddress, IsValue, IsBinding, AreBindings, tag_of, IsPdu, IsMessage, Spells}
use Rattle.dms_wire_ber.specs.ObjectIdentifier.{IsNameInLimits}
use Rattle.dms_wire.specs.Limits.{IsValueInLimits, AreBindingsInLimits, IsMessageInLimits}
use Rattle.dms_wire_ber.specs.Element.{element}
use Rattle.dms_wire_ber.specs.Integer.{integer_octets}
use Rattle.dms_wire_ber.specs.ObjectIdentifier.{name_octets}
use Rattle.dms_wire.specs.Canonical.{value_octets, binding_octets, numbers_octets, pdu_octets, canonical}
use Rattle.dms_wire_ber.proofs.CanonicalIntegers.{integer_spelled, integer_below}
use Rattle.dms_wire_ber.proofs.CanonicalNames.{name_spelled, name_below}
use Rattle.dms_wire_ber.proofs.CanonicalElements.{Fits, fits_element, fits_both}
use Rattle.dms_wire_ber.specs.Limits.{longest_datagram}

fits_integer : (tag : ℕ) (z : ℤ) → tag < 256 → IsTrue (in_range z) → Fits (IsElement tag (IsInteger z)) (element tag (integer_octets z))
fits_integer tag z octet range = fits_element tag (IsInteger z) (integer_octets z) octet (λ room. (integer_spelled z range, integer_below z))

fits_natural : (tag n : ℕ) → tag < 256 → n < 2 ^ 32 → Fits (IsElement tag (IsInteger (pos n))) (element tag (integer_octets (pos n)))
fits_natural tag n octet small = fits_integer tag (pos n) octet (lt-ltb n (2 ^ 32) small)

fits_octets : (tag : ℕ) (octets : List ℕ) → tag < 256 → AllBelowBase 256 octets → Fits (IsElement tag (λ content. content ≡ octets)) (element tag octets)
fits_octets tag octets octet below = fits_element tag (λ content. content ≡ octets) octets octet (λ room. (refl, below))

fits_name : (numbers : List ℕ) → IsNameInLimits numbers → Fits (IsElement 6 (IsName numbers)) (element 6 (name_octets numbers))
fits_name numbers within = fits_element 6 (IsName numbers) (name_octets numbers) (omega arith) (λ room. (name_spelled numbers within, name_below numbers))

fits_value : (v : ObjectValue) → IsValueInLimits v → Fits (IsValue v) (value_octets v)
fits_value (integer z) within = fits_integer 2 z (omega arith) within
fits_value (octet_string s) within = fits_octets 4 s (omega arith) within
fits_value null within = fits_octets 5 [] (omega arith) tt
fits_value (object_identifier numbers) within = fits_name numbers within
fits_value (ip_address address) within = fits_element 64 (IsAddress address) address (omega arith) (λ room. ((refl, within.1), within.0))
fits_value (counter n) within = fits_natural 65 n (omega arith) within
fits_value (gauge n) within = fits_natural 66 n (omega arith) within
fits_value (time_ticks n) within = fits_natural 67 n (omega arith) within
fits_value (opaque s) within = fits_octets 68 s (omega arith) within

fits_binding : (b : VarBind) → IsNameInLimits b.name → IsValueInLimits b.value → Fits (IsBinding b) (binding_octets b)
unfolding binding_octets
fits_binding b name value =
    fits_element 48 (IsElement 6 (IsName b.name) ⨾ IsValue b.value) _ (omega arith)
    (fits_both _ _ _ _ (fits_name b.name name) (fits_value b.value value))

fits_bindings : (bs : List VarBind) → AreBindingsInLimits bs → Fits (AreBindings bs) (flat_map binding_octets bs)
fits_bindings [] within = λ room. (refl, tt)
fits_bindings (b ∷ bs) within =
    fits_both (IsBinding b) (AreBindings bs) (binding_octets b) (flat_map binding_octets bs) (fits_binding b within.0 within.1) (fits_bindings bs within.2)

-- the four parts of a PDU, grouped as the relation groups them
pdu_parts : (m : SnmpMessage) → pdu_octets m
    ≡ element 2 (integer_octets m.request) ++ (element 2 (integer_octets m.status)
    ++ (element 2 (integer_octets m.index) ++ element 48 (flat_map binding_octets m.bindings)))
unfolding pdu_octets numbers_octets
pdu_parts m = simp append_assoc

fits_pdu : (m : SnmpMessage) → IsMessageInLimits m → Fits (IsPdu m) (pdu_octets m)
fits_pdu m within =
    let request = fits_integer 2 m.request (omega arith) within.request in
    let status = fits_integer 2 m.status (omega arith) within.status in
    let index = fits_integer 2 m.index (omega arith) within.index in
    let bindings = fits_element 48 (AreBindings m.bindings) (flat_map binding_octets m.bindings) (omega arith) (fits_bindings m.bindings within.bindings) in
    rw pdu_parts (fits_both _ _ _ _ request (fits_both _ _ _ _ status (fits_both _ _ _ _ index bindings)))

tag_octet : (k : Kind) → tag_of k < 256
tag_octet k = grind arith

fits_version : Fits (IsElement 2 (IsInteger (pos 0))) (element 2 (0 ∷ []))
fits_version =
    fits_element 2 (IsInteger (pos 0)) (0 ∷ []) (omega arith)
    (λ room. (record { shortest = refl; range = refl; value = refl }, (omega arith, tt)))

fits_message : (m : SnmpMessage) → IsMessageInLimits m → Fits (IsMessage m) (canonical m)
unfolding canonical
fits_message m within =
    let community = fits_octets 4 m.community (omega arith) within.community in
    let pdu = fits_element (tag_of m.kind) (IsPdu m) (pdu_octets m) (tag_octet m.kind) (fits_pdu m within) in
    rw append_assoc (fits_element 48 _ _ (omega arith) (fits_both _ _ _ _ fits_version (fits_both _ _ _ _ community pdu)))

pub canonical_spells : (m : SnmpMessage) → IsMessageInLimits m → length (canonical m) ≤ longest_datagram → Spells m (canonical m)
canonical_spells m within room = let fits = fits_message m within room in record { octets = fits.1; size = room; message = fits.0 }
