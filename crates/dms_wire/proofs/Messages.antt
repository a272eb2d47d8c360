-- Messages: what reading gives is spelled, what is spelled is read, and the faults of octets too few or too many.
use Rattle.std.proofs.Common.{◌≡◌, ◌+◌, ◌-◌, ◌<◌, ◌≤◌, ℕ, ℤ, pos, inl, inr, ◌++◌, List, [], ◌∷◌, length, take, drop, ltb, nat_lt, Ok, Err, Some, true, ok_or, refl, sym, ap, ◌∙◌, subst, arith, append_assoc, append-nil, length-append, length-drop, one-add}
use Rattle.std.proofs.lemmas.Bool.{eqb-true, eq-eqb, ltb-false, lt-ltb, le-ltb, cases_lt}
use Rattle.std.proofs.lemmas.List.{length-take-le, take-append-le, take-append-drop, take_at, drop_at}
use Rattle.std.specs.Int.Digits.{AllBelowBase}
use Rattle.dms_wire_ber.specs.declared.fault.WireFault.{WireFault}
use Rattle.dms_wire_ber.specs.declared.fault.FaultKind.TheVariants.{Truncated, BadTag, TrailingBytes, TooLong}
use Rattle.dms_wire.specs.declared.message.Kind.{Kind}
use Rattle.dms_wire.specs.Message.{VarBind, SnmpMessage}
use Rattle.dms_wire_ber.specs.Length.{IsLength}
use Rattle.dms_wire_ber.specs.Integer.{IsInteger}
use Rattle.dms_wire_ber.specs.Element.{IsElement, ◌⨾◌}
use Rattle.dms_wire.specs.Spelling.{AreBindings, tag_of, IsPdu, IsMessage, Spells}
use Rattle.dms_wire_ber.specs.Reading.{◌>>=◌, fault, offset_of_content, length_at, content_at, element_at, integer_at, ended}
use Rattle.dms_wire.specs.Reading.{bindings_at, is_zero, kind_of, version_of, version_at, list_at, Numbered, pdu_at, tagged_pdu_at, inside_at, outer_content, outer_at, datagram_at, message_at}
use Rattle.dms_wire_ber.proofs.Elements.{bind_ok, done, ok_is, not_ok, guarded, tested, length_found, length_only, content_found, content_only, element_found, element_only}
use Rattle.dms_wire_ber.proofs.Integers.{integer_found, integer_only}
use Rattle.dms_wire_ber.proofs.Members.{Front, after, joined, last, ok_or_found, made, with_found, with_only, integer_at_found, integer_at_only}
use Rattle.dms_wire.proofs.Bindings.{ended_found, bindings_found, bindings_only}
use Rattle.dms_wire_ber.specs.Limits.{longest_datagram}

list_found : (end : ℕ) (bytes : List ℕ) (x : List VarBind × List ℕ) → list_at end bytes ≡ Ok x
    → Front (IsElement 48 (AreBindings x.0)) bytes x.1
unfolding list_at
list_found end bytes x h =
    with_found AreBindings (λ c. bindings_at (end - length c.1) c.0)
    (λ c bs h. bindings_found (length c.0) (end - length c.1) c.0 bs (omega arith) h) 48 end bytes x h

list_only : (end : ℕ) (bs : List VarBind) (front rest : List ℕ) → IsElement 48 (AreBindings bs) front
    → list_at end (front ++ rest) ≡ Ok (bs, rest)
unfolding list_at
list_only end bs front rest e =
    with_only AreBindings (λ c. bindings_at (end - length c.1) c.0)
    (λ c bs h. bindings_only bs (length c.0) (end - length c.1) c.0 (omega arith) h) 48 end bs front rest e

is_zero_true : (z : ℤ) → is_zero z ≡ true → z ≡ pos 0
is_zero_true z h = grind arith

-- a version, of which nothing is kept
abbrev IsVersion : Unit {0} → List ℕ → Type 0
IsVersion x = IsInteger (pos 0)

version_of_found : (place : ℕ) (content : List ℕ) (x : Unit {0}) → version_of place content ≡ Ok x → IsInteger (pos 0) content
version_of_found place content x h = grind (arith, bind_ok, ok_or, is_zero_true, tested, integer_found, ok_or_found)

version_of_only : (place : ℕ) (content : List ℕ) (x : Unit {0}) → IsInteger (pos 0) content → version_of place content ≡ Ok x
version_of_only place content x e = rw (integer_only content (pos 0) e) refl

version_found : (end : ℕ) (bytes : List ℕ) (x : Unit {0} × List ℕ) → version_at end bytes ≡ Ok x
    → Front (IsElement 2 (IsInteger (pos 0))) bytes x.1
unfolding version_at
version_found end bytes x h =
    with_found IsVersion (λ c. version_of (offset_of_content end c.0 c.1) c.0) (λ c v h. version_of_found (offset_of_content end c.0 c.1) c.0 v h) 2 end bytes x h

version_only : (end : ℕ) (front rest : List ℕ) → IsElement 2 (IsInteger (pos 0)) front → version_at end (front ++ rest) ≡ Ok (tt, rest)
unfolding version_at
version_only end front rest e =
    with_only IsVersion (λ c. version_of (offset_of_content end c.0 c.1) c.0) (λ c v h. version_of_only (offset_of_content end c.0 c.1) c.0 v h) 2 end tt front rest e

-- a PDU's content
abbrev IsNumbered : Numbered → List ℕ → Type 0
IsNumbered p =
    IsElement 2 (IsInteger p.request) ⨾ IsElement 2 (IsInteger p.status) ⨾ IsElement 2 (IsInteger p.index)
    ⨾ IsElement 48 (AreBindings p.bindings)

pdu_found : (end : ℕ) (bytes : List ℕ) (x : Numbered) → pdu_at end bytes ≡ Ok x → IsNumbered x bytes
unfolding pdu_at
pdu_found end bytes x h =
    after (integer_at end bytes) _ x h λ request request_read h.
    after (integer_at end request.1) _ x h λ status status_read h.
    after (integer_at end status.1) _ x h λ index index_read h.
    after (list_at end index.1) _ x h λ bindings bindings_read h.
    let p : Numbered = record { request = request.0; status = status.0; index = index.0; bindings = bindings.0 } in
    after (ended end bindings.1) (λ _. done p) x h λ nothing nothing_read h.
    let request_front = integer_at_found end bytes request request_read in
    let status_front = integer_at_found end request.1 status status_read in
    let index_front = integer_at_found end status.1 index index_read in
    let bindings_spelled = last (IsElement 48 (AreBindings bindings.0)) index.1 bindings.1 (list_found end index.1 bindings bindings_read)
    (ended_found end bindings.1 nothing nothing_read) in
    subst (λ x. IsNumbered x bytes) (ok_is p x h)
    (joined (IsElement 2 (IsInteger request.0)) _ bytes request.1 request_front
    (joined (IsElement 2 (IsInteger status.0)) _ request.1 status.1 status_front
    (joined (IsElement 2 (IsInteger index.0)) (IsElement 48 (AreBindings bindings.0)) status.1 index.1 index_front bindings_spelled)))

pdu_only : (end : ℕ) (p : Numbered) (bytes : List ℕ) → IsNumbered p bytes → pdu_at end bytes ≡ Ok p
unfolding pdu_at ended
pdu_only end p bytes e =
    let s = e.second in
    let i = s.second in
    let bindings : list_at end i.back ≡ Ok (p.bindings, []) = ap (list_at end) (sym (append-nil i.back)) ∙ list_only end p.bindings i.back [] i.second in
    let index : integer_at end s.back ≡ Ok (p.index, i.back) = ap (integer_at end) i.parts ∙ integer_at_only end p.index i.front i.back i.first in
    let status : integer_at end e.back ≡ Ok (p.status, s.back) = ap (integer_at end) s.parts ∙ integer_at_only end p.status s.front s.back s.first in
    let request : integer_at end bytes ≡ Ok (p.request, e.back) = ap (integer_at end) e.parts ∙ integer_at_only end p.request e.front e.back e.first in
    rw (request, status, index, bindings) refl

kind_found : (b : ℕ) (f : WireFault) (k : Kind) → ok_or (kind_of b) f ≡ Ok k → b ≡ tag_of k
kind_found b f k h = grind arith

kind_only : (k : Kind) → kind_of (tag_of k) ≡ Some k
kind_only k = grind arith

abbrev IsTagged : Kind × Numbered → List ℕ → Type 0
IsTagged p = IsElement (tag_of p.0) (IsNumbered p.1)

tagged_found : (end : ℕ) (bytes : List ℕ) (x : (Kind × Numbered) × List ℕ) → tagged_pdu_at end bytes ≡ Ok x → Front (IsTagged x.0) bytes x.1
unfolding tagged_pdu_at
tagged_found end [] x h = not_ok (fault Truncated end) x h
tagged_found end (b ∷ bytes) x h =
    after (ok_or (kind_of b) (fault BadTag (end - length (b ∷ bytes)))) _ x h λ kind kind_read h.
    after (content_at end bytes) _ x h λ c content_read h.
    after (pdu_at (end - length c.1) c.0) (λ p. done ((kind, p), c.1)) x h λ p pdu_read h.
    let found = content_found end bytes c content_read in
    let tag = kind_found b (fault BadTag (end - length (b ∷ bytes))) kind kind_read in
    subst (λ x. Front (IsTagged x.0) (b ∷ bytes) x.1) (ok_is ((kind, p), c.1) x h) record {
      front = b ∷ (found.0 ++ c.0);
      spelled = made (tag_of kind) b (IsNumbered p) found.0 c.0 tag found.1 (pdu_found (end - length c.1) c.0 p pdu_read);
      parts = ap (λ bytes. b ∷ bytes) found.2;
    }

tagged_only : (end : ℕ) (p : Kind × Numbered) (front rest : List ℕ) → IsTagged p front → tagged_pdu_at end (front ++ rest) ≡ Ok (p, rest)
unfolding tagged_pdu_at
tagged_only end p front rest e =
    ap (λ bytes. tagged_pdu_at end (bytes ++ rest)) e.parts
    ∙ rw (kind_only p.0, content_only end e.len e.content rest e.form, pdu_only (end - length rest) p.1 e.content e.spelled) refl

-- the content of a message
abbrev Inside : SnmpMessage → List ℕ → Type 0
Inside m = IsElement 2 (IsInteger (pos 0)) ⨾ IsElement 4 (λ content. content ≡ m.community) ⨾ IsElement (tag_of m.kind) (IsPdu m)

abbrev message : List ℕ → Kind × Numbered → SnmpMessage
message community p =
    record { community = community; kind = p.0; request = p.1.request; status = p.1.status; index = p.1.index; bindings = p.1.bindings }

community_found : (end : ℕ) (bytes : List ℕ) (x : List ℕ × List ℕ) → element_at 4 end bytes ≡ Ok x
    → Front (IsElement 4 (λ content. content ≡ x.0)) bytes x.1
community_found end bytes x h =
    let found = element_found 4 end bytes x h in
    record {
      front = 4 ∷ (found.0 ++ x.0);
      spelled = made 4 4 (λ content. content ≡ x.0) found.0 x.0 refl found.1 refl;
      parts = found.2;
    }

inside_found : (end : ℕ) (bytes : List ℕ) (m : SnmpMessage) → inside_at end bytes ≡ Ok m → Inside m bytes
unfolding inside_at
inside_found end bytes m h =
    after (version_at end bytes) _ m h λ version version_read h.
    after (element_at 4 end version.1) _ m h λ community community_read h.
    after (tagged_pdu_at end community.1) _ m h λ p pdu_read h.
    after (ended end p.1) (λ _. done (message community.0 p.0)) m h λ nothing nothing_read h.
    let pdu = last (IsTagged p.0) community.1 p.1 (tagged_found end community.1 p pdu_read) (ended_found end p.1 nothing nothing_read) in
    subst (λ m. Inside m bytes) (ok_is (message community.0 p.0) m h)
    (joined (IsElement 2 (IsInteger (pos 0))) _ bytes version.1 (version_found end bytes version version_read)
    (joined (IsElement 4 (λ content. content ≡ community.0)) (IsTagged p.0) version.1 community.1 (community_found end version.1 community community_read) pdu))

community_only : (end : ℕ) (community front rest : List ℕ) → IsElement 4 (λ content. content ≡ community) front
    → element_at 4 end (front ++ rest) ≡ Ok (community, rest)
community_only end community front rest e = grind (arith, element_only, done)

inside_only : (end : ℕ) (m : SnmpMessage) (bytes : List ℕ) → Inside m bytes → inside_at end bytes ≡ Ok m
unfolding inside_at ended
inside_only end m bytes e =
    let c = e.second in
    let p : Kind × Numbered = (m.kind, record { request = m.request; status = m.status; index = m.index; bindings = m.bindings }) in
    let version : version_at end bytes ≡ Ok (tt, e.back) = ap (version_at end) e.parts ∙ version_only end e.front e.back e.first in
    let community : element_at 4 end e.back ≡ Ok (m.community, c.back) =
    ap (element_at 4 end) c.parts ∙ community_only end m.community c.front c.back c.first in
    let pdu : tagged_pdu_at end c.back ≡ Ok (p, []) =
    ap (tagged_pdu_at end) (sym (append-nil c.back)) ∙ tagged_only end p c.back [] c.second in
    rw (version, community, pdu) refl

outer_content_found : (end : ℕ) (bytes : List ℕ) (x : List ℕ × List ℕ) → outer_content end bytes ≡ Ok x
    → (len : List ℕ) × IsLength len (length x.0) × (bytes ≡ (len ++ x.0) ++ x.1)
unfolding outer_content
outer_content_found end bytes x h = grind (arith, after, guarded, nat_lt, ltb-false, length_found, length-take-le, take-append-drop, append_assoc, ok_is)

outer_found : (bytes : List ℕ) (x : List ℕ × List ℕ) → outer_at bytes ≡ Ok x
    → (len : List ℕ) × IsLength len (length x.0) × (bytes ≡ (48 ∷ (len ++ x.0)) ++ x.1)
unfolding outer_at
outer_found bytes x h = grind (arith, not_ok, tested, outer_content_found, eqb-true)

outer_content_only : (end : ℕ) (len content rest : List ℕ) → IsLength len (length content)
    → outer_content end ((len ++ content) ++ rest) ≡ Ok (content, rest)
unfolding outer_content
outer_content_only end len content rest form = grind (arith, append_assoc, length_only, le-ltb, length-append, take_at, drop_at)

-- an outermost element, whatever follows it
pub outer_only : (len content rest : List ℕ) → IsLength len (length content) → outer_at ((48 ∷ (len ++ content)) ++ rest) ≡ Ok (content, rest)
unfolding outer_at
outer_only len content rest form = outer_content_only (1 + length ((len ++ content) ++ rest)) len content rest form

datagram_found : (bytes : List ℕ) (m : SnmpMessage) → datagram_at bytes ≡ Ok m → IsMessage m bytes
unfolding datagram_at
datagram_found bytes m h =
    after (outer_at bytes) _ m h λ c outer_read h.
    after (inside_at (length bytes - length c.1) c.0) _ m h λ inner inside_read h.
    after (ended (length bytes) c.1) (λ _. done inner) m h λ nothing nothing_read h.
    let found = outer_found bytes c outer_read in
    let whole : bytes ≡ 48 ∷ (found.0 ++ c.0) =
    found.2 ∙ ap (λ rest. (48 ∷ (found.0 ++ c.0)) ++ rest) (ended_found (length bytes) c.1 nothing nothing_read) ∙ append-nil (48 ∷ (found.0 ++ c.0)) in
    let inside = inside_found (length bytes - length c.1) c.0 inner inside_read in
    subst (λ m. IsMessage m bytes) (ok_is inner m h)
    record { len = found.0; content = c.0; form = found.1; spelled = inside; parts = whole }

pub message_found : (bytes : List ℕ) (m : SnmpMessage) → AllBelowBase 256 bytes → message_at bytes ≡ Ok m → Spells m bytes
unfolding message_at
message_found bytes m octets h = grind (arith, guarded, nat_lt, ltb-false, datagram_found)

-- a message's octets and what follows them
datagram_then : (m : SnmpMessage) (bytes rest : List ℕ) → IsMessage m bytes
    → datagram_at (bytes ++ rest) ≡ (ended (length (bytes ++ rest)) rest >>= λ _. done m)
unfolding datagram_at
datagram_then m bytes rest e =
    let outer : outer_at (bytes ++ rest) ≡ Ok (e.content, rest) = ap (λ bytes. outer_at (bytes ++ rest)) e.parts ∙ outer_only e.len e.content rest e.form in
    rw (outer, inside_only (length (bytes ++ rest) - length rest) m e.content e.spelled) refl

within_size : (bytes : List ℕ) → length bytes ≤ longest_datagram → message_at bytes ≡ datagram_at bytes
unfolding message_at
within_size bytes fits = rw (le-ltb longest_datagram (length bytes) fits) refl

pub message_only : (bytes : List ℕ) (m : SnmpMessage) → Spells m bytes → message_at bytes ≡ Ok m
unfolding ended
message_only bytes m s =
    within_size bytes s.size ∙ ap datagram_at (sym (append-nil bytes)) ∙ datagram_then m bytes [] s.message

-- octets after a message
pub message_trailing : (bytes more : List ℕ) (m : SnmpMessage) → Spells m bytes → 0 < length more → length (bytes ++ more) ≤ longest_datagram
    → message_at (bytes ++ more) ≡ Err (fault TrailingBytes (length bytes))
unfolding ended
message_trailing bytes [] m s some fits = absurd (omega arith)
message_trailing bytes (b ∷ more) m s some fits =
    let place : length (bytes ++ b ∷ more) - length (b ∷ more) ≡ length bytes = omega (arith, length-append bytes (b ∷ more)) in
    within_size (bytes ++ b ∷ more) fits ∙ datagram_then m bytes (b ∷ more) s.message ∙ ap (λ place. Err (fault TrailingBytes place)) place

-- a list that begins with another one
splits : (f more len content : List ℕ) → f ++ more ≡ len ++ content → length len ≤ length f
    → (f ≡ len ++ drop (length len) f) × (length (drop (length len) f) + length more ≡ length content)
splits f more len content parts fits =
    let n : ℕ = length len in
    let front : take n f ≡ len = sym (take-append-le n f more fits) ∙ ap (take n) parts ∙ take_at len content n refl in (
      sym (take-append-drop n f) ∙ ap (λ front. front ++ drop n f) front,
      omega (arith, ap length parts, length-append f more, length-append len content, length-drop n f),
    )

-- the octets of a length, cut short
length_short : (end n : ℕ) (f more len content : List ℕ) → IsLength len n → f ++ more ≡ len ++ content → length f < length len
    → length_at end f ≡ Err (fault Truncated end)
unfolding length_at
length_short end n f more len content form parts short = grind arith

content_short : (end : ℕ) (f more len content : List ℕ) → IsLength len (length content) → f ++ more ≡ len ++ content → 0 < length more
    → outer_content end f ≡ Err (fault Truncated end)
unfolding outer_content
content_short end f more len content form parts some = elim (cases_lt (length f) (length len)) [
  | inl short ↦ rw (length_short end (length content) f more len content form parts short) refl
  | inr fits ↦
      let s = splits f more len content parts fits in
      let rest : List ℕ = drop (length len) f in
      let read : length_at end f ≡ Ok (length content, rest) = ap (length_at end) s.0 ∙ length_only end (length content) len rest form in
      let cut : ltb (length rest) (length content) ≡ true = lt-ltb (length rest) (length content) (omega (arith, s.1)) in
      rw (read, cut) refl
]

outer_short : (f more len content : List ℕ) → IsLength len (length content) → f ++ more ≡ 48 ∷ (len ++ content) → 0 < length more
    → outer_at f ≡ Err (fault Truncated (length f))
unfolding outer_at
outer_short f more len content form parts some = grind (arith, eq-eqb, content_short, one-add)

-- a proper front of a message is truncated at its length
pub message_truncated : (bytes more : List ℕ) (m : SnmpMessage) → Spells m (bytes ++ more) → 0 < length more
    → message_at bytes ≡ Err (fault Truncated (length bytes))
unfolding datagram_at
message_truncated bytes more m s some = grind (arith, length-append, within_size, outer_short)

pub message_too_long : (bytes : List ℕ) → longest_datagram < length bytes → message_at bytes ≡ Err (fault TooLong longest_datagram)
unfolding message_at
message_too_long bytes long = rw (lt-ltb longest_datagram (length bytes) long) refl
