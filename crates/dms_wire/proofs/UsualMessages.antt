-- A message of which each length outside the bindings is one octet: what reading gives is what its bindings give.
use Rattle.std.proofs.Common.{◌≡◌, ℕ, ℤ, pos, ◌+◌, ◌-◌, ◌<◌, ◌≤◌, inl, ◌++◌, List, [], ◌∷◌, length, Ok, Err, Some, Result, refl, sym, ap, ◌∙◌, arith, append-nil, length-append}
use Rattle.std.proofs.lemmas.Grind.{common_steps}
use Rattle.dms_wire_ber.specs.declared.fault.WireFault.{WireFault}
use Rattle.dms_wire.specs.declared.message.Kind.{Kind}
use Rattle.dms_wire.specs.Message.{VarBind, SnmpMessage}
use Rattle.dms_wire_ber.specs.Reading.{◌>>=◌, length_at, content_at, element_at, integer_value, integer_at, ended}
use Rattle.dms_wire.specs.Reading.{Numbered, kind_of, version_at, bindings_at, list_at, pdu_at, tagged_pdu_at, inside_at, outer_at, datagram_at}
use Rattle.dms_wire.specs.UnreadView.{with_bindings}
use Rattle.dms_wire_ber.proofs.Elements.{done, content_only, element_only}
use Rattle.dms_wire.proofs.Messages.{outer_only}

-- a step after two steps, as one after the first
regrouped : {A B C : Type 0} (r : Result A WireFault) (f : A → Result B WireFault) (g : B → Result C WireFault)
    → ((r >>= f) >>= g) ≡ (r >>= λ x. f x >>= g)
regrouped (Ok x) f g = refl
regrouped (Err e) f g = refl

short_element : (tag end : ℕ) (content rest : List ℕ) → length content < 128
    → element_at tag end (tag ∷ length content ∷ (content ++ rest)) ≡ Ok (content, rest)
short_element tag end content rest small = element_only tag end (length content ∷ []) content rest (inl (small, refl, refl))

last_content : (end : ℕ) (content : List ℕ) → length content < 128 → content_at end (length content ∷ content) ≡ Ok (content, [])
last_content end content small =
    ap (λ octets. content_at end (length content ∷ octets)) (sym (append-nil content))
    ∙ content_only end (length content ∷ []) content [] (inl (small, refl, refl))

last_element : (tag end : ℕ) (content : List ℕ) → length content < 128 → element_at tag end (tag ∷ length content ∷ content) ≡ Ok (content, [])
last_element tag end content small =
    ap (λ octets. element_at tag end (tag ∷ length content ∷ octets)) (sym (append-nil content)) ∙ short_element tag end content [] small

last_outer : (content : List ℕ) → length content < 128 → outer_at (48 ∷ length content ∷ content) ≡ Ok (content, [])
last_outer content small =
    ap (λ octets. outer_at (48 ∷ length content ∷ octets)) (sym (append-nil content))
    ∙ outer_only (length content ∷ []) content [] (inl (small, refl, refl))

-- nothing follows
no_rest : (end : ℕ) → end - 0 ≡ end
no_rest end = omega arith

pub short_integer : (end : ℕ) (content rest octets : List ℕ) (z : ℤ) → octets ≡ 2 ∷ length content ∷ (content ++ rest) → length content < 128
    → Some z ≡ integer_value content
    → integer_at end octets ≡ Ok (z, rest)
unfolding integer_at
short_integer end content rest octets z is small value =
    ap (integer_at end) is ∙ rw (short_element 2 end content rest small, sym value) refl

octet_value : (a : ℕ) → a < 128 → Some (pos a) ≡ integer_value (a ∷ [])
unfolding integer_value
octet_value a small = grind (arith, common_steps)

small_integer : (end a : ℕ) (rest : List ℕ) → a < 128 → integer_at end (2 ∷ 1 ∷ a ∷ rest) ≡ Ok (pos a, rest)
small_integer end a rest small = short_integer end (a ∷ []) rest (2 ∷ 1 ∷ a ∷ rest) (pos a) refl (omega arith) (octet_value a small)

zero_version : (end : ℕ) (rest : List ℕ) → version_at end (2 ∷ 1 ∷ 0 ∷ rest) ≡ Ok (tt, rest)
unfolding version_at element_at content_at length_at integer_value
zero_version end rest = grind (arith, common_steps)

last_list : (end : ℕ) (bindings : List ℕ) → length bindings < 128
    → list_at end (48 ∷ length bindings ∷ bindings) ≡ (bindings_at end bindings >>= λ bs. done (bs, []))
unfolding list_at
last_list end bindings small =
    rw (last_element 48 end bindings small) (ap (λ end. bindings_at end bindings >>= λ bs. done (bs, [])) (no_rest end))

-- what a PDU says, its bindings read last
abbrev numbered : ℤ → ℕ → ℕ → List VarBind → Numbered
numbered request status index bs = record { request = request; status = pos status; index = pos index; bindings = bs }

pdu_is : (end : ℕ) (pdu bindings : List ℕ) (request : ℤ) (status index : ℕ)
    → integer_at end pdu ≡ Ok (request, 2 ∷ 1 ∷ status ∷ 2 ∷ 1 ∷ index ∷ 48 ∷ length bindings ∷ bindings)
    → status < 128 → index < 128 → length bindings < 128
    → pdu_at end pdu ≡ (bindings_at end bindings >>= λ bs. done (numbered request status index bs))
unfolding pdu_at ended
pdu_is end pdu bindings request status index read s i small =
    rw (read, small_integer end status (2 ∷ 1 ∷ index ∷ 48 ∷ length bindings ∷ bindings) s, small_integer end index (48 ∷ length bindings ∷ bindings) i, last_list end bindings small)
    (regrouped (bindings_at end bindings) (λ bs. done (bs, [])) (λ (x : List VarBind × List ℕ). ended end x.1 >>= λ _. done (numbered request status index x.0)))

tagged_is : (end tag : ℕ) (kind : Kind) (pdu : List ℕ) (read : Result (List VarBind) WireFault) (p : List VarBind → Numbered)
    → Some kind ≡ kind_of tag → length pdu < 128
    → pdu_at end pdu ≡ (read >>= λ bs. done (p bs))
    → tagged_pdu_at end (tag ∷ length pdu ∷ pdu) ≡ (read >>= λ bs. done ((kind, p bs), []))
unfolding tagged_pdu_at
tagged_is end tag kind pdu read p is small h =
    rw (sym is, last_content end pdu small)
    (ap (λ end. pdu_at end pdu >>= λ p. done ((kind, p), [])) (no_rest end)
    ∙ ap (λ r. r >>= λ p. done ((kind, p), [])) h
    ∙ regrouped read (λ bs. done (p bs)) (λ p. done ((kind, p), [])))

-- a message, its bindings read last
abbrev message : List ℕ → Kind → (List VarBind → Numbered) → List VarBind → SnmpMessage
message community kind p bs =
    record { community = community; kind = kind; request = (p bs).request; status = (p bs).status; index = (p bs).index; bindings = (p bs).bindings }

inside_is : (end : ℕ) (community rest : List ℕ) (kind : Kind) (read : Result (List VarBind) WireFault) (p : List VarBind → Numbered)
    → length community < 128
    → tagged_pdu_at end rest ≡ (read >>= λ bs. done ((kind, p bs), []))
    → inside_at end (2 ∷ 1 ∷ 0 ∷ 4 ∷ length community ∷ (community ++ rest)) ≡ (read >>= λ bs. done (message community kind p bs))
unfolding inside_at ended
inside_is end community rest kind read p small h =
    rw (zero_version end (4 ∷ length community ∷ (community ++ rest)), short_element 4 end community rest small, h)
    (regrouped read (λ bs. done ((kind, p bs), [])) (λ (x : (Kind × Numbered) × List ℕ). ended end x.1 >>= λ _. done (message community x.0.0 (λ _. x.0.1) [])))

datagram_is : (octets inside : List ℕ) (read : Result (List VarBind) WireFault) (m : List VarBind → SnmpMessage)
    → octets ≡ 48 ∷ length inside ∷ inside → length inside < 128
    → inside_at (length octets) inside ≡ (read >>= λ bs. done (m bs))
    → datagram_at octets ≡ (read >>= λ bs. done (m bs))
unfolding datagram_at ended
datagram_is octets inside read m is small h =
    let outer : outer_at octets ≡ Ok (inside, []) = ap outer_at is ∙ last_outer inside small in
    rw outer
    (ap (λ end. inside_at end inside >>= λ m. ended (length octets) [] >>= λ _. done m) (no_rest (length octets))
    ∙ ap (λ r. r >>= λ m. ended (length octets) [] >>= λ _. done m) h
    ∙ regrouped read (λ bs. done (m bs)) (λ m. ended (length octets) [] >>= λ _. done m))

with_bindings_is : (m : List VarBind → SnmpMessage) (read : Result (List VarBind) WireFault) → (read >>= λ bs. done (m bs)) ≡ with_bindings m read
with_bindings_is m (Ok bs) = refl
with_bindings_is m (Err f) = refl

-- the whole datagram
pub usual_is : (octets members community after pdu numbers bindings : List ℕ) (tag status index : ℕ) (kind : Kind) (request : ℤ)
    → octets ≡ 48 ∷ (length members + 4) ∷ 2 ∷ 1 ∷ 0 ∷ 4 ∷ members → length members + 4 < 128
    → members ≡ length community ∷ (community ++ after) → length community < 128
    → after ≡ tag ∷ length pdu ∷ pdu → length pdu < 128
    → Some kind ≡ kind_of tag
    → integer_at (length octets) pdu ≡ Ok (request, numbers)
    → numbers ≡ 2 ∷ 1 ∷ status ∷ 2 ∷ 1 ∷ index ∷ 48 ∷ length bindings ∷ bindings → status < 128 → index < 128 → length bindings < 128
    → datagram_at octets
    ≡ with_bindings (λ bs. record { community = community; kind = kind; request = request; status = pos status; index = pos index; bindings = bs })
    (bindings_at (length octets) bindings)
usual_is octets members community after pdu numbers bindings tag status index kind request whole small first named tagged sized is read last s i few =
    let end : ℕ = length octets in
    let inside : List ℕ = 2 ∷ 1 ∷ 0 ∷ 4 ∷ members in
    let size : length members + 4 ≡ length inside = omega arith in
    let said = pdu_is end pdu bindings request status index (read ∙ ap (λ (rest : List ℕ). Ok (request, rest)) last) s i few in
    let labelled = ap (tagged_pdu_at end) tagged ∙ tagged_is end tag kind pdu (bindings_at end bindings) (numbered request status index) is sized said in
    let members_read = ap (λ (rest : List ℕ). inside_at end (2 ∷ 1 ∷ 0 ∷ 4 ∷ rest)) first
    ∙ inside_is end community after kind (bindings_at end bindings) (numbered request status index) named labelled in
    datagram_is octets inside (bindings_at end bindings) (message community kind (numbered request status index))
    (whole ∙ ap (λ (n : ℕ). 48 ∷ n ∷ inside) size) (omega arith) members_read
    ∙ with_bindings_is (message community kind (numbered request status index)) (bindings_at end bindings)

-- the bindings are no more than the datagram
pub usual_fewer : (octets members community after pdu numbers bindings : List ℕ) (tag status index : ℕ)
    → octets ≡ 48 ∷ (length members + 4) ∷ 2 ∷ 1 ∷ 0 ∷ 4 ∷ members
    → members ≡ length community ∷ (community ++ after)
    → after ≡ tag ∷ length pdu ∷ pdu
    → length numbers ≤ length pdu
    → numbers ≡ 2 ∷ 1 ∷ status ∷ 2 ∷ 1 ∷ index ∷ 48 ∷ length bindings ∷ bindings
    → length bindings ≤ length octets
usual_fewer octets members community after pdu numbers bindings tag status index whole first tagged fewer last =
    omega (arith, ap length whole, ap length first, length-append community after, ap length tagged, fewer, ap length last)
