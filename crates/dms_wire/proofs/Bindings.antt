-- The list of bindings: what reading gives is spelled, what is spelled is read, and the walk gives the same bindings.
use Rattle.std.proofs.Common.{◌≡◌, ◌+◌, ◌-◌, ◌<◌, ◌≤◌, ℕ, zero, suc, true, inl, ◌++◌, List, [], ◌∷◌, length, Ok, Err, Result, refl, sym, ap, ◌∙◌, subst, arith, append_assoc, append-nil, length-append}
use Rattle.std.proofs.lemmas.List.{nil_from_length}
use Rattle.dms_wire_ber.specs.declared.fault.WireFault.{WireFault}
use Rattle.dms_wire.specs.Message.{ObjectValue, null, VarBind}
use Rattle.dms_wire_ber.specs.Element.{IsElement, ◌⨾◌}
use Rattle.dms_wire_ber.specs.ObjectIdentifier.{IsName}
use Rattle.dms_wire.specs.Spelling.{IsValue, IsBinding, AreBindings}
use Rattle.dms_wire_ber.specs.Reading.{◌>>=◌, element_at, name_of, name_at, offset_of_content, ended}
use Rattle.dms_wire.specs.Reading.{value_at, members_at, binding_at, bindings_up_to, bindings_at}
use Rattle.dms_wire.specs.Walk.{or_none, bindings_within, bindings_of, AreWhole}
use Rattle.dms_wire_ber.proofs.Elements.{bind_ok, done, ok_is}
use Rattle.dms_wire_ber.proofs.Names.{name_found}
use Rattle.dms_wire_ber.specs.NameReading.{is_name, numbers_of}
use Rattle.dms_wire_ber.proofs.Members.{Front, after, joined, last, with_found, with_only, name_at_found, name_at_only, name_of_found}
use Rattle.dms_wire.proofs.Values.{value_found, value_only}

pub ended_found : (end : ℕ) (bytes : List ℕ) (x : Unit {0}) → ended end bytes ≡ Ok x → bytes ≡ []
unfolding ended
ended_found end bytes x h = grind arith

-- a binding's content
abbrev Members : VarBind → List ℕ → Type 0
Members b = IsElement 6 (IsName b.name) ⨾ IsValue b.value

members_found : (end : ℕ) (bytes : List ℕ) (x : VarBind) → members_at end bytes ≡ Ok x → Members x bytes
unfolding members_at
members_found end bytes x h =
    after (name_at end bytes) _ x h λ name name_read h.
    after (value_at end name.1) _ x h λ value value_read h.
    let b : VarBind = record { name = name.0; value = value.0 } in
    after (ended end value.1) (λ _. done b) x h λ nothing nothing_read h.
    let value_spelled = last (IsValue value.0) name.1 value.1 (value_found end name.1 value value_read) (ended_found end value.1 nothing nothing_read) in
    subst (λ x. Members x bytes) (ok_is b x h)
    (joined (IsElement 6 (IsName name.0)) (IsValue value.0) bytes name.1 (name_at_found end bytes name name_read) value_spelled)

members_only : (end : ℕ) (b : VarBind) (bytes : List ℕ) → Members b bytes → members_at end bytes ≡ Ok b
unfolding members_at ended
members_only end b bytes m =
    let value : value_at end m.back ≡ Ok (b.value, []) = ap (value_at end) (sym (append-nil m.back)) ∙ value_only b.value end m.back [] m.second in
    ap (members_at end) m.parts
    ∙ rw (name_at_only end b.name m.front m.back m.first, value) refl

pub binding_found : (end : ℕ) (bytes : List ℕ) (x : VarBind × List ℕ) → binding_at end bytes ≡ Ok x → Front (IsBinding x.0) bytes x.1
unfolding binding_at
binding_found end bytes x h =
    with_found Members (λ c. members_at (end - length c.1) c.0) (λ c b h. members_found (end - length c.1) c.0 b h) 48 end bytes x h

pub binding_only : (end : ℕ) (b : VarBind) (front rest : List ℕ) → IsBinding b front → binding_at end (front ++ rest) ≡ Ok (b, rest)
unfolding binding_at
binding_only end b front rest e =
    with_only Members (λ c. members_at (end - length c.1) c.0) (λ c b h. members_only (end - length c.1) b c.0 h) 48 end b front rest e

-- a binding of NULL, its lengths in the short form
pub null_binding : (end size count : ℕ) (octets name rest : List ℕ) → is_name name ≡ true → count ≡ length name → size ≡ count + 4 → size < 128
    → octets ≡ 48 ∷ size ∷ 6 ∷ count ∷ (name ++ 5 ∷ 0 ∷ rest)
    → binding_at end octets ≡ Ok (record { name = numbers_of name; value = null }, rest)
null_binding end size count octets name rest named counted sized small e =
    let b : VarBind = record { name = numbers_of name; value = null } in
    let members : List ℕ = (6 ∷ count ∷ name) ++ 5 ∷ 0 ∷ [] in
    let name_spelled : IsElement 6 (IsName b.name) (6 ∷ count ∷ name) =
    record { len = count ∷ []; content = name; form = inl (omega arith, refl, sym counted); spelled = name_found name named; parts = refl }
    in
    let value_spelled : IsValue null (5 ∷ 0 ∷ []) =
    record { len = 0 ∷ []; content = []; form = inl (omega arith, refl, refl); spelled = refl; parts = refl }
    in
    let length_is : length members ≡ size = omega (arith, length-append (6 ∷ count ∷ name) (5 ∷ 0 ∷ [])) in
    let spelled : IsBinding b (48 ∷ size ∷ members) =
    record {
      len = size ∷ [];
      content = members;
      form = inl (small, refl, length_is);
      spelled = record { front = 6 ∷ count ∷ name; back = 5 ∷ 0 ∷ []; first = name_spelled; second = value_spelled; parts = refl };
      parts = refl;
    }
    in
    ap (binding_at end) (e ∙ ap (λ octets. 48 ∷ size ∷ 6 ∷ count ∷ octets) (sym (append_assoc name (5 ∷ 0 ∷ []) rest)))
    ∙ binding_only end b (48 ∷ size ∷ members) rest spelled

-- what is spelled as an element has octets
pub some_octets : (tag : ℕ) (P : List ℕ → Type 0) (bytes : List ℕ) → IsElement tag P bytes → 0 < length bytes
some_octets tag P bytes e = omega (arith, ap length e.parts)

-- what follows a binding is shorter
fewer_left : (b : VarBind) (front back bytes : List ℕ) → IsBinding b front → bytes ≡ front ++ back → length back < length bytes
fewer_left b front back bytes e parts = grind (arith, some_octets, length-append)

fewer_found : (end : ℕ) (bytes rest : List ℕ) (b : VarBind) → binding_at end bytes ≡ Ok (b, rest) → length rest < length bytes
fewer_found end bytes rest b h =
    let f = binding_found end bytes (b, rest) h in
    fewer_left b f.front rest bytes f.spelled f.parts

no_bindings : (bytes : List ℕ) (bs : List VarBind) → length bytes ≤ 0 → done [] ≡ Ok bs → AreBindings bs bytes
no_bindings bytes bs p h = grind (arith, ok_is, nil_from_length)

pub bindings_found : (k end : ℕ) (bytes : List ℕ) (bs : List VarBind) → length bytes ≤ k → bindings_up_to k end bytes ≡ Ok bs
    → AreBindings bs bytes
unfolding bindings_up_to
bindings_found zero end bytes bs small h = no_bindings bytes bs small h
bindings_found (suc k) end [] bs small h = no_bindings [] bs (omega arith) h
bindings_found (suc k) end (octet ∷ bytes) bs small h =
    let b = bind_ok (binding_at end (octet ∷ bytes)) (λ first. bindings_up_to k end first.1 >>= λ others. done (first.0 ∷ others)) bs h in
    let others = bind_ok (bindings_up_to k end b.0.1) (λ others. done (b.0.0 ∷ others)) bs b.2 in
    let fewer = fewer_found end (octet ∷ bytes) b.0.1 b.0.0 b.1 in
    subst (λ bs. AreBindings bs (octet ∷ bytes)) (ok_is (b.0.0 ∷ others.0) bs others.2)
    (joined (IsBinding b.0.0) (AreBindings others.0) (octet ∷ bytes) b.0.1 (binding_found end (octet ∷ bytes) b.0 b.1)
    (bindings_found k end b.0.1 others.0 (omega arith) others.1))

pub bindings_step : (k end : ℕ) (bytes : List ℕ) → 0 < length bytes
    → bindings_up_to (suc k) end bytes ≡ (binding_at end bytes >>= λ first. bindings_up_to k end first.1 >>= λ others. done (first.0 ∷ others))
unfolding bindings_up_to
bindings_step k end bytes some = grind arith

pub bindings_only : (bs : List VarBind) (k end : ℕ) (bytes : List ℕ) → length bytes ≤ k → AreBindings bs bytes
    → bindings_up_to k end bytes ≡ Ok bs
unfolding bindings_up_to
bindings_only [] zero end bytes small nil = refl
bindings_only [] (suc k) end bytes small nil = rw nil refl
bindings_only (b ∷ bs) zero end bytes small are = grind (arith, fewer_left, bindings_step, binding_only)
bindings_only (b ∷ bs) (suc k) end bytes small are =
    let fewer = fewer_left b are.front are.back bytes are.first are.parts in
    bindings_step k end bytes (omega arith)
    ∙ rw (are.parts, binding_only end b are.front are.back are.first, bindings_only bs k end are.back (omega arith) are.second) refl

no_binding : (k : ℕ) → bindings_within k [] ≡ []
unfolding bindings_within binding_at element_at
no_binding k = grind arith

pub bindings_of_only : (bs : List VarBind) (k : ℕ) (bytes : List ℕ) → length bytes ≤ k → AreBindings bs bytes → bindings_within k bytes ≡ bs
unfolding bindings_within
bindings_of_only [] k bytes small nil = ap (bindings_within k) nil ∙ no_binding k
bindings_of_only (b ∷ bs) zero bytes small are = grind (arith, no_binding, fewer_left, binding_only)
bindings_of_only (b ∷ bs) (suc k) bytes small are =
    let fewer = fewer_left b are.front are.back bytes are.first are.parts in
    ap (bindings_within (suc k)) are.parts
    ∙ rw (binding_only (length (are.front ++ are.back)) b are.front are.back are.first, bindings_of_only bs k are.back (omega arith) are.second) refl

-- bindings that were read are those of the walk
pub walked : (end : ℕ) (bytes : List ℕ) (bs : List VarBind) → bindings_at end bytes ≡ Ok bs → bindings_of bytes ≡ bs
walked end bytes bs h = bindings_of_only bs (length bytes) bytes (omega arith) (bindings_found (length bytes) end bytes bs (omega arith) h)

-- what was read before, and what is still read
abbrev pub with_front : List VarBind → Result (List VarBind) WireFault → Result (List VarBind) WireFault
with_front front (Ok bs) = Ok (front ++ bs)
with_front front (Err f) = Err f

-- rest is what is left of the content after some of its bindings
pub record IsRest (end : ℕ) (content rest : List ℕ) : Type 0 where
  pub turns : ℕ
  pub front : List VarBind
  pub enough : length rest ≤ turns
  pub same : with_front front (bindings_up_to turns end rest) ≡ bindings_at end content

regroup : (front : List VarBind) (b : VarBind) (read : Result (List VarBind) WireFault)
    → with_front front (read >>= λ bs. Ok (b ∷ bs)) ≡ with_front (front ++ b ∷ []) read
regroup front b read = grind (arith, append_assoc)

-- where octets are left, so is a turn
turn_left : (turns : ℕ) (rest : List ℕ) → 0 < length rest → length rest ≤ turns → (t : ℕ) × (turns ≡ suc t)
turn_left zero rest some enough = absurd (omega arith)
turn_left (suc t) rest some enough = (t, refl)

turn_taken : (turns t end : ℕ) (rest : List ℕ) (read : Result (VarBind × List ℕ) WireFault) → turns ≡ suc t → 0 < length rest
    → binding_at end rest ≡ read
    → bindings_up_to turns end rest ≡ (read >>= λ first. bindings_up_to t end first.1 >>= λ others. done (first.0 ∷ others))
turn_taken turns t end rest read is some h = ap (λ turns. bindings_up_to turns end rest) is ∙ bindings_step t end rest some ∙ rw h refl

pub rest_more : (end : ℕ) (content rest after : List ℕ) (b : VarBind) → 0 < length rest → IsRest end content rest
    → binding_at end rest ≡ Ok (b, after)
    → IsRest end content after
rest_more end content rest after b some is h =
    let t = turn_left is.turns rest some is.enough in
    let turn = turn_taken is.turns t.0 end rest (Ok (b, after)) t.1 some h in
    record {
      turns = t.0;
      front = is.front ++ b ∷ [];
      enough = omega (arith, t.1, is.enough, fewer_found end rest after b h);
      same = sym (ap (with_front is.front) turn ∙ regroup is.front b (bindings_up_to t.0 end after)) ∙ is.same;
    }

pub rest_fault : (end : ℕ) (content rest : List ℕ) (f : WireFault) → 0 < length rest → IsRest end content rest → binding_at end rest ≡ Err f
    → bindings_at end content ≡ Err f
rest_fault end content rest f some is h =
    let t = turn_left is.turns rest some is.enough in
    sym is.same ∙ ap (with_front is.front) (turn_taken is.turns t.0 end rest (Err f) t.1 some h)

pub rest_done : (end : ℕ) (content rest : List ℕ) → length rest ≡ 0 → IsRest end content rest
    → bindings_at end content ≡ Ok (bindings_of content)
rest_done end content rest none is =
    let nothing : bindings_up_to is.turns end rest ≡ Ok [] = bindings_only [] is.turns end rest is.enough (nil_from_length rest none) in
    let all : bindings_at end content ≡ Ok (is.front ++ []) = sym is.same ∙ ap (with_front is.front) nothing in
    all ∙ ap Ok (sym (walked end content (is.front ++ []) all))

no_turn : (k : ℕ) (bytes : List ℕ) → length bytes ≤ 0 → bindings_within k bytes ≡ []
no_turn k bytes p = grind (arith, nil_from_length, no_binding)

-- one turn more on both sides
turn_same : (j k : ℕ) (bytes : List ℕ) (read : Result (VarBind × List ℕ) WireFault) → binding_at (length bytes) bytes ≡ read
    → length bytes ≤ suc j → length bytes ≤ suc k
    → ((rest : List ℕ) → length rest ≤ j → length rest ≤ k → bindings_within j rest ≡ bindings_within k rest)
    → or_none [] (λ b rest. b ∷ bindings_within j rest) read ≡ or_none [] (λ b rest. b ∷ bindings_within k rest) read
turn_same j k bytes (Ok (b, rest)) is fits_j fits_k same = grind (arith, fewer_found)
turn_same j k bytes (Err f) is fits_j fits_k same = refl

-- more turns than octets give the same bindings
turns_same : (j k : ℕ) (bytes : List ℕ) → length bytes ≤ j → length bytes ≤ k → bindings_within j bytes ≡ bindings_within k bytes
unfolding bindings_within
turns_same zero k bytes fits_j fits_k = sym (no_turn k bytes fits_j)
turns_same (suc j) zero bytes fits_j fits_k = no_turn (suc j) bytes fits_k
turns_same (suc j) (suc k) bytes fits_j fits_k =
    turn_same j k bytes (binding_at (length bytes) bytes) refl fits_j fits_k (λ rest. turns_same j k rest)

walk_turns : (k : ℕ) (bytes rest : List ℕ) (b : VarBind) → length bytes ≡ k → binding_at (length bytes) bytes ≡ Ok (b, rest)
    → bindings_within k bytes ≡ b ∷ bindings_of rest
unfolding bindings_within
walk_turns k bytes rest b size h = grind (arith, fewer_found, turns_same)

pub walk_more : (bytes rest : List ℕ) (b : VarBind) → binding_at (length bytes) bytes ≡ Ok (b, rest)
    → bindings_of bytes ≡ b ∷ bindings_of rest
walk_more bytes rest b h = walk_turns (length bytes) bytes rest b refl h

walk_stops : (k : ℕ) (bytes : List ℕ) (f : WireFault) → binding_at (length bytes) bytes ≡ Err f → bindings_within k bytes ≡ []
unfolding bindings_within
walk_stops k bytes f h = grind arith

pub walk_end : (bytes : List ℕ) (f : WireFault) → binding_at (length bytes) bytes ≡ Err f → bindings_of bytes ≡ []
walk_end bytes f h = walk_stops (length bytes) bytes f h

-- bindings that were read are spelled
pub whole_found : (end : ℕ) (bytes : List ℕ) → bindings_at end bytes ≡ Ok (bindings_of bytes) → AreWhole bytes
whole_found end bytes h = bindings_found (length bytes) end bytes (bindings_of bytes) (omega arith) h

-- the content of an element that begins bindings is a binding's
known_first_of : (bs : List VarBind) (end : ℕ) (bytes : List ℕ) (c : List ℕ × List ℕ) → AreBindings bs bytes → element_at 48 end bytes ≡ Ok c
    → (b : VarBind) × (members_at (end - length c.1) c.0 ≡ Ok b)
unfolding binding_at element_at
known_first_of [] end bytes c nil h = absurd (cc (h, ap (element_at 48 end) nil))
known_first_of (b ∷ bs) end bytes c are h =
    let read : binding_at end bytes ≡ Ok (b, are.back) = ap (binding_at end) are.parts ∙ binding_only end b are.front are.back are.first in
    let x = bind_ok (element_at 48 end bytes) (λ c. members_at (end - length c.1) c.0 >>= λ m. done (m, c.1)) (b, are.back) read in
    let m = bind_ok (members_at (end - length x.0.1) x.0.0) (λ m. done (m, x.0.1)) (b, are.back) x.2 in
    let same : x.0 ≡ c = ok_is x.0 c (sym x.1 ∙ h) in
    subst (λ c. (b : VarBind) × (members_at (end - length c.1) c.0 ≡ Ok b)) same (m.0, m.1)

pub known_first : (bytes : List ℕ) (c : List ℕ × List ℕ) → AreWhole bytes → element_at 48 (length bytes) bytes ≡ Ok c
    → (b : VarBind) × (members_at (length bytes - length c.1) c.0 ≡ Ok b)
known_first bytes c whole h = known_first_of (bindings_of bytes) (length bytes) bytes c whole h

-- a binding of which the parts were read
pub binding_joined : (end : ℕ) (bytes : List ℕ) (c : List ℕ × List ℕ) (b : VarBind) → element_at 48 end bytes ≡ Ok c
    → members_at (end - length c.1) c.0 ≡ Ok b → binding_at end bytes ≡ Ok (b, c.1)
unfolding binding_at
binding_joined end bytes c b h m = rw (h, m) refl

-- what follows the first of bindings is bindings
pub whole_more : (bytes rest : List ℕ) (b : VarBind) → AreWhole bytes → binding_at (length bytes) bytes ≡ Ok (b, rest) → AreWhole rest
whole_more bytes rest b whole h =
    let are : AreBindings (b ∷ bindings_of rest) bytes = subst (λ bs. AreBindings bs bytes) (walk_more bytes rest b h) whole in
    let read : binding_at (length bytes) bytes ≡ Ok (b, are.back) = ap (binding_at (length bytes)) are.parts ∙ binding_only (length bytes) b are.front are.back are.first in
    let same : (b, are.back) ≡ (b, rest) = ok_is (b, are.back) (b, rest) (sym read ∙ h) in
    subst (λ bytes. AreBindings (bindings_of rest) bytes) (ap (λ x. x.1) same) are.second

-- where no element begins bindings, there are none
pub no_first : (bytes : List ℕ) (f : WireFault) → element_at 48 (length bytes) bytes ≡ Err f → bindings_of bytes ≡ []
unfolding binding_at
no_first bytes f h = walk_end bytes f (rw h refl)

-- the members of a binding that is known to be one, read one after the other
pub known_name : (end : ℕ) (bytes : List ℕ) (b : VarBind) (c : List ℕ × List ℕ) → members_at end bytes ≡ Ok b → element_at 6 end bytes ≡ Ok c
    → IsName b.name c.0
unfolding members_at name_at
known_name end bytes b c h e = grind (arith, after, done, ok_is, name_of_found)

pub known_value : (end : ℕ) (bytes : List ℕ) (b : VarBind) (c : List ℕ × List ℕ) (r : Result (ObjectValue × List ℕ) WireFault)
    → members_at end bytes ≡ Ok b → element_at 6 end bytes ≡ Ok c
    → value_at end c.1 ≡ r → (rest : List ℕ) × (r ≡ Ok (b.value, rest))
unfolding members_at name_at
known_value end bytes b c r h e v =
    after (name_at end bytes) _ b h λ name name_read h.
    after (value_at end name.1) _ b h λ value value_read h.
    after (ended end value.1) (λ _. done (record { name = name.0; value = value.0 })) b h λ nothing nothing_read h.
    after (element_at 6 end bytes) _ name name_read λ x x_read h2.
    after (name_of (offset_of_content end x.0 x.1) x.0) (λ n. done (n, x.1)) name h2 λ n n_read h3.
    let made : VarBind = record { name = name.0; value = value.0 } in
    let is_value : value.0 ≡ b.value = ap (λ b. b.value) (ok_is made b h) in
    let back : x.1 ≡ name.1 = ap (λ x. x.1) (ok_is (n, x.1) name h3) in
    let same : x ≡ c = ok_is x c (sym x_read ∙ e) in
    let at : c.1 ≡ name.1 = sym (ap (λ x. x.1) same) ∙ back in
    (value.1, sym v ∙ ap (value_at end) at ∙ value_read ∙ ap (λ v. Ok (v, value.1)) is_value)

pub some_element : (end : ℕ) (bytes : List ℕ) (b : VarBind) (f : WireFault) → members_at end bytes ≡ Ok b → element_at 6 end bytes ≡ Err f → ⊥
unfolding members_at name_at
some_element end bytes b f h e = grind arith

pub known_members_are : (end : ℕ) (bytes : List ℕ) (b : VarBind) (c : List ℕ × List ℕ) (name : List ℕ) (value : ObjectValue) (rest : List ℕ)
    → members_at end bytes ≡ Ok b → element_at 6 end bytes ≡ Ok c → value_at end c.1 ≡ Ok (value, rest) → name ≡ b.name
    → members_at end bytes ≡ Ok (record { name = name; value = value })
known_members_are end bytes b c name value rest h e v named =
    let known = known_value end bytes b c (Ok (value, rest)) h e v in
    let valued : value ≡ b.value = ap (λ x. x.0) (ok_is (value, rest) (b.value, known.0) known.1) in
    rw (named, valued) h

-- where none are left, neither are bindings
pub none_left : (rest : List ℕ) → length rest ≡ 0 → bindings_of rest ≡ []
none_left rest none = ap bindings_of (nil_from_length rest none) ∙ no_binding 0
