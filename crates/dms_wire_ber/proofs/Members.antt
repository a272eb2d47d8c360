-- Members of an element, one after the other: what reading gives is spelled, and what is spelled is read.
use Rattle.std.proofs.Common.{◌≡◌, ℕ, ℤ, pos, ◌++◌, List, [], ◌∷◌, length, Ok, Some, Result, Option, ok_or, option_and_then, refl, sym, ap, ◌∙◌, subst, append-nil, arith}
use Rattle.std.proofs.lemmas.Option.{same_Some}
use Rattle.dms_wire_ber.specs.declared.fault.WireFault.{WireFault}
use Rattle.dms_wire_ber.specs.declared.fault.FaultKind.TheVariants.{BadInteger}
use Rattle.dms_wire_ber.specs.Length.{IsLength}
use Rattle.dms_wire_ber.specs.Integer.{IsInteger}
use Rattle.dms_wire_ber.specs.ObjectIdentifier.{IsName}
use Rattle.dms_wire_ber.specs.Element.{IsElement, ◌⨾◌}
use Rattle.dms_wire_ber.specs.Reading.{◌>>=◌, fault, offset_of_content, element_at, integer_value, integer_at, name_of, name_at, natural, natural_value}
use Rattle.dms_wire_ber.proofs.Elements.{bind_ok, done, ok_is, tested, element_found, element_only}
use Rattle.dms_wire_ber.proofs.Integers.{integer_found, integer_only}
use Rattle.dms_wire_ber.proofs.Names.{name_found, name_only}

-- the octets begin with octets of which P holds, and rest follows
pub record Front (P : List ℕ → Type 0) (bytes rest : List ℕ) : Type 0 where
  pub front : List ℕ
  pub spelled : P front
  pub parts : bytes ≡ front ++ rest

pub joined : (P Q : List ℕ → Type 0) (bytes rest : List ℕ) → Front P bytes rest → Q rest → (P ⨾ Q) bytes
joined P Q bytes rest first second = grind arith

-- where nothing follows
pub last : (P : List ℕ → Type 0) (bytes rest : List ℕ) → Front P bytes rest → rest ≡ [] → P bytes
last P bytes rest first nil =
    subst P (sym (first.parts ∙ ap (λ rest. first.front ++ rest) nil ∙ append-nil first.front)) first.spelled

-- what follows from a step that did not fail, and from the step after it
pub after : {A B : Type 0} {P : Type 0} (r : Result A WireFault) (f : A → Result B WireFault) (y : B) → (r >>= f) ≡ Ok y
    → ((x : A) → r ≡ Ok x → f x ≡ Ok y → P) → P
after r f y h then = grind arith

pub ok_or_found : {A : Type 0} (o : Option A) (f : WireFault) (x : A) → ok_or o f ≡ Ok x → o ≡ Some x
ok_or_found o f x h = grind arith

-- an element of which the content is read by parse
abbrev pub with_content : {A : Type 0} → (List ℕ × List ℕ → Result A WireFault) → ℕ → ℕ → List ℕ → Result (A × List ℕ) WireFault
with_content parse tag end bytes = element_at tag end bytes >>= λ c. parse c >>= λ v. done (v, c.1)

pub with_found : {A : Type 0} (P : A → List ℕ → Type 0) (parse : List ℕ × List ℕ → Result A WireFault)
    → ((c : List ℕ × List ℕ) (v : A) → parse c ≡ Ok v → P v c.0)
    → (tag end : ℕ) (bytes : List ℕ) (x : A × List ℕ) → with_content parse tag end bytes ≡ Ok x → Front (IsElement tag (P x.0)) bytes x.1
with_found P parse law tag end bytes x h =
    let c = bind_ok (element_at tag end bytes) (λ c. parse c >>= λ v. done (v, c.1)) x h in
    let v = bind_ok (parse c.0) (λ v. done (v, c.0.1)) x c.2 in
    let e : (v.0, c.0.1) ≡ x = ok_is (v.0, c.0.1) x v.2 in
    let found = element_found tag end bytes c.0 c.1 in
    subst (λ x. Front (IsElement tag (P x.0)) bytes x.1) e record {
      front = tag ∷ (found.0 ++ c.0.0);
      spelled = record { len = found.0; content = c.0.0; form = found.1; spelled = law c.0 v.0 v.1; parts = refl };
      parts = found.2;
    }

pub with_only : {A : Type 0} (P : A → List ℕ → Type 0) (parse : List ℕ × List ℕ → Result A WireFault)
    → ((c : List ℕ × List ℕ) (v : A) → P v c.0 → parse c ≡ Ok v)
    → (tag end : ℕ) (v : A) (front rest : List ℕ) → IsElement tag (P v) front → with_content parse tag end (front ++ rest) ≡ Ok (v, rest)
with_only P parse law tag end v front rest e =
    let back = λ (c : List ℕ × List ℕ). parse c >>= λ v. done (v, c.1) in
    ap (λ bytes. with_content parse tag end (bytes ++ rest)) e.parts
    ∙ ap (λ r. r >>= back) (element_only tag end e.len e.content rest e.form)
    ∙ ap (λ r. r >>= λ v. done (v, rest)) (law (e.content, rest) v e.spelled)

pub integer_at_found : (end : ℕ) (bytes : List ℕ) (x : ℤ × List ℕ) → integer_at end bytes ≡ Ok x
    → Front (IsElement 2 (IsInteger x.0)) bytes x.1
unfolding integer_at
integer_at_found end bytes x h =
    with_found IsInteger (λ c. ok_or (integer_value c.0) (fault BadInteger (offset_of_content end c.0 c.1)))
    (λ c z h. integer_found c.0 z (ok_or_found (integer_value c.0) _ z h)) 2 end bytes x h

pub integer_at_only : (end : ℕ) (z : ℤ) (front rest : List ℕ) → IsElement 2 (IsInteger z) front
    → integer_at end (front ++ rest) ≡ Ok (z, rest)
unfolding integer_at
integer_at_only end z front rest e =
    with_only IsInteger (λ c. ok_or (integer_value c.0) (fault BadInteger (offset_of_content end c.0 c.1)))
    (λ c z h. ap (λ o. ok_or o (fault BadInteger (offset_of_content end c.0 c.1))) (integer_only c.0 z h)) 2 end z front rest e

pub name_of_found : (place : ℕ) (content numbers : List ℕ) → name_of place content ≡ Ok numbers → IsName numbers content
name_of_found place content numbers h = grind (arith, tested, ok_is, name_found)

name_of_only : (place : ℕ) (content numbers : List ℕ) → IsName numbers content → name_of place content ≡ Ok numbers
name_of_only place content numbers h =
    let n = name_only numbers content h in
    rw (n.0, n.1) refl

pub name_at_found : (end : ℕ) (bytes : List ℕ) (x : List ℕ × List ℕ) → name_at end bytes ≡ Ok x → Front (IsElement 6 (IsName x.0)) bytes x.1
unfolding name_at
name_at_found end bytes x h =
    with_found IsName (λ c. name_of (offset_of_content end c.0 c.1) c.0) (λ c n h. name_of_found (offset_of_content end c.0 c.1) c.0 n h) 6 end bytes x h

pub name_at_only : (end : ℕ) (numbers front rest : List ℕ) → IsElement 6 (IsName numbers) front
    → name_at end (front ++ rest) ≡ Ok (numbers, rest)
unfolding name_at
name_at_only end numbers front rest e =
    with_only IsName (λ c. name_of (offset_of_content end c.0 c.1) c.0) (λ c n h. name_of_only (offset_of_content end c.0 c.1) c.0 n h) 6 end numbers front rest e

natural_from : (content : List ℕ) (o : Option ℤ) (n : ℕ) → integer_value content ≡ o → option_and_then natural o ≡ Some n
    → IsInteger (pos n) content
natural_from content o n is h = grind (arith, integer_found, same_Some)

pub natural_found : (content : List ℕ) (n : ℕ) → natural_value content ≡ Some n → IsInteger (pos n) content
natural_found content n h = natural_from content (integer_value content) n refl h

pub natural_only : (content : List ℕ) (n : ℕ) → IsInteger (pos n) content → natural_value content ≡ Some n
natural_only content n h = ap (option_and_then natural) (integer_only content (pos n) h)

pub made : (k tag : ℕ) (P : List ℕ → Type 0) (len content : List ℕ) → tag ≡ k → IsLength len (length content) → P content
    → IsElement k P (tag ∷ (len ++ content))
made k tag P len content is form spelled = grind arith
