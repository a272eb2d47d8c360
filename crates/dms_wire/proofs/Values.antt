-- Values and the elements around them: what reading gives is spelled, and what is spelled is read.
use Rattle.std.proofs.Common.{◌≡◌, ℕ, pos, inl, inr, ◌++◌, List, [], ◌∷◌, length, eqb, ◌==◌, Ok, Some, true, false, Option, ok_or, option_map, refl, ap, subst, arith, eq-eqb, ◌-◌}
use Rattle.std.proofs.lemmas.Bool.{eqb-true}
use Rattle.std.proofs.lemmas.Bool.Decides.{nat_tests}
use Rattle.std.proofs.lemmas.List.{nil_from_length}
use Rattle.dms_wire_ber.specs.declared.fault.FaultKind.TheVariants.{BadInteger, BadLength, BadName}
use Rattle.dms_wire.specs.Message.{ObjectValue, integer, octet_string, null, object_identifier, ip_address, counter, gauge, time_ticks, opaque}
use Rattle.dms_wire_ber.specs.Length.{IsLength}
use Rattle.dms_wire_ber.specs.Integer.{IsInteger}
use Rattle.dms_wire_ber.specs.ObjectIdentifier.{IsName}
use Rattle.dms_wire_ber.specs.NameReading.{is_name, numbers_of}
use Rattle.dms_wire_ber.specs.Element.{IsElement}
use Rattle.dms_wire.specs.Spelling.{IsValue, IsAddress}
use Rattle.dms_wire_ber.specs.Reading.{◌>>=◌, fault, offset_of_content, content_at, integer_value, natural_value}
use Rattle.dms_wire.specs.Reading.{value_from, is_value_tag, after_tag, value_at}
use Rattle.dms_wire_ber.proofs.Elements.{bind_ok, chosen, done, ok_is, not_ok, tested, content_found, content_only}
use Rattle.dms_wire_ber.proofs.Integers.{integer_found, integer_only}
use Rattle.dms_wire_ber.proofs.Names.{name_found, name_only}
use Rattle.dms_wire_ber.proofs.Members.{Front, natural_found, natural_only, made}

-- a tag and a content spell the value, after any form of the length
abbrev Stands : ℕ → List ℕ → ObjectValue → Type 0
Stands tag content value = (len : List ℕ) → IsLength len (length content) → IsValue value (tag ∷ (len ++ content))

-- the tag that is none of the others
last_tag : (tag : ℕ) → is_value_tag tag ≡ true → eqb tag 2 ≡ false → eqb tag 4 ≡ false → eqb tag 5 ≡ false → eqb tag 6 ≡ false
    → eqb tag 64 ≡ false → eqb tag 65 ≡ false → eqb tag 66 ≡ false → eqb tag 67 ≡ false → tag ≡ 68
last_tag tag is n2 n4 n5 n6 n64 n65 n66 n67 = grind (arith, nat_tests)

-- a content whose number is read by parse, as the value of a tag
number_found : {A : Type 0} (make : A → ObjectValue) (P : A → List ℕ → Type 0) (parse : List ℕ → Option A)
    → ((content : List ℕ) (v : A) → parse content ≡ Some v → P v content)
    → (k tag place : ℕ) (len content : List ℕ) (value : ObjectValue) → eqb tag k ≡ true → IsLength len (length content)
    → ((v : A) → IsElement k (P v) (tag ∷ (len ++ content)) → IsValue (make v) (tag ∷ (len ++ content)))
    → ok_or (option_map make (parse content)) (fault BadInteger place) ≡ Ok value → IsValue value (tag ∷ (len ++ content))
number_found make P parse law k tag place len content value is form spells h = grind arith

-- what is read as v is the value
spells_same : (v value : ObjectValue) (bytes : List ℕ) → done v ≡ Ok value → IsValue v bytes → IsValue value bytes
spells_same v value bytes e spelled = subst (λ v. IsValue v bytes) (ok_is v value e) spelled

value_from_found : (tag before place : ℕ) (content : List ℕ) (value : ObjectValue) → is_value_tag tag ≡ true
    → value_from tag before place content ≡ Ok value → Stands tag content value
unfolding value_from
value_from_found tag before place content value is h len form =
    let bytes : List ℕ = tag ∷ (len ++ content) in
    elim (chosen (eqb tag 2) _ _ (Ok value) h) [
      | inl t ↦ number_found integer IsInteger integer_value integer_found 2 tag place len content value t.0 form (λ v e. e) t.1
      | inr n2 ↦ elim (chosen (eqb tag 4) _ _ (Ok value) n2.1) [
        | inl t ↦
            spells_same (octet_string content) value bytes t.1 (made 4 tag (λ c. c ≡ content) len content (eqb-true tag 4 t.0) form refl)
        | inr n4 ↦ elim (chosen (eqb tag 5) _ _ (Ok value) n4.1) [
          | inl t ↦
              let empty = tested (length content == 0) (fault BadLength before) (Ok null) value t.1 in
              let nil : content ≡ [] = nil_from_length content (eqb-true (length content) 0 empty.0) in
              spells_same null value bytes empty.1 (made 5 tag (λ c. c ≡ []) len content (eqb-true tag 5 t.0) form nil)
          | inr n5 ↦ elim (chosen (eqb tag 6) _ _ (Ok value) n5.1) [
            | inl t ↦
                let numbers : List ℕ = numbers_of content in
                let name = tested (is_name content) (fault BadName place) (Ok (object_identifier numbers)) value t.1 in
                spells_same (object_identifier numbers) value bytes name.1
                (made 6 tag (IsName numbers) len content (eqb-true tag 6 t.0) form (name_found content name.0))
            | inr n6 ↦ elim (chosen (eqb tag 64) _ _ (Ok value) n6.1) [
              | inl t ↦
                  let four = tested (length content == 4) (fault BadLength before) (Ok (ip_address content)) value t.1 in
                  let size : length content ≡ 4 = eqb-true (length content) 4 four.0 in
                  spells_same (ip_address content) value bytes four.1
                  (made 64 tag (IsAddress content) len content (eqb-true tag 64 t.0) form (refl, size))
              | inr n64 ↦ elim (chosen (eqb tag 65) _ _ (Ok value) n64.1) [
                | inl t ↦
                    number_found counter (λ n. IsInteger (pos n)) natural_value natural_found 65 tag place len content value t.0 form (λ v e. e) t.1
                | inr n65 ↦ elim (chosen (eqb tag 66) _ _ (Ok value) n65.1) [
                  | inl t ↦
                      number_found gauge (λ n. IsInteger (pos n)) natural_value natural_found 66 tag place len content value t.0 form (λ v e. e) t.1
                  | inr n66 ↦ elim (chosen (eqb tag 67) _ _ (Ok value) n66.1) [
                    | inl t ↦
                        number_found time_ticks (λ n. IsInteger (pos n)) natural_value natural_found 67 tag place len content value t.0 form (λ v e. e) t.1
                    | inr n67 ↦
                        let rest : tag ≡ 68 = last_tag tag is n2.0 n4.0 n5.0 n6.0 n64.0 n65.0 n66.0 n67.0 in
                        spells_same (opaque content) value bytes n67.1 (made 68 tag (λ c. c ≡ content) len content rest form refl)
                  ]
                ]
              ]
            ]
          ]
        ]
      ]
    ]

-- an element of a value's tag, whose content is the value's
value_element : (tag end : ℕ) (P : List ℕ → Type 0) (front rest : List ℕ) (value : ObjectValue) → is_value_tag tag ≡ true
    → (e : IsElement tag P front)
    → ((before place : ℕ) → value_from tag before place e.content ≡ Ok value) → value_at end (front ++ rest) ≡ Ok (value, rest)
unfolding value_at after_tag
value_element tag end P front rest value is e law = grind (arith, done, content_only)

pub value_only : (value : ObjectValue) (end : ℕ) (front rest : List ℕ) → IsValue value front
    → value_at end (front ++ rest) ≡ Ok (value, rest)
unfolding value_from
value_only (integer z) end front rest e =
    value_element 2 end (IsInteger z) front rest (integer z) refl e (λ before place. rw (integer_only e.content z e.spelled) refl)
value_only (octet_string s) end front rest e =
    value_element 4 end (λ content. content ≡ s) front rest (octet_string s) refl e (λ before place. rw e.spelled refl)
value_only null end front rest e =
    value_element 5 end (λ content. content ≡ []) front rest null refl e (λ before place. rw e.spelled refl)
value_only (object_identifier numbers) end front rest e =
    let name = name_only numbers e.content e.spelled in
    value_element 6 end (IsName numbers) front rest (object_identifier numbers) refl e (λ before place. rw (name.0, name.1) refl)
value_only (ip_address address) end front rest e =
    let four = eq-eqb (length address) 4 e.spelled.1 in
    value_element 64 end (IsAddress address) front rest (ip_address address) refl e (λ before place. rw (e.spelled.0, four) refl)
value_only (counter n) end front rest e =
    value_element 65 end (IsInteger (pos n)) front rest (counter n) refl e (λ before place. rw (natural_only e.content n e.spelled) refl)
value_only (gauge n) end front rest e =
    value_element 66 end (IsInteger (pos n)) front rest (gauge n) refl e (λ before place. rw (natural_only e.content n e.spelled) refl)
value_only (time_ticks n) end front rest e =
    value_element 67 end (IsInteger (pos n)) front rest (time_ticks n) refl e (λ before place. rw (natural_only e.content n e.spelled) refl)
value_only (opaque s) end front rest e =
    value_element 68 end (λ content. content ≡ s) front rest (opaque s) refl e (λ before place. rw e.spelled refl)

-- after the tag of a value
after_found : (tag end : ℕ) (bytes : List ℕ) (x : ObjectValue × List ℕ) → is_value_tag tag ≡ true → after_tag tag end bytes ≡ Ok x
    → Front (IsValue x.0) (tag ∷ bytes) x.1
unfolding after_tag
after_found tag end bytes x is h =
    let before : ℕ = end - length bytes in
    let c = bind_ok (content_at end bytes) (λ c. value_from tag before (offset_of_content end c.0 c.1) c.0 >>= λ value. done (value, c.1)) x h in
    let value = bind_ok (value_from tag before (offset_of_content end c.0.0 c.0.1) c.0.0) (λ value. done (value, c.0.1)) x c.2 in
    let found = content_found end bytes c.0 c.1 in
    subst (λ x. Front (IsValue x.0) (tag ∷ bytes) x.1) (ok_is (value.0, c.0.1) x value.2) record {
      front = tag ∷ (found.0 ++ c.0.0);
      spelled = value_from_found tag before (offset_of_content end c.0.0 c.0.1) c.0.0 value.0 is value.1 found.0 found.1;
      parts = ap (λ bytes. tag ∷ bytes) found.2;
    }

pub value_found : (end : ℕ) (bytes : List ℕ) (x : ObjectValue × List ℕ) → value_at end bytes ≡ Ok x → Front (IsValue x.0) bytes x.1
unfolding value_at
value_found end bytes x h = grind (arith, not_ok, tested, after_found)
