-- Digits that do not begin with 0 are those of their number; so a name has one content.
use Rattle.std.proofs.Common.{◌≡◌, ◌≢◌, ℕ, ◌+◌, ◌*◌, ◌<◌, ◌≤◌, true, List, [], ◌∷◌, ◌++◌, get_or, refl, sym, ap, ◌∙◌, append_assoc, append-nil, arith}
use Rattle.std.specs.List.{flat_map}
use Rattle.std.specs.Int.Digits.{digits_of, number_from_digits, number_from_digits_after, AllBelowBase}
use Rattle.std.proofs.lemmas.Nat.{div-mul-add, mod-mul-add}
use Rattle.std.proofs.lemmas.Int.Digits.{digits_of_step, number_push, number_after_ge}
use Rattle.dms_wire_ber.specs.ObjectIdentifier.{IsSubIdentifier, AreSubIdentifiers, IsName, numbers_from}
use Rattle.dms_wire_ber.specs.NameReading.{is_name, numbers_of}
use Rattle.dms_wire_ber.specs.ObjectIdentifier.{sub_identifier_octets, sub_identifiers_of, name_octets}
use Rattle.dms_wire_ber.proofs.Names.{name_found}

abbrev pub IsBase : ℕ → Type 0
IsBase b = 2 ≤ b

pub base128 : IsBase 128
base128 = omega arith

pub base256 : IsBase 256
base256 = omega arith

digit_push : (b : ℕ) → IsBase b → (n d : ℕ) → d < b → 0 < n * b + d → digits_of b (n * b + d) ≡ digits_of b n ++ d ∷ []
digit_push b base n d below some = grind (arith, digits_of_step, div-mul-add, mod-mul-add)

digits_after : (b : ℕ) → IsBase b → (ds : List ℕ) (n : ℕ) → AllBelowBase b ds → 0 < n → digits_of b (number_from_digits_after b n ds) ≡ digits_of b n ++ ds
digits_after b base [] n below some = sym (append-nil (digits_of b n))
digits_after b base (d ∷ ds) n below some =
    let grown : n ≤ n * b + d = number_after_ge b n (d ∷ []) (omega arith) in
    let more : 0 < n * b + d = omega arith in
    digits_after b base ds (n * b + d) below.1 more
    ∙ ap (λ front. front ++ ds) (digit_push b base n d below.0 more)
    ∙ append_assoc (digits_of b n) (d ∷ []) ds

-- digits of which the first is not 0 are those of their number
pub digits_number : (b : ℕ) → IsBase b → (ds : List ℕ) → AllBelowBase b ds → get_or ds 0 1 ≢ 0 → digits_of b (number_from_digits b ds) ≡ ds
digits_number b base [] below first = refl
digits_number b base (d ∷ ds) below first = grind (arith, digits_after, digit_push)

pub sub_is : (n : ℕ) (bytes : List ℕ) → IsSubIdentifier n bytes → bytes ≡ sub_identifier_octets n
sub_is n bytes s = grind (arith, number_push, digits_number, base128)

pub subs_are : (ns bytes : List ℕ) → AreSubIdentifiers ns bytes → bytes ≡ flat_map sub_identifier_octets ns
subs_are [] bytes e = e
subs_are (n ∷ ns) bytes s =
    s.5
    ∙ ap (λ front. front ++ s.1) (sub_is n s.0 s.3)
    ∙ ap (λ back. sub_identifier_octets n ++ back) (subs_are ns s.1 s.4)

subs_back : (ns : List ℕ) → sub_identifiers_of (numbers_from ns) ≡ ns
subs_back ns = grind arith

pub name_is : (numbers bytes : List ℕ) → IsName numbers bytes → bytes ≡ name_octets numbers
unfolding name_octets
name_is numbers bytes name = grind (arith, subs_are, subs_back)

-- the content that was read is the one that is written
pub content_is : (bytes : List ℕ) → is_name bytes ≡ true → bytes ≡ name_octets (numbers_of bytes)
content_is bytes h = name_is (numbers_of bytes) bytes (name_found bytes h)
