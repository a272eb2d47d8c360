-- Contents of names, and the names.
use Rattle.std.proofs.Common.{◌≡◌, ℕ, List, IsTrue, IfSome, IsSome, IfNone, true, Option, Some, None, sym, ap, ◌∙◌, arith}
use Rattle.std.specs.Prelude.{◌↔◌}
use Rattle.std.specs.Prelude.{nat_eq}
use Rattle.std.specs.Cmp.{both_ways}
use Rattle.std.specs.Cmp.Lexicographic.{pointwise, bytes_decides}
use Rattle.dms_wire_ber.specs.ObjectIdentifier.{IsName}
use Rattle.dms_wire_ber.specs.NameReading.{is_name, numbers_of}
use Rattle.dms_wire_ber.specs.ObjectIdentifier.{name_octets}
use Rattle.dms_wire_ber.proofs.Names.{name_found, name_only}
use Rattle.dms_wire_ber.proofs.Unique.{content_is}

pub named : (o : Option (List ℕ)) (bytes : List ℕ) → IfSome o (λ n. n ≡ numbers_of bytes) → IsSome o ↔ IsTrue (is_name bytes) → IfSome o (λ n. IsName n bytes)
named o bytes same exact = grind (arith, name_found)

pub named_only : (o : Option (List ℕ)) (bytes : List ℕ) → IfSome o (λ n. n ≡ numbers_of bytes) → IsSome o ↔ IsTrue (is_name bytes)
    → (numbers : List ℕ) → IsName numbers bytes → o ≡ Some numbers
named_only None bytes same exact numbers name = let h = exact.1 (name_only numbers bytes name).0 in cc
named_only (Some n) bytes same exact numbers name = ap Some (same ∙ (name_only numbers bytes name).1)

pub unnamed : (o : Option (List ℕ)) (bytes : List ℕ) → IsSome o ↔ IsTrue (is_name bytes) → IfNone o ((numbers : List ℕ) → IsName numbers bytes → ⊥)
unnamed None bytes exact = λ numbers name. let h = exact.1 (name_only numbers bytes name).0 in cc
unnamed (Some n) bytes exact = tt

-- names are equal where their contents are
pub same_name : (xs ys : List ℕ) → is_name xs ≡ true → is_name ys ≡ true → pointwise nat_eq xs ys ≡ pointwise nat_eq (numbers_of xs) (numbers_of ys)
same_name xs ys x_name y_name =
    let contents = bytes_decides xs ys in
    let names = bytes_decides (numbers_of xs) (numbers_of ys) in
    both_ways _ _ (λ e. names.1 (ap numbers_of (contents.0 e)))
    (λ e. contents.1 (content_is xs x_name ∙ ap name_octets (names.0 e) ∙ sym (content_is ys y_name)))
