-- The item at the front of a text: what is read is spelled so, what is spelled so is read, and no spelling begins another.
use Rattle.std.proofs.Common.{◌≡◌, ℕ, ◌<◌, Bool, false, ◌==◌, eqb, List, [], ◌∷◌, ◌++◌, Option, Some, None, Result, Ok, Err, refl, sym, ap, ◌∙◌, inl, inr, arith, subst, append-nil, append_assoc}
use Rattle.std.proofs.lemmas.Bool.{eqb-true}
use Rattle.dms_multi.specs.declared.fault.FaultCode.{FaultCode}
use Rattle.dms_multi.specs.declared.fault.FaultCode.TheVariants.{UnsupportedTag}
use Rattle.dms_multi.specs.declared.item.Item.{Item}
use Rattle.dms_multi.specs.declared.item.Item.TheVariants.{Char}
use Rattle.dms_multi.specs.Grammar.{TagBody, plain, IsPlain, ItemSpells, TextSpells}
use Rattle.dms_multi.specs.Reading.{cut}
use Rattle.dms_multi.specs.TagReading.{body_item, with_rest, tag_in, tag_at, item_after_opening, item_after_closing, item_at}
use Rattle.dms_multi.proofs.Cuts.{IsCut, cut_found, cut_again}
use Rattle.dms_multi.proofs.Values.{chosen, lower_other}
use Rattle.dms_multi.proofs.Tags.{body_first}
use Rattle.dms_multi.proofs.Bodies.{body_found, body_again, body_name, free_body}

-- a spelling of the item at the front, and after it the rest
pub record IsFront (text : List ℕ) (found : Item × List ℕ) : Type 0 where
  pub piece : List ℕ
  pub spelled : ItemSpells found.0 piece
  pub parts : text ≡ piece ++ found.1

-- ---- what is read is spelled so

front_is : (text : List ℕ) (x y : Item × List ℕ) → IsFront text x → x ≡ y → IsFront text y
front_is text x y front e = subst (IsFront text) e front

before_found : (rest : List ℕ) (r : Result Item FaultCode) (x : Item × List ℕ) → with_rest rest r ≡ Ok x → (r ≡ Ok x.0) × (rest ≡ x.1)
before_found rest r x e = grind arith

tag_found_in : (text : List ℕ) (o : Option (List ℕ × List ℕ)) (x : Item × List ℕ) → ((body rest : List ℕ) → o ≡ Some (body, rest) → IsCut 93 text body rest) → tag_in o ≡ Ok x → IsFront (91 ∷ text) x
tag_found_in text None x pieces e = absurd cc
tag_found_in text (Some (body, rest)) x pieces e =
    let small : 93 < 97 = omega arith in
    let there = pieces body rest refl in
    let read = before_found rest (body_item body) x e in
    let closing : there.octet ∷ [] ≡ 93 ∷ [] = ap (λ c. c ∷ []) (lower_other there.octet 93 there.is small) in
    record {
      piece = 91 ∷ (body ++ there.octet ∷ []);
      spelled = inr (record {
        front = 91 ∷ [];
        back = body ++ there.octet ∷ [];
        first = refl;
        second = record { front = body; back = there.octet ∷ []; first = body_found body x.0 read.0; second = closing; parts = refl };
        parts = refl;
      });
      parts = ap (λ t. 91 ∷ t) (there.parts ∙ sym (append_assoc body (there.octet ∷ []) rest)) ∙ ap (λ t. (91 ∷ (body ++ there.octet ∷ [])) ++ t) read.1;
    }

tag_found : (text : List ℕ) (x : Item × List ℕ) → tag_at text ≡ Ok x → IsFront (91 ∷ text) x
unfolding tag_at
tag_found text x e = tag_found_in text (cut 93 text) x (λ body rest. cut_found 93 text body rest) e

-- a bracket that is written twice
doubled_found : (bracket c : ℕ) (cs : List ℕ) (x : Item × List ℕ) → c ≡ bracket → ItemSpells (Char bracket) (bracket ∷ bracket ∷ []) → ◌≡◌ {A = Result (Item × List ℕ) FaultCode} (Ok (Char bracket, cs)) (Ok x)
    → IsFront (bracket ∷ c ∷ cs) x
doubled_found bracket c cs x is spelled e =
    let same : (Char bracket, cs) ≡ x = cc in
    front_is (bracket ∷ c ∷ cs) _ x (record { piece = bracket ∷ bracket ∷ []; spelled = spelled; parts = ap (λ d. bracket ∷ d ∷ cs) is }) same

opened_found : (text : List ℕ) (x : Item × List ℕ) → item_after_opening text ≡ Ok x → IsFront (91 ∷ text) x
unfolding item_after_opening
opened_found [] x e = absurd cc
opened_found (c ∷ cs) x e = elim (chosen (c == 91) e) [
  | inl bracket ↦ doubled_found 91 c cs x (eqb-true c 91 bracket.0) (inl refl) bracket.1
  | inr tag ↦ tag_found (c ∷ cs) x tag.1
]

closed_found : (text : List ℕ) (x : Item × List ℕ) → item_after_closing text ≡ Ok x → IsFront (93 ∷ text) x
unfolding item_after_closing
closed_found [] x e = absurd cc
closed_found (c ∷ cs) x e = elim (chosen (c == 93) e) [
  | inl bracket ↦ doubled_found 93 c cs x (eqb-true c 93 bracket.0) (inl refl) bracket.1
  | inr single ↦ absurd (let never : Err UnsupportedTag ≡ Ok x = single.1 in cc)
]

plain_other : (c : ℕ) → eqb c 91 ≡ false → eqb c 93 ≡ false → plain c ≡ c ∷ []
plain_other c opening closing = rw (opening, closing) refl

pub item_found : (text : List ℕ) (x : Item × List ℕ) → item_at text ≡ Ok x → IsFront text x
unfolding item_at
item_found [] x e = absurd cc
item_found (c ∷ cs) x e = elim (chosen (c == 91) e) [
  | inl opening ↦ subst (λ (d : ℕ). IsFront (d ∷ cs) x) (sym (eqb-true c 91 opening.0)) (opened_found cs x opening.1)
  | inr other ↦ elim (chosen (c == 93) other.1) [
    | inl closing ↦ subst (λ (d : ℕ). IsFront (d ∷ cs) x) (sym (eqb-true c 93 closing.0)) (closed_found cs x closing.1)
    | inr neither ↦ (
        let same : (Char c, cs) ≡ x = let equal : Ok (Char c, cs) ≡ Ok x = neither.1 in cc in
        front_is (c ∷ cs) _ x (record { piece = c ∷ []; spelled = inl (sym (plain_other c other.0 neither.0)); parts = refl }) same)
  ]
]

-- ---- what is spelled so is read

plain_again : (t u : Bool) (c : ℕ) (rest : List ℕ) → eqb c 91 ≡ t → eqb c 93 ≡ u → item_at (plain c ++ rest) ≡ Ok (Char c, rest)
unfolding item_at item_after_opening item_after_closing
plain_again t u c rest opening closing = grind arith

plain_item_again : (item : Item) (piece rest : List ℕ) → IsPlain item piece → item_at (piece ++ rest) ≡ Ok (item, rest)
plain_item_again item piece rest is = grind (arith, plain_again)

pub opened_tag : (c d : ℕ) (cs body more : List ℕ) → body ≡ c ∷ d ∷ cs → eqb c 91 ≡ false → item_at (91 ∷ (body ++ more)) ≡ tag_at (body ++ more)
unfolding item_at item_after_opening
opened_tag c d cs body more parts other = rw (parts, other) refl

tag_again : (item : Item) (body rest : List ℕ) → TagBody item body → tag_at (body ++ 93 ∷ rest) ≡ Ok (item, rest)
unfolding tag_at
tag_again item body rest b = ap tag_in (cut_again 93 93 body rest (free_body item body b) refl) ∙ ap (with_rest rest) (body_again item body b)

pub item_again : (item : Item) (piece rest : List ℕ) → ItemSpells item piece → item_at (piece ++ rest) ≡ Ok (item, rest)
item_again item piece rest (inl is) = plain_item_again item piece rest is
item_again item piece rest (inr tag) =
    let inner = tag.second in
    let name = body_name item inner.front inner.first in
    let first = body_first name.0 inner.front name.1 name.2 in
    let whole : piece ++ rest ≡ 91 ∷ (inner.front ++ 93 ∷ rest) =
    ap (λ t. t ++ rest) (tag.parts ∙ ap (λ t. t ++ tag.back) tag.first ∙ ap (λ t. 91 ∷ t) (inner.parts ∙ ap (λ t. inner.front ++ t) inner.second)) ∙ ap (λ t. 91 ∷ t) (append_assoc inner.front (93 ∷ []) rest) in
    ap item_at whole ∙ opened_tag first.0 first.1 first.2 inner.front (93 ∷ rest) first.3 first.4 ∙ tag_again item inner.front rest inner.first

-- ---- no spelling begins another

pub same_item : (i j : Item) (x y : List ℕ) (r : Result (Item × List ℕ) FaultCode) → r ≡ Ok (i, x) → r ≡ Ok (j, y) → (i ≡ j) × (x ≡ y)
same_item i j x y r first second = grind arith

pub begins_none : (i j : Item) (a x : List ℕ) → ItemSpells i a → ItemSpells j (a ++ x) → (i ≡ j) × (x ≡ [])
begins_none i j a x first second =
    same_item i j x [] (item_at (a ++ x)) (item_again i a x first) (ap item_at (sym (append-nil (a ++ x))) ∙ item_again j (a ++ x) [] second)

-- an item at the front of a text that items spell
pub text_first : (item : Item) (items : List Item) (text rest : List ℕ) (spelled : TextSpells (item ∷ items) text) → item_at (text ++ rest) ≡ Ok (item, spelled.back ++ rest)
text_first item items text rest spelled =
    ap item_at (ap (λ t. t ++ rest) spelled.parts ∙ append_assoc spelled.front spelled.back rest) ∙ item_again item spelled.front (spelled.back ++ rest) spelled.first

pub text_front : (item : Item) (items : List Item) (text : List ℕ) (spelled : TextSpells (item ∷ items) text) → item_at text ≡ Ok (item, spelled.back)
text_front item items text spelled = ap item_at spelled.parts ∙ item_again item spelled.front spelled.back spelled.first

pub nothing_read : (x : Item × List ℕ) → item_at [] ≡ Ok x → ⊥
unfolding item_at
nothing_read x e = absurd cc

pub one_list : (xs ys : List Item) (text : List ℕ) → TextSpells xs text → TextSpells ys text → xs ≡ ys
one_list [] [] text first second = refl
one_list [] (y ∷ ys) text first second = absurd (nothing_read _ (ap item_at (sym first) ∙ text_front y ys text second))
one_list (x ∷ xs) [] text first second = absurd (nothing_read _ (ap item_at (sym second) ∙ text_front x xs text first))
one_list (x ∷ xs) (y ∷ ys) text first second =
    let same = same_item x y first.back second.back (item_at text) (text_front x xs text first) (text_front y ys text second) in
    let more : xs ≡ ys = one_list xs ys first.back first.second (subst (TextSpells ys) (sym same.1) second.second) in
    ap (λ (i : Item). i ∷ xs) same.0 ∙ ap (λ (is : List Item). y ∷ is) more
