-- What a text is read as: its spots, and its fault where it spells no items.
use Rattle.std.proofs.Common.{◌≡◌, ◌↔◌, ℕ, zero, suc, ◌+◌, ◌-◌, ◌<◌, ◌≤◌, true, ◌==◌, eqb, not, List, [], ◌∷◌, ◌++◌, length, take, drop, map, Option, Some, None, Result, Ok, Err, refl, sym, ap, ◌∙◌, inl, inr, ◌⊎◌, arith, subst, append-nil, append_assoc, length-append}
use Rattle.std.specs.Prelude.{ok_or}
use Rattle.std.specs.List.{list_all}
use Rattle.std.proofs.Math.Seq.{take-append_seam, drop-append_seam}
use Rattle.std.proofs.lemmas.List.{take-append-drop, length-take-le}
use Rattle.std.proofs.lemmas.Bool.{eqb-true, cases_Bool}
use Rattle.dms_multi.specs.declared.fault.FaultCode.{FaultCode}
use Rattle.dms_multi.specs.declared.fault.FaultCode.TheVariants.{UnsupportedTagValue}
use Rattle.dms_multi.specs.declared.item.Item.{Item}
use Rattle.dms_multi.specs.declared.item.Item.TheVariants.{Char}
use Rattle.dms_multi.specs.declared.spots.Spot.{Spot}
use Rattle.dms_multi.specs.declared.tag.TagName.{TagName}
use Rattle.dms_multi.specs.declared.tag.TagName.TheVariants.{Cb, Pb, Cf, Fo, Fl, EndFl, Hc, Jl, Jp, Nl, Np, Pt}
use Rattle.dms_multi.specs.Grammar.{Word, Name, BeginsWithNamedTag, ItemSpells, TextSpells, SpotsSpell, ReadsAs, Outcome, IsReading}
use Rattle.dms_multi.specs.Outcomes.{spot, fault, with_outcome, outcomes_within, outcomes_of}
use Rattle.dms_multi.specs.Reading.{cut, is_letter}
use Rattle.dms_multi.specs.TagReading.{name_at, item_of, body_in, body_item, with_rest, tag_in, tag_at, item_after_opening, item_after_closing, item_at}
use Rattle.dms_multi.proofs.Cuts.{IsFree, free_append, IsCut, cut_found, cut_again}
use Rattle.dms_multi.proofs.Values.{chosen, lower_other}
use Rattle.dms_multi.proofs.Tags.{spelling, HasName, name_found, name_again, body_first}
use Rattle.dms_multi.proofs.Bodies.{free_name}
use Rattle.dms_multi.proofs.ItemLaws.{item_found, opened_tag, text_first, same_item}

-- ---- an item takes an octet or more

some_spelled : (item : Item) (piece : List ℕ) → ItemSpells item piece → 0 < length piece
some_spelled item piece spelled = grind arith

-- ---- spots and fault of what is read

-- what is read of a text that ends at an offset: spots that spell a front of it, and after that nothing or a fault
pub record IsDivided (end : ℕ) (text : List ℕ) (read : List Outcome) : Type 0 where
  pub spots : List Spot
  pub front : List ℕ
  pub rest : List ℕ
  pub parts : text ≡ front ++ rest
  pub spelled : SpotsSpell (end - length text) spots front
  pub ending : ((rest ≡ []) × (read ≡ map Ok spots)) ⊎ ((code : FaultCode) × (item_at rest ≡ Err code) × (0 < length rest) × (read ≡ map Ok spots ++ Err (fault end rest code) ∷ []))

no_more : (end : ℕ) → IsDivided end [] []
no_more end = record { spots = []; front = []; rest = []; parts = refl; spelled = refl; ending = inl (refl, refl) }

at_fault : (end : ℕ) (text : List ℕ) (code : FaultCode) → 0 < length text → item_at text ≡ Err code → IsDivided end text (Err (fault end text code) ∷ [])
at_fault end text code some e = record { spots = []; front = []; rest = text; parts = refl; spelled = refl; ending = inr (code, e, some, refl) }

one_more : (end : ℕ) (text : List ℕ) (x : Item × List ℕ) (read : List Outcome) → item_at text ≡ Ok x → length text ≤ end → IsDivided end x.1 read → IsDivided end text (Ok (spot end text x) ∷ read)
one_more end text x read e within d =
    let front = item_found text x e in
    let sizes : length text ≡ length front.piece + length x.1 = ap length front.parts ∙ length-append front.piece x.1 in
    let past : end - length x.1 ≡ end - length text + length front.piece = omega arith in
    record {
      spots = spot end text x ∷ d.spots;
      front = front.piece ++ d.front;
      rest = d.rest;
      parts = front.parts ∙ ap (λ t. front.piece ++ t) d.parts ∙ sym (append_assoc front.piece d.front d.rest);
      spelled = record { front = front.piece; back = d.front; first = record { spelled = front.spelled; first = refl; past = past }; second = d.spelled; parts = refl };
      ending = elim d.ending [
        | inl none ↦ inl (none.0, ap (λ more. Ok (spot end text x) ∷ more) none.1)
        | inr found ↦ inr (found.0, found.1, found.2, ap (λ more. Ok (spot end text x) ∷ more) found.3)
      ];
    }

pub shorter : (text : List ℕ) (x : Item × List ℕ) → item_at text ≡ Ok x → length x.1 < length text
shorter text x e =
    let front = item_found text x e in
    let some : 0 < length front.piece = some_spelled x.0 front.piece front.spelled in
    let sizes : length text ≡ length front.piece + length x.1 = ap length front.parts ∙ length-append front.piece x.1 in
    omega arith

divided_with : (end : ℕ) (text : List ℕ) (more : List ℕ → List Outcome) (r : Result (Item × List ℕ) FaultCode) → 0 < length text → length text ≤ end → item_at text ≡ r → ((x : Item × List ℕ) → r ≡ Ok x → IsDivided end x.1 (more x.1)) → IsDivided end text (with_outcome end text r more)
divided_with end text more r some within e divides = grind (arith, one_more, at_fault)

divided : (k end : ℕ) (text : List ℕ) → length text ≤ k → length text ≤ end → IsDivided end text (outcomes_within k end text)
unfolding outcomes_within
divided zero end [] small within = no_more end
divided zero end (c ∷ cs) small within = absurd (omega arith)
divided (suc k) end [] small within = no_more end
divided (suc k) end (c ∷ cs) small within =
    divided_with end (c ∷ cs) (outcomes_within k end) (item_at (c ∷ cs)) (omega arith) within refl
    (λ x e. let less : length x.1 < length (c ∷ cs) = shorter (c ∷ cs) x e in divided k end x.1 (omega arith) (omega arith))

-- ---- the fault stands after the longest front that items spell

pub text_of_spots : (offset : ℕ) (spots : List Spot) (text : List ℕ) → SpotsSpell offset spots text → TextSpells (map (λ (s : Spot). s.item) spots) text
text_of_spots offset [] text spelled = spelled
text_of_spots offset (s ∷ ss) text spelled = record { front = spelled.front; back = spelled.back; first = spelled.first.spelled; second = text_of_spots s.past ss spelled.back spelled.second; parts = spelled.parts }

never_both : (r : Result (Item × List ℕ) FaultCode) (x : Item × List ℕ) (code : FaultCode) → r ≡ Ok x → r ≡ Err code → ⊥
never_both r x code first second = absurd (let both : Ok x ≡ Err code = sym first ∙ second in cc)

longest : (xs ys : List Item) (front rest front' rest' : List ℕ) (code : FaultCode) → TextSpells xs front → item_at rest ≡ Err code → TextSpells ys front' → front ++ rest ≡ front' ++ rest' → length front' ≤ length front
longest xs [] front rest front' rest' code first stuck second same =
    let none : length front' ≡ 0 = ap length second in omega arith
longest [] (y ∷ ys) front rest front' rest' code first stuck second same =
    absurd (never_both (item_at rest) _ code (ap item_at (ap (λ t. t ++ rest) (sym first) ∙ same) ∙ text_first y ys front' rest' second) stuck)
longest (x ∷ xs) (y ∷ ys) front rest front' rest' code first stuck second same =
    let heads = same_item x y (first.back ++ rest) (second.back ++ rest') (item_at (front ++ rest)) (text_first x xs front rest first) (ap item_at same ∙ text_first y ys front' rest' second) in
    let more : length second.back ≤ length first.back = longest xs ys first.back rest second.back rest' code first.second stuck second.second heads.1 in
    let whole : length front + length rest ≡ length front' + length rest' = sym (length-append front rest) ∙ ap length same ∙ length-append front' rest' in
    let backs : length first.back + length rest ≡ length second.back + length rest' = sym (length-append first.back rest) ∙ ap length heads.1 ∙ length-append second.back rest' in
    let size : length front ≡ length first.front + length first.back = ap length first.parts ∙ length-append first.front first.back in
    let size' : length front' ≡ length second.front + length second.back = ap length second.parts ∙ length-append second.front second.back in
    omega arith

-- ---- its code

-- the first closing bracket of a text that holds one
first_close : (any more : List ℕ) → (front back : List ℕ) × (any ++ 93 ∷ more ≡ front ++ 93 ∷ back) × IsFree 93 front
first_close [] more = ([], more, refl, tt)
first_close (c ∷ cs) more = elim (cases_Bool (is_letter 93 c)) [
  | inl here ↦ (
      let small : 93 < 97 = omega arith in
      ([], cs ++ 93 ∷ more, ap (λ d. d ∷ (cs ++ 93 ∷ more)) (lower_other c 93 (eqb-true _ _ here) small), tt))
  | inr other ↦ (
      let later = first_close cs more in
      (c ∷ later.0, later.1, ap (λ s. c ∷ s) later.2, (other, later.3)))
]

name_of_word : (word : List ℕ) → Name word → (name : TagName) × Word (spelling name) word
name_of_word word (inl w) = (Cb, w)
name_of_word word (inr (inl w)) = (Pb, w)
name_of_word word (inr (inr (inl w))) = (Cf, w)
name_of_word word (inr (inr (inr (inl w)))) = (Fo, w)
name_of_word word (inr (inr (inr (inr (inl w))))) = (Fl, w)
name_of_word word (inr (inr (inr (inr (inr (inl w)))))) = (EndFl, w)
name_of_word word (inr (inr (inr (inr (inr (inr (inl w))))))) = (Hc, w)
name_of_word word (inr (inr (inr (inr (inr (inr (inr (inl w)))))))) = (Jl, w)
name_of_word word (inr (inr (inr (inr (inr (inr (inr (inr (inl w))))))))) = (Jp, w)
name_of_word word (inr (inr (inr (inr (inr (inr (inr (inr (inr (inl w)))))))))) = (Nl, w)
name_of_word word (inr (inr (inr (inr (inr (inr (inr (inr (inr (inr (inl w))))))))))) = (Np, w)
name_of_word word (inr (inr (inr (inr (inr (inr (inr (inr (inr (inr (inr w))))))))))) = (Pt, w)

word_of_name : (name : TagName) (word : List ℕ) → Word (spelling name) word → Name word
word_of_name name word w = grind arith

free_spelling : (name : TagName) → list_all (λ c. not (eqb c 93)) (spelling name) ≡ true
free_spelling name = grind arith

before_fault : (rest : List ℕ) (r : Result Item FaultCode) (code : FaultCode) → with_rest rest r ≡ Err code → r ≡ Err code
before_fault rest r code e = grind arith

body_value_in : (body : List ℕ) (o : Option (TagName × List ℕ)) → ((name : TagName) (value : List ℕ) → o ≡ Some (name, value) → HasName name body value) → body_in o ≡ Err UnsupportedTagValue → (name : TagName) × (value : List ℕ) × HasName name body value
body_value_in body None named e = absurd cc
body_value_in body (Some (name, value)) named e = (name, value, named name value refl)

body_value : (body : List ℕ) → body_item body ≡ Err UnsupportedTagValue → (name : TagName) × (value : List ℕ) × HasName name body value
unfolding body_item
body_value body e = body_value_in body (name_at body) (name_found body) e

tag_value_in : (text : List ℕ) (o : Option (List ℕ × List ℕ)) → ((body rest : List ℕ) → o ≡ Some (body, rest) → IsCut 93 text body rest) → tag_in o ≡ Err UnsupportedTagValue → BeginsWithNamedTag (91 ∷ text)
tag_value_in text None pieces e = absurd cc
tag_value_in text (Some (body, rest)) pieces e =
    let small : 93 < 97 = omega arith in
    let there = pieces body rest refl in
    let name = body_value body (before_fault rest (body_item body) UnsupportedTagValue e) in
    let has = name.2 in
    let closing : there.octet ∷ [] ≡ 93 ∷ [] = ap (λ c. c ∷ []) (lower_other there.octet 93 there.is small) in
    record {
      front = 91 ∷ [];
      back = text;
      first = refl;
      second = record {
        front = has.word;
        back = name.1 ++ there.octet ∷ rest;
        first = word_of_name name.0 has.word has.is;
        second = record {
          front = name.1;
          back = there.octet ∷ rest;
          first = tt;
          second = record { front = there.octet ∷ []; back = rest; first = closing; second = tt; parts = refl };
          parts = refl;
        };
        parts = there.parts ∙ ap (λ t. t ++ there.octet ∷ rest) has.parts ∙ append_assoc has.word name.1 (there.octet ∷ rest);
      };
      parts = refl;
    }

opened_value : (text : List ℕ) → item_after_opening text ≡ Err UnsupportedTagValue → BeginsWithNamedTag (91 ∷ text)
unfolding item_after_opening tag_at
opened_value [] e = absurd cc
opened_value (c ∷ cs) e = elim (chosen (c == 91) e) [
  | inl bracket ↦ absurd (let never : Ok (Char 91, cs) ≡ Err UnsupportedTagValue = bracket.1 in cc)
  | inr tag ↦ tag_value_in (c ∷ cs) (cut 93 (c ∷ cs)) (λ body rest. cut_found 93 (c ∷ cs) body rest) tag.1
]

closed_value : (text : List ℕ) → item_after_closing text ≡ Err UnsupportedTagValue → ⊥
unfolding item_after_closing
closed_value text e = grind arith

value_fault : (text : List ℕ) → item_at text ≡ Err UnsupportedTagValue → BeginsWithNamedTag text
unfolding item_at
value_fault text e = grind (arith, chosen, eqb-true, opened_value, closed_value)

before_value : (o : Option Item) (rest : List ℕ) (code : FaultCode) → with_rest rest (ok_or o UnsupportedTagValue) ≡ Err code → code ≡ UnsupportedTagValue
before_value o rest code e = grind arith

tag_read : (name : TagName) (body value rest : List ℕ) → HasName name body value → IsFree 93 body → tag_at (body ++ 93 ∷ rest) ≡ with_rest rest (ok_or (item_of name value) UnsupportedTagValue)
unfolding tag_at body_item
tag_read name body value rest has free = ap tag_in (cut_again 93 93 body rest free refl) ∙ ap (λ o. with_rest rest (body_in o)) (name_again name body value has)

named_fault : (text : List ℕ) (code : FaultCode) → BeginsWithNamedTag text → item_at text ≡ Err code → code ≡ UnsupportedTagValue
named_fault text code b e =
    let word = b.second.front in
    let after = b.second.second in
    let name = name_of_word word b.second.first in
    let close = first_close after.front after.second.back in
    let body = word ++ close.0 in
    let has : HasName name.0 body close.0 = record { word = word; is = name.1; parts = refl } in
    let first = body_first name.0 body close.0 has in
    let free : IsFree 93 body = free_append 93 word close.0 (free_name (spelling name.0) word (free_spelling name.0) name.1) close.3 in
    let tail : b.second.back ≡ close.0 ++ 93 ∷ close.1 = after.parts ∙ ap (λ t. after.front ++ t) (after.second.parts ∙ ap (λ t. t ++ after.second.back) after.second.first) ∙ close.2 in
    let whole : text ≡ 91 ∷ (body ++ 93 ∷ close.1) =
    b.parts ∙ ap (λ t. t ++ b.back) b.first ∙ ap (λ t. 91 ∷ t) (b.second.parts ∙ ap (λ t. word ++ t) tail ∙ sym (append_assoc word close.0 (93 ∷ close.1))) in
    let read : item_at text ≡ with_rest close.1 (ok_or (item_of name.0 close.0) UnsupportedTagValue) =
    ap item_at whole ∙ opened_tag first.0 first.1 first.2 body (93 ∷ close.1) first.3 first.4 ∙ tag_read name.0 body close.0 close.1 has free in
    before_value (item_of name.0 close.0) close.1 code (sym read ∙ e)

code_is : (text : List ℕ) (code : FaultCode) → item_at text ≡ Err code → (code ≡ UnsupportedTagValue) ↔ BeginsWithNamedTag text
code_is text code e = (λ same. value_fault text (e ∙ ap (λ (c : FaultCode). Err c) same), λ b. named_fault text code b e)

-- ---- the whole reading

stopped : (text front rest : List ℕ) (spots : List Spot) (code : FaultCode) → text ≡ front ++ rest → SpotsSpell 0 spots front → item_at rest ≡ Err code → 0 < length rest → ReadsAs text spots (Some (fault (length text) rest code))
stopped text front rest spots code parts spelled stuck some =
    let sizes : length text ≡ length front + length rest = ap length parts ∙ length-append front rest in
    let place : length text - length rest ≡ length front = omega arith in
    let before_place : take (length text - length rest) text ≡ front = ap (λ k. take k text) place ∙ ap (take (length front)) parts ∙ take-append_seam front rest in
    let after_place : drop (length text - length rest) text ≡ rest = ap (λ k. drop k text) place ∙ ap (drop (length front)) parts ∙ drop-append_seam front rest in
    let items = map (λ (s : Spot). s.item) spots in
    let front_spelled : TextSpells items front = text_of_spots 0 spots front spelled in (
      subst (SpotsSpell 0 spots) (sym before_place) spelled,
      record {
        none = λ others whole. let le : length text ≤ length front = longest items others front rest text [] code front_spelled stuck whole (sym parts ∙ sym (append-nil text)) in absurd (omega arith);
        within = omega arith;
        before = (items, subst (TextSpells items) (sym before_place) front_spelled);
        longest = λ others n within shown.
            let le : length (take n text) ≤ length front = longest items others front rest (take n text) (drop n text) code front_spelled stuck shown (sym parts ∙ sym (take-append-drop n text)) in
            let size : length (take n text) ≡ n = length-take-le n text within in
            omega arith;
        code = subst (λ t. (code ≡ UnsupportedTagValue) ↔ BeginsWithNamedTag t) (sym after_place) (code_is rest code stuck);
      },
    )

pub is_reading : (text : List ℕ) → IsReading text (outcomes_of text)
is_reading text =
    let le : length text ≤ length text = omega arith in
    let d = divided (length text) (length text) text le le in
    let start : length text - length text ≡ 0 = omega arith in
    let spelled : SpotsSpell 0 d.spots d.front = subst (λ offset. SpotsSpell offset d.spots d.front) start d.spelled in
    elim d.ending [
      | inl none ↦ record { spots = d.spots; fault = None; parts = none.1; reads = subst (SpotsSpell 0 d.spots) (sym (d.parts ∙ ap (λ t. d.front ++ t) none.0 ∙ append-nil d.front)) spelled }
      | inr found ↦ record { spots = d.spots; fault = Some (fault (length text) d.rest found.0); parts = found.3; reads = stopped text d.front d.rest d.spots found.0 d.parts spelled found.1 found.2 }
    ]
