-- What stands at the front of a text is read, and nothing else; parts are told by an octet that is in none of them.
use Rattle.std.proofs.Common.{◌≡◌, ℕ, zero, suc, ◌+◌, ◌-◌, ◌≤◌, ◌==◌, ◌||◌, ltb, Bool, true, false, cond, not, List, [], ◌∷◌, ◌++◌, length, get_or, take, drop, Option, Some, None, refl, sym, ap, subst, ◌∙◌, append_assoc, add-one, drop-cons, arith}
use Rattle.std.specs.Prelude.{option_map}
use Rattle.std.specs.List.{position_or_len, list_any, onto_first, join_with_byte}
use Rattle.std.proofs.lemmas.Bool.{and_from, or_from, or_parts, lt-ltb, eqb-true, eq-eqb}
use Rattle.std.proofs.lemmas.Option.{cond_some, same_Some}
use Rattle.std.proofs.lemmas.List.{take_all, take_at, drop_at, take-append-drop, length-append, length-drop}
use Rattle.std.proofs.lemmas.List.Folds.{list_any-append}
use Rattle.std.proofs.lemmas.List.Quantifiers.{position-Some}
use Rattle.std.proofs.Math.Seq.{take-add}
use Rattle.std.proofs.lemmas.List.Splits.{slice_split-cons_yes, slice_split-cons_no, join_with_byte-slice_split}
use Rattle.dms_text.specs.Words.{index_of, parts_of}
use Rattle.dms_text.specs.Reading.{same_octets}
use Rattle.dms_text.proofs.WordLaws.{begun, goes_on, same_found}
use Rattle.dms_text_exact.specs.Fronts.{starts_with, behind, cut_at, IsFree}

abbrev some : {A : Type 0} → A → Option A
some x = Some x

-- ---- names

pub same_only : (xs : List ℕ) → same_octets xs xs ≡ true
same_only [] = refl
same_only (x ∷ xs) = and_from _ _ (eq-eqb x x refl) (same_only xs)

pub starts_found : (name text : List ℕ) → starts_with name text ≡ true → text ≡ name ++ drop (length name) text
starts_found name text e =
    sym (take-append-drop (length name) text) ∙ ap (λ front. front ++ drop (length name) text) (same_found (take (length name) text) name e)

pub starts_only : (name rest : List ℕ) → starts_with name (name ++ rest) ≡ true
starts_only name rest = ap (λ front. same_octets front name) (take_at name rest (length name) refl) ∙ same_only name

pub behind_found : (name text rest : List ℕ) → behind name text ≡ Some rest → text ≡ name ++ rest
unfolding behind
behind_found name text rest e =
    let is = cond_some (starts_with name text) (drop (length name) text) rest e in
    starts_found name text is.0 ∙ ap (λ rest. name ++ rest) is.1

pub behind_only : (name rest : List ℕ) → behind name (name ++ rest) ≡ Some rest
unfolding behind
behind_only name rest =
    ap (λ b. cond b (some (drop (length name) (name ++ rest))) None) (starts_only name rest) ∙ ap some (drop_at name rest (length name) refl)

-- ---- what an octet ends

first_at : (end : ℕ) (word rest : List ℕ) → IsFree end word → position_or_len (λ octet. octet == end) (word ++ end ∷ rest) ≡ length word
first_at end [] rest free = ap (λ b. cond (not b) (1 + position_or_len (λ octet. octet == end) rest) 0) (eq-eqb end end refl)
first_at end (x ∷ word) rest free = further (x == end) (list_any (λ octet. octet == end) word) (position_or_len (λ octet. octet == end) (word ++ end ∷ rest)) (length word) free (first_at end word rest)
  where
    further : (b free : Bool) (n k : ℕ) → (b || free) ≡ false → (free ≡ false → n ≡ k) → cond (not b) (1 + n) 0 ≡ suc k
    further true free n k e is = absurd cc
    further false free n k e is = omega (arith, is e)

pub passed_front : (end count : ℕ) (text : List ℕ) → count ≤ length text → IsFree end (take count text)
    → position_or_len (λ octet. octet == end) text ≡ count + position_or_len (λ octet. octet == end) (drop count text)
passed_front end zero text fits free = omega arith
passed_front end (suc count) [] fits free = absurd (omega (arith, fits))
passed_front end (suc count) (x ∷ text) fits free = further (x == end) _ _ _ free (passed_front end count text (omega (arith, fits)))
  where
    further : (b free : Bool) (n k : ℕ) → (b || free) ≡ false → (free ≡ false → n ≡ count + k) → cond (not b) (1 + n) 0 ≡ suc count + k
    further true free n k e is = absurd cc
    further false free n k e is = omega (arith, is e)

pub passed_more : (end count size : ℕ) (text : List ℕ) → size ≡ 64 → IsFree end (take count text)
    → false ≡ list_any (λ octet. octet == end) (take size (drop count text)) → IsFree end (take (count + 64) text)
passed_more end count size text is free more =
    ap (λ front. list_any (λ octet. octet == end) front) (ap (λ n. take (count + n) text) (sym is) ∙ take-add count size text)
    ∙ list_any-append _ (take count text) _ ∙ or_from _ _ free (sym more)

-- the first is looked for in all that is behind what is passed
pub index_behind : (end count size : ℕ) (text : List ℕ) → size ≡ length text - count → count ≤ length text → IsFree end (take count text)
    → option_map (λ index. count + index) (index_of end (take size (drop count text))) ≡ index_of end text
index_behind end count size text all fits free =
    ap (λ rest. option_map (λ index. count + index) (index_of end rest)) (take_all size (drop count text) (omega (arith, all, length-drop count text)))
    ∙ behind_front
  where
    behind_front : option_map (λ index. count + index) (index_of end (drop count text)) ≡ index_of end text
    behind_front = grind (arith, passed_front end count text fits free, length-drop count text)

cut_of : (end : ℕ) (text : List ℕ) (index : ℕ) → index_of end text ≡ Some index → text ≡ take index text ++ end ∷ drop (index + 1) text
cut_of end text index e =
    let at = position-Some (λ octet. octet == end) text index 0 e in
    let here : get_or text index 0 ≡ end = eqb-true (get_or text index 0) end at.1 in
    sym (take-append-drop index text)
    ∙ ap (λ rest. take index text ++ rest) (drop-cons text index 0 at.0 ∙ ap (λ octet. octet ∷ drop (suc index) text) here ∙ ap (λ k. end ∷ drop k text) (sym (add-one index)))

pub cut_found : (end : ℕ) (text : List ℕ) (cut : List ℕ × List ℕ) → cut_at end text ≡ Some cut → text ≡ cut.0 ++ end ∷ cut.1
unfolding cut_at
cut_found end text cut e =
    let at = begun (index_of end text) (λ index. Some (take index text, drop (index + 1) text)) cut e in
    subst (λ (cut : List ℕ × List ℕ). text ≡ cut.0 ++ end ∷ cut.1) (same_Some (take at.0 text, drop (at.0 + 1) text) cut at.2) (cut_of end text at.0 at.1)

pub cut_only : (end : ℕ) (word rest : List ℕ) → IsFree end word → cut_at end (word ++ end ∷ rest) ≡ Some (word, rest)
unfolding cut_at
cut_only end word rest free =
    let text = word ++ end ∷ rest in
    let size = length-append word (end ∷ rest) in
    let found : index_of end text ≡ Some (length word) =
    ap (λ n. cond (ltb n (length text)) (Some n) None) (first_at end word rest free)
    ∙ ap (λ b. cond b (Some (length word)) None) (lt-ltb (length word) (length text) (omega (arith, size))) in
    let past : drop (length word + 1) text ≡ rest =
    ap (λ text. drop (length word + 1) text) (sym (append_assoc word (end ∷ []) rest))
    ∙ drop_at (word ++ end ∷ []) rest (length word + 1) (omega (arith, length-append word (end ∷ []))) in
    goes_on (index_of end text) (λ index. Some (take index text, drop (index + 1) text)) (length word) found
    ∙ ap (λ front. some (front, drop (length word + 1) text)) (take_at word (end ∷ rest) (length word) refl)
    ∙ ap (λ rest. some (word, rest)) past

-- ---- parts with an octet between two

pub free_append : (end : ℕ) (xs ys : List ℕ) → IsFree end xs → IsFree end ys → IsFree end (xs ++ ys)
free_append end [] ys one other = other
free_append end (x ∷ xs) ys one other =
    let parts = or_parts (x == end) (list_any (λ octet. octet == end) xs) one in
    or_from (x == end) (list_any (λ octet. octet == end) (xs ++ ys)) parts.0 (free_append end xs ys parts.1 other)

pub part_first : (end : ℕ) (word rest : List ℕ) → IsFree end word → parts_of end (word ++ end ∷ rest) ≡ word ∷ parts_of end rest
part_first end [] rest free = slice_split-cons_yes (λ octet. octet == end) end rest (eq-eqb end end refl)
part_first end (x ∷ word) rest free =
    let parts = or_parts (x == end) (list_any (λ octet. octet == end) word) free in
    slice_split-cons_no (λ octet. octet == end) x (word ++ end ∷ rest) parts.0 ∙ ap (λ parts. onto_first x parts) (part_first end word rest parts.1)

pub part_only : (end : ℕ) (word : List ℕ) → IsFree end word → parts_of end word ≡ word ∷ []
part_only end [] free = refl
part_only end (x ∷ word) free =
    let parts = or_parts (x == end) (list_any (λ octet. octet == end) word) free in
    slice_split-cons_no (λ octet. octet == end) x word parts.0 ∙ ap (λ parts. onto_first x parts) (part_only end word parts.1)

-- parts are joined to what they were parts of
pub joined : (end : ℕ) (text : List ℕ) → join_with_byte end (parts_of end text) ≡ text
joined end text = join_with_byte-slice_split end text
