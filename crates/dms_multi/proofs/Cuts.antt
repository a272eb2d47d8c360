-- What stands before and after the first octet that is a letter.
use Rattle.std.proofs.Common.{◌≡◌, ℕ, suc, ◌+◌, ◌==◌, Bool, true, false, cond, not, ltb, List, [], ◌∷◌, ◌++◌, length, take, drop, Option, Some, None, option_map, refl, sym, ap, ◌∙◌, arith}
use mathlib.Core.Path.{fun_ext}
use Rattle.std.specs.Char.{to_ascii_lowercase, is_ascii_alphabetic}
use Rattle.std.specs.List.{prefix_len, position}
use Rattle.std.proofs.lemmas.Bool.{eqb-true, eq-eqb, lt-ltb}
use Rattle.std.proofs.lemmas.Bool.Decides.{nat_tests}
use Rattle.dms_text.specs.Words.{index_of}
use Rattle.dms_multi.specs.Reading.{is_letter, cut}

-- no octet is the letter in either case
abbrev pub IsFree : ℕ → List ℕ → Type 0
IsFree letter [] = Unit {0}
IsFree letter (c ∷ cs) = (is_letter letter c ≡ false) × IsFree letter cs

pub free_append : (letter : ℕ) (xs ys : List ℕ) → IsFree letter xs → IsFree letter ys → IsFree letter (xs ++ ys)
free_append letter [] ys front back = back
free_append letter (x ∷ xs) ys front back = (front.0, free_append letter xs ys front.1 back)

-- the pieces beside a place, if it is within the text
abbrev pieces : ℕ → List ℕ → Option (List ℕ × List ℕ)
pieces n text = option_map (λ (k : ℕ). (take k text, drop (k + 1) text)) (cond (ltb n (length text)) (Some n) None)

abbrev place : ℕ → List ℕ → ℕ
place letter text = prefix_len (λ c. not (is_letter letter c)) text

cut_is : (letter : ℕ) (text : List ℕ) → cut letter text ≡ pieces (place letter text) text
unfolding cut
cut_is letter text = refl

abbrev with_front : ℕ → List ℕ × List ℕ → List ℕ × List ℕ
with_front c (front, back) = (c ∷ front, back)

pieces_here : (c : ℕ) (cs : List ℕ) → pieces 0 (c ∷ cs) ≡ Some ([], cs)
pieces_here c cs = let some : ltb 0 (suc (length cs)) ≡ true = lt-ltb _ _ (omega arith) in rw some refl

pieces_later : (b : Bool) (n c : ℕ) (cs : List ℕ) → ltb n (length cs) ≡ b → pieces (1 + n) (c ∷ cs) ≡ option_map (with_front c) (pieces n cs)
pieces_later b n c cs e = grind arith

cut_here : (letter c : ℕ) (cs : List ℕ) → is_letter letter c ≡ true → cut letter (c ∷ cs) ≡ Some ([], cs)
cut_here letter c cs e = cut_is letter (c ∷ cs) ∙ (rw e (pieces_here c cs))

cut_later : (letter c : ℕ) (cs : List ℕ) → is_letter letter c ≡ false → cut letter (c ∷ cs) ≡ option_map (with_front c) (cut letter cs)
cut_later letter c cs e = cut_is letter (c ∷ cs) ∙ (rw e (pieces_later _ (place letter cs) c cs refl ∙ ap (option_map (with_front c)) (sym (cut_is letter cs))))

-- ---- a mark, which is no letter and so has one case

mark_case : (mark octet : ℕ) → is_ascii_alphabetic mark ≡ false → (octet == mark) ≡ is_letter mark octet
mark_case mark octet alone = grind (arith, nat_tests)

pub mark_index : (mark : ℕ) (text : List ℕ) → is_ascii_alphabetic mark ≡ false → index_of mark text ≡ position (is_letter mark) text
mark_index mark text alone = ap (λ (p : ℕ → Bool). position p text) (fun_ext (λ octet. mark_case mark octet alone))

-- where a text is cut, and where it is not
pub cut_again : (letter c : ℕ) (front back : List ℕ) → IsFree letter front → to_ascii_lowercase c ≡ letter → cut letter (front ++ c ∷ back) ≡ Some (front, back)
cut_again letter c [] back free is = cut_here letter c back (eq-eqb _ _ is)
cut_again letter c (x ∷ xs) back free is = cut_later letter x (xs ++ c ∷ back) free.0 ∙ ap (option_map (with_front x)) (cut_again letter c xs back free.1 is)

pub cut_free : (letter : ℕ) (text : List ℕ) → IsFree letter text → cut letter text ≡ None
cut_free letter [] free = cut_is letter []
cut_free letter (x ∷ xs) free = cut_later letter x xs free.0 ∙ ap (option_map (with_front x)) (cut_free letter xs free.1)

-- the pieces stand beside the letter
pub record IsCut (letter : ℕ) (text front back : List ℕ) : Type 0 where
  pub octet : ℕ
  pub is : to_ascii_lowercase octet ≡ letter
  pub parts : text ≡ front ++ octet ∷ back

found_later : (letter x : ℕ) (xs front back : List ℕ) (o : Option (List ℕ × List ℕ)) → ((f b : List ℕ) → o ≡ Some (f, b) → IsCut letter xs f b) → option_map (with_front x) o ≡ Some (front, back) → IsCut letter (x ∷ xs) front back
found_later letter x xs front back None ih e = absurd cc
found_later letter x xs front back (Some (f, b)) ih e =
    let pair : (x ∷ f, b) ≡ (front, back) = cc in
    let cut_there = ih f b refl in
    let same : x ∷ f ≡ front = ap (λ (p : List ℕ × List ℕ). p.0) pair in
    let rest : b ≡ back = ap (λ (p : List ℕ × List ℕ). p.1) pair in
    record {
      octet = cut_there.octet;
      is = cut_there.is;
      parts = ap (λ t. x ∷ t) cut_there.parts ∙ ap (λ t. t ++ cut_there.octet ∷ b) same ∙ ap (λ t. front ++ cut_there.octet ∷ t) rest;
    }

found_first : (b : Bool) (letter x : ℕ) (xs front back : List ℕ) → is_letter letter x ≡ b → ((f b : List ℕ) → cut letter xs ≡ Some (f, b) → IsCut letter xs f b) → cut letter (x ∷ xs) ≡ Some (front, back) → IsCut letter (x ∷ xs) front back
found_first b letter x xs front back here ih e = grind (arith, cut_here, eqb-true, found_later, cut_later)

pub cut_found : (letter : ℕ) (text front back : List ℕ) → cut letter text ≡ Some (front, back) → IsCut letter text front back
cut_found letter [] front back e = absurd (let never : None ≡ Some (front, back) = sym (cut_is letter []) ∙ e in cc)
cut_found letter (x ∷ xs) front back e = found_first (is_letter letter x) letter x xs front back refl (cut_found letter xs) e
