-- Spellings that tell their values apart, whatever comes after.
use Rattle.std.proofs.Common.{◌≡◌, ℕ, ℤ, pos, negsuc, suc, ◌+◌, ◌<◌, ◌^◌, ◌==◌, ◌||◌, Bool, true, false, cond, List, [], ◌∷◌, ◌++◌, get_or, drop, refl, sym, ap, ◌∙◌, append_assoc, arith, decimal, codes}
use lib.Signed.{mag}
use Rattle.std.specs.Fmt.{signed_decimal}
use Rattle.std.specs.Str.{byte}
use Rattle.std.specs.List.{list_any}
use Rattle.std.specs.Result.{result_unwrap_or}
use Rattle.std.proofs.lemmas.Bool.{or_from, or_parts, eq-eqb, false≢true}
use Rattle.std.proofs.lemmas.Fmt.{decimal_injective, signed_decimal_injective, decimal_digit}
use Rattle.hex.specs.Hex.{IsBytes, decode_of, encode_lower}
use Rattle.hex.proofs.HexLemmas.{decode_of-encode_lower}
use Rattle.dms_text_exact.specs.Fronts.{IsFree}
use Rattle.dms_text_exact.proofs.DigitLaws.{hex_free}
use Rattle.dms_text_exact.proofs.NumberLaws.{decimal_free}

-- two values that are spelled at the front of one text are the same, and so is what comes after
pub record Tells {A : Type 0} (spelled : A → List ℕ) (Good : A → Type 0) : Type 0 where
  pub only : (a b : A) (r s : List ℕ) → Good a → Good b → spelled a ++ r ≡ spelled b ++ s → (a ≡ b) × (r ≡ s)

-- ---- texts

pub cancel : (p x y : List ℕ) → p ++ x ≡ p ++ y → x ≡ y
cancel [] x y e = e
cancel (c ∷ p) x y e = cancel p x y (ap (drop 1) e)

pub first_is : {c d : ℕ} {x y : List ℕ} → c ∷ x ≡ d ∷ y → c ≡ d
first_is e = ap (λ xs. get_or xs 0 0) e

not_end : (c end : ℕ) (rest : Bool) → (c == end || rest) ≡ false → c ≡ end → ⊥
not_end c end rest free e = let yes = eq-eqb c end e in let no = or_parts (c == end) rest free in absurd (false≢true (sym no.0 ∙ yes))

parted : (end : ℕ) (w v r s : List ℕ) → IsFree end w → IsFree end v → w ++ end ∷ r ≡ v ++ end ∷ s → (w ≡ v) × (r ≡ s)
parted end [] [] r s fw fv e = (refl, ap (drop 1) e)
parted end [] (d ∷ v) r s fw fv e = absurd (not_end d end _ fv (sym (first_is e)))
parted end (c ∷ w) [] r s fw fv e = absurd (not_end c end _ fw (first_is e))
parted end (c ∷ w) (d ∷ v) r s fw fv e =
    let fw2 = or_parts (c == end) (list_any (λ octet. octet == end) w) fw in
    let fv2 = or_parts (d == end) (list_any (λ octet. octet == end) v) fv in
    let rest = parted end w v r s fw2.1 fv2.1 (ap (drop 1) e) in
    (ap (λ x. x ∷ w) (first_is e) ∙ ap (λ xs. d ∷ xs) rest.0, rest.1)

-- ---- spellings

-- a word that an octet ends which is not in it
pub ended_tells : {A : Type 0} (spelled : A → List ℕ) (Good : A → Type 0) (end : ℕ) → ((a b : A) → Good a → Good b → spelled a ≡ spelled b → a ≡ b)
    → ((a : A) → Good a → IsFree end (spelled a)) → Tells (λ a. spelled a ++ end ∷ []) Good
ended_tells spelled Good end only free = record {
  only = λ a b r s ga gb e.
      let parts = parted end (spelled a) (spelled b) r s (free a ga) (free b gb) (sym (append_assoc (spelled a) (end ∷ []) r) ∙ e ∙ append_assoc (spelled b) (end ∷ []) s) in
      (only a b ga gb parts.0, parts.1);
}

-- after a name
pub after_tells : {A : Type 0} {spelled : A → List ℕ} {Good : A → Type 0} (name : List ℕ) → Tells spelled Good → Tells (λ a. name ++ spelled a) Good
after_tells {spelled = spelled} name tells = record {
  only = λ a b r s ga gb e. tells.only a b r s ga gb (cancel name _ _ (sym (append_assoc name (spelled a) r) ∙ e ∙ append_assoc name (spelled b) s));
}

-- one, and then the other
pub pair_tells : {A B : Type 0} {f : A → List ℕ} {P : A → Type 0} {g : B → List ℕ} {Q : B → Type 0} → Tells f P → Tells g Q
    → Tells {A = A × B} (λ x. f x.0 ++ g x.1) (λ x. P x.0 × Q x.1)
pair_tells {f = f} {g = g} one other = record {
  only = λ a b r s ga gb e.
      let first = one.only a.0 b.0 (g a.1 ++ r) (g b.1 ++ s) ga.0 gb.0 (sym (append_assoc (f a.0) (g a.1) r) ∙ e ∙ append_assoc (f b.0) (g b.1) s) in
      let second = other.only a.1 b.1 r s ga.1 gb.1 first.1 in
      (ap (λ x. (x, a.1)) first.0 ∙ ap (λ y. (b.0, y)) second.0, second.1);
}

-- something that is made of parts, in the same words
pub made_tells : {A B : Type 0} {f : A → List ℕ} {P : A → Type 0} (make : A → B) (parts : B → A) (g : B → List ℕ) (Q : B → Type 0)
    → ((b : B) → Q b → P (parts b) × (make (parts b) ≡ b) × (f (parts b) ≡ g b)) → Tells f P → Tells g Q
made_tells make parts g Q made tells = record {
  only = λ a b r s qa qb e.
      let ma = made a qa in
      let mb = made b qb in
      let same = tells.only (parts a) (parts b) r s ma.0 mb.0 (ap (λ x. x ++ r) ma.2 ∙ e ∙ ap (λ x. x ++ s) (sym mb.2)) in
      (sym ma.1 ∙ ap make same.0 ∙ mb.1, same.1);
}

-- texts that differ at a place
pub other_texts : (k : ℕ) (x y : List ℕ) → (get_or x k 0 == get_or y k 0) ≡ false → x ≡ y → ⊥
other_texts k x y other e = absurd (false≢true (sym other ∙ eq-eqb _ _ (ap (λ xs. get_or xs k 0) e)))

-- ---- numbers

pub number_tells : (end : ℕ) → end < 48 → Tells (λ n. decimal n ++ end ∷ []) (λ n. n < 2 ^ 64)
number_tells end low = ended_tells decimal (λ n. n < 2 ^ 64) end (λ a b ga gb e. decimal_injective a b ga gb e) (λ n small. decimal_free end n low small)

-- one digit
pub digit_tells : Tells decimal (λ n. n < 10)
digit_tells = record {
  only = λ a b r s ga gb e.
      let same : (48 + a) ∷ r ≡ (48 + b) ∷ s = ap (λ xs. xs ++ r) (sym (decimal_digit a ga)) ∙ e ∙ ap (λ xs. xs ++ s) (decimal_digit b gb) in
      let one : 48 + a ≡ 48 + b = first_is same in
      (omega (arith, one), ap (drop 1) same);
}

signed_free : (z : ℤ) → mag z < 2 ^ 63 → IsFree (byte "\n") (signed_decimal z)
signed_free (pos n) small = decimal_free 10 n (omega arith) (omega (arith, small))
signed_free (negsuc n) small = or_from _ _ refl (decimal_free 10 (suc n) (omega arith) (omega (arith, small)))

-- Cases that a line's end closes, each of which has a text, and perhaps a number after it: the text says which case it
-- is and how long the text is, and the case and the number say what it is.
pub record Cases (A : Type 0) (Good : A → Type 0) (text : A → List ℕ) : Type 0 where
  pub kind : A → ℕ
  pub number : A → ℤ
  pub of : ℕ → ℤ → A
  pub has_number : ℕ → Bool
  pub kind_at : List ℕ → ℕ
  pub size : ℕ → ℕ
  pub back : (a : A) → of (kind a) (number a) ≡ a
  pub numbered : (a : A) → number a ≡ cond (has_number (kind a)) (number a) (pos 0)
  pub small : (a : A) → Good a → mag (number a) < 2 ^ 63
  pub told : (a : A) (r : List ℕ) → kind_at (text a ++ byte "\n" ∷ r) ≡ kind a
  pub after : (a : A) (r : List ℕ) → drop (size (kind a)) (text a ++ byte "\n" ∷ r) ≡ cond (has_number (kind a)) (signed_decimal (number a)) [] ++ byte "\n" ∷ r

word_free : (b : Bool) (z : ℤ) → mag z < 2 ^ 63 → IsFree (byte "\n") (cond b (signed_decimal z) [])
word_free true z small = signed_free z small
word_free false z small = refl

same_number : (b : Bool) (y z : ℤ) → mag y < 2 ^ 63 → mag z < 2 ^ 63 → cond b (signed_decimal y) [] ≡ cond b (signed_decimal z) []
    → y ≡ cond b y (pos 0) → z ≡ cond b z (pos 0) → y ≡ z
same_number true y z sy sz e ey ez = signed_decimal_injective y z sy sz e
same_number false y z sy sz e ey ez = ey ∙ sym ez

pub cases_tell : {A : Type 0} (Good : A → Type 0) (text : A → List ℕ) → Cases A Good text → Tells (λ a. text a ++ codes "\n") Good
cases_tell {A} Good text c = record {
  only = λ a b r s ga gb e.
      let end = byte "\n" in
      let same : text a ++ end ∷ r ≡ text b ++ end ∷ s = sym (append_assoc (text a) (end ∷ []) r) ∙ e ∙ append_assoc (text b) (end ∷ []) s in
      let kinds : c.kind a ≡ c.kind b = sym (c.told a r) ∙ ap c.kind_at same ∙ c.told b s in
      let rests = sym (c.after a r) ∙ ap (drop (c.size (c.kind a))) same ∙ ap (λ k. drop (c.size k) (text b ++ end ∷ s)) kinds ∙ c.after b s in
      let words = parted end (cond (c.has_number (c.kind a)) (signed_decimal (c.number a)) []) (cond (c.has_number (c.kind b)) (signed_decimal (c.number b)) []) r s
      (word_free (c.has_number (c.kind a)) (c.number a) (c.small a ga)) (word_free (c.has_number (c.kind b)) (c.number b) (c.small b gb)) rests in
      let numbers : c.number a ≡ c.number b =
      same_number (c.has_number (c.kind a)) (c.number a) (c.number b) (c.small a ga) (c.small b gb)
      (words.0 ∙ ap (λ k. cond (c.has_number k) (signed_decimal (c.number b)) []) (sym kinds)) (c.numbered a)
      (c.numbered b ∙ ap (λ k. cond (c.has_number k) (c.number b) (pos 0)) (sym kinds)) in
      (sym (c.back a) ∙ ap (λ k. c.of k (c.number a)) kinds ∙ ap (c.of (c.kind b)) numbers ∙ c.back b, words.1);
}

-- ---- octets

pub same_octets : (a b : List ℕ) → IsBytes a → IsBytes b → encode_lower a ≡ encode_lower b → a ≡ b
same_octets a b ga gb e = ap (λ r. result_unwrap_or r []) (sym (decode_of-encode_lower a ga) ∙ ap decode_of e ∙ decode_of-encode_lower b gb)

-- octets as pairs of digits
pub digits_tells : (end : ℕ) → end < 48 → Tells (λ octets. encode_lower octets ++ end ∷ []) IsBytes
digits_tells end low = ended_tells encode_lower IsBytes end same_octets (λ octets all. hex_free end octets low all)
