-- What reads a text's front: a reader reads what is spelled so, and nothing else.
use Rattle.std.proofs.Common.{◌≡◌, ℕ, ◌⊎◌, List, [], ◌∷◌, ◌++◌, Option, Some, None, Result, Ok, Err, refl, sym, ap, subst, ◌∙◌, append_assoc, inl, inr}
pub use Rattle.dms_text_exact.specs.Fronts.{IsFree}
use Rattle.dms_text_exact.specs.Fronts.{behind, cut_at}
use Rattle.dms_text_exact.proofs.FrontLaws.{behind_found, behind_only, cut_found, cut_only}
use Rattle.dms_sign_state.specs.declared.field.SignFieldLack.{SignFieldLack}
use Rattle.dms_sign_state.specs.WordReading.{◌>>=◌, Reader, or_lack, pair, made, named_at, after, ended}

-- ---- steps

pub bind_ok : {A B : Type 0} (r : Result A SignFieldLack) (f : A → Result B SignFieldLack) (y : B) → (r >>= f) ≡ Ok y → (x : A) × (r ≡ Ok x) × (f x ≡ Ok y)
bind_ok (Ok x) f y e = (x, refl, e)
bind_ok (Err d) f y e = absurd cc

abbrev failed : {A : Type 0} → SignFieldLack → Result A SignFieldLack
failed lack = Err lack

abbrev done : {A : Type 0} → A → Result A SignFieldLack
done x = Ok x

pub ok_is : {A : Type 0} (x y : A) → done x ≡ done y → x ≡ y
ok_is x y e = cc

pub err_is : {A : Type 0} (x y : SignFieldLack) → failed {A = A} x ≡ failed {A = A} y → x ≡ y
err_is x y e = cc

pub bind_err : {A B : Type 0} (r : Result A SignFieldLack) (f : A → Result B SignFieldLack) (lack : SignFieldLack) → (r >>= f) ≡ Err lack
    → (r ≡ Err lack) ⊎ ((x : A) × (r ≡ Ok x) × (f x ≡ Err lack))
bind_err (Ok x) f lack e = inr (x, refl, e)
bind_err {A = A} {B = B} (Err d) f lack e = inl (ap (λ l. failed {A = A} l) (err_is {A = B} d lack e))

pub goes_on : {A B : Type 0} (r : Result A SignFieldLack) (f : A → Result B SignFieldLack) (x : A) → r ≡ Ok x → (r >>= f) ≡ f x
goes_on r f x e = ap (λ r. r >>= f) e

pub or_ok : {A : Type 0} (lack : SignFieldLack) (o : Option A) (x : A) → or_lack lack o ≡ Ok x → o ≡ Some x
or_ok lack None x e = absurd cc
or_ok lack (Some y) x e = ap Some (ok_is y x e)

pub or_err : {A : Type 0} (lack other : SignFieldLack) (o : Option A) → or_lack lack o ≡ Err other → other ≡ lack
or_err {A = A} lack other None e = sym (err_is {A = A} lack other e)
or_err lack other (Some y) e = absurd cc

-- ---- readers

pub record IsRead {A : Type 0} (spelled : A → List ℕ) (Good : A → Type 0) (reader : SignFieldLack → Reader A) : Type 0 where
  pub found : (lack : SignFieldLack) (text : List ℕ) (x : A × List ℕ) → reader lack text ≡ Ok x → Good x.0 × (text ≡ spelled x.0 ++ x.1)
  pub only : (lack : SignFieldLack) (a : A) (rest : List ℕ) → Good a → reader lack (spelled a ++ rest) ≡ Ok (a, rest)
  pub lacks : (lack other : SignFieldLack) (text : List ℕ) → reader lack text ≡ Err other → other ≡ lack

module _ {A B : Type 0} (sa : A → List ℕ) (ga : A → Type 0) (ra : SignFieldLack → Reader A) (sb : B → List ℕ) (gb : B → Type 0) (rb : SignFieldLack → Reader B)
    (one : IsRead sa ga ra) (other : IsRead sb gb rb) where
  pair_found : (lack : SignFieldLack) (text : List ℕ) (x : (A × B) × List ℕ) → pair (ra lack) (rb lack) text ≡ Ok x → (ga x.0.0 × gb x.0.1) × (text ≡ (sa x.0.0 ++ sb x.0.1) ++ x.1)
  pair_found lack text x e =
      let first = bind_ok (ra lack text) (λ x. rb lack x.1 >>= λ y. Ok ((x.0, y.0), y.1)) x e in
      let second = bind_ok (rb lack first.0.1) (λ y. Ok ((first.0.0, y.0), y.1)) x first.2 in
      let a = one.found lack text first.0 first.1 in
      let b = other.found lack first.0.1 second.0 second.1 in
      subst (λ (x : (A × B) × List ℕ). (ga x.0.0 × gb x.0.1) × (text ≡ (sa x.0.0 ++ sb x.0.1) ++ x.1)) (ok_is ((first.0.0, second.0.0), second.0.1) x second.2)
      ((a.0, b.0), a.1 ∙ ap (λ rest. sa first.0.0 ++ rest) b.1 ∙ sym (append_assoc (sa first.0.0) (sb second.0.0) second.0.1))

  pair_only : (lack : SignFieldLack) (p : A × B) (rest : List ℕ) → ga p.0 × gb p.1 → pair (ra lack) (rb lack) ((sa p.0 ++ sb p.1) ++ rest) ≡ Ok (p, rest)
  pair_only lack p rest good =
      ap (λ text. pair (ra lack) (rb lack) text) (append_assoc (sa p.0) (sb p.1) rest)
      ∙ goes_on (ra lack (sa p.0 ++ (sb p.1 ++ rest))) (λ x. rb lack x.1 >>= λ y. Ok ((x.0, y.0), y.1)) (p.0, sb p.1 ++ rest) (one.only lack p.0 (sb p.1 ++ rest) good.0)
      ∙ goes_on (rb lack (sb p.1 ++ rest)) (λ y. Ok ((p.0, y.0), y.1)) (p.1, rest) (other.only lack p.1 rest good.1)

  pair_lacks : (lack wrong : SignFieldLack) (text : List ℕ) → pair (ra lack) (rb lack) text ≡ Err wrong → wrong ≡ lack
  pair_lacks lack wrong text e =
      elim (bind_err (ra lack text) (λ x. rb lack x.1 >>= λ y. Ok ((x.0, y.0), y.1)) wrong e) [
        | inl first ↦ one.lacks lack wrong text first
        | inr x ↦
            elim (bind_err (rb lack x.0.1) (λ y. Ok ((x.0.0, y.0), y.1)) wrong x.2) [
              | inl second ↦ other.lacks lack wrong x.0.1 second
              | inr y ↦ absurd (let never : Ok ((x.0.0, y.0.0), y.0.1) ≡ failed {A = (A × B) × List ℕ} wrong = y.2 in cc)
            ]
      ]

  pub pair_read : IsRead {A = A × B} (λ p. sa p.0 ++ sb p.1) (λ p. ga p.0 × gb p.1) (λ lack. pair (ra lack) (rb lack))
  pair_read = record { found = pair_found; only = pair_only; lacks = pair_lacks }

-- what is made of what is read, and back
module _ {A B : Type 0} (sa : A → List ℕ) (ga : A → Type 0) (ra : SignFieldLack → Reader A) (sb : B → List ℕ) (gb : B → Type 0) (make : A → B) (back : B → A)
    (one : IsRead sa ga ra) (there : (a : A) → ga a → gb (make a) × (sa a ≡ sb (make a))) (again : (b : B) → gb b → ga (back b) × (sb b ≡ sa (back b)) × (make (back b) ≡ b)) where
  made_found : (lack : SignFieldLack) (text : List ℕ) (x : B × List ℕ) → made make (ra lack) text ≡ Ok x → gb x.0 × (text ≡ sb x.0 ++ x.1)
  made_found lack text x e =
      let first = bind_ok (ra lack text) (λ x. Ok (make x.0, x.1)) x e in
      let a = one.found lack text first.0 first.1 in
      let b = there first.0.0 a.0 in
      subst (λ (x : B × List ℕ). gb x.0 × (text ≡ sb x.0 ++ x.1)) (ok_is (make first.0.0, first.0.1) x first.2)
      (b.0, a.1 ∙ ap (λ front. front ++ first.0.1) b.1)

  made_only : (lack : SignFieldLack) (b : B) (rest : List ℕ) → gb b → made make (ra lack) (sb b ++ rest) ≡ Ok (b, rest)
  made_only lack b rest good =
      let a = again b good in
      ap (λ front. made make (ra lack) (front ++ rest)) a.1
      ∙ goes_on (ra lack (sa (back b) ++ rest)) (λ x. Ok (make x.0, x.1)) (back b, rest) (one.only lack (back b) rest a.0)
      ∙ ap (λ b. done (b, rest)) a.2

  made_lacks : (lack wrong : SignFieldLack) (text : List ℕ) → made make (ra lack) text ≡ Err wrong → wrong ≡ lack
  made_lacks lack wrong text e =
      elim (bind_err (ra lack text) (λ x. Ok (make x.0, x.1)) wrong e) [
        | inl first ↦ one.lacks lack wrong text first
        | inr x ↦ absurd (let never : Ok (make x.0.0, x.0.1) ≡ failed {A = B × List ℕ} wrong = x.2 in cc)
      ]

  pub made_read : IsRead sb gb (λ lack. made make (ra lack))
  made_read = record { found = made_found; only = made_only; lacks = made_lacks }

-- ---- names

pub named_found : (name : List ℕ) (lack : SignFieldLack) (text rest : List ℕ) → named_at name lack text ≡ Ok rest → text ≡ name ++ rest
unfolding named_at
named_found name lack text rest e = behind_found name text rest (or_ok lack (behind name text) rest e)

pub named_only : (name : List ℕ) (lack : SignFieldLack) (rest : List ℕ) → named_at name lack (name ++ rest) ≡ Ok rest
unfolding named_at
named_only name lack rest = ap (λ found. or_lack lack found) (behind_only name rest)

pub named_lacks : (name : List ℕ) (lack wrong : SignFieldLack) (text : List ℕ) → named_at name lack text ≡ Err wrong → wrong ≡ lack
unfolding named_at
named_lacks name lack wrong text e = or_err lack wrong (behind name text) e

module _ {A : Type 0} (name : List ℕ) (sa : A → List ℕ) (ga : A → Type 0) (ra : SignFieldLack → Reader A) (one : IsRead sa ga ra) where
  after_found : (lack : SignFieldLack) (text : List ℕ) (x : A × List ℕ) → after name lack (ra lack) text ≡ Ok x → ga x.0 × (text ≡ (name ++ sa x.0) ++ x.1)
  after_found lack text x e =
      let first = bind_ok (named_at name lack text) (λ rest. ra lack rest) x e in
      let a = one.found lack first.0 x first.2 in
      (a.0, named_found name lack text first.0 first.1 ∙ ap (λ rest. name ++ rest) a.1 ∙ sym (append_assoc name (sa x.0) x.1))

  after_only : (lack : SignFieldLack) (a : A) (rest : List ℕ) → ga a → after name lack (ra lack) ((name ++ sa a) ++ rest) ≡ Ok (a, rest)
  after_only lack a rest good =
      ap (λ text. after name lack (ra lack) text) (append_assoc name (sa a) rest)
      ∙ goes_on (named_at name lack (name ++ (sa a ++ rest))) (λ rest. ra lack rest) (sa a ++ rest) (named_only name lack (sa a ++ rest))
      ∙ one.only lack a rest good

  after_lacks : (lack wrong : SignFieldLack) (text : List ℕ) → after name lack (ra lack) text ≡ Err wrong → wrong ≡ lack
  after_lacks lack wrong text e =
      elim (bind_err (named_at name lack text) (λ rest. ra lack rest) wrong e) [
        | inl first ↦ named_lacks name lack wrong text first
        | inr x ↦ one.lacks lack wrong x.0 x.2
      ]

  pub after_read : IsRead (λ a. name ++ sa a) ga (λ lack. after name lack (ra lack))
  after_read = record { found = after_found; only = after_only; lacks = after_lacks }

-- ---- words

-- a word that an octet ends which is not in it
module _ {A : Type 0} (spelled : A → List ℕ) (Good : A → Type 0) (value : List ℕ → Option A) (end : ℕ)
    (found : (word : List ℕ) (a : A) → value word ≡ Some a → Good a × (word ≡ spelled a))
    (only : (a : A) → Good a → value (spelled a) ≡ Some a)
    (free : (a : A) → Good a → IsFree end (spelled a)) where
  ended_found : (lack : SignFieldLack) (text : List ℕ) (x : A × List ℕ) → ended value end lack text ≡ Ok x → Good x.0 × (text ≡ (spelled x.0 ++ end ∷ []) ++ x.1)
  ended_found lack text x e =
      let cut = bind_ok (or_lack lack (cut_at end text)) (λ cut. or_lack lack (value cut.0) >>= λ x. Ok (x, cut.1)) x e in
      let read = bind_ok (or_lack lack (value cut.0.0)) (λ x. Ok (x, cut.0.1)) x cut.2 in
      let is = found cut.0.0 read.0 (or_ok lack (value cut.0.0) read.0 read.1) in
      subst (λ (x : A × List ℕ). Good x.0 × (text ≡ (spelled x.0 ++ end ∷ []) ++ x.1)) (ok_is (read.0, cut.0.1) x read.2) (
        is.0,
        cut_found end text cut.0 (or_ok lack (cut_at end text) cut.0 cut.1) ∙ ap (λ word. word ++ end ∷ cut.0.1) is.1
            ∙ sym (append_assoc (spelled read.0) (end ∷ []) cut.0.1),
      )

  ended_only : (lack : SignFieldLack) (a : A) (rest : List ℕ) → Good a → ended value end lack ((spelled a ++ end ∷ []) ++ rest) ≡ Ok (a, rest)
  ended_only lack a rest good =
      ap (λ text. ended value end lack text) (append_assoc (spelled a) (end ∷ []) rest)
      ∙ goes_on (or_lack lack (cut_at end (spelled a ++ end ∷ rest))) (λ cut. or_lack lack (value cut.0) >>= λ x. Ok (x, cut.1)) (spelled a, rest)
      (ap (λ found. or_lack lack found) (cut_only end (spelled a) rest (free a good)))
      ∙ goes_on (or_lack lack (value (spelled a))) (λ x. Ok (x, rest)) a (ap (λ o. or_lack lack o) (only a good))

  ended_lacks : (lack wrong : SignFieldLack) (text : List ℕ) → ended value end lack text ≡ Err wrong → wrong ≡ lack
  ended_lacks lack wrong text e =
      elim (bind_err (or_lack lack (cut_at end text)) (λ cut. or_lack lack (value cut.0) >>= λ x. Ok (x, cut.1)) wrong e) [
        | inl first ↦ or_err lack wrong (cut_at end text) first
        | inr cut ↦
            elim (bind_err (or_lack lack (value cut.0.0)) (λ x. Ok (x, cut.0.1)) wrong cut.2) [
              | inl second ↦ or_err lack wrong (value cut.0.0) second
              | inr x ↦ absurd (let never : Ok (x.0, cut.0.1) ≡ failed {A = A × List ℕ} wrong = x.2 in cc)
            ]
      ]

  pub ended_read : IsRead (λ a. spelled a ++ end ∷ []) Good (λ lack. ended value end lack)
  ended_read = record { found = ended_found; only = ended_only; lacks = ended_lacks }
