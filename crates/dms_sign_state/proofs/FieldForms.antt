-- Fields one after the other: what is read of a text, and where it goes wrong.
use Rattle.std.proofs.Common.{◌≡◌, ℕ, List, [], ◌++◌, length, Result, Ok, Err, refl, sym, ap, subst, ◌∙◌, append_assoc, inl, inr}
use Rattle.dms_sign_state.specs.declared.field.SignStateField.{SignStateField}
use Rattle.dms_sign_state.specs.declared.field.SignFieldLack.{SignFieldLack}
use Rattle.dms_sign_state.specs.FieldFaults.{Begins, Stands}
use Rattle.dms_sign_state.specs.WordReading.{◌>>=◌, Reader, pair, made}
use Rattle.dms_sign_state.specs.FieldReading.{field}
use Rattle.dms_sign_state.proofs.Forms.{IsRead, bind_ok, bind_err, goes_on, ok_is}

abbrev failed : {A : Type 0} → SignFieldLack → Result A SignFieldLack
failed lack = Err lack

abbrev done : {A : Type 0} → A → Result A SignFieldLack
done x = Ok x

-- a text goes wrong at a field that could be next
pub record Stops {A : Type 0} (spelled : A → List ℕ) (Good : A → Type 0) (Next : List ℕ → Type 0) (text : List ℕ) (lack : SignFieldLack) : Type 0 where
  pub before : List ℕ
  pub rest : List ℕ
  pub parts : text ≡ before ++ rest
  pub left : length rest ≡ lack.left
  pub lacks : Stands lack.wanted rest → ⊥
  pub goes_on : (more : List ℕ) → Next more → (a : A) × Good a × (other : List ℕ) × Stands lack.wanted other × (spelled a ++ more ≡ before ++ other)

-- what stops one reader stops another, of what begins the same and is spelled on to there
pub stops_as : {A B : Type 0} {sa : A → List ℕ} {ga : A → Type 0} {na : List ℕ → Type 0} (sb : B → List ℕ) (gb : B → Type 0) (nb : List ℕ → Type 0) (text : List ℕ) (lack : SignFieldLack)
    (stop : Stops sa ga na text lack) → ((more : List ℕ) → nb more → (b : B) × gb b × (other : List ℕ) × Stands lack.wanted other × (sb b ++ more ≡ stop.before ++ other)) → Stops sb gb nb text lack
stops_as sb gb nb text lack stop goes_on = record { before = stop.before; rest = stop.rest; parts = stop.parts; left = stop.left; lacks = stop.lacks; goes_on = goes_on }

-- what is spelled so is read, where what follows it allows
pub record Reads {A : Type 0} (spelled : A → List ℕ) (Good : A → Type 0) (Next : List ℕ → Type 0) (reader : Reader A) : Type 0 where
  pub found : (text : List ℕ) (x : A × List ℕ) → reader text ≡ Ok x → Good x.0 × (text ≡ spelled x.0 ++ x.1)
  pub only : (a : A) (rest : List ℕ) → Good a → Next rest → reader (spelled a ++ rest) ≡ Ok (a, rest)
  pub stops : (text : List ℕ) (lack : SignFieldLack) → reader text ≡ Err lack → Stops spelled Good Next text lack
  pub some : (a : A) × Good a

abbrev pub Any : List ℕ → Type 0
Any rest = Unit {0}

-- ---- one field

module _ {A : Type 0} {spelled : A → List ℕ} {Good : A → Type 0} {reader : SignFieldLack → Reader A} (wanted : SignStateField) (one : IsRead spelled Good reader) (some : (a : A) × Good a)
    (begins : (text : List ℕ) → Stands wanted text → Begins spelled Good text) (stands : (text : List ℕ) → Begins spelled Good text → Stands wanted text) where
  pub not_there : (lack : SignFieldLack) (text : List ℕ) → reader lack text ≡ Err lack → Stands wanted text → ⊥
  not_there lack text e stood =
      let b = begins text stood in
      let read : done (b.0, b.2) ≡ failed {A = A × List ℕ} lack = sym (one.only lack b.0 b.2 b.1) ∙ ap (reader lack) (sym b.3) ∙ e in
      cc

  field_stops : (text : List ℕ) (lack : SignFieldLack) → field wanted reader text ≡ Err lack → Stops spelled Good Any text lack
  field_stops text lack e =
      let here : SignFieldLack = record { wanted = wanted; left = length text } in
      let is : lack ≡ here = one.lacks here lack text e in
      subst (λ (l : SignFieldLack). Stops spelled Good Any text l) (sym is) (record {
        before = [];
        rest = text;
        parts = refl;
        left = refl;
        lacks = not_there here text (e ∙ ap (λ l. failed {A = A × List ℕ} l) is);
        goes_on = λ more next. (some.0, some.1, spelled some.0 ++ more, stands (spelled some.0 ++ more) (some.0, some.1, more, refl), refl);
      })

  pub field_reads : Reads spelled Good Any (field wanted reader)
  field_reads = record {
    found = λ text x e. one.found (record { wanted = wanted; left = length text }) text x e;
    only = λ a rest good next. one.only (record { wanted = wanted; left = length (spelled a ++ rest) }) a rest good;
    stops = field_stops;
    some = some;
  }

-- ---- two

module _ {A B : Type 0} (sa : A → List ℕ) (ga : A → Type 0) (na : List ℕ → Type 0) (ra : Reader A) (sb : B → List ℕ) (gb : B → Type 0) (nb : List ℕ → Type 0) (rb : Reader B)
    (one : Reads sa ga na ra) (other : Reads sb gb nb rb) (follows : (b : B) (rest : List ℕ) → gb b → nb rest → na (sb b ++ rest)) where
  abbrev spelled : A × B → List ℕ
  spelled p = sa p.0 ++ sb p.1

  abbrev Good : A × B → Type 0
  Good p = ga p.0 × gb p.1

  both_found : (text : List ℕ) (x : (A × B) × List ℕ) → pair ra rb text ≡ Ok x → Good x.0 × (text ≡ spelled x.0 ++ x.1)
  both_found text x e =
      let first = bind_ok (ra text) (λ x. rb x.1 >>= λ y. Ok ((x.0, y.0), y.1)) x e in
      let second = bind_ok (rb first.0.1) (λ y. Ok ((first.0.0, y.0), y.1)) x first.2 in
      let a = one.found text first.0 first.1 in
      let b = other.found first.0.1 second.0 second.1 in
      subst (λ (x : (A × B) × List ℕ). Good x.0 × (text ≡ spelled x.0 ++ x.1)) (ok_is ((first.0.0, second.0.0), second.0.1) x second.2)
      ((a.0, b.0), a.1 ∙ ap (λ rest. sa first.0.0 ++ rest) b.1 ∙ sym (append_assoc (sa first.0.0) (sb second.0.0) second.0.1))

  both_only : (p : A × B) (rest : List ℕ) → Good p → nb rest → pair ra rb (spelled p ++ rest) ≡ Ok (p, rest)
  both_only p rest good next =
      ap (λ text. pair ra rb text) (append_assoc (sa p.0) (sb p.1) rest)
      ∙ goes_on (ra (sa p.0 ++ (sb p.1 ++ rest))) (λ x. rb x.1 >>= λ y. Ok ((x.0, y.0), y.1)) (p.0, sb p.1 ++ rest) (one.only p.0 (sb p.1 ++ rest) good.0 (follows p.1 rest good.1 next))
      ∙ goes_on (rb (sb p.1 ++ rest)) (λ y. Ok ((p.0, y.0), y.1)) (p.1, rest) (other.only p.1 rest good.1 next)

  -- the first goes wrong
  first_stops : (text : List ℕ) (lack : SignFieldLack) → Stops sa ga na text lack → Stops spelled Good nb text lack
  first_stops text lack stop =
      stops_as spelled Good nb text lack stop λ more next.
      let b = other.some in
      let on = stop.goes_on (sb b.0 ++ more) (follows b.0 more b.1 next) in
      ((on.0, b.0), (on.1, b.1), on.2, on.3, append_assoc (sa on.0) (sb b.0) more ∙ on.4)

  -- the second goes wrong
  second_stops : (text rest : List ℕ) (a : A) (lack : SignFieldLack) → ga a → text ≡ sa a ++ rest → Stops sb gb nb rest lack → Stops spelled Good nb text lack
  second_stops text rest a lack good is stop = record {
    before = sa a ++ stop.before;
    rest = stop.rest;
    parts = is ∙ ap (λ rest. sa a ++ rest) stop.parts ∙ sym (append_assoc (sa a) stop.before stop.rest);
    left = stop.left;
    lacks = stop.lacks;
    goes_on = λ more next.
        let on = stop.goes_on more next in
        ((a, on.0), (good, on.1), on.2, on.3, append_assoc (sa a) (sb on.0) more ∙ ap (λ rest. sa a ++ rest) on.4 ∙ sym (append_assoc (sa a) stop.before on.2));
  }

  both_stops : (text : List ℕ) (lack : SignFieldLack) → pair ra rb text ≡ Err lack → Stops spelled Good nb text lack
  both_stops text lack e =
      elim (bind_err (ra text) (λ x. rb x.1 >>= λ y. Ok ((x.0, y.0), y.1)) lack e) [
        | inl first ↦ first_stops text lack (one.stops text lack first)
        | inr x ↦
            let a = one.found text x.0 x.1 in
            elim (bind_err (rb x.0.1) (λ y. Ok ((x.0.0, y.0), y.1)) lack x.2) [
              | inl second ↦ second_stops text x.0.1 x.0.0 lack a.0 a.1 (other.stops x.0.1 lack second)
              | inr y ↦ absurd (let never : Ok ((x.0.0, y.0.0), y.0.1) ≡ failed {A = (A × B) × List ℕ} lack = y.2 in cc)
            ]
      ]

  pub pair_reads : Reads {A = A × B} (λ p. sa p.0 ++ sb p.1) (λ p. ga p.0 × gb p.1) nb (pair ra rb)
  pair_reads = record { found = both_found; only = both_only; stops = both_stops; some = ((one.some.0, other.some.0), (one.some.1, other.some.1)) }

-- ---- what is made of them, and back

module _ {A B : Type 0} (sa : A → List ℕ) (ga : A → Type 0) (na : List ℕ → Type 0) (ra : Reader A) (sb : B → List ℕ) (gb : B → Type 0) (make : A → B) (back : B → A)
    (one : Reads sa ga na ra) (there : (a : A) → ga a → gb (make a) × (sa a ≡ sb (make a))) (again : (b : B) → gb b → ga (back b) × (sb b ≡ sa (back b)) × (make (back b) ≡ b)) where
  made_found : (text : List ℕ) (x : B × List ℕ) → made make ra text ≡ Ok x → gb x.0 × (text ≡ sb x.0 ++ x.1)
  made_found text x e =
      let first = bind_ok (ra text) (λ x. Ok (make x.0, x.1)) x e in
      let a = one.found text first.0 first.1 in
      let b = there first.0.0 a.0 in
      subst (λ (x : B × List ℕ). gb x.0 × (text ≡ sb x.0 ++ x.1)) (ok_is (make first.0.0, first.0.1) x first.2)
      (b.0, a.1 ∙ ap (λ front. front ++ first.0.1) b.1)

  made_only : (b : B) (rest : List ℕ) → gb b → na rest → made make ra (sb b ++ rest) ≡ Ok (b, rest)
  made_only b rest good next =
      let a = again b good in
      ap (λ front. made make ra (front ++ rest)) a.1
      ∙ goes_on (ra (sa (back b) ++ rest)) (λ x. Ok (make x.0, x.1)) (back b, rest) (one.only (back b) rest a.0 next)
      ∙ ap (λ b. done (b, rest)) a.2

  made_stop : (text : List ℕ) (lack : SignFieldLack) → Stops sa ga na text lack → Stops sb gb na text lack
  made_stop text lack stop =
      stops_as sb gb na text lack stop λ more next.
      let on = stop.goes_on more next in
      let b = there on.0 on.1 in
      (make on.0, b.0, on.2, on.3, ap (λ front. front ++ more) (sym b.1) ∙ on.4)

  made_stops : (text : List ℕ) (lack : SignFieldLack) → made make ra text ≡ Err lack → Stops sb gb na text lack
  made_stops text lack e =
      elim (bind_err (ra text) (λ x. Ok (make x.0, x.1)) lack e) [
        | inl first ↦ made_stop text lack (one.stops text lack first)
        | inr x ↦ absurd (let never : Ok (make x.0.0, x.0.1) ≡ failed {A = B × List ℕ} lack = x.2 in cc)
      ]

  pub made_reads : Reads sb gb na (made make ra)
  made_reads = record { found = made_found; only = made_only; stops = made_stops; some = (make one.some.0, (there one.some.0 one.some.1).0) }
