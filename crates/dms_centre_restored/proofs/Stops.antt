-- Where a reading comes to an end: what stands before can go on with another line, and with no other text does it go on
-- with that one.
use Rattle.std.proofs.Common.{◌≡◌, List, [], ◌++◌, ℕ, length, Option, Result, Ok, Err, refl, sym, ap, subst, ◌∙◌, append_assoc, inl, inr}
use Rattle.std.proofs.lemmas.Option.{none-some}
use Rattle.dms_codes.specs.declared.codes.Order.{Order}
use Rattle.dms_centre_restored.specs.declared.refusal.CentreStateField.{CentreStateField}
use Rattle.dms_centre_restored.specs.declared.refusal.CentreLineLack.{CentreLineLack}
use Rattle.dms_centre_restored.specs.Lacks.{wanting, ◌>>=◌}
use Rattle.dms_centre_restored.specs.Faults.{Stands, HasLineOf}
use Rattle.dms_centre_restored.proofs.Readings.{reads_on, bind_ok, bind_err, wanting_ok, wanting_err}
use Rattle.dms_centre_restored.proofs.SingleLines.{IsLine, follows}

-- with this wanted a whole text can go on
abbrev pub CanGoOn : Order → CentreStateField → (List ℕ → Type 0) → Type 0
CanGoOn order wanted Whole = (other : List ℕ) × Stands order wanted other × Whole other

-- the reading of a text ends here
pub record Stops {Y : Type 0} (order : Order) (reader : List ℕ → Result Y CentreLineLack) (Whole : List ℕ → Type 0) (text : List ℕ) (lack : CentreLineLack) : Type 0 where
  pub before : List ℕ
  pub rest : List ℕ
  pub parts : text ≡ before ++ rest
  pub left : lack.left ≡ length rest
  pub goes_on : CanGoOn order lack.wanted (λ other. Whole (before ++ other))
  pub lacks : (other : List ℕ) (y : Y) → HasLineOf other rest → reader (before ++ other) ≡ Ok y → ⊥

-- ---- what comes after a reading

-- the first of two comes to an end
pub within_stops : {X Y : Type 0} (order : Order) (first : List ℕ → Result X CentreLineLack) (next : X → Result Y CentreLineLack) (Whole : List ℕ → Type 0) (text : List ℕ) (lack : CentreLineLack)
    → Stops order first Whole text lack → Stops order (λ t. first t >>= next) Whole text lack
within_stops order first next Whole text lack stop = record {
  before = stop.before;
  rest = stop.rest;
  parts = stop.parts;
  left = stop.left;
  goes_on = stop.goes_on;
  lacks = λ other y h e. let read = bind_ok (first (stop.before ++ other)) next y e in stop.lacks other read.0 h read.1;
}

-- the second does
pub behind_stops : {A Y : Type 0} (order : Order) (first : List ℕ → Result (A × List ℕ) CentreLineLack) (next : A × List ℕ → Result Y CentreLineLack) (Whole : List ℕ → Type 0) (text front rest : List ℕ) (a : A) (lack : CentreLineLack)
    → text ≡ front ++ rest → ((more : List ℕ) → first (front ++ more) ≡ Ok (a, more))
    → Stops order (λ t. next (a, t)) (λ t. Whole (front ++ t)) rest lack → Stops order (λ t. first t >>= next) Whole text lack
behind_stops order first next Whole text front rest a lack is again stop = record {
  before = front ++ stop.before;
  rest = stop.rest;
  parts = is ∙ ap (λ rest. front ++ rest) stop.parts ∙ sym (append_assoc front stop.before stop.rest);
  left = stop.left;
  goes_on = (stop.goes_on.0, stop.goes_on.1, subst Whole (sym (append_assoc front stop.before stop.goes_on.0)) stop.goes_on.2);
  lacks = λ other y h e.
      stop.lacks other y h
      (sym (reads_on (first (front ++ (stop.before ++ other))) next (a, stop.before ++ other) (again (stop.before ++ other)))
      ∙ ap (λ t. first t >>= next) (sym (append_assoc front stop.before other)) ∙ e);
}

-- ---- lines

-- a line is read, whatever stands behind it
pub line_again : {A : Type 0} {spelled : A → List ℕ} {Good : A → Type 0} {reader : List ℕ → Option (A × List ℕ)} → IsLine spelled Good reader
    → (wanted : List ℕ → CentreStateField) (a : A) (more : List ℕ) → Good a → wanting (wanted (spelled a ++ more)) (spelled a ++ more) (reader (spelled a ++ more)) ≡ Ok (a, more)
line_again {spelled = spelled} is wanted a more good = ap (λ found. wanting (wanted (spelled a ++ more)) (spelled a ++ more) found) (is.only a more good)

module _ {A Y : Type 0} {spelled : A → List ℕ} {Good : A → Type 0} {reader : List ℕ → Option (A × List ℕ)} (is : IsLine spelled Good reader) where
  -- a line lacks
  line_stops : (order : Order) (wanted : List ℕ → CentreStateField) (next : A × List ℕ → Result Y CentreLineLack) (Whole : List ℕ → Type 0) (text : List ℕ) (lack : CentreLineLack)
      → wanting (wanted text) text (reader text) ≡ Err lack → CanGoOn order (wanted text) Whole → Stops order (λ t. wanting (wanted t) t (reader t) >>= next) Whole text lack
  line_stops order wanted next Whole text lack e can =
      let read = wanting_err (wanted text) text (reader text) lack e in
      record {
        before = [];
        rest = text;
        parts = refl;
        left = ap (λ (l : CentreLineLack). l.left) read.1;
        goes_on = subst (λ (l : CentreLineLack). CanGoOn order l.wanted Whole) (sym read.1) can;
        lacks = λ other y h e.
            let first = bind_ok (wanting (wanted other) other (reader other)) next y e in
            let found = wanting_ok (wanted other) other (reader other) first.0 first.1 in
            let same : A × List ℕ = (first.0.0, h.after) in
            none-some same (sym read.0 ∙ (follows is other text h.line h.more h.after first.0 h.whole h.there h.here found).again);
      }

  -- a line lacks, or what comes after it does
  pub line_then : (order : Order) (wanted : List ℕ → CentreStateField) (next : A × List ℕ → Result Y CentreLineLack) (Whole : List ℕ → Type 0) (text : List ℕ) (lack : CentreLineLack)
      → (wanting (wanted text) text (reader text) >>= next) ≡ Err lack → CanGoOn order (wanted text) Whole
      → ((a : A) (rest : List ℕ) → Good a → next (a, rest) ≡ Err lack → Stops order (λ t. next (a, t)) (λ t. Whole (spelled a ++ t)) rest lack)
      → Stops order (λ t. wanting (wanted t) t (reader t) >>= next) Whole text lack
  line_then order wanted next Whole text lack e can more =
      elim (bind_err (wanting (wanted text) text (reader text)) next lack e) [
        | inl first ↦ line_stops order wanted next Whole text lack first can
        | inr x ↦
            let found = is.found text x.0 (wanting_ok (wanted text) text (reader text) x.0 x.1) in
            behind_stops order (λ t. wanting (wanted t) t (reader t)) next Whole text (spelled x.0.0) x.0.1 x.0.0 lack found.1
            (λ tail. line_again is wanted x.0.0 tail found.0) (more x.0.0 x.0.1 found.0 x.2)
      ]

  -- a line is read, and what comes after it
  pub record LineRead (next : A × List ℕ → Result Y CentreLineLack) (text : List ℕ) (y : Y) : Type 0 where
    pub value : A
    pub rest : List ℕ
    pub good : Good value
    pub text_is : text ≡ spelled value ++ rest
    pub after : next (value, rest) ≡ Ok y

  pub line_read : (wanted : CentreStateField) (next : A × List ℕ → Result Y CentreLineLack) (text : List ℕ) (y : Y) → (wanting wanted text (reader text) >>= next) ≡ Ok y → LineRead next text y
  line_read wanted next text y e =
      let x = bind_ok (wanting wanted text (reader text)) next y e in
      let found = is.found text x.0 (wanting_ok wanted text (reader text) x.0 x.1) in
      record { value = x.0.0; rest = x.0.1; good = found.0; text_is = found.1; after = x.2 }
