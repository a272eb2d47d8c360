-- The entries of a ledger that are taken up, and where that comes to an end.
use Rattle.std.proofs.Common.{◌≡◌, ℕ, zero, suc, ◌+◌, ◌-◌, ◌<◌, ◌≤◌, ◌^◌, ◌==◌, ◌||◌, ◌&&◌, ◌⊎◌, Bool, true, false, not, cond, List, [], ◌∷◌, ◌++◌, length, nat_le, Option, Some, None, Result, Ok, Err, codes, refl, sym, ap, subst, ◌∙◌, append_assoc, append-nil, arith, inl, inr}
use Rattle.std.specs.List.{AllByRecursion}
use Rattle.std.proofs.lemmas.Bool.{cases_Bool}
use Rattle.std.proofs.lemmas.Option.{none-some, same_Some}
use Rattle.std.proofs.lemmas.List.{length-append}
use Rattle.dms_codes.specs.declared.codes.Order.{Order}
use Rattle.dms_centre.specs.declared.restoring.EntryFault.{EntryFault}
use Rattle.dms_centre.specs.State.{Entry, CentreState, is_busy}
use Rattle.dms_centre.specs.Restoring.{number_after, entry_fault, with_entry}
use Rattle.dms_centre.specs.Invariant.{Rise}
use Rattle.dms_centre.proofs.Restored.{EntryTaken, entry_taken}
use Rattle.dms_centre_state.specs.CentreText.{ledger_line, ledger_lines}
use Rattle.dms_centre_state.specs.Reached.{IsEntry, is_settled}
use Rattle.dms_text_exact.specs.Fronts.{IsFree}
use Rattle.dms_centre_restored.specs.declared.refusal.CentreLineLack.{CentreLineLack}
use Rattle.dms_centre_restored.specs.Lacks.{here, wanting, ◌>>=◌}
use Rattle.dms_text_exact.specs.Fronts.{starts_with}
use Rattle.dms_centre_restored.specs.LineReading.{entry_line_at}
use Rattle.dms_centre_restored.specs.StateReading.{entry_wanted, with_read_entry, with_settled, next_entry_at, or_these, entries_at}
use Rattle.dms_centre_restored.proofs.Readings.{done, never, wants_on, bind_ok, bind_err, ok_is, wanting_ok, wanting_err, unless_ok, unless_err}
use Rattle.dms_centre_restored.proofs.WordsRead.{some}
use Rattle.dms_centre_restored.proofs.SingleLines.{IsLine, follows, IsEntryWithin, entry_is}
use Rattle.dms_centre_restored.proofs.LedgersRead.{least_after, with_ledger, number_push}
use Rattle.dms_centre_restored.proofs.TakenUp.{is_outcome}

-- two texts begin with the same line
pub record Alike (one other : List ℕ) : Type 0 where
  pub line : List ℕ
  pub more : List ℕ
  pub after : List ℕ
  pub free : IsFree 10 line
  pub there : one ≡ line ++ 10 ∷ more
  pub here : other ≡ line ++ 10 ∷ after

pub turned : (one other : List ℕ) → Alike one other → Alike other one
turned one other same = record { line = same.line; more = same.after; after = same.more; free = same.free; there = same.here; here = same.there }

name_alike : (line more after : List ℕ) → starts_with (codes "ledger ") (line ++ 10 ∷ more) ≡ starts_with (codes "ledger ") (line ++ 10 ∷ after)
name_alike [] more after = refl
name_alike (a ∷ []) more after = refl
name_alike (a ∷ b ∷ []) more after = refl
name_alike (a ∷ b ∷ c ∷ []) more after = refl
name_alike (a ∷ b ∷ c ∷ d ∷ []) more after = refl
name_alike (a ∷ b ∷ c ∷ d ∷ e ∷ []) more after = refl
name_alike (a ∷ b ∷ c ∷ d ∷ e ∷ f ∷ []) more after = refl
name_alike (a ∷ b ∷ c ∷ d ∷ e ∷ f ∷ g ∷ line) more after = refl

starts_alike : (one other : List ℕ) → Alike one other → starts_with (codes "ledger ") one ≡ starts_with (codes "ledger ") other
starts_alike one other same =
    ap (λ text. starts_with (codes "ledger ") text) same.there ∙ name_alike same.line same.more same.after ∙ ap (λ text. starts_with (codes "ledger ") text) (sym same.here)

-- ---- one entry more

abbrev pub Next : Type 0
Next = CentreState × Option (ℕ × List ℕ)

abbrev pub pair_of : ℕ → List ℕ → ℕ × List ℕ
pair_of number after = (number, after)

abbrev pub entry_and : Entry → List ℕ → Entry × List ℕ
entry_and entry after = (entry, after)

abbrev pub next_and : CentreState → Option (ℕ × List ℕ) → Next
next_and s found = (s, found)

abbrev pub nothing : CentreState → Next
nothing s = next_and s None

abbrev pub next_of : CentreState → ℕ → List ℕ → Next
next_of t number after = next_and t (Some (pair_of number after))

abbrev pub read_to : CentreState → ℕ → List ℕ → CentreState × (ℕ × List ℕ)
read_to s least rest = (s, pair_of least rest)

some_none : {A : Type 0} (x : A) → Some x ≡ None → ⊥
some_none x e = none-some x (sym e)

next_parts : (t u : CentreState) (n m : ℕ) (a b : List ℕ) → next_of t n a ≡ next_of u m b → (t ≡ u) × (n ≡ m) × (a ≡ b)
next_parts t u n m a b e =
    let second = same_Some (pair_of n a) (pair_of m b) (ap (λ (y : Next). y.1) e) in
    (ap (λ (y : Next). y.0) e, ap (λ (p : ℕ × List ℕ). p.0) second, ap (λ (p : ℕ × List ℕ). p.1) second)

module _ (order : Order) (waits : Bool) (s : CentreState) (least : ℕ) (small : s.next < 2 ^ 32) where
  -- no entry is next
  abbrev pub Passes : List ℕ → Bool
  Passes text = nat_le s.next least || not (starts_with (codes "ledger ") text)

  abbrev lack_at : List ℕ → CentreLineLack
  lack_at text = here (entry_wanted s least) text

  -- the entry of an activation that waits
  abbrev pub is_apart : Entry → Bool
  is_apart entry = waits && entry.number + 1 == s.next

  abbrev entry_at : List ℕ → Option (Entry × List ℕ)
  entry_at text = entry_line_at order least (s.next - 1) text

  line_is : IsLine (ledger_line order) (IsEntryWithin least (s.next - 1)) entry_at
  line_is = entry_is order least (s.next - 1) (omega (arith, small))

  abbrev opened : Bool → List ℕ → Result Next CentreLineLack
  opened passes text = cond passes (done (nothing s)) (wanting (entry_wanted s least) text (entry_at text) >>= with_settled waits (lack_at text) s)

  next_is : (text : List ℕ) → next_entry_at order waits s least text ≡ opened (Passes text) text
  unfolding next_entry_at
  next_is text = refl

  abbrev taken : CentreLineLack → Entry × List ℕ → Result Next CentreLineLack
  taken lack x = with_read_entry lack s x.0 >>= (λ t. done (next_of t x.0.number x.1))

  settled_is : (lack : CentreLineLack) (x : Entry × List ℕ) (apart : Bool) → is_apart x.0 ≡ apart → with_settled waits lack s x ≡ cond apart (done (nothing s)) (taken lack x)
  settled_is lack x apart is = ap (λ b. cond b (done (nothing s)) (taken lack x)) is

  -- an entry was taken up
  pub record Took (text : List ℕ) (t : CentreState) (number : ℕ) (after : List ℕ) : Type 0 where
    pub entry : Entry
    pub line : entry_line_at order least (s.next - 1) text ≡ Some (entry, after)
    pub faultless : entry_fault s entry.number entry.outcome ≡ None
    pub apart : is_apart entry ≡ false
    pub state : t ≡ with_entry s entry
    pub number_is : number ≡ entry.number

  -- none is next, or the next one is that of an activation that waits
  pub data Passed (text : List ℕ) : Type 0 where
    none_next : Passes text ≡ true → Passed text
    waits_next : (x : Entry × List ℕ) → Passes text ≡ false → entry_line_at order least (s.next - 1) text ≡ Some x → is_apart x.0 ≡ true → Passed text

  -- the next one is not as it must be
  pub record Lacked (text : List ℕ) (lack : CentreLineLack) : Type 0 where
    pub go : Passes text ≡ false
    pub lack_is : lack ≡ here (entry_wanted s least) text
    pub why : (entry_line_at order least (s.next - 1) text ≡ None)
        ⊎ ((x : Entry × List ℕ) × (entry_line_at order least (s.next - 1) text ≡ Some x) × (is_apart x.0 ≡ false) × (fault : EntryFault) × (entry_fault s x.0.number x.0.outcome ≡ Some fault))

  read_of : (text : List ℕ) (y : Next) → Passes text ≡ false → next_entry_at order waits s least text ≡ Ok y
      → (x : Entry × List ℕ) × (entry_at text ≡ Some x) × (with_settled waits (lack_at text) s x ≡ Ok y)
  read_of text y go e =
      let open_is : opened false text ≡ Ok y = ap (λ b. opened b text) (sym go) ∙ sym (next_is text) ∙ e in
      let x = bind_ok (wanting (entry_wanted s least) text (entry_at text)) (with_settled waits (lack_at text) s) y open_is in
      (x.0, wanting_ok (entry_wanted s least) text (entry_at text) x.0 x.1, x.2)

  taken_is : (lack : CentreLineLack) (x : Entry × List ℕ) (y : Next) → taken lack x ≡ Ok y → (entry_fault s x.0.number x.0.outcome ≡ None) × (next_of (with_entry s x.0) x.0.number x.1 ≡ y)
  taken_is lack x y e =
      let t = bind_ok (with_read_entry lack s x.0) (λ t. done (next_of t x.0.number x.1)) y e in
      let is = unless_ok lack (entry_fault s x.0.number x.0.outcome) (with_entry s x.0) t.0 t.1 in
      (is.0, ap (λ (t : CentreState). next_of t x.0.number x.1) is.1 ∙ ok_is (next_of t.0 x.0.number x.1) y t.2)

  took_entry : (text : List ℕ) (t : CentreState) (number : ℕ) (after : List ℕ) (x : Entry × List ℕ) (apart : Bool) → entry_at text ≡ Some x → is_apart x.0 ≡ apart
      → with_settled waits (lack_at text) s x ≡ Ok (next_of t number after) → Took text t number after
  took_entry text t number after x true line is e =
      absurd (some_none (pair_of number after) (ap (λ (y : Next). y.1) (sym (ok_is (nothing s) (next_of t number after) (sym (settled_is (lack_at text) x true is) ∙ e)))))
  took_entry text t number after x false line is e =
      let y = taken_is (lack_at text) x (next_of t number after) (sym (settled_is (lack_at text) x false is) ∙ e) in
      let parts = next_parts (with_entry s x.0) t x.0.number number x.1 after y.1 in
      record {
        entry = x.0;
        line = line ∙ ap (λ after. some (entry_and x.0 after)) parts.2;
        faultless = y.0;
        apart = is;
        state = sym parts.0;
        number_is = sym parts.1;
      }

  pub took : (text : List ℕ) (t : CentreState) (number : ℕ) (after : List ℕ) → next_entry_at order waits s least text ≡ Ok (next_of t number after) → Took text t number after
  took text t number after e =
      elim (cases_Bool (Passes text)) [
        | inl pass ↦
            let read : done (nothing s) ≡ Ok (next_of t number after) = ap (λ b. opened b text) (sym pass) ∙ sym (next_is text) ∙ e in
            absurd (some_none (pair_of number after) (ap (λ (y : Next). y.1) (sym (ok_is (nothing s) (next_of t number after) read))))
        | inr go ↦ let x = read_of text (next_of t number after) go e in took_entry text t number after x.0 (is_apart x.0.0) x.1 refl x.2
      ]

  passed_entry : (text : List ℕ) (t : CentreState) (x : Entry × List ℕ) (apart : Bool) → Passes text ≡ false → entry_at text ≡ Some x → is_apart x.0 ≡ apart
      → with_settled waits (lack_at text) s x ≡ Ok (nothing t) → (t ≡ s) × Passed text
  passed_entry text t x true go line is e =
      (sym (ap (λ (y : Next). y.0) (ok_is (nothing s) (nothing t) (sym (settled_is (lack_at text) x true is) ∙ e))), waits_next x go line is)
  passed_entry text t x false go line is e =
      let y = taken_is (lack_at text) x (nothing t) (sym (settled_is (lack_at text) x false is) ∙ e) in
      absurd (some_none (pair_of x.0.number x.1) (ap (λ (y : Next). y.1) y.1))

  pub passed : (text : List ℕ) (t : CentreState) → next_entry_at order waits s least text ≡ Ok (nothing t) → (t ≡ s) × Passed text
  passed text t e =
      elim (cases_Bool (Passes text)) [
        | inl pass ↦
            let read : done (nothing s) ≡ Ok (nothing t) = ap (λ b. opened b text) (sym pass) ∙ sym (next_is text) ∙ e in
            (sym (ap (λ (y : Next). y.0) (ok_is (nothing s) (nothing t) read)), none_next pass)
        | inr go ↦ let x = read_of text (nothing t) go e in passed_entry text t x.0 (is_apart x.0.0) go x.1 refl x.2
      ]

  lacked_entry : (text : List ℕ) (lack : CentreLineLack) (x : Entry × List ℕ) (apart : Bool) → Passes text ≡ false → entry_at text ≡ Some x → is_apart x.0 ≡ apart
      → with_settled waits (lack_at text) s x ≡ Err lack → Lacked text lack
  lacked_entry text lack x true go line is e = absurd (never (nothing s) lack (sym (settled_is (lack_at text) x true is) ∙ e))
  lacked_entry text lack x false go line is e =
      elim (bind_err (with_read_entry (lack_at text) s x.0) (λ t. done (next_of t x.0.number x.1)) lack (sym (settled_is (lack_at text) x false is) ∙ e)) [
        | inl first ↦
            let fault = unless_err (lack_at text) lack (entry_fault s x.0.number x.0.outcome) (with_entry s x.0) first in
            record { go = go; lack_is = fault.2; why = inr (x, line, is, fault.0, fault.1) }
        | inr t ↦ absurd (never (next_of t.0 x.0.number x.1) lack t.2)
      ]

  pub lacked : (text : List ℕ) (lack : CentreLineLack) → next_entry_at order waits s least text ≡ Err lack → Lacked text lack
  lacked text lack e =
      elim (cases_Bool (Passes text)) [
        | inl pass ↦ absurd (never (nothing s) lack (ap (λ b. opened b text) (sym pass) ∙ sym (next_is text) ∙ e))
        | inr go ↦
            elim (bind_err (wanting (entry_wanted s least) text (entry_at text)) (with_settled waits (lack_at text) s) lack (ap (λ b. opened b text) (sym go) ∙ sym (next_is text) ∙ e)) [
              | inl first ↦ let is = wanting_err (entry_wanted s least) text (entry_at text) lack first in record { go = go; lack_is = is.1; why = inl is.0 }
              | inr x ↦ lacked_entry text lack x.0 (is_apart x.0.0) go (wanting_ok (entry_wanted s least) text (entry_at text) x.0 x.1) refl x.2
            ]
      ]

  -- ---- so it is with the same line, whatever stands behind it

  passes_alike : (one other : List ℕ) → Alike one other → Passes other ≡ Passes one
  passes_alike one other same = ap (λ b. nat_le s.next least || not b) (sym (starts_alike one other same))

  pub lack_alike : (one other : List ℕ) (lack : CentreLineLack) (y : Next) → Alike one other → next_entry_at order waits s least one ≡ Err lack → next_entry_at order waits s least other ≡ Ok y → ⊥
  lack_alike one other lack y same e read =
      let l = lacked one lack e in
      let x = read_of other y (passes_alike one other same ∙ l.go) read in
      let again = (follows line_is other one same.line same.after same.more x.0 same.free same.here same.there x.1).again in
      elim l.why [
        | inl none ↦ none-some (entry_and x.0.0 same.more) (sym none ∙ again)
        | inr w ↦
            let entry : w.0.0 ≡ x.0.0 = ap (λ (z : Entry × List ℕ). z.0) (same_Some w.0 (entry_and x.0.0 same.more) (sym w.1 ∙ again)) in
            let apart : is_apart x.0.0 ≡ false = ap is_apart (sym entry) ∙ w.2 in
            let none = (taken_is (lack_at other) x.0 y (sym (settled_is (lack_at other) x.0 false apart) ∙ x.2)).0 in
            none-some w.3 (sym none ∙ ap (λ (e : Entry). entry_fault s e.number e.outcome) (sym entry) ∙ w.4)
      ]

  pub pass_alike : (one other : List ℕ) → Alike one other → Passed one → next_entry_at order waits s least other ≡ Ok (nothing s)
  pass_alike one other same (none_next pass) = next_is other ∙ ap (λ b. opened b other) (passes_alike one other same ∙ pass)
  pass_alike one other same (waits_next x go line apart) =
      let again = (follows line_is one other same.line same.more same.after x same.free same.there same.here line).again in
      next_is other
      ∙ ap (λ b. opened b other) (passes_alike one other same ∙ go)
      ∙ wants_on (entry_wanted s least) other (entry_at other) (with_settled waits (lack_at other) s) (entry_and x.0 same.after) again
      ∙ settled_is (lack_at other) (entry_and x.0 same.after) true apart

-- ---- all of them

or_true : (b : Bool) → (b || true) ≡ true
or_true true = refl
or_true false = refl

nothing_left : (text : List ℕ) → length text ≤ 0 → text ≡ []
nothing_left [] few = refl
nothing_left (octet ∷ text) few = absurd (omega (arith, few))

none_with : (s : CentreState) → s ≡ with_ledger s []
none_with s = ap (λ ledger. record s { ledger = ledger }) (sym (append-nil s.ledger))

module _ (order : Order) (waits : Bool) (next top : ℕ) (small : next < 2 ^ 32) (apart_below : (n : ℕ) → n < next → (waits && n + 1 == next) ≡ false → n + 1 ≤ top) where
  abbrev onward : ℕ → ℕ → List ℕ → Next → Result (CentreState × (ℕ × List ℕ)) CentreLineLack
  onward more least text found = or_these found.1 (done (read_to found.0 least text)) (entries_at order waits more found.0)

  -- where taking up entries comes to an end
  pub data Ending (state : CentreState) (least : ℕ) (rest : List ℕ) (read : Result (CentreState × (ℕ × List ℕ)) CentreLineLack) : Type 0 where
    none_more : next_entry_at order waits state least rest ≡ Ok (nothing state) → read ≡ Ok (read_to state least rest) → Ending state least rest read
    one_wrong : (lack : CentreLineLack) → next_entry_at order waits state least rest ≡ Err lack → read ≡ Err lack → Ending state least rest read

  -- entries that are taken up, and what stands behind them
  pub record IsSplit (s : CentreState) (least : ℕ) (text : List ℕ) (read : Result (CentreState × (ℕ × List ℕ)) CentreLineLack) : Type 0 where
    pub entries : List Entry
    pub rest : List ℕ
    pub text_is : text ≡ ledger_lines order entries ++ rest
    pub state : CentreState
    pub state_is : state ≡ with_ledger s entries
    pub are : AllByRecursion IsEntry entries
    pub settled : AllByRecursion is_settled entries
    pub rise : Rise least top entries
    pub after : number_after state.ledger ≤ least_after least entries
    pub ending : Ending state (least_after least entries) rest read

  abbrev Goal : ℕ → CentreState → ℕ → List ℕ → Type 0
  Goal more s least text = s.next ≡ next → is_busy s.phase ≡ false → number_after s.ledger ≤ least → least ≤ top → length text ≤ more → IsSplit s least text (entries_at order waits more s least text)

  first_of : (s : CentreState) (least : ℕ) (text : List ℕ) (entry : Entry) (after : List ℕ) (more_read : Result (CentreState × (ℕ × List ℕ)) CentreLineLack) → s.next ≡ next
      → text ≡ ledger_line order entry ++ after → IsEntry entry → least ≤ entry.number → EntryTaken s entry.number entry.outcome
      → IsSplit (with_entry s entry) (entry.number + 1) after more_read → IsSplit s least text more_read
  first_of s least text entry after more_read same is good from taken split = record {
    entries = entry ∷ split.entries;
    rest = split.rest;
    text_is = is ∙ ap (λ rest. ledger_line order entry ++ rest) split.text_is ∙ sym (append_assoc (ledger_line order entry) (ledger_lines order split.entries) split.rest);
    state = split.state;
    state_is = split.state_is ∙ ap (λ all. record s { ledger = all }) (append_assoc s.ledger (entry ∷ []) split.entries);
    are = (good, split.are);
    settled = (taken.settled, split.settled);
    rise = (from, split.rise);
    after = split.after;
    ending = split.ending;
  }

  by_next : (more : ℕ) (s : CentreState) (least : ℕ) (text : List ℕ) → ((t : CentreState) (after : ℕ) (rest : List ℕ) → Goal more t after rest)
      → s.next ≡ next → is_busy s.phase ≡ false → number_after s.ledger ≤ least → least ≤ top → length text ≤ suc more
      → (found : Result Next CentreLineLack) → next_entry_at order waits s least text ≡ found → IsSplit s least text (found >>= onward more least text)
  by_next more s least text rec same idle after below few (Err lack) e = record {
    entries = [];
    rest = text;
    text_is = refl;
    state = s;
    state_is = none_with s;
    are = tt;
    settled = tt;
    rise = below;
    after = after;
    ending = one_wrong lack e refl;
  }
  by_next more s least text rec same idle after below few (Ok y) e = by_found y.1 refl
    where
      by_found : (found : Option (ℕ × List ℕ)) → y.1 ≡ found → IsSplit s least text (onward more least text y)
      by_found None is =
          let whole : y ≡ nothing y.0 = ap (λ found. next_and y.0 found) is in
          let t = (passed order waits s least (omega (arith, same, small)) text y.0 (e ∙ ap done whole)).0 in
          subst (λ (y : Next). IsSplit s least text (onward more least text y)) (sym (whole ∙ ap nothing t)) (record {
            entries = [];
            rest = text;
            text_is = refl;
            state = s;
            state_is = none_with s;
            are = tt;
            settled = tt;
            rise = below;
            after = after;
            ending = none_more (e ∙ ap done (whole ∙ ap nothing t)) refl;
          })
      by_found (Some found) is =
          let whole : y ≡ next_of y.0 found.0 found.1 = ap (λ found. next_and y.0 found) is in
          let k = took order waits s least (omega (arith, same, small)) text y.0 found.0 found.1 (e ∙ ap done whole) in
          let line = (entry_is order least (s.next - 1) (omega (arith, same, small))).found text (entry_and k.entry found.1) k.line in
          let taken = entry_taken s k.entry.number k.entry.outcome k.faultless in
          let long : length text ≡ length (ledger_line order k.entry) + length found.1 = ap length line.1 ∙ length-append (ledger_line order k.entry) found.1 in
          let one : 1 ≤ length (ledger_line order k.entry) = omega arith in
          let apart : (waits && k.entry.number + 1 == next) ≡ false = ap (λ n. waits && k.entry.number + 1 == n) (sym same) ∙ k.apart in
          let bound : k.entry.number + 1 ≤ top = apart_below k.entry.number (omega (arith, taken.below, same)) apart in
          let pushed : number_after (s.ledger ++ k.entry ∷ []) ≤ k.entry.number + 1 = omega (arith, number_push s.ledger k.entry) in
          let split = rec (with_entry s k.entry) (k.entry.number + 1) found.1 same idle pushed bound (omega (arith, long, one, few)) in
          subst (λ (y : Next). IsSplit s least text (onward more least text y))
          (sym (whole ∙ ap (λ n. next_of y.0 n found.1) k.number_is ∙ ap (λ (t : CentreState). next_of t k.entry.number found.1) k.state))
          (first_of s least text k.entry found.1 (entries_at order waits more (with_entry s k.entry) (k.entry.number + 1) found.1) same line.1
          (record { code = line.0.is.code; outcome = is_outcome k.entry.outcome taken.status }) line.0.from taken split)

  pub split_of : (more : ℕ) (s : CentreState) (least : ℕ) (text : List ℕ) → Goal more s least text
  unfolding entries_at next_entry_at
  split_of zero s least text same idle after below few =
      let none = nothing_left text few in
      record {
        entries = [];
        rest = text;
        text_is = refl;
        state = s;
        state_is = none_with s;
        are = tt;
        settled = tt;
        rise = below;
        after = after;
        ending =
            none_more
            (ap (λ text. next_entry_at order waits s least text) none
            ∙ ap (λ b. cond b (done (nothing s)) (wanting (entry_wanted s least) [] (entry_line_at order least (s.next - 1) []) >>= with_settled waits (here (entry_wanted s least) []) s)) (or_true (nat_le s.next least))
            ∙ refl)
            refl;
      }
  split_of (suc more) s least text same idle after below few =
      by_next more s least text (λ t after rest. split_of more t after rest) same idle after below few (next_entry_at order waits s least text) refl
