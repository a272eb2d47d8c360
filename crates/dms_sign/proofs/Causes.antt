-- The walk over the bindings of a SET: what they write up to an index, where none has a cause of a refusal.
use Rattle.std.proofs.Common.{◌≡◌, ℕ, ◌+◌, ◌||◌, Bool, true, false, cond, ◌<◌, List, [], ◌∷◌, ◌++◌, map, get_or, length, take, find, Option, Some, None, is_some, refl, sym, ap, ◌∙◌, arith}
use Rattle.std.specs.Prelude.{option_map, unwrap_or, slice_get}
use Rattle.std.specs.List.{list_any, cons_option, position_from}
use Rattle.std.proofs.Math.Seq.{take-append_seam}
use Rattle.std.proofs.lemmas.List.{append_assoc, append-nil, length-append, map-append, map_more}
use Rattle.std.proofs.lemmas.Bool.{or_parts}
use Rattle.dms_wire.specs.Message.{VarBind}
use Rattle.dms_wire.specs.declared.error_status.ErrorStatus.{ErrorStatus}
use Rattle.dms_sign_access.specs.declared.settings.Fallbacks.{Fallbacks}
use Rattle.dms_sign_access.specs.declared.settings.SignSettings.{SignSettings}
use Rattle.dms_table.specs.Rows.{TableModel}
use Rattle.dms_sign.specs.State.{SignState}
use Rattle.dms_sign_access.specs.Access.{Write, is_command}
use Rattle.dms_sign_access.specs.Assignment.{given}
use Rattle.dms_sign_access.specs.declared.access.Change.{Change}
use Rattle.dms_sign_access.specs.ChangeView.{write_by}
use Rattle.dms_sign.specs.SetRequest.{SetCause, write_at, is_command_at, causes_at, causes_after, causes, with_write, with_writes}
use Rattle.dms_sign.specs.SetView.{is_field, most_kept, AreKept, StaysWithout}
use Rattle.dms_sign.specs.Requests.{writes_of, command_index}
use Rattle.dms_sign_access.proofs.TakenSlots.{any_push}
use Rattle.dms_sign_access.specs.Settings.{codes_by, set_by}

-- ---- lists with one element more

cons_append : {X : Type 0} (o : Option X) (xs ys : List X) → cons_option o (xs ++ ys) ≡ cons_option o xs ++ ys
cons_append o xs ys = grind arith

pub writes_append : (s : SignState) (xs ys : List VarBind) → writes_of s (xs ++ ys) ≡ writes_of s xs ++ writes_of s ys
writes_append s [] ys = refl
writes_append s (x ∷ xs) ys = ap (cons_option (write_at s x)) (writes_append s xs ys) ∙ cons_append (write_at s x) (writes_of s xs) (writes_of s ys)

pub with_writes_append : (table : TableModel) (xs ys : List Write) → with_writes table (xs ++ ys) ≡ with_writes (with_writes table xs) ys
with_writes_append table [] ys = refl
with_writes_append table (x ∷ xs) ys = with_writes_append (with_write table x) xs ys

given_append : {A B : Type 0} (pick : A → Option B) (xs ys : List A) (old : B) → given pick (xs ++ ys) old ≡ given pick ys (given pick xs old)
given_append pick [] ys old = refl
given_append pick (x ∷ xs) ys old = given_append pick xs ys (unwrap_or (pick x) old)

codes_append : (f : Fallbacks) (xs ys : List Write) → codes_by f (xs ++ ys) ≡ codes_by (codes_by f xs) ys
codes_append f xs ys = simp given_append

set_append : (s : SignSettings) (xs ys : List Write) → set_by s (xs ++ ys) ≡ set_by (set_by s xs) ys
unfolding set_by
set_append s xs ys = simp (given_append, codes_append)

codes_empty : (f : Fallbacks) → f ≡ codes_by f []
codes_empty f = refl

pub set_empty : (s : SignSettings) → s ≡ set_by s []
unfolding set_by
set_empty s = ap (λ (f : Fallbacks). record s { fallbacks = f }) (codes_empty s.fallbacks)

pick_by : {X : Type 0} (b c : Bool) (x y : X) (o new : Option X) → (c ≡ true → cond b (Some y) o ≡ None)
    → ((c ≡ true → o ≡ None) → new ≡ cond c (Some x) o) → cond b (Some y) new ≡ cond c (Some x) (cond b (Some y) o)
pick_by b c x y o new p more = grind arith

find_push : {X : Type 0} (p : X → Bool) (xs : List X) (x : X) → (p x ≡ true → find p xs ≡ None) → find p (xs ++ x ∷ []) ≡ cond (p x) (Some x) (find p xs)
find_push p [] x none = refl
find_push p (y ∷ xs) x none = pick_by (p y) (p x) x y (find p xs) (find p (xs ++ x ∷ [])) none (λ h. find_push p xs x h)

position_push : {X : Type 0} (p : X → Bool) (i : ℕ) (xs : List X) (x : X) → (p x ≡ true → position_from p i xs ≡ None)
    → position_from p i (xs ++ x ∷ []) ≡ cond (p x) (Some (i + length xs)) (position_from p i xs)
position_push p i [] x none = let here : i ≡ i + 0 = omega arith in ap (λ n. cond (p x) (Some n) None) here
position_push p i (y ∷ xs) x none =
    let place : i + 1 + length xs ≡ i + length (y ∷ xs) = omega arith in
    pick_by (p y) (p x) (i + length (y ∷ xs)) i (position_from p (i + 1) xs) (position_from p (i + 1) (xs ++ x ∷ [])) none
    (λ h. position_push p (i + 1) xs x h ∙ ap (λ n. cond (p x) (Some n) (position_from p (i + 1) xs)) place)

none_position : {X : Type 0} (p : X → Bool) (i : ℕ) (xs : List X) → list_any p xs ≡ false → position_from p i xs ≡ None
none_position p i [] e = refl
none_position p i (x ∷ xs) e =
    let parts = or_parts (p x) (list_any p xs) e in
    ap (λ b. cond b (Some i) (position_from p (i + 1) xs)) parts.0 ∙ none_position p (i + 1) xs parts.1

is_none_of : {X : Type 0} (o : Option X) → is_some o ≡ false → o ≡ None
is_none_of o e = grind arith

-- ---- the walk

pub record HasJudged (s : SignState) (may : Bool) (all : List VarBind) (old : SignSettings) (index : ℕ) (settings : SignSettings) (at : ℕ) (command : Option Write) (rest : List VarBind) : Type 0 where
  pub done : List VarBind
  pub whole : done ++ rest ≡ all
  pub count : length done ≡ index
  pub left : causes_after s may done rest ≡ causes_after s may [] all
  pub set : settings ≡ set_by old (writes_of s done)
  pub found : command ≡ find is_command (writes_of s done)
  pub place : at ≡ command_index s done
  pub any : is_some command ≡ list_any (is_command_at s) done

pub judged_starts : (s : SignState) (may : Bool) (all rest : List VarBind) (settings : SignSettings) → rest ≡ all → HasJudged s may all settings 0 settings 0 None rest
judged_starts s may all rest settings e = grind (arith, set_empty)

pub before_is : (s : SignState) (may : Bool) (all : List VarBind) (old : SignSettings) (index : ℕ) (settings : SignSettings) (at : ℕ) (command : Option Write) (rest : List VarBind)
    → (is : HasJudged s may all old index settings at command rest) → take index all ≡ is.done
before_is s may all old index settings at command rest is = grind (arith, take-append_seam)

some_if : (c b : Bool) (w : Write) (o : Option Write) → is_some o ≡ b → is_some (cond c (Some w) o) ≡ (b || c)
some_if c b w o e = grind arith

index_if : (c : Bool) (n m : ℕ) (o : Option ℕ) → m ≡ unwrap_or o 0 → cond c n m ≡ unwrap_or (cond c (Some n) o) 0
index_if c n m o e = grind arith

pub judged_more : (s : SignState) (may : Bool) (all : List VarBind) (old : SignSettings) (index : ℕ) (settings : SignSettings) (at : ℕ) (command : Option Write) (rest more : List VarBind)
    (b : VarBind) (w : Write) (settings_new : SignSettings) (at_new : ℕ) (command_new : Option Write)
    → HasJudged s may all old index settings at command rest → rest ≡ b ∷ more → causes_at s may (take index all) b ≡ [] → write_at s b ≡ Some w
    → (is_command w ≡ true → is_some command ≡ false) → settings_new ≡ set_by settings (w ∷ []) → command_new ≡ cond (is_command w) (Some w) command
    → at_new ≡ cond (is_command w) (index + 1) at → HasJudged s may all old (index + 1) settings_new at_new command_new more
judged_more s may all old index settings at command rest more b w settings_new at_new command_new is e none writes alone set_new found_new place_new =
    let before = before_is s may all old index settings at command rest is in
    let done = is.done in
    let no_cause : causes_at s may done b ≡ [] = ap (λ d. causes_at s may d b) (sym before) ∙ none in
    let all_writes : writes_of s (done ++ b ∷ []) ≡ writes_of s done ++ w ∷ [] =
    writes_append s done (b ∷ []) ∙ ap (λ o. writes_of s done ++ cons_option o []) writes
    in
    let commands : is_command_at s b ≡ is_command w = ap (λ (o : Option Write). unwrap_or (option_map is_command o) false) writes in
    let first : is_command w ≡ true → find is_command (writes_of s done) ≡ None = λ h. sym is.found ∙ is_none_of command (alone h) in
    let position : is_command_at s b ≡ true → position_from (is_command_at s) 1 done ≡ None =
    λ h. none_position (is_command_at s) 1 done (sym is.any ∙ alone (sym commands ∙ h))
    in
    let place_at : 1 + length done ≡ index + 1 = let c = is.count in omega arith in
    record {
      done = done ++ b ∷ [];
      whole = append_assoc done (b ∷ []) more ∙ ap (λ r. done ++ r) (sym e) ∙ is.whole;
      count = let size : length (done ++ b ∷ []) ≡ length done + 1 = length-append done (b ∷ []) in let c = is.count in omega arith;
      left = sym (ap (λ cs. cs ++ causes_after s may (done ++ b ∷ []) more) no_cause) ∙ ap (causes_after s may done) (sym e) ∙ is.left;
      set = set_new ∙ ap (λ t. set_by t (w ∷ [])) is.set ∙ sym (set_append old (writes_of s done) (w ∷ [])) ∙ ap (set_by old) (sym all_writes);
      found = found_new ∙ ap (cond (is_command w) (Some w)) is.found ∙ sym (find_push is_command (writes_of s done) w first)
          ∙ ap (find is_command) (sym all_writes);
      place = place_new ∙ index_if (is_command w) (index + 1) at (position_from (is_command_at s) 1 done) is.place
          ∙ ap (λ n. unwrap_or (cond (is_command w) (Some n) (position_from (is_command_at s) 1 done)) 0) (sym place_at)
          ∙ ap (λ c. unwrap_or (cond c (Some (1 + length done)) (position_from (is_command_at s) 1 done)) 0) (sym commands)
          ∙ ap (λ (o : Option ℕ). unwrap_or o 0) (sym (position_push (is_command_at s) 1 done b position));
      any = ap is_some found_new ∙ some_if (is_command w) (list_any (is_command_at s) done) w command is.any
          ∙ ap (λ c. list_any (is_command_at s) done || c) (sym commands) ∙ sym (any_push (is_command_at s) done b);
    }

-- all of them were judged
pub record AllJudged (s : SignState) (may : Bool) (all : List VarBind) (old settings : SignSettings) (at : ℕ) (command : Option Write) : Type 0 where
  pub none : causes s may all ≡ []
  pub set : settings ≡ set_by old (writes_of s all)
  pub found : command ≡ find is_command (writes_of s all)
  pub place : at ≡ command_index s all

pub judged_all : (s : SignState) (may : Bool) (all : List VarBind) (old : SignSettings) (index : ℕ) (settings : SignSettings) (at : ℕ) (command : Option Write) (rest : List VarBind)
    → HasJudged s may all old index settings at command rest → rest ≡ [] → AllJudged s may all old settings at command
unfolding causes
judged_all s may all old index settings at command rest is e = grind (arith, append-nil)

abbrev a_cause : ErrorStatus → ℕ → Option SetCause
a_cause status n = Some (record { index = n; status = status })

first_of : {X : Type 0} (xs ys : List X) (x : X) → slice_get xs 0 ≡ Some x → slice_get (xs ++ ys) 0 ≡ Some x
first_of [] ys x e = absurd (cc)
first_of (y ∷ xs) ys x e = e

pub judged_refused : (s : SignState) (may : Bool) (all : List VarBind) (old : SignSettings) (index : ℕ) (settings : SignSettings) (at : ℕ) (command : Option Write) (rest more : List VarBind)
    (b : VarBind) (status : ErrorStatus) → HasJudged s may all old index settings at command rest → rest ≡ b ∷ more
    → slice_get (causes_at s may (take index all) b) 0 ≡ Some (record { index = length (take index all) + 1; status = status })
    → slice_get (causes s may all) 0 ≡ Some (record { index = index + 1; status = status })
unfolding causes
judged_refused s may all old index settings at command rest more b status is e first =
    let before = before_is s may all old index settings at command rest is in
    let place : length (take index all) + 1 ≡ index + 1 = ap (λ (d : List VarBind). length d + 1) before ∙ ap (λ n. n + 1) is.count in
    let here : slice_get (causes_at s may is.done b) 0 ≡ Some (record { index = index + 1; status = status }) =
    ap (λ d. slice_get (causes_at s may d b) 0) (sym before) ∙ first
    ∙ ap (a_cause status) place
    in
    ap (λ cs. slice_get cs 0) (sym is.left ∙ ap (causes_after s may is.done) e)
    ∙ first_of (causes_at s may is.done b) (causes_after s may (is.done ++ b ∷ []) more) (record { index = index + 1; status = status }) here

-- the bindings up to the next one
pub one_more : (s : SignState) (may : Bool) (all : List VarBind) (old : SignSettings) (index : ℕ) (settings : SignSettings) (at : ℕ) (command : Option Write) (rest more : List VarBind)
    (b : VarBind) → HasJudged s may all old index settings at command rest → rest ≡ b ∷ more → take index all ++ b ∷ [] ≡ take (index + 1) all
one_more s may all old index settings at command rest more b is e =
    let done = is.done in
    let size : length (done ++ b ∷ []) ≡ index + 1 = let whole : length (done ++ b ∷ []) ≡ length done + 1 = length-append done (b ∷ []) in let c = is.count in omega arith in
    let whole : (done ++ b ∷ []) ++ more ≡ all = append_assoc done (b ∷ []) more ∙ ap (λ r. done ++ r) (sym e) ∙ is.whole in
    ap (λ d. d ++ b ∷ []) (before_is s may all old index settings at command rest is)
    ∙ sym (take-append_seam (done ++ b ∷ []) more) ∙ ap (take (length (done ++ b ∷ []))) whole ∙ ap (λ n. take n all) size

-- all bindings, where none is left
pub all_taken : (s : SignState) (may : Bool) (all : List VarBind) (old : SignSettings) (index : ℕ) (settings : SignSettings) (at : ℕ) (command : Option Write) (rest : List VarBind)
    → HasJudged s may all old index settings at command rest → rest ≡ [] → take index all ≡ all
all_taken s may all old index settings at command rest is e =
    before_is s may all old index settings at command rest is ∙ sym (append-nil is.done) ∙ ap (λ r. is.done ++ r) (sym e) ∙ is.whole

-- ---- the table, where no field is written

no_field : (table : TableModel) (w : Write) → is_field w ≡ false → with_write table w ≡ table
no_field table w e = grind arith

pub stays_more : (s : SignState) (xs ys : List VarBind) (b : VarBind) (w : Write) (old new : Bool) → write_at s b ≡ Some w → xs ++ b ∷ [] ≡ ys
    → new ≡ (old || is_field w) → StaysWithout old s xs → StaysWithout new s ys
stays_more s xs ys b w old new writes e n stays = grind (arith, or_parts, writes_append, with_writes_append, no_field)

-- ---- the changes that are kept

pub kept_starts : (s : SignState) (kept : List Change) (bs : List VarBind) → AreKept kept 0 s (take 0 bs)
kept_starts s kept bs = λ few. refl

pub kept_more : (s : SignState) (all : List VarBind) (old new : List Change) (index : ℕ) (b : VarBind) (change : Change)
    → (index < most_kept → take (index + 1) new ≡ take index old ++ change ∷ []) → write_at s b ≡ Some (write_by change)
    → take index all ++ b ∷ [] ≡ take (index + 1) all → AreKept old index s (take index all) → AreKept new (index + 1) s (take (index + 1) all)
kept_more s all old new index b change more writes next kept = λ few.
    ap (map write_by) (more (omega (arith, few)))
    ∙ map-append write_by (take index old) (change ∷ [])
    ∙ ap (λ ws. ws ++ write_by change ∷ []) (kept (omega (arith, few)))
    ∙ ap (λ o. writes_of s (take index all) ++ cons_option o []) (sym writes)
    ∙ sym (writes_append s (take index all) (b ∷ []))
    ∙ ap (writes_of s) next

pub written_more : (initial table new : TableModel) (changes : List Change) (index : ℕ) (d change : Change) → index < length changes
    → change ≡ get_or changes index d → table ≡ with_writes initial (map write_by (take index changes))
    → new ≡ with_writes table (write_by change ∷ []) → new ≡ with_writes initial (map write_by (take (index + 1) changes))
written_more initial table new changes index d change within there t n =
    n ∙ ap (λ t. with_writes t (write_by change ∷ [])) t
    ∙ sym (with_writes_append initial (map write_by (take index changes)) (write_by change ∷ []))
    ∙ ap (λ x. with_writes initial (map write_by (take index changes) ++ write_by x ∷ [])) there
    ∙ ap (with_writes initial) (sym (map_more write_by changes index d within))
