-- A sign that was restored of a text has that text.
use Rattle.std.proofs.Common.{◌≡◌, ℕ, zero, suc, ◌+◌, ◌-◌, ◌≤◌, ◌<◌, ◌==◌, Bool, true, false, cond, List, [], ◌∷◌, ◌++◌, length, set, replicate, slice_get, slice_set, length-set, Option, Some, None, Result, Ok, Err, refl, ap, sym, subst, ◌∙◌, arith, append_assoc, append-nil}
use Rattle.std.specs.Prelude.{option_map, option_and_then, unwrap_or, All}
use Rattle.std.specs.Option.{option_or}
use Rattle.std.proofs.lemmas.Option.{slice_get_within}
use Rattle.std.proofs.lemmas.List.Elements.{All-from_get_or}
use Rattle.hex.specs.Hex.{IsBytes}
use Rattle.dms_codes.specs.declared.codes.Order.{Order}
use Rattle.dms_codes.specs.Codes.{octets_of_id, id_of}
use Rattle.dms_codes.specs.Status.{is_not_used}
use Rattle.dms_table.specs.declared.saved_row.RowFault.{RowFault}
use Rattle.dms_table.specs.declared.saved_row.RowFault.TheVariants as row_faults
use Rattle.dms_table.specs.Rows.{RowModel, TableModel, unused, numbered, changed_in, changed, with_changeable, with_volatile}
use Rattle.dms_table.specs.SavedRows.{put_over, place_fault, may_put, value_fault, row_fault}
use Rattle.dms_sign.specs.State.{ConfigModel, SignState, start}
use Rattle.dms_sign.specs.Construction.{CanBeMade}
use Rattle.dms_sign.specs.declared.config.Config.{Config}
use Rattle.dms_sign.specs.declared.sign.restoring.SignParts.{SignParts}
use Rattle.dms_sign.specs.Restoring.{with_table, with_parts, parts_fault}
use Rattle.dms_sign_state.specs.declared.field.Stored.{Stored}
use Rattle.dms_sign_state.specs.declared.field.Stored.TheVariants.{Changeable, Volatile}
use Rattle.dms_sign_restored.specs.declared.restoring.Misfit.{Misfit}
use Rattle.dms_sign_state.specs.Fields.{UsedRow, PutModel, FieldsModel, AreFields, AreUsedRows}
use Rattle.dms_sign_state.specs.FieldsText.{text_of_fields}
use Rattle.dms_sign_state.specs.StateText.{used_row, used_rows, put_fields, fields_of, text_of_state}
use Rattle.dms_sign_restored.specs.Restored.{row_of, shown_of, parts_of, stored_id, and_then, unless_misfit, row_misfit, part_misfit, with_row, with_rows, with_rest, with_fields, made, IsPut, IsRestored}
use Rattle.dms_sign_restored.specs.Alike.{AreMadeAlike}

-- ---- rows that are not used

-- no row from this index on is used
abbrev UnusedFrom : ℕ → List RowModel → Type 0
UnusedFrom i [] = Unit {0}
UnusedFrom zero (row ∷ rows) = (is_not_used row.status ≡ true) × UnusedFrom zero rows
UnusedFrom (suc i) (row ∷ rows) = UnusedFrom i rows

later : (i : ℕ) (rows : List RowModel) → UnusedFrom zero rows → UnusedFrom i rows
later i [] are = tt
later zero (row ∷ rows) are = are
later (suc i) (row ∷ rows) are = later i rows are.1

moved : (i j : ℕ) (rows : List RowModel) → i ≡ j → UnusedFrom i rows → UnusedFrom j rows
moved i j rows same are = subst (λ i. UnusedFrom i rows) same are

on : (i more : ℕ) (rows : List RowModel) → UnusedFrom i rows → UnusedFrom (i + more) rows
on i more [] are = tt
on zero more (row ∷ rows) are = moved more (zero + more) (row ∷ rows) (omega arith) (later more (row ∷ rows) are)
on (suc i) more (row ∷ rows) are = moved (suc (i + more)) (suc i + more) (row ∷ rows) (omega arith) (on i more rows are)

at_first : (count : ℕ) → UnusedFrom zero (replicate count unused)
at_first zero = tt
at_first (suc count) = (refl, at_first count)

none_used : (n : ℕ) (rows : List RowModel) → UnusedFrom zero rows → used_rows n rows ≡ []
none_used n [] are = refl
none_used n (row ∷ rows) are =
    ap (λ b. cond b (used_rows (n + 1) rows) (used_row n row ∷ used_rows (n + 1) rows)) are.0 ∙ none_used (n + 1) rows are.1

-- ---- a row that is put behind the rows that are used

put_behind : (i : ℕ) (rows : List RowModel) (row : RowModel) → UnusedFrom i rows → UnusedFrom (suc i) (set rows i row)
put_behind i [] row are = tt
put_behind zero (x ∷ rows) row are = are.1
put_behind (suc i) (x ∷ rows) row are = put_behind i rows row are

one_more : (free : Bool) (n m : ℕ) (rows more : List RowModel) (x row : RowModel) → used_rows (n + 1) more ≡ used_rows (n + 1) rows ++ used_row m row ∷ []
    → cond free (used_rows (n + 1) more) (used_row n x ∷ used_rows (n + 1) more)
    ≡ cond free (used_rows (n + 1) rows) (used_row n x ∷ used_rows (n + 1) rows) ++ used_row m row ∷ []
one_more true n m rows more x row e = e
one_more false n m rows more x row e = ap (λ rows. used_row n x ∷ rows) e

used_behind : (n i m : ℕ) (rows : List RowModel) (row : RowModel) → is_not_used row.status ≡ false → i < length rows → n + i ≡ m → UnusedFrom i rows
    → used_rows n (set rows i row) ≡ used_rows n rows ++ used_row m row ∷ []
used_behind n i m [] row used within at are = absurd (omega (arith, within))
used_behind n zero m (x ∷ rows) row used within at are =
    ap (λ b. cond b (used_rows (n + 1) rows) (used_row n row ∷ used_rows (n + 1) rows)) used
    ∙ ap (λ rows. used_row n row ∷ rows) (none_used (n + 1) rows are.1)
    ∙ ap (λ n. used_row n row ∷ []) (omega (arith, at))
    ∙ ap (λ rows. rows ++ used_row m row ∷ []) (sym (none_used n (x ∷ rows) are))
used_behind n (suc i) m (x ∷ rows) row used within at are =
    one_more (is_not_used x.status) n m rows (set rows i row) x row
    (used_behind (n + 1) i m rows row used (omega (arith, within)) (omega (arith, at)) are)

-- ---- one row

-- the first of two faults is none, nor is the second
neither : {A : Type 0} (a b : Option A) → option_or a b ≡ None → (a ≡ None) × (b ≡ None)
neither None b e = (refl, e)
neither (Some x) b e = absurd (cc)

unmapped : {A B : Type 0} (f : A → B) (o : Option A) → option_map f o ≡ None → o ≡ None
unmapped f None e = refl
unmapped f (Some x) e = absurd (cc)

pub ok_is : (s after : SignState) (r : Result SignState Misfit) → r ≡ Ok s → r ≡ Ok after → s ≡ after
ok_is s after r one other = cc

unless_ok : (s after : SignState) (o : Option Misfit) → unless_misfit s o ≡ Ok after → (o ≡ None) × (s ≡ after)
unless_ok s after None e = (refl, ok_is s after (Ok s) refl e)
unless_ok s after (Some misfit) e = absurd (cc)

if_free : (free : Bool) (rows : List RowModel) (i : ℕ) (row : RowModel) → cond free None (Some row_faults.Used) ≡ None
    → option_map (slice_set rows i) (cond free (Some row) None) ≡ Some (set rows i row)
if_free true rows i row e = refl
if_free false rows i row e = absurd (cc)

-- a place where a row may be put
record IsFree (rows : List RowModel) (number : ℕ) (row : RowModel) : Type 0 where
  within : number - 1 < length rows
  put : changed_in rows number (put_over row) ≡ Some (set rows (number - 1) row)

there_by : (zero_number : Bool) (rows : List RowModel) (i : ℕ) (x : RowModel) → cond zero_number None (slice_get rows i) ≡ Some x → i < length rows
there_by true rows i x e = absurd (cc)
there_by false rows i x e = slice_get_within rows i x e

free_by : (rows : List RowModel) (number : ℕ) (row : RowModel) (o : Option RowModel) → numbered rows number ≡ o → place_fault o ≡ None → IsFree rows number row
free_by rows number row None there none = absurd (cc)
free_by rows number row (Some x) there none = record {
  within = there_by (number == 0) rows (number - 1) x there;
  put = ap (option_and_then (λ x. option_map (slice_set rows (number - 1)) (put_over row x))) there ∙ if_free (is_not_used x.status) rows (number - 1) row none;
}

room : (may : Bool) (o : Option RowFault) → cond may o (Some row_faults.Validating) ≡ None → o ≡ None
room true o e = e
room false o e = absurd (cc)

abbrev pub rows_in : Stored → TableModel → List RowModel
rows_in Changeable table = table.changeable
rows_in Volatile table = table.volatile

abbrev pub with_in : Stored → TableModel → List RowModel → TableModel
with_in Changeable table rows = with_changeable table rows
with_in Volatile table rows = with_volatile table rows

-- the sign with these rows of a type of memory
abbrev pub having : Stored → SignState → List RowModel → SignState
having stored s rows = with_table s (with_in stored s.table rows)

abbrev put_at : Stored → UsedRow → SignState → List RowModel
put_at stored row s = set (rows_in stored s.table) (row.number - 1) (row_of row)

record IsPutOnce (stored : Stored) (row : UsedRow) (s after : SignState) : Type 0 where
  within : row.number - 1 < length (rows_in stored s.table)
  is : after ≡ having stored s (put_at stored row s)

row_is_put : (stored : Stored) (line : ℕ) (row : UsedRow) (s after : SignState) → with_row stored line row s ≡ Ok after → IsPutOnce stored row s after
row_is_put Changeable line row s after e =
    let id = stored_id Changeable row in
    let fits = unless_ok (unwrap_or (option_map (with_table s) (changed s.table id (put_over (row_of row)))) s) after (option_map (row_misfit line) (row_fault s.table id (row_of row))) e in
    let none = neither (value_fault s.table.services (row_of row)) _ (unmapped (row_misfit line) (row_fault s.table id (row_of row)) fits.0) in
    let free = free_by s.table.changeable row.number (row_of row) _ refl (room (may_put s.table row.status) _ none.1) in
    record {
      within = free.within;
      is = sym fits.1 ∙ ap (λ o. unwrap_or (option_map (with_table s) (option_map (with_changeable s.table) o)) s) free.put;
    }
row_is_put Volatile line row s after e =
    let id = stored_id Volatile row in
    let fits = unless_ok (unwrap_or (option_map (with_table s) (changed s.table id (put_over (row_of row)))) s) after (option_map (row_misfit line) (row_fault s.table id (row_of row))) e in
    let none = neither (value_fault s.table.services (row_of row)) _ (unmapped (row_misfit line) (row_fault s.table id (row_of row)) fits.0) in
    let free = free_by s.table.volatile row.number (row_of row) _ refl (room (may_put s.table row.status) _ none.1) in
    record {
      within = free.within;
      is = sym fits.1 ∙ ap (λ o. unwrap_or (option_map (with_table s) (option_map (with_volatile s.table) o)) s) free.put;
    }

-- ---- rows

-- the rows after those that are put: these are used behind those that were
record ArePut (stored : Stored) (used : List UsedRow) (s after : SignState) : Type 0 where
  rows : List RowModel
  is : after ≡ having stored s rows
  used_now : used_rows 1 rows ≡ used_rows 1 (rows_in stored s.table) ++ used
  count : length rows ≡ length (rows_in stored s.table)

record Both (r : Result SignState Misfit) (next : SignState → Result SignState Misfit) (after : SignState) : Type 0 where
  mid : SignState
  first : r ≡ Ok mid
  second : next mid ≡ Ok after

both_ok : (r : Result SignState Misfit) (next : SignState → Result SignState Misfit) (after : SignState) → and_then r next ≡ Ok after → Both r next after
both_ok (Ok mid) next after e = record { mid = mid; first = refl; second = e }
both_ok (Err misfit) next after e = absurd (cc)

pub same_rows : (stored : Stored) (s : SignState) → s ≡ having stored s (rows_in stored s.table)
same_rows Changeable s = refl
same_rows Volatile s = refl

pub rows_had : (stored : Stored) (s : SignState) (rows : List RowModel) → rows_in stored (having stored s rows).table ≡ rows
rows_had Changeable s rows = refl
rows_had Volatile s rows = refl

pub had_again : (stored : Stored) (s : SignState) (rows more : List RowModel) → having stored (having stored s rows) more ≡ having stored s more
had_again Changeable s rows more = refl
had_again Volatile s rows more = refl

rows_are_put : (stored : Stored) (line least most : ℕ) (used : List UsedRow) (s after : SignState) → 1 ≤ least → AreUsedRows least most used
    → UnusedFrom (least - 1) (rows_in stored s.table) → with_rows stored line used s ≡ Ok after → ArePut stored used s after
rows_are_put stored line least most [] s after first are free e =
    record { rows = rows_in stored s.table; is = sym (ok_is s after (Ok s) refl e) ∙ same_rows stored s; used_now = sym (append-nil (used_rows 1 (rows_in stored s.table))); count = refl }
rows_are_put stored line least most (row ∷ used) s after first are free e =
    let both = both_ok (with_row stored line row s) (with_rows stored (line + 1) used) after e in
    let one = row_is_put stored line row s both.mid both.first in
    let rows = rows_in stored s.table in
    let now = put_at stored row s in
    let from : UnusedFrom (row.number - 1) rows = subst (λ i. UnusedFrom i rows) (omega (arith, first, are.0.0.0)) (on (least - 1) (row.number - least) rows free) in
    let behind : UnusedFrom (row.number + 1 - 1) (rows_in stored (having stored s now).table) =
    subst (UnusedFrom (row.number + 1 - 1)) (sym (rows_had stored s now))
    (subst (λ i. UnusedFrom i now) (omega (arith, first, are.0.0.0)) (put_behind (row.number - 1) rows (row_of row) from)) in
    let others = rows_are_put stored (line + 1) (row.number + 1) most used (having stored s now) after (omega arith) are.1 behind
    (ap (with_rows stored (line + 1) used) (sym one.is) ∙ both.second) in
    record {
      rows = others.rows;
      is = others.is ∙ had_again stored s now others.rows;
      used_now =
          others.used_now ∙ ap (λ rows. used_rows 1 rows ++ used) (rows_had stored s now)
          ∙ ap (λ front. front ++ used) (used_behind 1 (row.number - 1) row.number rows (row_of row) are.0.1.0 one.within (omega (arith, first, are.0.0.0)) from)
          ∙ append_assoc (used_rows 1 rows) (row ∷ []) used;
      count = others.count ∙ ap length (rows_had stored s now) ∙ length-set rows (row.number - 1) (row_of row);
    }

-- ---- the whole

-- five octets are those of the message that they name
abbrev pub AreOctetsOfIds : Type 0
AreOctetsOfIds = (order : Order) (octets : List ℕ) → length octets ≡ 5 → All (λ octet. octet < 256) octets → octets_of_id order (id_of order octets) ≡ octets

put_again : (order : Order) (put : PutModel) → octets_of_id order (id_of order put.source) ≡ put.source → put_fields order (shown_of order put) ≡ put
put_again order put same = ap (λ source. record put { source = source }) same

all_bytes : (octets : List ℕ) → IsBytes octets → All (λ octet. octet < 256) octets
all_bytes octets are = All-from_get_or (λ octet. octet < 256) octets 0 (λ i within. are i)

fields_are : (one other : FieldsModel) → one.changeable ≡ other.changeable → one.volatile ≡ other.volatile → one.settings ≡ other.settings
    → one.silent_seconds ≡ other.silent_seconds → one.shown ≡ other.shown → one.shown_at_power_loss ≡ other.shown_at_power_loss
    → one.reports ≡ other.reports → one.powered ≡ other.powered → one ≡ other
fields_are one other changeable volatile settings silent shown kept reports powered =
    ap (λ rows. record one { changeable = rows }) changeable
    ∙ ap (λ rows. record one { changeable = other.changeable; volatile = rows }) volatile
    ∙ ap (λ settings. record other { settings = settings; silent_seconds = one.silent_seconds; shown = one.shown; shown_at_power_loss = one.shown_at_power_loss; reports = one.reports; powered = one.powered }) settings
    ∙ ap (λ silent. record other { silent_seconds = silent; shown = one.shown; shown_at_power_loss = one.shown_at_power_loss; reports = one.reports; powered = one.powered }) silent
    ∙ ap (λ put. record other { shown = put; shown_at_power_loss = one.shown_at_power_loss; reports = one.reports; powered = one.powered }) shown
    ∙ ap (λ put. record other { shown_at_power_loss = put; reports = one.reports; powered = one.powered }) kept
    ∙ ap (λ reports. record other { reports = reports; powered = one.powered }) reports
    ∙ ap (λ powered. record other { powered = powered }) powered

fields_again : AreOctetsOfIds → (f : FieldsModel) (s after : SignState) → AreFields f → UnusedFrom 0 s.table.changeable → UnusedFrom 0 s.table.volatile
    → with_fields f s ≡ Ok after → fields_of after ≡ f
unfolding with_fields
fields_again ids f s after are changeable volatile e =
    let first = both_ok (with_rows Changeable 2 f.changeable s) _ after e in
    let second = both_ok (with_rows Volatile (2 + length f.changeable) f.volatile first.mid) (with_rest f) after first.second in
    let one = rows_are_put Changeable 2 1 64 f.changeable s first.mid (omega arith) are.changeable changeable first.first in
    let left : UnusedFrom 0 first.mid.table.volatile = subst (λ (s : SignState). UnusedFrom 0 s.table.volatile) (sym one.is) volatile in
    let other = rows_are_put Volatile (2 + length f.changeable) 1 16 f.volatile first.mid second.mid (omega arith) are.volatile left second.first in
    let mid : second.mid ≡ having Volatile (having Changeable s one.rows) other.rows = other.is ∙ ap (λ s. having Volatile s other.rows) one.is in
    let order = second.mid.table.order in
    let fits = unless_ok (with_parts second.mid (parts_of order f)) after
    (option_map (part_misfit f) (parts_fault second.mid (parts_of order f))) second.second in
    fields_are (fields_of after) f
    (ap (λ (s : SignState). used_rows 1 s.table.changeable) (sym fits.1 ∙ ap (λ mid. with_parts mid (parts_of order f)) mid)
    ∙ one.used_now ∙ ap (λ rows. rows ++ f.changeable) (none_used 1 s.table.changeable changeable))
    (ap (λ (s : SignState). used_rows 1 s.table.volatile) (sym fits.1 ∙ ap (λ mid. with_parts mid (parts_of order f)) mid)
    ∙ other.used_now ∙ ap (λ rows. rows ++ f.volatile) (none_used 1 first.mid.table.volatile left))
    (ap (λ (s : SignState). s.settings) (sym fits.1)) (ap (λ (s : SignState). s.silent_seconds) (sym fits.1))
    (ap (λ (s : SignState). put_fields s.table.order s.shown) (sym fits.1)
    ∙ put_again order f.shown (ids order f.shown.source are.shown.1.0.0 (all_bytes f.shown.source are.shown.1.0.1)))
    (ap (λ (s : SignState). put_fields s.table.order s.shown_at_power_loss) (sym fits.1)
    ∙ put_again order f.shown_at_power_loss (ids order f.shown_at_power_loss.source are.kept.1.0.0 (all_bytes f.shown_at_power_loss.source are.kept.1.0.1)))
    (ap (λ (s : SignState). s.reports) (sym fits.1)) (ap (λ (s : SignState). s.powered) (sym fits.1))

alike_by : (s after mid : SignState) (parts : SignParts) (one other : List RowModel) → mid ≡ having Volatile (having Changeable s one) other → with_parts mid parts ≡ after
    → length one ≡ length s.table.changeable → length other ≡ length s.table.volatile → AreMadeAlike after s
alike_by s after mid parts one other by is changeable volatile =
    let all : with_parts (having Volatile (having Changeable s one) other) parts ≡ after = ap (λ (s : SignState). with_parts s parts) (sym by) ∙ is in
    subst (λ (after : SignState). AreMadeAlike after s) all
    (record { config = refl; permanent = refl; changeable = changeable; volatile = volatile; services = refl; order = refl })

-- what is put leaves what a sign is made with
alike_again : (f : FieldsModel) (s after : SignState) → AreFields f → UnusedFrom 0 s.table.changeable → UnusedFrom 0 s.table.volatile
    → with_fields f s ≡ Ok after → AreMadeAlike after s
unfolding with_fields
alike_again f s after are changeable volatile e =
    let first = both_ok (with_rows Changeable 2 f.changeable s) _ after e in
    let second = both_ok (with_rows Volatile (2 + length f.changeable) f.volatile first.mid) (with_rest f) after first.second in
    let one = rows_are_put Changeable 2 1 64 f.changeable s first.mid (omega arith) are.changeable changeable first.first in
    let left : UnusedFrom 0 first.mid.table.volatile = subst (λ (s : SignState). UnusedFrom 0 s.table.volatile) (sym one.is) volatile in
    let other = rows_are_put Volatile (2 + length f.changeable) 1 16 f.volatile first.mid second.mid (omega arith) are.volatile left second.first in
    let parts = parts_of second.mid.table.order f in
    let fits = unless_ok (with_parts second.mid parts) after (option_map (part_misfit f) (parts_fault second.mid parts)) second.second in
    alike_by s after second.mid parts one.rows other.rows (other.is ∙ ap (λ s. having Volatile s other.rows) one.is) fits.1 one.count
    (other.count ∙ ap (λ (s : SignState). length s.table.volatile) one.is)

text_of_unused : AreOctetsOfIds → (sign : SignState) (text : List ℕ) (s : SignState) → UnusedFrom 0 sign.table.changeable → UnusedFrom 0 sign.table.volatile
    → IsPut sign text s → text_of_state s ≡ text
unfolding text_of_state
text_of_unused ids sign text s changeable volatile is =
    ap text_of_fields (fields_again ids is.fields sign s is.said.0 changeable volatile is.taken_up)
    ∙ sym is.said.1

-- what is put in a sign with no row used, by a text
pub record IsPutBy (fields : FieldsModel) (sign s : SignState) : Type 0 where
  pub fields_now : fields_of s ≡ fields
  pub alike : AreMadeAlike s sign

put_by : AreOctetsOfIds → (sign : SignState) (text : List ℕ) (s : SignState) → UnusedFrom 0 sign.table.changeable → UnusedFrom 0 sign.table.volatile
    → (is : IsPut sign text s) → IsPutBy is.fields sign s
put_by ids sign text s changeable volatile is = record {
  fields_now = fields_again ids is.fields sign s is.said.0 changeable volatile is.taken_up;
  alike = alike_again is.fields sign s is.said.0 changeable volatile is.taken_up;
}

pub restored_by : AreOctetsOfIds → (config : Config) (text : List ℕ) (s : SignState) → (is : IsRestored config text s) → IsPutBy is.state.fields (made config) s
restored_by ids config text s is = put_by ids (made config) text s (at_first config.stock.changeable) (at_first config.stock.volatile) is.state

pub text_again : AreOctetsOfIds → (config : Config) (text : List ℕ) (s : SignState) → IsRestored config text s → text_of_state s ≡ text
text_again ids config text s is = text_of_unused ids (made config) text s (at_first config.stock.changeable) (at_first config.stock.volatile) is.state

unused_rows : (rows : List RowModel) → rows ≡ replicate (length rows) unused → UnusedFrom 0 rows
unused_rows rows are = subst (UnusedFrom 0) (sym are) (at_first (length rows))

pub text_of_put : AreOctetsOfIds → (config : ConfigModel) (table : TableModel) (text : List ℕ) (s : SignState) → CanBeMade config table → IsPut (start config table) text s
    → text_of_state s ≡ text
text_of_put ids config table text s can is =
    text_of_unused ids (start config table) text s (unused_rows table.changeable can.changeable_unused) (unused_rows table.volatile can.volatile_unused) is

pub put_into : AreOctetsOfIds → (config : ConfigModel) (table : TableModel) (text : List ℕ) (s : SignState) → CanBeMade config table → (is : IsPut (start config table) text s)
    → IsPutBy is.fields (start config table) s
put_into ids config table text s can is =
    put_by ids (start config table) text s (unused_rows table.changeable can.changeable_unused) (unused_rows table.volatile can.volatile_unused) is
