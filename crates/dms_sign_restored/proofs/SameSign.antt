-- Two signs that are made alike and have one text are one sign.
use Rattle.std.proofs.Common.{◌≡◌, ℕ, zero, suc, ◌+◌, ◌≤◌, ◌<◌, Bool, true, false, cond, List, [], ◌∷◌, length, refl, ap, sym, ◌∙◌, arith}
use Rattle.std.specs.Prelude.{All}
use Rattle.std.proofs.lemmas.List.Elements.{All-head, All-tail}
use Rattle.dms_codes.specs.declared.codes.Order.{Order}
use Rattle.dms_codes.specs.declared.codes.MessageId.{MessageId}
use Rattle.dms_codes.specs.Codes.{octets_of_id, id_of, IsMessageId}
use Rattle.dms_codes.specs.Status.{is_not_used}
use Rattle.dms_table.specs.Rows.{RowModel, TableModel, unused}
use Rattle.dms_table.specs.Activation.{ShownModel, shown_row}
use Rattle.dms_table.specs.SavedRows.{IsEmptyWhereUnused, AreEmptyWhereUnused}
use Rattle.dms_sign.specs.State.{SignState}
use Rattle.dms_sign_state.specs.Fields.{MessageModel, UsedRow, PutModel, FieldsModel}
use Rattle.dms_sign_state.specs.StateText.{message_of, used_row, used_rows, put_fields, fields_of}
use Rattle.dms_sign_restored.specs.Restored.{row_of}
use Rattle.dms_sign_restored.specs.Alike.{AreMadeAlike}

-- ---- rows

abbrev number_of_first : List UsedRow → ℕ
number_of_first [] = zero
number_of_first (row ∷ rows) = row.number

abbrev first_row : List UsedRow → RowModel
first_row [] = unused
first_row (row ∷ rows) = row_of row

abbrev others : List UsedRow → List UsedRow
others [] = []
others (row ∷ rows) = rows

first_by : (free : Bool) (n : ℕ) (x : RowModel) (rows : List RowModel) (row : UsedRow) (more : List UsedRow)
    → cond free (used_rows (n + 1) rows) (used_row n x ∷ used_rows (n + 1) rows) ≡ row ∷ more
    → (used_rows (n + 1) rows ≡ row ∷ more → n + 1 ≤ row.number) → n ≤ row.number
first_by true n x rows row more e later = let after = later e in omega (arith, after)
first_by false n x rows row more e later = let same : n ≡ row.number = ap number_of_first e in omega (arith, same)

-- the first used row of those from a number on has this number or a later one
first_number : (n : ℕ) (rows : List RowModel) (row : UsedRow) (more : List UsedRow) → used_rows n rows ≡ row ∷ more → n ≤ row.number
first_number n [] row more e = absurd (cc)
first_number n (x ∷ rows) row more e = first_by (is_not_used x.status) n x rows row more e (first_number (n + 1) rows row more)

heads_apart : (p q : Bool) (n : ℕ) (x y : RowModel) (a b : List RowModel) → is_not_used x.status ≡ p → is_not_used y.status ≡ q
    → IsEmptyWhereUnused x → IsEmptyWhereUnused y
    → cond p (used_rows (n + 1) a) (used_row n x ∷ used_rows (n + 1) a) ≡ cond q (used_rows (n + 1) b) (used_row n y ∷ used_rows (n + 1) b)
    → (x ≡ y) × (used_rows (n + 1) a ≡ used_rows (n + 1) b)
heads_apart true true n x y a b p q ex ey e = (ex p ∙ sym (ey q), e)
heads_apart false false n x y a b p q ex ey e = (ap first_row e, ap others e)
heads_apart true false n x y a b p q ex ey e = absurd (omega (arith, first_number (n + 1) a (used_row n y) (used_rows (n + 1) b) e))
heads_apart false true n x y a b p q ex ey e = absurd (omega (arith, first_number (n + 1) b (used_row n x) (used_rows (n + 1) a) (sym e)))

-- as many rows, of which the same are used, are the same rows
rows_apart : (n : ℕ) (a b : List RowModel) → length a ≡ length b → AreEmptyWhereUnused a → AreEmptyWhereUnused b → used_rows n a ≡ used_rows n b → a ≡ b
rows_apart n [] [] size ea eb e = refl
rows_apart n [] (y ∷ b) size ea eb e = absurd (omega (arith, size))
rows_apart n (x ∷ a) [] size ea eb e = absurd (omega (arith, size))
rows_apart n (x ∷ a) (y ∷ b) size ea eb e =
    let both = heads_apart (is_not_used x.status) (is_not_used y.status) n x y a b refl refl (All-head IsEmptyWhereUnused x a ea) (All-head IsEmptyWhereUnused y b eb) e in
    ap (λ (x : RowModel). x ∷ a) both.0
    ∙ ap (λ (rows : List RowModel). y ∷ rows) (rows_apart (n + 1) a b (omega (arith, size)) (All-tail IsEmptyWhereUnused x a ea) (All-tail IsEmptyWhereUnused y b eb) both.1)

-- ---- what is shown

-- a message is the one that its five octets name
abbrev pub AreIdsOfOctets : Type 0
AreIdsOfOctets = (order : Order) (id : MessageId) → IsMessageId id → id_of order (octets_of_id order id) ≡ id

id_apart : AreIdsOfOctets → (order : Order) (a b : MessageId) → IsMessageId a → IsMessageId b → octets_of_id order a ≡ octets_of_id order b → a ≡ b
id_apart ids order a b ia ib e = sym (ids order a ia) ∙ ap (id_of order) e ∙ ids order b ib

shown_apart : AreIdsOfOctets → (order : Order) (a b : ShownModel) → IsMessageId a.source → IsMessageId b.source → put_fields order a ≡ put_fields order b → a ≡ b
shown_apart ids order a b ia ib e =
    ap (λ (m : MessageModel). record a { text = m.text; owner = m.owner; beacon = m.beacon; pixel = m.pixel; priority = m.priority }) (ap (λ (p : PutModel). p.message) e)
    ∙ ap (λ source. record b { source = source; mode = a.mode; address = a.address; remaining = a.remaining; defaults = a.defaults })
    (id_apart ids order a.source b.source ia ib (ap (λ (p : PutModel). p.source) e))
    ∙ ap (λ (p : PutModel). record b { mode = p.mode; address = p.address; remaining = p.remaining; defaults = p.defaults }) e

-- ---- signs

pub table_apart : (a b : TableModel) → a.permanent ≡ b.permanent → a.changeable ≡ b.changeable → a.volatile ≡ b.volatile → a.services ≡ b.services → a.order ≡ b.order → a ≡ b
table_apart a b permanent changeable volatile services order =
    ap (λ (rows : List RowModel). record a { permanent = rows }) permanent
    ∙ ap (λ (rows : List RowModel). record a { permanent = b.permanent; changeable = rows }) changeable
    ∙ ap (λ (rows : List RowModel). record b { volatile = rows; services = a.services; order = a.order }) volatile
    ∙ ap (λ services. record b { services = services; order = a.order }) services
    ∙ ap (λ (order : Order). record b { order = order }) order

-- what is known of a sign by its type
pub record IsSound (s : SignState) : Type 0 where
  pub changeable : AreEmptyWhereUnused s.table.changeable
  pub volatile : AreEmptyWhereUnused s.table.volatile
  pub shown : IsMessageId s.shown.source
  pub kept : IsMessageId s.shown_at_power_loss.source

put_in_order : (one other : Order) (a b : ShownModel) → one ≡ other → put_fields one a ≡ put_fields other b → put_fields one a ≡ put_fields one b
put_in_order one other a b same e = e ∙ ap (λ (order : Order). put_fields order b) (sym same)

pub signs_apart : AreIdsOfOctets → (one other : SignState) → AreMadeAlike one other → IsSound one → IsSound other → fields_of one ≡ fields_of other → one ≡ other
signs_apart ids one other alike is also e =
    let table = table_apart one.table other.table alike.permanent
    (rows_apart 1 one.table.changeable other.table.changeable alike.changeable is.changeable also.changeable (ap (λ (f : FieldsModel). f.changeable) e))
    (rows_apart 1 one.table.volatile other.table.volatile alike.volatile is.volatile also.volatile (ap (λ (f : FieldsModel). f.volatile) e))
    alike.services alike.order in
    let shown = shown_apart ids one.table.order one.shown other.shown is.shown also.shown
    (put_in_order one.table.order other.table.order one.shown other.shown alike.order (ap (λ (f : FieldsModel). f.shown) e)) in
    let kept = shown_apart ids one.table.order one.shown_at_power_loss other.shown_at_power_loss is.kept also.kept
    (put_in_order one.table.order other.table.order one.shown_at_power_loss other.shown_at_power_loss alike.order (ap (λ (f : FieldsModel). f.shown_at_power_loss) e)) in
    ap (λ config. record one { config = config }) alike.config
    ∙ ap (λ table. record one { config = other.config; table = table }) table
    ∙ ap (λ (f : FieldsModel). record one { config = other.config; table = other.table; settings = f.settings; silent_seconds = f.silent_seconds; reports = f.reports; powered = f.powered }) e
    ∙ ap (λ shown. record other { shown = shown; shown_at_power_loss = one.shown_at_power_loss }) shown
    ∙ ap (λ kept. record other { shown_at_power_loss = kept }) kept
