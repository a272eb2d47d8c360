-- The text of a state's fields, and where it goes wrong.
use Rattle.std.proofs.Common.{◌≡◌, ℕ, ◌+◌, ◌-◌, ◌≤◌, ◌==◌, Bool, true, cond, List, [], ◌∷◌, ◌++◌, length, take, Result, Ok, Err, codes, decimal, count_by, refl, sym, ap, subst, ◌∙◌, append_assoc, append-nil, arith, inl, inr}
use Rattle.std.specs.Str.{byte}
use Rattle.std.proofs.lemmas.Bool.{eqb-true, ne_eqb}
use Rattle.std.proofs.lemmas.List.{take_at, length-append}
use Rattle.dms_sign_access.specs.declared.settings.SignSettings.{SignSettings}
use Rattle.dms_sign_access.specs.declared.reports.Reports.{Reports}
use Rattle.dms_sign_state.specs.declared.field.Put.TheVariants.{Shown, Kept}
use Rattle.dms_sign_state.specs.declared.field.Stored.TheVariants.{Changeable, Volatile}
use Rattle.dms_sign_state.specs.declared.field.SignStateField.{SignStateField}
use Rattle.dms_sign_state.specs.declared.field.SignStateField.TheVariants as fields
use Rattle.dms_sign_state.specs.declared.field.SignStateFault.{SignStateFault}
use Rattle.dms_sign_state.specs.declared.field.SignFieldLack.{SignFieldLack}
use Rattle.dms_sign_state.specs.Fields.{UsedRow, PutModel, FieldsModel, AreFields, AreUsedRows, AreSettings, AreReports, IsPut}
use Rattle.dms_sign_state.specs.FieldsText.{number_line, row_lines, settings_text, put_text, reports_text, last_lines, powered_number, text_of_fields}
use Rattle.dms_sign_state.specs.FieldFaults.{most_rows, Stands, IsFaultOf}
use Rattle.dms_sign_state.specs.WordReading.{named_at}
use Rattle.dms_sign_state.specs.FieldReading.{number_at, line_at, form_at, end_at, end_field, set_at, seen_at, fields_of_parts, fields_at}
use Rattle.dms_sign_state.proofs.Forms.{IsRead, bind_ok, bind_err, goes_on, ok_is, err_is, named_found, named_only, named_lacks}
use Rattle.dms_sign_state.proofs.FieldForms.{Stops, Reads, Any, field_reads, pair_reads, made_reads}
use Rattle.dms_sign_state.proofs.Groupings.{of_state}
use Rattle.dms_sign_state.proofs.RowForms.{NoRow, rows_reads}
use Rattle.dms_sign_state.proofs.SettingForms.{then_reads, number_reads, settings_reads, put_reads, reports_reads, powered_reads}

abbrev failed : {A : Type 0} → SignFieldLack → Result A SignFieldLack
failed lack = Err lack

abbrev done : {A : Type 0} → A → Result A SignFieldLack
done x = Ok x

-- ---- the first line and the last

line_read : (line : List ℕ) → IsRead {A = Unit {0}} (λ u. line) (λ u. Unit {0}) (line_at line)
line_read line = record {
  found = λ lack text x e.
      let first = bind_ok (named_at line lack text) (λ rest. Ok (tt, rest)) x e in
      (tt, named_found line lack text first.0 first.1 ∙ ap (λ (x : Unit {0} × List ℕ). line ++ x.1) (ok_is (tt, first.0) x first.2));
  only = λ lack u rest good. goes_on (named_at line lack (line ++ rest)) (λ rest. Ok (tt, rest)) rest (named_only line lack rest);
  lacks = λ lack wrong text e.
      elim (bind_err (named_at line lack text) (λ rest. Ok (tt, rest)) wrong e) [
        | inl first ↦ named_lacks line lack wrong text first
        | inr x ↦ absurd (let never : Ok (tt, x.0) ≡ failed {A = Unit {0} × List ℕ} wrong = x.2 in cc)
      ];
}

form_reads : Reads {A = Unit {0}} (λ u. codes "state 1 sign\n") (λ u. Unit {0}) Any form_at
unfolding form_at
form_reads = field_reads fields.Form (line_read (codes "state 1 sign\n")) (tt, tt) (λ t s. (tt, tt, s.0, s.1)) (λ t b. (b.2, b.3))

abbrev IsLast : List ℕ → Type 0
IsLast rest = rest ≡ []

abbrev nothing_left : SignFieldLack → List ℕ → Result (Unit {0} × List ℕ) SignFieldLack
nothing_left lack rest = cond (length rest == 0) (Ok (tt, [])) (Err lack)

is_empty : (xs : List ℕ) → (length xs == 0) ≡ true → xs ≡ []
is_empty [] e = refl
is_empty (x ∷ xs) e = absurd (omega (arith, eqb-true (length (x ∷ xs)) 0 e))

more_left : (lack : SignFieldLack) (y : ℕ) (rest : List ℕ) → nothing_left lack (y ∷ rest) ≡ failed {A = Unit {0} × List ℕ} lack
more_left lack y rest = ap (λ b. cond b (Ok (tt, [])) (failed {A = Unit {0} × List ℕ} lack)) (ne_eqb (length (y ∷ rest)) 0 (λ z. omega (arith, z)))

ended_ok : (lack : SignFieldLack) (rest : List ℕ) (x : Unit {0} × List ℕ) → nothing_left lack rest ≡ Ok x → (rest ≡ []) × (x.1 ≡ [])
ended_ok lack [] x e = (refl, ap (λ (x : Unit {0} × List ℕ). x.1) (sym (ok_is (tt, []) x e)))
ended_ok lack (y ∷ rest) x e = absurd (let never : failed {A = Unit {0} × List ℕ} lack ≡ Ok x = sym (more_left lack y rest) ∙ e in cc)

ended_err : (lack wrong : SignFieldLack) (rest : List ℕ) → nothing_left lack rest ≡ Err wrong → wrong ≡ lack
ended_err lack wrong [] e = absurd cc
ended_err lack wrong (y ∷ rest) e = sym (err_is {A = Unit {0} × List ℕ} lack wrong (sym (more_left lack y rest) ∙ e))

end_again : (lack : SignFieldLack) → end_at lack (codes "end\n") ≡ Ok (tt, [])
unfolding end_at
end_again lack = goes_on (named_at (codes "end\n") lack (codes "end\n")) (nothing_left lack) [] (named_only (codes "end\n") lack [])

end_found : (text : List ℕ) (x : Unit {0} × List ℕ) → end_field text ≡ Ok x → Unit {0} × (text ≡ codes "end\n" ++ x.1)
unfolding end_field end_at
end_found text x e =
    let lack : SignFieldLack = record { wanted = fields.End; left = length text } in
    let first = bind_ok (named_at (codes "end\n") lack text) (nothing_left lack) x e in
    let is = ended_ok lack first.0 x first.2 in
    (tt, named_found (codes "end\n") lack text first.0 first.1 ∙ ap (λ rest. codes "end\n" ++ rest) (is.0 ∙ sym is.1))

end_lacks : (lack wrong : SignFieldLack) (text : List ℕ) → end_at lack text ≡ Err wrong → wrong ≡ lack
unfolding end_at
end_lacks lack wrong text e =
    elim (bind_err (named_at (codes "end\n") lack text) (nothing_left lack) wrong e) [
      | inl first ↦ named_lacks (codes "end\n") lack wrong text first
      | inr x ↦ ended_err lack wrong x.0 x.2
    ]

abbrev End : List ℕ → SignFieldLack → Type 0
End text lack = Stops {A = Unit {0}} (λ u. codes "end\n") (λ u. Unit {0}) IsLast text lack

end_not_there : (lack : SignFieldLack) (text : List ℕ) → end_at lack text ≡ Err lack → text ≡ codes "end\n" → ⊥
end_not_there lack text e is =
    let read : done (tt, []) ≡ failed {A = Unit {0} × List ℕ} lack = sym (end_again lack) ∙ ap (end_at lack) (sym is) ∙ e in
    cc

end_stops : (text : List ℕ) (lack : SignFieldLack) → end_field text ≡ Err lack → End text lack
unfolding end_field
end_stops text lack e =
    let here : SignFieldLack = record { wanted = fields.End; left = length text } in
    let is : lack ≡ here = end_lacks here lack text e in
    subst (λ (l : SignFieldLack). End text l) (sym is) (record {
      before = [];
      rest = text;
      parts = refl;
      left = refl;
      lacks = end_not_there here text (e ∙ ap (λ l. failed {A = Unit {0} × List ℕ} l) is);
      goes_on = λ more next. (tt, tt, codes "end\n", refl, ap (λ more. codes "end\n" ++ more) next);
    })

end_reads : Reads {A = Unit {0}} (λ u. codes "end\n") (λ u. Unit {0}) IsLast end_field
unfolding end_field
end_reads = record {
  found = end_found;
  only = λ u rest good next.
      ap (λ rest. end_field (codes "end\n" ++ rest)) next
      ∙ end_again (record { wanted = fields.End; left = length (codes "end\n") })
      ∙ ap (λ rest. done (tt, rest)) (sym next);
  stops = end_stops;
  some = (tt, tt);
}

-- ---- the parts

silent_reads : Reads (number_line (codes "silent")) (λ n. n ≤ 4294967295) Any (number_at fields.Silent (codes "silent") 4294967295)
silent_reads = number_reads fields.Silent (codes "silent") 4294967295 (omega arith) (λ t s. s) (λ t s. s)

abbrev set_text : SignSettings × ℕ → List ℕ
set_text p = settings_text p.0 ++ number_line (codes "silent") p.1

after_volatile : (p : SignSettings × ℕ) (rest : List ℕ) → NoRow Volatile (set_text p ++ rest)
after_volatile p rest = refl

after_changeable : (rows : List UsedRow) (p : SignSettings × ℕ) (rest : List ℕ) → NoRow Changeable ((row_lines (codes "volatile") rows ++ set_text p) ++ rest)
after_changeable [] p rest = refl
after_changeable (row ∷ rows) p rest = refl

abbrev set_all : List UsedRow × (List UsedRow × (SignSettings × ℕ)) → List ℕ
set_all p = row_lines (codes "changeable") p.0 ++ (row_lines (codes "volatile") p.1.0 ++ set_text p.1.1)

abbrev AreSet : List UsedRow × (List UsedRow × (SignSettings × ℕ)) → Type 0
AreSet p = AreUsedRows 1 (most_rows Changeable) p.0 × (AreUsedRows 1 (most_rows Volatile) p.1.0 × (AreSettings p.1.1.0 × (p.1.1.1 ≤ 4294967295)))

abbrev seen_all : PutModel × (PutModel × (Reports × Bool)) → List ℕ
seen_all p = put_text (codes "shown") p.0 ++ (put_text (codes "kept") p.1.0 ++ (reports_text p.1.1.0 ++ number_line (codes "powered") (powered_number p.1.1.1)))

abbrev AreSeen : PutModel × (PutModel × (Reports × Bool)) → Type 0
AreSeen p = IsPut p.0 × (IsPut p.1.0 × (AreReports p.1.1.0 × Unit {0}))

set_reads : Reads set_all AreSet Any set_at
unfolding set_at
set_reads =
    let set = then_reads settings_reads silent_reads in
    let volatile = pair_reads _ _ _ _ _ _ _ _ (rows_reads Volatile) set (λ p rest good next. after_volatile p rest) in
    pair_reads _ _ _ _ _ _ _ _ (rows_reads Changeable) volatile (λ p rest good next. after_changeable p.0 p.1 rest)

seen_reads : Reads seen_all AreSeen Any seen_at
unfolding seen_at
seen_reads = then_reads (put_reads Shown) (then_reads (put_reads Kept) (then_reads reports_reads powered_reads))

-- ---- the whole

last_is : (p : Bool) → number_line (codes "powered") (powered_number p) ++ codes "end\n" ≡ last_lines p
last_is p = append_assoc (codes "powered" ++ codes " " ++ decimal (powered_number p)) (codes "\n") (codes "end\n")

abbrev Parts : Type 0
Parts = Unit {0} × (((List UsedRow × (List UsedRow × (SignSettings × ℕ))) × (PutModel × (PutModel × (Reports × Bool)))) × Unit {0})

abbrev parts_of : FieldsModel → Parts
parts_of f = (tt, (((f.changeable, (f.volatile, (f.settings, f.silent_seconds))), (f.shown, (f.shown_at_power_loss, (f.reports, f.powered)))), tt))

abbrev parts_text : Parts → List ℕ
parts_text x =
    codes "state 1 sign\n"
    ++ (((row_lines (codes "changeable") x.1.0.0.0 ++ (row_lines (codes "volatile") x.1.0.0.1.0 ++ (settings_text x.1.0.0.1.1.0 ++ number_line (codes "silent") x.1.0.0.1.1.1)))
    ++ (put_text (codes "shown") x.1.0.1.0 ++ (put_text (codes "kept") x.1.0.1.1.0 ++ (reports_text x.1.0.1.1.1.0 ++ number_line (codes "powered") (powered_number x.1.0.1.1.1.1)))))
    ++ codes "end\n")

text_is : (f : FieldsModel) → parts_text (parts_of f) ≡ text_of_fields f
unfolding text_of_fields
text_is f =
    of_state (codes "state 1 sign\n") (row_lines (codes "changeable") f.changeable) (row_lines (codes "volatile") f.volatile) (settings_text f.settings)
    (number_line (codes "silent") f.silent_seconds) (put_text (codes "shown") f.shown) (put_text (codes "kept") f.shown_at_power_loss) (reports_text f.reports)
    (number_line (codes "powered") (powered_number f.powered)) (codes "end\n")
    ∙ ap (λ last. codes "state 1 sign\n" ++ (row_lines (codes "changeable") f.changeable ++ row_lines (codes "volatile") f.volatile) ++ settings_text f.settings
    ++ number_line (codes "silent") f.silent_seconds ++ put_text (codes "shown") f.shown ++ put_text (codes "kept") f.shown_at_power_loss ++ reports_text f.reports ++ last) (last_is f.powered)

pub fields_reads : Reads text_of_fields AreFields IsLast fields_at
unfolding fields_at
fields_reads =
    let middle = then_reads (then_reads set_reads seen_reads) end_reads in
    made_reads _ _ _ _ text_of_fields AreFields (λ x. fields_of_parts x.1.0) parts_of (then_reads form_reads middle)
    (λ x good. (
      record {
        changeable = good.1.0.0.0;
        volatile = good.1.0.0.1.0;
        settings = good.1.0.0.1.1.0;
        silent = good.1.0.0.1.1.1;
        shown = good.1.0.1.0;
        kept = good.1.0.1.1.0;
        reports = good.1.0.1.1.1.0;
      },
      text_is (fields_of_parts x.1.0),
    ))
    (λ f good.
    ((tt, (((good.changeable, (good.volatile, (good.settings, good.silent))), (good.shown, (good.kept, (good.reports, tt)))), tt)), sym (text_is f), refl))

-- ---- what is answered of a text

pub record TheFault (text : List ℕ) (lack : SignFieldLack) : Type 0 where
  pub within : lack.left ≤ length text
  pub fault : (fault : SignStateFault) → fault.wanted ≡ lack.wanted → fault.line ≡ count_by (λ octet. octet == byte "\n") (take (length text - lack.left) text) + 1 → IsFaultOf text fault

pub fault_is : (text : List ℕ) (lack : SignFieldLack) → fields_at text ≡ Err lack → TheFault text lack
fault_is text lack e =
    let stop = fields_reads.stops text lack e in
    let size : length text ≡ length stop.before + length stop.rest = ap length stop.parts ∙ length-append stop.before stop.rest in
    let cut : length text - lack.left ≡ length stop.before = omega (arith, size, stop.left) in
    let front : take (length text - lack.left) text ≡ stop.before = ap (λ n. take n text) cut ∙ ap (λ text. take (length stop.before) text) stop.parts ∙ take_at stop.before stop.rest (length stop.before) refl in
    let on = stop.goes_on [] refl in
    record {
      within = omega (arith, size, stop.left);
      fault = λ fault wanted line. record {
        before = stop.before;
        rest = stop.rest;
        parts = stop.parts;
        line = line ∙ ap (λ front. count_by (λ octet. octet == byte "\n") front + 1) front;
        goes_on = (on.2, subst (λ (w : SignStateField). Stands w on.2) (sym wanted) on.3, (on.0, on.1, sym (sym (append-nil (text_of_fields on.0)) ∙ on.4)));
        lacks = λ stands. stop.lacks (subst (λ (w : SignStateField). Stands w stop.rest) wanted stands);
      };
    }

pub fields_found : (text : List ℕ) (f : FieldsModel) → fields_at text ≡ Ok (f, []) → AreFields f × (text ≡ text_of_fields f)
fields_found text f e = let is = fields_reads.found text (f, []) e in (is.0, is.1 ∙ append-nil (text_of_fields f))

pub fields_only : (text : List ℕ) (f : FieldsModel) → AreFields f → text ≡ text_of_fields f → fields_at text ≡ Ok (f, [])
fields_only text f good is = ap fields_at (is ∙ sym (append-nil (text_of_fields f))) ∙ fields_reads.only f [] good refl

pub one_text_each : (one other : FieldsModel) → AreFields one → AreFields other → text_of_fields one ≡ text_of_fields other → one ≡ other
one_text_each one other first second same =
    ap (λ (x : FieldsModel × List ℕ). x.0)
    (ok_is (one, []) (other, []) (sym (fields_only (text_of_fields one) one first refl) ∙ fields_only (text_of_fields one) other second same))

pub only_these : (text : List ℕ) (read : FieldsModel) → fields_at text ≡ Ok (read, []) → (fields : FieldsModel) → AreFields fields → text ≡ text_of_fields fields → read ≡ fields
only_these text read e fields good is = ap (λ (x : FieldsModel × List ℕ). x.0) (ok_is (read, []) (fields, []) (sym e ∙ fields_only text fields good is))

pub none_lacks : (text : List ℕ) (lack : SignFieldLack) → fields_at text ≡ Err lack → (fields : FieldsModel) → AreFields fields → text ≡ text_of_fields fields → ⊥
none_lacks text lack e fields good is =
    let never : done (fields, []) ≡ failed {A = FieldsModel × List ℕ} lack = sym (fields_only text fields good is) ∙ e in
    cc
