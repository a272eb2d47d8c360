-- Lines that have no cause are a sign's: one of a kind that can be made, and no line stands after it.
use Rattle.std.proofs.Common.{◌≡◌, ℕ, ◌+◌, true, false, cond, not, List, [], ◌∷◌, Option, Some, None, Result, Ok, Err, refl, sym, ap, subst, ◌∙◌, arith, inl, inr}
use Rattle.std.specs.Prelude.{◌≤◌, codes, replicate, nat_eq, option_map}
use Rattle.std.specs.Option.{option_or}
use Rattle.std.specs.List.{list_all}
use Rattle.std.specs.Cmp.Lexicographic.{pointwise, bytes_decides}
use Rattle.std.proofs.lemmas.Bool.{cases_Bool, and_from, iff_false}
use Rattle.std.proofs.lemmas.List.{append-nil, length-replicate}
use Rattle.dms_text.specs.Words.{words_of}
use Rattle.dms_text.specs.Reading.{same_octets, ◌>>=◌}
use Rattle.dms_codes.proofs.Options.{mapped_none}
use Rattle.dms_codes.specs.Limits.{has_community_size}
use Rattle.dms_face_font.specs.Font.{FontModel}
use Rattle.dms_face.specs.Face.{FaceModel, has_font, is_face, is_matrix, are_fonts, have_own_numbers, fit, checked}
use Rattle.dms_face.specs.declared.defaults.Defaults.{Defaults}
use Rattle.dms_face.specs.declared.fault.FaceFault.{FaceFault}
use Rattle.dms_face.specs.declared.multi_fault.MultiFault.{MultiFault}
use Rattle.dms_face.specs.Fit.{fault_of, or_fault, page_count}
use Rattle.dms_table.specs.declared.row.Services.{Services}
use Rattle.dms_table.specs.Rows.{RowModel, unused}
use Rattle.dms_table.specs.Stock.{has_ranges}
use Rattle.dms_table.specs.Validation.{verdict_of, passes}
use Rattle.dms_codes.specs.Status.{is_valid}
use Rattle.dms_codes.specs.declared.status.Status.TheVariants.{Valid}
use Rattle.dms_sign.specs.Construction.{row_may_stand, CanBeMade}
use Rattle.dms_text_forms.specs.Fields.{SpellsEach}
use Rattle.dms_sign_text_causes.specs.RowCauses.{range_cause, service_cause, row_cause, fault_cause}
use Rattle.dms_sign_text_causes.specs.SignCauses.{matrix_cause, number_twice, fonts_cause, defaults_cause, face_cause, communities_cause, counts_cause, rows_cause, numbered_cause}
use Rattle.dms_sign_text_causes.specs.declared.row_causes.RowCause.{RowCause}
use Rattle.dms_sign_text_causes.specs.declared.sign_causes.SignCause.TheVariants as sign
use Rattle.dms_sign_text_causes.specs.declared.cause.LineCause.{LineCause}
use Rattle.dms_sign_text_causes.specs.declared.cause.LineCause.TheVariants as causes
use Rattle.dms_sign_text.specs.Description.{Description, SpellsSign, SpellsPermanentLine}
use Rattle.dms_sign_text.specs.DescriptionReading.{HeadModel, head_at, row_of, rows_from, fonts_at, end_at, described, body_at, description_at}
use Rattle.dms_sign_text.specs.Setups.{BeginsWith}
use Rattle.dms_sign_text.specs.Causes.{table_cause, face_then, sign_cause, after_cause, stop_cause, line_cause, body_word, body_cause}
use Rattle.dms_sign_text.proofs.RowReading as row
use Rattle.dms_sign_text.proofs.DescriptionLaws.{read_is_spelled}
use Rattle.dms_sign_text.proofs.Stops.{Stopped, rows_stop, all_stop, stopped_has_cause}

-- the first of two causes, and the other
neither : {A : Type 0} (one other : Option A) → option_or one other ≡ None → (one ≡ None) × (other ≡ None)
neither None other e = (refl, e)
neither (Some cause) other e = absurd (cc)

-- ---- the face

own_numbers : (fonts : List FontModel) → number_twice fonts ≡ None → have_own_numbers fonts ≡ true
own_numbers [] e = refl
own_numbers (font ∷ fonts) e = elim (cases_Bool (has_font fonts font.number)) [
  | inl twice ↦ absurd (let wrong : Some font.number ≡ None = sym (ap (λ b. cond b (Some font.number) (number_twice fonts)) twice) ∙ e in cc)
  | inr own ↦ and_from _ _ (ap not own) (own_numbers fonts (sym (ap (λ b. cond b (Some font.number) (number_twice fonts)) own) ∙ e))
]

matrix_stands : (width height : ℕ) → matrix_cause width height ≡ None → is_matrix width height ≡ true
matrix_stands width height e = grind arith

fonts_stand : (fonts : List FontModel) → fonts_cause fonts ≡ None → are_fonts fonts ≡ true
fonts_stand fonts e = grind (arith, own_numbers, mapped_none)

defaults_stand : (fonts : List FontModel) (defaults : Defaults) → defaults_cause fonts defaults ≡ None → fit fonts defaults ≡ true
defaults_stand fonts defaults e = grind arith

face_stands : (face : FaceModel) → face_cause face ≡ None → is_face face ≡ true
face_stands face e =
    let matrix = neither _ _ e in
    let fonts = neither _ _ matrix.1 in
    and_from _ _ (and_from _ _ (matrix_stands face.width face.height matrix.0) (fonts_stand face.fonts fonts.0)) (defaults_stand face.fonts face.defaults fonts.1)

checked_stands : (face made : FaceModel) → checked face ≡ Ok made → is_face face ≡ true
checked_stands face made e = grind arith

refused_falls : (face : FaceModel) (fault : FaceFault) → checked face ≡ Err fault → is_face face ≡ true → ⊥
refused_falls face fault e is = grind arith

-- ---- the rows

range_stands : (it : RowModel) → it.priority ≤ 255 → range_cause it ≡ None → has_ranges it ≡ true
range_stands it small e = grind arith

services_stand : (services : Services) (face : FaceModel) (it : RowModel) (pages : ℕ) (fault : Option MultiFault) → fault_of face it.text ≡ fault → service_cause services it ≡ None
    → fault_cause (or_fault pages fault) ≡ None → passes (verdict_of services face it) ≡ true
services_stand services face it pages fault is e fits = grind arith

row_stands : (services : Services) (face : FaceModel) (it : RowModel) → it.priority ≤ 255 → it.status ≡ Valid → row_cause services face it ≡ None → row_may_stand services face it ≡ true
row_stands services face it small valid e =
    let range = neither _ _ e in
    let rest = neither _ _ range.1 in
    and_from _ _ (and_from _ _ (ap is_valid valid) (range_stands it small range.0)) (services_stand services face it (page_count it.text) (fault_of face it.text) refl rest.0 rest.1)

rows_stand : (services : Services) (face : FaceModel) (number : ℕ) (rows : List RowModel) (lines : List (List ℕ)) → SpellsEach SpellsPermanentLine rows lines
    → rows_cause services face number rows ≡ None → list_all (row_may_stand services face) rows ≡ true
rows_stand services face number [] lines spelled e = refl
rows_stand services face number (it ∷ rows) [] spelled e = absurd spelled
rows_stand services face number (it ∷ rows) (line ∷ lines) spelled e = by_cause (rows_stand services face (number + 1) rows lines spelled.1) (row_cause services face it) refl
  where
    by_cause : (rows_cause services face (number + 1) rows ≡ None → list_all (row_may_stand services face) rows ≡ true) → (found : Option RowCause) → row_cause services face it ≡ found
        → list_all (row_may_stand services face) (it ∷ rows) ≡ true
    by_cause others None is =
        and_from _ _ (row_stands services face it spelled.0.priority.greatest spelled.0.status is)
        (others (sym (ap (numbered_cause number (rows_cause services face (number + 1) rows)) is) ∙ e))
    by_cause others (Some cause) is = absurd (let wrong : Some (sign.Row number cause) ≡ None = sym (ap (numbered_cause number (rows_cause services face (number + 1) rows)) is) ∙ e in cc)

-- ---- the whole sign

record Communities (reader writer : List ℕ) : Type 0 where
  of_reader : has_community_size reader ≡ true
  of_writer : has_community_size writer ≡ true
  apart : pointwise nat_eq reader writer ≡ false

communities_stand : (reader writer : List ℕ) → communities_cause reader writer ≡ None → Communities reader writer
communities_stand reader writer e = grind arith

record Counts (permanent changeable volatile : ℕ) : Type 0 where
  of_permanent : permanent ≤ 16
  of_changeable : changeable ≤ 64
  of_volatile : volatile ≤ 16

counts_stand : (permanent changeable volatile : ℕ) → counts_cause permanent changeable volatile ≡ None → Counts permanent changeable volatile
counts_stand permanent changeable volatile e = grind arith

table_stands : (head : HeadModel) (rows : List RowModel) (fonts : List FontModel) (lines : List (List ℕ)) → SpellsEach SpellsPermanentLine rows lines
    → is_face (described head rows fonts).config.face ≡ true → table_cause (described head rows fonts) ≡ None
    → CanBeMade (described head rows fonts).config (described head rows fonts).table
table_stands head rows fonts lines spelled face e =
    let it : Description = described head rows fonts in
    let parts = neither _ _ e in
    let more = neither _ _ parts.1 in
    let communities = communities_stand it.config.reader it.config.writer parts.0 in
    let counts = counts_stand _ _ _ more.0 in
    record {
      face = face;
      permanent = counts.of_permanent;
      rows = rows_stand it.table.services it.config.face 1 rows lines spelled more.1;
      changeable = counts.of_changeable;
      changeable_unused = ap (λ n. replicate n unused) (sym (length-replicate head.beginning.rows.changeable unused));
      volatile = counts.of_volatile;
      volatile_unused = ap (λ n. replicate n unused) (sym (length-replicate head.beginning.rows.volatile unused));
      reader = communities.of_reader;
      writer = communities.of_writer;
      differ = iff_false (bytes_decides it.config.reader it.config.writer) communities.apart;
    }

-- what has no cause can be made
pub no_cause_is_made : (head : HeadModel) (rows : List RowModel) (fonts : List FontModel) (lines : List (List ℕ)) → SpellsEach SpellsPermanentLine rows lines
    → sign_cause (described head rows fonts) ≡ None → CanBeMade (described head rows fonts).config (described head rows fonts).table
no_cause_is_made head rows fonts lines spelled e = by_face (checked it.config.face) refl
  where
    it : Description
    it = described head rows fonts

    by_face : (made : Result FaceModel FaceFault) → checked it.config.face ≡ made → CanBeMade it.config it.table
    by_face (Ok face) is = table_stands head rows fonts lines spelled (checked_stands it.config.face face is) (sym (ap (face_then it) is) ∙ e)
    by_face (Err fault) is = absurd (refused_falls it.config.face fault is (face_stands it.config.face (sym (ap (face_then it) is) ∙ e)))

-- ---- the lines after the first seven

record Ends (it : Description) (lines : List (List ℕ)) : Type 0 where
  end : end_at lines ≡ Some []
  made : sign_cause it ≡ None

nothing_after : (lines : List (List ℕ)) → after_cause lines ≡ None → lines ≡ []
nothing_after [] e = refl
nothing_after (line ∷ lines) e = absurd (cc)

-- the line that comes next is the last one
last_line : (head : HeadModel) (rows : List RowModel) (fonts : List FontModel) (lines : List (List ℕ)) → ((line : List ℕ) (rest : List (List ℕ)) → lines ≡ line ∷ rest → Stopped fonts line)
    → stop_cause head rows fonts lines ≡ None → Ends (described head rows fonts) lines
last_line head rows fonts [] stopped e = absurd (cc)
last_line head rows fonts (line ∷ lines) stopped e = elim (cases_Bool (same_octets line (codes "end"))) [
  | inl same ↦
      let parts = neither _ _ (sym (ap (λ b. cond b (at_end lines) (line_cause fonts line)) same) ∙ e) in
      record { end = ap (λ b. cond b (Some lines) None) same ∙ ap Some (nothing_after lines parts.1); made = mapped_none causes.Sign _ parts.0 }
  | inr other ↦ absurd (stopped_has_cause (body_word line) fonts line other (stopped line lines refl) (sym (ap (λ b. cond b (at_end lines) (line_cause fonts line)) other) ∙ e))
]
  where
    at_end : List (List ℕ) → Option LineCause
    at_end lines = option_or (option_map causes.Sign (sign_cause (described head rows fonts))) (after_cause lines)

-- ---- the whole

whole_spelled : (lines : List (List ℕ)) (it : Description) → BeginsWith lines [] it → SpellsSign lines it
whole_spelled lines it begins = subst (λ all. SpellsSign all it) (sym (begins.lines_are ∙ append-nil begins.prefix)) begins.spelled

-- lines without a cause are a sign's
pub no_cause_is_a_sign : (lines left : List (List ℕ)) (head : HeadModel) → head_at lines ≡ Some (head, left) → body_cause (Some (head, left)) ≡ None → (it : Description) × SpellsSign lines it
unfolding description_at
no_cause_is_a_sign lines left head read e =
    let rows = rows_from [] left in
    let fonts = fonts_at rows.1 in
    let it : Description = described head rows.0 fonts.0 in
    let spelled = row.rows_found left [] in
    let no_row : (first : List ℕ) (others : List (List ℕ)) → rows.1 ≡ first ∷ others → row_of (words_of first) ≡ None =
    λ first others is. rows_stop left [] rows.0 first others (ap (λ after. (rows.0, after)) is) in
    let ends : Ends it fonts.1 = last_line head rows.0 fonts.0 fonts.1 (λ line rest is. all_stop rows.1 fonts.0 line rest no_row (ap (λ after. (fonts.0, after)) is)) e in
    let can = no_cause_is_made head rows.0 fonts.0 spelled.prefix (subst (λ all. SpellsEach SpellsPermanentLine all spelled.prefix) (sym spelled.rows_are) spelled.spelled) ends.made in (
      it,
      whole_spelled lines it (read_is_spelled lines [] it
          (ap (λ found. found >>= λ (begun : HeadModel × List (List ℕ)). body_at begun.0 (rows_from [] begun.1)) read
          ∙ ap (λ after. after >>= λ others. Some (it, others)) ends.end) can),
    )
