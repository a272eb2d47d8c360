-- A sign that was made is one that can be made, and one that was refused is none.
use Rattle.std.proofs.Common.{◌≡◌, ◌≢◌, ℕ, ◌+◌, ◌≤◌, ◌&&◌, Bool, true, false, cond, not, List, [], ◌∷◌, length, map, Option, Some, None, Ok, refl, sym, ap, ◌∙◌, arith, inl, inr}
use Rattle.std.specs.Prelude.{nat_eq, position, replicate}
use Rattle.std.specs.List.{position_from, list_all}
use Rattle.std.specs.Cmp.Lexicographic.{pointwise, bytes_decides}
use Rattle.std.proofs.lemmas.Bool.{and_parts, and_from, cases_Bool, le-leb, false_from_ne_true, not-true, iff_false}
use Rattle.std.proofs.lemmas.List.Folds.{list_all-map}
use Rattle.std.proofs.lemmas.List.{length-map, length-replicate}
use Rattle.std.proofs.lemmas.Iterator.Adapters.{position_from-zero}
use Rattle.dms_face.specs.Face.{FaceModel, is_face, checked}
use Rattle.dms_table.specs.declared.stock.Permanent.{Permanent}
use Rattle.dms_table.specs.declared.stock.Stock.{Stock}
use Rattle.dms_table.specs.Rows.{unused}
use Rattle.dms_table.specs.Stock.{permanent_row, services_of, may_not_stand, are_counts, permanent_fault, stock_fault, table_of}
use Rattle.dms_sign.specs.declared.config.Config.{Config}
use Rattle.dms_sign.specs.declared.config.ConfigFault.{ConfigFault}
use Rattle.dms_sign.specs.declared.config.ConfigFault.TheVariants as config_faults
use Rattle.dms_codes.specs.Limits.{has_community_size}
use Rattle.dms_sign.specs.Communities.{are_communities}
use Rattle.dms_sign.specs.Configuration.{config_of, config_fault, IsFirstConfigFault}
use Rattle.dms_sign.specs.Construction.{row_may_stand, CanBeMade}
use Rattle.dms_face_font.specs.Font.{FontModel}
use Rattle.dms_codes.proofs.Options.{mapped_none}
use Rattle.dms_sign_text.specs.declared.head.Head.{Head}
use Rattle.dms_sign_text.specs.declared.rows.OwnedRow.{OwnedRow}
use Rattle.dms_sign_text.specs.Views.{is_memory, described_with, head_seen, row_seen}
use Rattle.dms_sign_text.specs.DescriptionReading.{described}

-- ---- none fails where all pass

all_pass : {A : Type 0} (test : A → Bool) (i : ℕ) (xs : List A) → position_from (λ x. not (test x)) i xs ≡ None → list_all test xs ≡ true
all_pass test i [] e = refl
all_pass test i (x ∷ xs) e = elim (cases_Bool (test x)) [
  | inl passes ↦ and_from _ _ passes (all_pass test (i + 1) xs (ap (λ b. cond (not b) (Some i) (position_from (λ y. not (test y)) (i + 1) xs)) (sym passes) ∙ e))
  | inr fails ↦ let wrong : Some i ≡ None = ap (λ b. cond (not b) (Some i) (position_from (λ y. not (test y)) (i + 1) xs)) (sym fails) ∙ e in absurd (cc)
]

none_fails : {A : Type 0} (test : A → Bool) (i : ℕ) (xs : List A) → list_all test xs ≡ true → position_from (λ x. not (test x)) i xs ≡ None
none_fails test i [] e = refl
none_fails test i (x ∷ xs) e =
    let parts = and_parts (test x) (list_all test xs) e in
    ap (λ b. cond (not b) (Some i) (position_from (λ y. not (test y)) (i + 1) xs)) parts.0 ∙ none_fails test (i + 1) xs parts.1

-- ---- a stock

pub none_after : {A : Type 0} (b : Bool) (o : Option A) (x : A) → cond b o (Some x) ≡ None → (b ≡ true) × (o ≡ None)
none_after b o x e = grind arith

record HasCounts (stock : Stock) : Type 0 where
  permanent : length stock.permanent.now ≤ 16
  changeable : stock.changeable ≤ 64
  volatile : stock.volatile ≤ 16

counts_found : (stock : Stock) → are_counts stock ≡ true → HasCounts stock
counts_found stock e = grind arith

-- the rows of a stock without a fault may all stand
rows_found : (face : FaceModel) (stock : Stock) → position (may_not_stand (services_of stock) face) stock.permanent.now ≡ None
    → list_all (row_may_stand (services_of stock) face) (map permanent_row stock.permanent.now) ≡ true
rows_found face stock e =
    list_all-map (row_may_stand (services_of stock) face) permanent_row stock.permanent.now
    ∙ all_pass (λ (message : Permanent). row_may_stand (services_of stock) face (permanent_row message)) 0 stock.permanent.now
    (sym (position_from-zero (may_not_stand (services_of stock) face) stock.permanent.now) ∙ e)

rows_only : (face : FaceModel) (stock : Stock) → list_all (row_may_stand (services_of stock) face) (map permanent_row stock.permanent.now) ≡ true
    → position (may_not_stand (services_of stock) face) stock.permanent.now ≡ None
rows_only face stock e =
    position_from-zero (may_not_stand (services_of stock) face) stock.permanent.now
    ∙ none_fails (λ (message : Permanent). row_may_stand (services_of stock) face (permanent_row message)) 0 stock.permanent.now
    (sym (list_all-map (row_may_stand (services_of stock) face) permanent_row stock.permanent.now) ∙ e)

-- ---- a configuration

differ_only : (reader writer : List ℕ) → reader ≢ writer → not (pointwise nat_eq reader writer) ≡ true
differ_only reader writer differ = ap not (false_from_ne_true (pointwise nat_eq reader writer) (λ e. differ ((bytes_decides reader writer).0 e)))

-- what has no fault can be made
pub faultless_can_be_made : (config : Config) → is_face config.face ≡ true → config_fault config ≡ None → CanBeMade (config_of config) (table_of config.stock)
faultless_can_be_made config is_made e =
    let stock = config.stock in
    let reader = config.reader.now in
    let writer = config.writer.now in
    let tests = none_after (are_communities reader writer) _ _ e in
    let both = and_parts (has_community_size reader && has_community_size writer) (not (pointwise nat_eq reader writer)) tests.0 in
    let sizes = and_parts (has_community_size reader) (has_community_size writer) both.0 in
    let faultless = mapped_none config_faults.Table (stock_fault config.face stock) tests.1 in
    let parts = none_after (are_counts stock) _ _ faultless in
    let counts = counts_found stock parts.0 in
    let standing = mapped_none permanent_fault (position (may_not_stand (services_of stock) config.face) stock.permanent.now) parts.1 in
    record {
      face = is_made;
      permanent = omega (arith, length-map stock.permanent.now permanent_row, counts.permanent);
      rows = rows_found config.face stock standing;
      changeable = omega (arith, length-replicate stock.changeable unused, counts.changeable);
      changeable_unused = ap (λ n. replicate n unused) (sym (length-replicate stock.changeable unused));
      volatile = omega (arith, length-replicate stock.volatile unused, counts.volatile);
      volatile_unused = ap (λ n. replicate n unused) (sym (length-replicate stock.volatile unused));
      reader = sizes.0;
      writer = sizes.1;
      differ = iff_false (bytes_decides reader writer) (not-true _ both.1);
    }

-- what can be made has no fault
pub can_be_made_is_faultless : (config : Config) → CanBeMade (config_of config) (table_of config.stock) → config_fault config ≡ None
can_be_made_is_faultless config is = grind (arith, and_from, differ_only, le-leb, length-map, length-replicate, rows_only)

-- ---- faces

-- where nothing is wrong, memory ran out
first_fault_is_memory : (o : Option ConfigFault) (fault : ConfigFault) → o ≡ None → IsFirstConfigFault o fault → is_memory fault ≡ true
first_fault_is_memory o fault p is = grind arith

-- a configuration was refused
pub refused_is_none : (config : Config) (fault : ConfigFault) → is_memory fault ≡ false → IsFirstConfigFault (config_fault config) fault
    → CanBeMade (config_of config) (table_of config.stock) → ⊥
refused_is_none config fault other is can = grind (arith, first_fault_is_memory, can_be_made_is_faultless)

-- the parts of a description, and what a sign is made of
pub described_alike : (head : Head) (permanent : List Permanent) (rows : List OwnedRow) (fonts : List FontModel) (face : FaceModel)
    → Ok face ≡ checked (record { width = head.beginning.size.width; height = head.beginning.size.height; fonts = fonts; defaults = head.defaults })
    → map permanent_row permanent ≡ map row_seen rows → described_with head permanent face ≡ described (head_seen head) (map row_seen rows) fonts
described_alike head permanent rows fonts face checks are = grind arith
