use Rattle.std.proofs.Common.{◌≡◌, ℕ, ◌+◌, true, cond, List, Some, All, map, find, slice_set, ap, subst, sym, ◌∙◌, arith}
use Rattle.std.specs.Prelude.{option_map}
use Rattle.dms_codes.specs.Status.{is_valid}
use Rattle.dms_table.specs.PlaceView.{IsOnly}
use Rattle.dms_table.specs.ValidatorView.{settled_by, verdict_by, IsJudged, face_of}
use Rattle.dms_face.specs.Fit.{IsGood}
use Rattle.dms_table.specs.Validation.{passes}
use Rattle.dms_table.specs.Rows.{RowModel, row_is_validating}
use Rattle.dms_table.proofs.Places.{only_there, only_settled, only_found, only_all, only_within, only_is}
use Rattle.dms_table.proofs.CountsOfRows.{counted_set, settled_is_where, validating_is_not}
use Rattle.dms_table.proofs.table.CountedRows.settle.Goals as goal

pub returns : goal.returns
returns c =
    let all : List RowModel = c.self.inside.rows.items in
    let only : IsOnly c.args.index all = subst (IsOnly c.args.index) (sym c.self.view_is) c.requires.only in
    let row : RowModel = c.index_mut-row.result.now in
    let there = only_there all c.args.index row only c.index_mut-row.ensures.value in
    record {
      rows = subst (λ (rows : List RowModel). slice_set all c.args.index c.settle-verdict.new.self ≡ map (settled_by c.args.validator.now) rows) c.self.view_is
          (ap (slice_set all c.args.index) c.settle-verdict.ensures.row
          ∙ only_settled c.args.validator.now.services (face_of c.args.validator.now) all c.args.index row only there);
      verdict = subst (λ (rows : List RowModel). Some c.settle-verdict.result ≡ option_map (verdict_by c.args.validator.now) (find row_is_validating rows)) c.self.view_is
          (ap Some c.settle-verdict.ensures.verdict ∙ sym (ap (option_map (verdict_by c.args.validator.now)) (only_found all c.args.index row only there)));
      judged = subst (All (IsJudged c.args.validator.now)) c.self.view_is
          (only_all (λ (row : RowModel). passes (verdict_by c.args.validator.now row) ≡ true → IsGood (face_of c.args.validator.now) row.text)
          all c.args.index row only there c.settle-verdict.ensures.judged);
    }

pub invariant_of-self : goal.invariant_of-self
invariant_of-self c =
    let all : List RowModel = c.self.inside.rows.items in
    let only : IsOnly c.args.index all = subst (IsOnly c.args.index) (sym c.self.view_is) c.requires.only in
    let row : RowModel = c.index_mut-row.result.now in
    let validating = only_is all c.args.index row only (only_there all c.args.index row only c.index_mut-row.ensures.value) in
    let settled : c.settle-verdict.new.self ≡ settled_by c.args.validator.now row = c.settle-verdict.ensures.row in
    let passed = c.passes.ensures ∙ ap passes c.settle-verdict.ensures.verdict in
    let weight : cond {A = ℕ} (is_valid row.status) 1 0 + cond (is_valid c.settle-verdict.new.self.status) 1 0 ≡ cond c.passes.result 1 0 =
    rw (settled, passed) (settled_is_where c.args.validator.now.services (face_of c.args.validator.now) row validating) in
    let none : cond {A = ℕ} (is_valid row.status) 1 0 ≡ 0 = validating_is_not row validating in
    let more : c.from.result ≡ cond {A = ℕ} c.passes.result 1 0 = grind arith in
    counted_set all c.args.index c.self.inside.valid _ row c.settle-verdict.new.self c.self.invariant (only_within all c.args.index only) c.index_mut-row.ensures.value
    (omega (arith, weight, none, more))
