-- Rows of a text that are put one after the other.
use Rattle.std.proofs.Common.{◌≡◌, ℕ, ◌+◌, ◌≤◌, ◌<◌, List, [], ◌∷◌, length, get_or, drop, Result, Ok, Err, ap, sym, ◌∙◌, arith}
use Rattle.std.proofs.lemmas.List.{drop_more, drop_all}
use Rattle.dms_sign.specs.State.{SignState}
use Rattle.dms_sign_state.specs.declared.field.Stored.{Stored}
use Rattle.dms_sign_restored.specs.declared.restoring.Misfit.{Misfit}
use Rattle.dms_sign_state.specs.Fields.{UsedRow, AreUsedRows}
use Rattle.dms_sign_restored.specs.Restored.{and_then, with_row, with_rows}

-- Rows of ascending numbers are no more than their numbers.
pub few : (least most : ℕ) (rows : List UsedRow) → least ≤ most + 1 → AreUsedRows least most rows → length rows + least ≤ most + 1
few least most [] within are = omega (arith, within)
few least most (row ∷ rows) within are =
    let more = few (row.number + 1) most rows (omega (arith, are.0.0.1)) are.1 in
    omega (arith, more, are.0.0.0)

module _ (stored : Stored) (line : ℕ) (rows : List UsedRow) (i : ℕ) (s : SignState) (row : UsedRow) (within : i < length rows) where
  next : with_rows stored (line + i) (drop i rows) s ≡ and_then (with_row stored (line + i) (get_or rows i row) s) (with_rows stored (line + i + 1) (drop (i + 1) rows))
  next = ap (λ rows. with_rows stored (line + i) rows s) (drop_more rows i row within)

  pub row_put : (after : SignState) (all : Result SignState Misfit) → get_or rows i row ≡ row → with_row stored (line + i) row s ≡ Ok after
      → with_rows stored (line + i) (drop i rows) s ≡ all → with_rows stored (line + (i + 1)) (drop (i + 1) rows) after ≡ all
  row_put after all is put e =
      ap (λ line. with_rows stored line (drop (i + 1) rows) after) (omega arith)
      ∙ sym (ap (λ r. and_then r (with_rows stored (line + i + 1) (drop (i + 1) rows))) (ap (λ row. with_row stored (line + i) row s) is ∙ put))
      ∙ sym next ∙ e

  pub row_refused : (misfit : Misfit) (all : Result SignState Misfit) → get_or rows i row ≡ row → with_row stored (line + i) row s ≡ Err misfit
      → with_rows stored (line + i) (drop i rows) s ≡ all → all ≡ Err misfit
  row_refused misfit all is refused e =
      sym e ∙ next
      ∙ ap (λ r. and_then r (with_rows stored (line + i + 1) (drop (i + 1) rows))) (ap (λ row. with_row stored (line + i) row s) is ∙ refused)

pub rows_done : (stored : Stored) (line : ℕ) (rows : List UsedRow) (i : ℕ) (s : SignState) (all : Result SignState Misfit) → length rows ≤ i
    → with_rows stored (line + i) (drop i rows) s ≡ all → all ≡ Ok s
rows_done stored line rows i s all end e = sym e ∙ ap (λ rows. with_rows stored (line + i) rows s) (drop_all i rows end)
