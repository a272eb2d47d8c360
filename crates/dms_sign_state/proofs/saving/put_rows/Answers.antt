use Rattle.std.proofs.Common.{◌<◌, option_map, subst, sym, ap, ◌∙◌, arith}
use Rattle.dms_table.specs.Rows.{rows_of, unused}
use Rattle.dms_table.specs.RowsView.{reading_of}
use Rattle.dms_text_filling.proofs.Parts.{nothing}
use Rattle.dms_sign_state.specs.StateText.{row_text}
use Rattle.dms_sign_state.proofs.RowsWritten.{row_more, reached, row_read_at, no_row_missing}
use Rattle.dms_sign_state.proofs.saving.put_rows.Goals as goal
use Rattle.dms_sign_state.proofs.saving.put_rows.Goals.{in-None, in-Some}

pub loop-index-init : goal.loop-index-init
loop-index-init c = record { octets = nothing c.args.place c.args.buffer.now (omega arith) (omega arith); short = omega arith }

pub loop-index-preserved : goal.loop-index-preserved
loop-index-preserved c =
    let table = c.args.table.now in
    let less = subst (λ n. c.loop-index.index < n) c.row_count-index-end.ensures c.loop-index-test.true in
    elim c.match-row.branch [
      | in-None w ↦
          absurd (no_row_missing table c.args.kind c.loop-index.index unused c.requires.stored less
          (ap (option_map reading_of) (sym w.in-None.is) ∙ c.row.ensures.read))
      | in-Some w ↦
          record {
            octets =
                row_more (row_text c.args.name.now) (rows_of table c.args.kind) c.loop-index.index (reading_of w.in-Some.row).row c.args.place
                c.loop-index.end c.match-row.end c.args.buffer.now c.loop-index.buffer c.match-row.buffer less
                (row_read_at table c.args.kind c.loop-index.index (reading_of w.in-Some.row) c.requires.stored less
                (ap (option_map reading_of) (sym w.in-Some.is) ∙ c.row.ensures.read))
                c.loop-index.invariant.octets (reached w.end-is w.buffer-is w.put_row-end.ensures.octets);
            short = omega (arith, c.loop-index.invariant.short, w.put_row-end.ensures.short, w.end-is, c.requires.name);
          }
    ]
