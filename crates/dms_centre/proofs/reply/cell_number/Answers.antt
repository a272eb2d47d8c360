use Rattle.std.proofs.Common.{[], ◌∷◌, ◌∙◌, ap, arith}
use Rattle.dms_wire.specs.Message.{null}
use Rattle.dms_mib.specs.Names.{cell_name}
use Rattle.dms_centre.specs.Replies.{number_read}
use Rattle.dms_centre.proofs.ShortNames.{short_cell_named}
use Rattle.dms_centre.proofs.reply.cell_number.Goals as goal

pub known-requires : goal.known-requires
known-requires c = (cell_name c.args.column c.args.row, short_cell_named c.args.column c.args.row _ (omega arith) (omega arith) c.number.ensures)

pub returns-then-row-lt128-2 : goal.returns-then-row-lt128-2
returns-then-row-lt128-2 c =
    c.number_read.ensures
    ∙ ap (λ z. number_read (record { name = z; value = null } ∷ []) c.args.binds)
    (c.known.ensures (cell_name c.args.column c.args.row)
    (short_cell_named c.args.column c.args.row _ (omega arith) (omega arith) c.number.ensures))
