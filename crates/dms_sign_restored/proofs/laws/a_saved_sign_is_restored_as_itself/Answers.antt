use Rattle.dms_sign_restored.proofs.SavedAgain.{kept_by, put_again, restored_again}
use Rattle.dms_sign_restored.proofs.laws.a_saved_sign_is_restored_as_itself.Goals as goal

pub returns-clause-restored : goal.returns-clause-restored
returns-clause-restored c =
    let rows = c.unused_rows_are_empty.ensures in
    let again = c.unused_rows_are_empty-2.ensures in
    restored_again c.texts_tell_states_apart.ensures c.ids_are_their_octets.ensures.id c.ids_are_their_octets.ensures.octets c.args.saved.now c.args.again.now
    (kept_by c.args.saved.now c.table.result.now c.table.ensures c.signs_are_kept.ensures.in_range rows.changeable rows.volatile)
    (kept_by c.args.again.now c.table-2.result.now c.table-2.ensures c.signs_are_kept-2.ensures.in_range again.changeable again.volatile)

pub returns-clause-put : goal.returns-clause-put
returns-clause-put c =
    let rows = c.unused_rows_are_empty.ensures in
    let again = c.unused_rows_are_empty-2.ensures in
    put_again c.texts_tell_states_apart.ensures c.ids_are_their_octets.ensures.id c.ids_are_their_octets.ensures.octets c.args.saved.now c.args.again.now
    (kept_by c.args.saved.now c.table.result.now c.table.ensures c.signs_are_kept.ensures.in_range rows.changeable rows.volatile)
    (kept_by c.args.again.now c.table-2.result.now c.table-2.ensures c.signs_are_kept-2.ensures.in_range again.changeable again.volatile)
