use Rattle.dms_sign.proofs.KnownTexts.{known_where_kept}
use Rattle.dms_sign.proofs.sign.judge.Goals as goal

pub judge-requires-clause-good : goal.judge-requires-clause-good
judge-requires-clause-good c =
    let id = c.args.code.now.id in
    known_where_kept c.of-good_under.result c.args.known.now c.args.face.now c.args.table.now id.memory id.number c.of-good_under.ensures c.requires.good
