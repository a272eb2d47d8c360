use Rattle.std.proofs.lemmas.Bool.{ltb-false}
use Rattle.dms_face.specs.Layout.{under}
use Rattle.dms_face_rows.proofs.OctetLaws.{no_page}
use Rattle.dms_face_rows.proofs.rows.has_page.Goals as goal

pub returns-in-Ok-clause-none : goal.returns-in-Ok-clause-none
returns-in-Ok-clause-none c = λ none.
    no_page (under c.args.face.now c.args.defaults.now) c.args.text.now c.args.number c.in-Ok.count c.in-Ok.ensures.exact (ltb-false c.args.number c.in-Ok.count none)
