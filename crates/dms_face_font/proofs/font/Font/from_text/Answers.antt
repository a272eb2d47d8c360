use Rattle.dms_face_font.proofs.Promises.{is_found, is_only, is_none}
use Rattle.dms_face_font.proofs.font.Font.from_text.Goals as goal

pub returns-clause-found : goal.returns-clause-found
returns-clause-found c = is_found c.args.text.now c.read.result c.read.ensures

pub returns-clause-only : goal.returns-clause-only
returns-clause-only c = is_only c.args.text.now c.read.result c.read.ensures

pub returns-clause-none : goal.returns-clause-none
returns-clause-none c = is_none c.args.text.now c.read.result c.read.ensures
