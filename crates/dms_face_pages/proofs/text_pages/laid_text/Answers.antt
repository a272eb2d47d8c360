use Rattle.dms_face_pages.proofs.OneWalk.{long_fault}
use Rattle.dms_face_pages.proofs.text_pages.laid_text.Goals as goal

pub returns-then-text-gt-MAX_TEXT-clause-laid : goal.returns-then-text-gt-MAX_TEXT-clause-laid
returns-then-text-gt-MAX_TEXT-clause-laid c = long_fault _ c.args.text.now c.if-text-gt-MAX_TEXT.true
