use Rattle.std.proofs.Common.{◌∙◌, sym}
use Rattle.dms_text_streams.proofs.Parts.{part_goes_on, some_there}
use Rattle.dms_text_streams.proofs.taking.part_length.Goals as goal

pub returns-in-None-clause-goes_on : goal.returns-in-None-clause-goes_on
returns-in-None-clause-goes_on c = λ more. part_goes_on c.args.piece.now (sym c.index_of.ensures ∙ c.in-None.is) (some_there _ (sym c.is_empty.ensures ∙ more))
