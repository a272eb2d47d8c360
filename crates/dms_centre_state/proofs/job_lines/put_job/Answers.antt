use Rattle.std.proofs.Common.{codes, ap}
use Rattle.dms_text_filling.proofs.Parts.{three, same}
use Rattle.dms_centre_state.specs.CentreText.{number_line}
use Rattle.dms_centre_state.proofs.job_lines.put_job.Goals as goal

pub returns : goal.returns
returns c =
    three (same (ap (λ n. number_line (codes "step") n) c.number.ensures) c.put_number-place.ensures.octets) c.put_number-place-2.ensures.octets c.put_work.ensures
