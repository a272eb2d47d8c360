use Rattle.dms_centre_jobs.proofs.Written.{done_around}
use Rattle.dms_centre_jobs.proofs.request.put_any_fields.Goals as goal

pub unwrap-requires : goal.unwrap-requires
unwrap-requires c = (done_around c.write_around.result c.write_around.new.out.items _ _ (c.header.ensures _) (c.write_around.ensures _ c.push_fields.ensures) c.requires).ok

pub returns : goal.returns
returns c = (done_around c.write_around.result c.write_around.new.out.items _ _ (c.header.ensures _) (c.write_around.ensures _ c.push_fields.ensures) c.requires).is
