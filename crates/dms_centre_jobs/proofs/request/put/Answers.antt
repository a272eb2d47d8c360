use Rattle.dms_centre_jobs.proofs.Written.{done_around}
use Rattle.dms_centre_jobs.proofs.request.put.Goals as goal

pub unwrap-requires : goal.unwrap-requires
unwrap-requires c = (done_around c.write_binding.result c.write_binding.new.out.items _ _ (c.header.ensures _) c.write_binding.ensures c.requires).ok

pub returns : goal.returns
returns c = (done_around c.write_binding.result c.write_binding.new.out.items _ _ (c.header.ensures _) c.write_binding.ensures c.requires).is
