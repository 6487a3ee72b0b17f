use Rattle.row_coder.proofs.Linked as linked
use Rattle.row_coder.proofs.each_job_is_coded.Goals as goal

pub returns : goal.returns
returns c = linked.each_job_is_coded
