use Rattle.desk_state.proofs.Leading.{each_leads_on}
use Rattle.desk_state.proofs.laws.each_job_leads_to_the_next_picture.Goals as goal

pub returns : goal.returns
returns c = each_leads_on
