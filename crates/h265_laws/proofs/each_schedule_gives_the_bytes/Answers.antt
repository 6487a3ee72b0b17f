use Rattle.h265_laws.proofs.each_schedule_gives_the_bytes.Goals as goal
use Rattle.h265_laws.proofs.WaveLaw.{schedules}

pub returns : goal.returns
returns c = schedules
