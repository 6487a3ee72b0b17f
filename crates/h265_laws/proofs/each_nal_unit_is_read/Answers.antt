use Rattle.h265_laws.proofs.each_nal_unit_is_read.Goals as goal
use Rattle.h265_model.proofs.UnitLaws.{units-stream_bytes}

pub returns : goal.returns
returns c = units-stream_bytes
