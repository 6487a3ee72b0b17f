use Rattle.annexb.proofs.ReadBack.{unit-read_back}
use Rattle.annexb.proofs.laws.each_unit_is_read_back.Goals as goal

pub returns : goal.returns
returns c = unit-read_back
