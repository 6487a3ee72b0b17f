use Rattle.paint_script.proofs.ReadBack.{script-read}
use Rattle.paint_script.proofs.laws.each_script_is_read_back.Goals as goal

pub returns : goal.returns
returns c = script-read
