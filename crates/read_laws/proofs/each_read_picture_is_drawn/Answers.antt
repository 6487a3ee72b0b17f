use Rattle.read_laws.proofs.each_read_picture_is_drawn.Goals as goal
use Rattle.read_laws.proofs.Drawn.{pictures_are_drawn}

pub returns : goal.returns
returns c = pictures_are_drawn
