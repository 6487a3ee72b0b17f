use Rattle.read_laws.proofs.each_picture_is_drawn_in_place.Goals as goal
use Rattle.read_laws.proofs.LeftOut.{pictures_are_drawn_in_place}

pub returns : goal.returns
returns c = pictures_are_drawn_in_place
