use Rattle.read_laws.proofs.each_place_is_drawn_once.Goals as goal
use Rattle.read_laws.proofs.Apart.{places_are_apart}

pub returns : goal.returns
returns c = places_are_apart
