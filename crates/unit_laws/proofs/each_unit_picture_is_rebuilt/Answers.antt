use Rattle.unit_laws.proofs.each_unit_picture_is_rebuilt.Goals as goal
use Rattle.unit_laws.proofs.UnitRebuild.{pictures_are_rebuilt}

pub returns : goal.returns
returns c = pictures_are_rebuilt
