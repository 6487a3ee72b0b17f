use Rattle.edges.proofs.FileMaps.{files_of-empty}
use Rattle.edges.proofs.calm.CalmShelf.new.Goals as goal

pub returns : goal.returns
returns c = files_of-empty c.new.result c.new.ensures.empty
