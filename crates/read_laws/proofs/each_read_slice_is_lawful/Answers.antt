use Rattle.read_laws.proofs.each_read_slice_is_lawful.Goals as goal
use Rattle.read_laws.proofs.ReadRows.{slices_are_lawful}

pub returns : goal.returns
returns c = slices_are_lawful
