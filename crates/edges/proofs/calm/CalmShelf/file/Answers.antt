use Rattle.std.specs.Option.{option_copied}
use Rattle.edges.proofs.FileMaps.{get-shelf}
use Rattle.edges.proofs.calm.CalmShelf.file.Goals as goal

pub returns-in-Some : goal.returns-in-Some
returns-in-Some c =
    let found = get-shelf c.self.inside.files c.args.self.now c.args.name.now (option_copied c.get.result) c.self.view_is c.get.ensures.value in
    rw c.as_slice.ensures.value (rw c.in-Some.is at found)

pub returns-in-None : goal.returns-in-None
returns-in-None c =
    let found = get-shelf c.self.inside.files c.args.self.now c.args.name.now (option_copied c.get.result) c.self.view_is c.get.ensures.value in
    rw c.in-None.is at found
