use Rattle.std.proofs.Common.{[], rules}
use Rattle.recorder_model.specs.FileLaws.{file_at-insert}
use Rattle.edges.specs.Sunk.{is_inserted}
use Rattle.edges.proofs.tests.store.Goals as goal

pub new-sink-requires : goal.new-sink-requires
new-sink-requires c = record { there = is_inserted c.args.shelf.now c.create.new.self c.args.name.now [] c.in_ok-create.ensures.files }

pub returns : goal.returns
returns c = search (rules, file_at-insert c.args.shelf.now c.args.name.now [])
