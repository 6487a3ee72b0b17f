use Rattle.std.proofs.Common.{◌∙◌}
use Rattle.std.proofs.lemmas.Result.{err_from_is_err_and}
use Rattle.edges.proofs.FileMaps.{files_of-same, put-shelf}
use Rattle.edges.proofs.calm.CalmShelf.put.Goals as goal

pub returns-in_err-insert-clause-err : goal.returns-in_err-insert-clause-err
returns-in_err-insert-clause-err c =
    let p = err_from_is_err_and c.from_residual-in_err-insert.result c.from_residual-in_err-insert.ensures.1 in
    rw p.1 (files_of-same c.self.inside.files c.insert.new.self c.in_err-insert.ensures.err ∙ c.self.view_is)

pub returns-clause-ok : goal.returns-clause-ok
returns-clause-ok c =
    put-shelf c.self.inside.files c.insert.new.self c.args.self.now c.args.name.now _ c.args.bytes.now c.in_ok-bytes.bytes c.self.view_is c.in_ok-name.ensures.ok c.in_ok-bytes.ensures.items c.in_ok-insert.ensures.updates
