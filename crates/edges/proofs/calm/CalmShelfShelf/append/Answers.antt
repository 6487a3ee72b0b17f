use Rattle.std.proofs.Common.{◌∙◌, ◌++◌, ap, sym, rules}
use Rattle.std.specs.FinMap.{insert}
use Rattle.edges.specs.FileMap.{files_of}
use Rattle.edges.proofs.FileMaps.{append-shelf, absent-shelf}
use Rattle.edges.proofs.calm.CalmShelfShelf.append.Goals as goal

pub returns-in-Some-clause-files : goal.returns-in-Some-clause-files
returns-in-Some-clause-files c =
    let found = rw c.in-Some.is at c.get_mut.ensures.value in
    append-shelf c.self.inside.files (c.get_mut.follows.lender c.extend.new.bytes) c.args.self.now c.args.name.now c.args.piece.now c.in-Some.bytes.now c.extend.new.bytes c.extend.result
    c.self.view_is found ((c.get_mut.follows.holds c.extend.new.bytes).3 (search rules)) c.extend.ensures.ok c.extend.ensures.err c.extend.ensures.memory

pub returns-in_ok-put-in-None-clause-files : goal.returns-in_ok-put-in-None-clause-files
returns-in_ok-put-in-None-clause-files c =
    let found = rw c.in-None.is at c.get_mut.ensures.value in
    c.in_ok-put-in-None.ensures.ok
    ∙ ap (λ fs. insert fs c.args.name.now c.args.piece.now) (ap files_of c.get_mut.follows.holds-at-none ∙ c.self.view_is)
    ∙ ap (λ bytes. insert c.args.self.now c.args.name.now (bytes ++ c.args.piece.now)) (sym (absent-shelf c.self.inside.files c.args.self.now c.args.name.now c.self.view_is found))
