use Rattle.std.proofs.Common.{take, drop, sym, take-append-drop}
use Rattle.edges.proofs.memory_shelf.MemoryShelfShelf.append.Goals as goal

-- the part is the front of the piece
pub returns-clause-files : goal.returns-clause-files
returns-clause-files c =
    (take c.min-end.result c.args.piece.now, (drop c.min-end.result c.args.piece.now, sym (take-append-drop c.min-end.result c.args.piece.now)), rw (← c.self.view_is) c.in_ok-add-2.ensures.ok)
