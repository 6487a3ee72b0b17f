use Rattle.std.proofs.Common.{◌≡◌, map}
use Rattle.row_board.specs.declared.piece.Piece.TheVariants.{Job}
use Rattle.row_board.proofs.board.lay_out.Given as goal

abbrev pub invariant-loop-job : goal.invariant-loop-job
invariant-loop-job g l =
    (goal.iterator-loop-job g).can_next l.job-iterator × (goal.iterator-loop-job g).is_finite l.job-iterator × (l.slots.items ≡ map Job l.yielded)
