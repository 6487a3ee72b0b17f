use Rattle.std.proofs.Common.{rules}
use Rattle.row_board.specs.Rows.{job_fits}
use Rattle.row_board.proofs.Sharing.{joins}
use Rattle.row_board.proofs.board.Board.join.Goals as goal

pub join_seat-requires : goal.join_seat-requires
join_seat-requires g c = (search rules, search rules, c.other.invariant.bare, search rules, joins (job_fits g.J.RowJob.plan g.J.RowJob.begun) _ _ _ _ c.one.invariant.live c.other.invariant.live c.one.invariant.idle c.other.invariant.idle)
