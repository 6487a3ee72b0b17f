use Rattle.std.proofs.Common.{rules, ◌≤◌, sym, ap, subst, ℕ}
use Rattle.row_board.specs.Rows.{job_fits}
use Rattle.row_board.proofs.Sharing.{splits}
use Rattle.row_board.proofs.board.Board.split.Goals as goal

pub split_seat-other-requires : goal.split_seat-other-requires
split_seat-other-requires g c = (search rules, search rules, splits (job_fits g.J.RowJob.plan g.J.RowJob.begun) _ _ (subst (λ (n : ℕ). 2 ≤ n) (sym (ap (λ p. p.knows.weight) c.seat.view_is)) c.requires.weight))
