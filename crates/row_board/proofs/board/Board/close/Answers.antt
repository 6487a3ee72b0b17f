use Rattle.std.proofs.Common.{ap, ◌∙◌, subst}
use Rattle.row_board.specs.Rows.{job_fits, AllClaimed}
use Rattle.row_board.proofs.Sharing.{closes}
use Rattle.row_board.proofs.board.Board.close.Goals as goal

pub returns : goal.returns
returns g c = record {
  all = λ met.
      let knows = ap (λ p. p.knows) c.seat.view_is in
      subst AllClaimed knows
      (closes (job_fits g.J.RowJob.plan g.J.RowJob.begun) _ _ _ _ c.close_with-closed.ensures.values.2 (ap (λ v. v.weight) knows ∙ c.requires.whole) (ap (λ v. v.met_none) knows ∙ met));
}
