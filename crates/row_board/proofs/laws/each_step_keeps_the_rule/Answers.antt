use Rattle.std.proofs.Common.{refl}
use Rattle.row_board.specs.Rows.{job_fits}
use Rattle.row_board.proofs.Keeps.{claims_next, lays, lays_taken, picks, publishes, loses, syncs}
use Rattle.row_board.proofs.Sharing.{splits, joins}
use Rattle.row_board.proofs.Opening.{opens}
use Rattle.row_board.proofs.laws.each_step_keeps_the_rule.Goals as goal

pub returns-clause-first : goal.returns-clause-first
returns-clause-first g c = λ jobs some_job few fresh widths. opens g.J.RowJob.plan g.J.RowJob.begun (g.met.J.RowJob g.world.𝓛 g.world.𝓜 g.world.𝓡 ((λ s x. x), (λ x. x), (λ x. x), λ x. x)).hands_on jobs _ refl some_job few fresh widths

pub returns-clause-claim : goal.returns-clause-claim
returns-clause-claim g c = claims_next (job_fits g.J.RowJob.plan g.J.RowJob.begun)

pub returns-clause-lay_down : goal.returns-clause-lay_down
returns-clause-lay_down g c = lays (job_fits g.J.RowJob.plan g.J.RowJob.begun)

pub returns-clause-lay_above : goal.returns-clause-lay_above
returns-clause-lay_above g c = lays_taken (job_fits g.J.RowJob.plan g.J.RowJob.begun)

pub returns-clause-pick_up : goal.returns-clause-pick_up
returns-clause-pick_up g c = picks (job_fits g.J.RowJob.plan g.J.RowJob.begun)

pub returns-clause-publish : goal.returns-clause-publish
returns-clause-publish g c = publishes (job_fits g.J.RowJob.plan g.J.RowJob.begun)

pub returns-clause-lose : goal.returns-clause-lose
returns-clause-lose g c = loses (job_fits g.J.RowJob.plan g.J.RowJob.begun)

pub returns-clause-take : goal.returns-clause-take
returns-clause-take g c = syncs (job_fits g.J.RowJob.plan g.J.RowJob.begun)

pub returns-clause-split : goal.returns-clause-split
returns-clause-split g c = splits (job_fits g.J.RowJob.plan g.J.RowJob.begun)

pub returns-clause-join : goal.returns-clause-join
returns-clause-join g c = joins (job_fits g.J.RowJob.plan g.J.RowJob.begun)
