use Rattle.std.proofs.Common.{◌∙◌}
use Rattle.row_workers.proofs.Claiming.{claimed_same}
use Rattle.row_workers.proofs.Gathering.{one_more}
use Rattle.row_workers.proofs.at_once.work.Goals as goal

pub loop-preserved : goal.loop-preserved
loop-preserved g c =
    let at = c.loop.invariant in
    let claims = c.in-Some-claim.ensures.claimed in
    let kept = c.code_claimed.ensures.kept in
    let same = claimed_same c.loop.worker.seat.knows c.claim.new.seat.knows c.code_claimed.new.worker.seat.knows c.in-Some-claim.row claims kept.same in
    record {
      can_next = tt;
      is_finite = tt;
      table = c.code_claimed.ensures.board ∙ (c.in-Some-claim.ensures.board ∙ at.table);
      weight = same.weight ∙ at.weight;
      width = same.width ∙ at.width;
      want = same.want ∙ at.want;
      give = same.give ∙ at.give;
      goes_on = same.met_none ∙ at.goes_on;
      coded = λ whole. one_more c.loop.worker.seat.knows c.claim.new.seat.knows c.code_claimed.new.worker.seat.knows c.in-Some-claim.row c.loop.worker.rows.items c.code_claimed.new.worker.rows.items
          (at.coded (c.code_claimed.ensures.failed whole)) claims c.in-Some-claim.ensures.inside kept (c.code_claimed.ensures.coded whole);
    }
