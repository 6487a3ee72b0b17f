use Rattle.std.proofs.Common.{rules, arith, refl, ◌≡◌, ap, ◌∙◌}
use Rattle.row_board.specs.declared.knowledge.Stage.TheVariants.{Published}
use Rattle.row_board.specs.declared.knowledge.Knowledge.{Knowledge}
use Rattle.row_board.specs.Rows.{claim_of, at_stage, opened}
use Rattle.row_board.proofs.Claims.{claim-change-other}
use Rattle.row_board.proofs.TwoRows.{last_claim, earlier_claim, missed_rows}
use Rattle.row_board.proofs.tests.contexts_go_from_row_to_row.Goals as goal

pub try_sync-requires-clause-mine : goal.try_sync-requires-clause-mine
try_sync-requires-clause-mine g c κs = (opened c.in-Some-claim.second, last_claim c.claim.new.seat.knows c.claim-2.new.seat.knows c.in-Some-claim.second c.in-Some-claim.ensures.claimed, refl)

pub publish-requires-clause-mine : goal.publish-requires-clause-mine
publish-requires-clause-mine g c κs =
    let zero : c.in-Some.first ≡ 0 = search rules in
    let one : c.in-Some-claim.second ≡ 1 = search rules in
    let a = c.in-Some.first in (
      opened a,
      ap (claim_of a) (missed_rows c.claim-2.new.seat.knows c.try_sync.new.seat.knows c.in-Some-claim.second c.in-Err.missed c.in-Err.ensures.missed) ∙ earlier_claim c.in-Ok.seat.knows c.claim.new.seat.knows c.claim-2.new.seat.knows a c.in-Some-claim.second c.in-Some.ensures.claimed c.in-Some-claim.ensures.claimed (λ e. omega arith),
      refl,
    )

pub try_sync-requires-2-clause-mine : goal.try_sync-requires-2-clause-mine
try_sync-requires-2-clause-mine g c κs =
    let zero : c.in-Some.first ≡ 0 = search rules in
    let one : c.in-Some-claim.second ≡ 1 = search rules in
    let b = c.in-Some-claim.second in (
      opened b,
      ap (λ (v : Knowledge). claim_of b v.rows) c.publish.ensures.shown
          ∙ (claim-change-other (at_stage Published) (λ _. refl) b c.in-Some.first c.try_sync.new.seat.knows.rows (λ e. omega arith)
          ∙ (ap (claim_of b) (missed_rows c.claim-2.new.seat.knows c.try_sync.new.seat.knows c.in-Some-claim.second c.in-Err.missed c.in-Err.ensures.missed) ∙ last_claim c.claim.new.seat.knows c.claim-2.new.seat.knows b c.in-Some-claim.ensures.claimed)),
      refl,
    )
