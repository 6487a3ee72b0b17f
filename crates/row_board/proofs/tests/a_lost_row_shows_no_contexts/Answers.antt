use Rattle.std.proofs.Common.{rules, arith, refl, ◌≡◌, ap, ◌∙◌}
use Rattle.row_board.specs.declared.knowledge.Stage.TheVariants.{Lost}
use Rattle.row_board.specs.declared.knowledge.Knowledge.{Knowledge}
use Rattle.row_board.specs.Rows.{claim_of, at_stage, opened}
use Rattle.row_board.proofs.Claims.{claim-change-other}
use Rattle.row_board.proofs.TwoRows.{last_claim, earlier_claim}
use Rattle.row_board.proofs.tests.a_lost_row_shows_no_contexts.Goals as goal

pub lose-requires-clause-mine : goal.lose-requires-clause-mine
lose-requires-clause-mine g c κs =
    let zero : c.in-Some.first ≡ 0 = search rules in
    let one : c.in-Some-claim.second ≡ 1 = search rules in
    (opened c.in-Some.first, earlier_claim c.in-Ok.seat.knows c.claim.new.seat.knows c.claim-2.new.seat.knows c.in-Some.first c.in-Some-claim.second c.in-Some.ensures.claimed c.in-Some-claim.ensures.claimed (λ e. omega arith), refl)

pub try_sync-requires-clause-mine : goal.try_sync-requires-clause-mine
try_sync-requires-clause-mine g c κs =
    let zero : c.in-Some.first ≡ 0 = search rules in
    let one : c.in-Some-claim.second ≡ 1 = search rules in
    let b = c.in-Some-claim.second in (
      opened b,
      ap (λ (v : Knowledge). claim_of b v.rows) c.lose.ensures.lost
          ∙ (claim-change-other (at_stage Lost) (λ _. refl) b c.in-Some.first c.claim-2.new.seat.knows.rows (λ e. omega arith) ∙ last_claim c.claim.new.seat.knows c.claim-2.new.seat.knows b c.in-Some-claim.ensures.claimed),
      refl,
    )
