use Rattle.std.proofs.Common.{arith, refl, ap, ◌∙◌}
use Rattle.row_board.specs.Rows.{claim_of, opened, in_sync}
use Rattle.row_board.specs.Standing.{Standing}
use Rattle.row_board.proofs.Claims.{claim-change-same}
use Rattle.row_board.proofs.tests.pass_on.Goals.{then-number-eq0, else-number-eq0+in_ok-wait_for_above}
use Rattle.row_board.proofs.tests.pass_on.Goals as goal

pub publish-requires-clause-mine : goal.publish-requires-clause-mine
publish-requires-clause-mine g c κs within =
    let r = c.args.row.now in
    elim c.if-number-eq0.branch [
      | then-number-eq0 w ↦ (opened r, ap (λ (s : Standing). claim_of r s.knows.rows) w.seat-is ∙ c.requires.mine, refl)
      | else-number-eq0+in_ok-wait_for_above w ↦ (
        in_sync (opened r),
        ap (λ (s : Standing). claim_of r s.knows.rows) w.seat-is
            ∙ (ap (claim_of r) w.in_ok-wait_for_above.ensures.some.1 ∙ claim-change-same in_sync (λ _. refl) r (opened r) c.args.seat.now.knows.rows c.requires.mine),
        refl,
      )
    ]

pub publish-requires-clause-synced : goal.publish-requires-clause-synced
publish-requires-clause-synced g c κs within = λ below.
    let r = c.args.row.now in
    elim c.if-number-eq0.branch [
      | then-number-eq0 w ↦ absurd (let zero = w.if-number-eq0.true in let is = c.number.ensures in omega arith)
      | else-number-eq0+in_ok-wait_for_above w ↦ (
        in_sync (opened r),
        ap (λ (s : Standing). claim_of r s.knows.rows) w.seat-is
            ∙ (ap (claim_of r) w.in_ok-wait_for_above.ensures.some.1 ∙ claim-change-same in_sync (λ _. refl) r (opened r) c.args.seat.now.knows.rows c.requires.mine),
        refl,
      )
    ]
