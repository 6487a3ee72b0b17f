use Rattle.std.proofs.Common.{◌+◌, ◌-◌, arith}
use Rattle.frame_paints.proofs.Parts.{samples_same, row_between}
use Rattle.frame_paints.proofs.compare.last_column.Goals as goal

pub returns-clause-same : goal.returns-clause-same
returns-clause-same c =
    let p = c.args.a.now in
    let q = c.args.b.now in
    let left = c.args.left in
    let n = c.args.right - left in
    let low = c.max-2.result in
    row_between p q (left + low) c.args.right c.args.y
    (λ x hl hr. samples_same p q 0 left c.args.y n low n c.row.result.now c.row-2.result.now c.row.ensures.samples c.row-2.ensures.samples (omega arith) (λ i h k. c.same_back-green.ensures.same i (omega arith) (omega arith)) x hl (omega arith))
    (λ x hl hr. samples_same p q 1 left c.args.y n low n c.row-3.result.now c.row-4.result.now c.row-3.ensures.samples c.row-4.ensures.samples (omega arith) (λ i h k. c.same_back-blue.ensures.same i (omega arith) (omega arith)) x hl (omega arith))
    (λ x hl hr. samples_same p q 2 left c.args.y n low n c.row-5.result.now c.row-6.result.now c.row-5.ensures.samples c.row-6.ensures.samples (omega arith) (λ i h k. c.same_back-red.ensures.same i (omega arith) (omega arith)) x hl (omega arith))
