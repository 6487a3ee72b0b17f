use Rattle.std.proofs.Common.{◌+◌, ◌-◌, ℕ, arith, refl}
use Rattle.std.proofs.lemmas.Bool.{false≢true}
use Rattle.h265_model.specs.Plain.{Picture}
use Rattle.px_plane.specs.Planes.{picture_of}
use Rattle.px_plane.proofs.Blocks.{IsRowCompared, row_compared, rows_same_more, counted_to_first, counted_to_end, block_differs, block_same, counted_at_most}
use Rattle.px_plane.proofs.picture.Picture.block_equal.Goals as goal

pub loop-y-preserved : goal.loop-y-preserved
loop-y-preserved g c =
    let p : Picture = picture_of c.args.self.now in
    let q : Picture = picture_of c.args.other.now in
    let y : ℕ = c.loop-y.y - c.of-left.result.top in
    let n : ℕ = c.of-left.result.right - c.of-left.result.left in
    let front : ℕ = c.equal_front-front.result in
    let row : IsRowCompared p q c.args.rect y front =
    row_compared p q c.args.rect y c.of-left.result.left c.loop-y.y n front c.row_part.result c.row_part-in-loop-y.result (omega arith) (omega arith) (omega arith) c.row_part.ensures c.row_part-in-loop-y.ensures c.equal_front-front.ensures in
    rows_same_more p q c.args.rect y (c.loop-y.y + 1 - c.of-left.result.top) c.args.steps.now c.loop-y.steps _ front c.loop-y.invariant row (omega arith) (omega arith) (omega arith)

pub returns-then-front-n-clause-equal : goal.returns-then-front-n-clause-equal
returns-then-front-n-clause-equal g c =
    let p : Picture = picture_of c.args.self.now in
    let q : Picture = picture_of c.args.other.now in
    let y : ℕ = c.loop-y.y - c.of-left.result.top in
    let n : ℕ = c.of-left.result.right - c.of-left.result.left in
    let front : ℕ = c.equal_front-front.result in
    let row : IsRowCompared p q c.args.rect y front =
    row_compared p q c.args.rect y c.of-left.result.left c.loop-y.y n front c.row_part.result c.row_part-in-loop-y.result (omega arith) (omega arith) (omega arith) c.row_part.ensures c.row_part-in-loop-y.ensures c.equal_front-front.ensures in
    (λ h. absurd (false≢true h), λ block. absurd (block_differs p q c.args.rect y front row (omega arith) (omega arith) block))

pub returns-then-front-n-clause-ticks : goal.returns-then-front-n-clause-ticks
returns-then-front-n-clause-ticks g c =
    let p : Picture = picture_of c.args.self.now in
    let q : Picture = picture_of c.args.other.now in
    let y : ℕ = c.loop-y.y - c.of-left.result.top in
    let n : ℕ = c.of-left.result.right - c.of-left.result.left in
    let front : ℕ = c.equal_front-front.result in
    let row : IsRowCompared p q c.args.rect y front =
    row_compared p q c.args.rect y c.of-left.result.left c.loop-y.y n front c.row_part.result c.row_part-in-loop-y.result (omega arith) (omega arith) (omega arith) c.row_part.ensures c.row_part-in-loop-y.ensures c.equal_front-front.ensures in
    counted_to_first p q c.args.rect y c.args.steps.now c.loop-y.steps c.ticks.new.self front c.loop-y.invariant row (omega arith) (omega arith) c.ticks.ensures

pub returns-then-front-n-clause-at_most : goal.returns-then-front-n-clause-at_most
returns-then-front-n-clause-at_most g c =
    counted_at_most (picture_of c.args.self.now) (picture_of c.args.other.now) c.args.rect c.args.steps.now c.ticks.new.self (returns-then-front-n-clause-ticks g c)

pub returns-clause-equal : goal.returns-clause-equal
returns-clause-equal g c =
    let y : ℕ = c.loop-y.y - c.of-left.result.top in
    (λ h. block_same (picture_of c.args.self.now) (picture_of c.args.other.now) c.args.rect y c.args.steps.now c.loop-y.steps c.loop-y.invariant (omega arith), λ block. refl)

pub returns-clause-ticks : goal.returns-clause-ticks
returns-clause-ticks g c =
    let y : ℕ = c.loop-y.y - c.of-left.result.top in
    counted_to_end (picture_of c.args.self.now) (picture_of c.args.other.now) c.args.rect y c.args.steps.now c.loop-y.steps c.loop-y.invariant (omega arith)

pub returns-clause-at_most : goal.returns-clause-at_most
returns-clause-at_most g c =
    counted_at_most (picture_of c.args.self.now) (picture_of c.args.other.now) c.args.rect c.args.steps.now c.loop-y.steps (returns-clause-ticks g c)
