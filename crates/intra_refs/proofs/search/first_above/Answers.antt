use Rattle.std.proofs.Common.{◌≡◌, ℕ, ◌+◌, ◌*◌, ◌-◌, arith, refl, Option, true, false}
use Rattle.h265_model.specs.Plain.{side}
use Rattle.px_plane.specs.Planes.{picture_of}
use Rattle.intra_refs.specs.Neighbours.{neighbour, above, AreAll}
use Rattle.intra_refs.proofs.Filling.{above_place, missing_more, first_found}
use Rattle.intra_refs.proofs.search.first_above.Goals as goal

pub returns-then-has_above : goal.returns-then-has_above
returns-then-has_above c =
    let p = picture_of c.args.picture.now in
    let column : ℕ = c.args.block.x + 8 * c.loop-part.part in
    let g : ℕ → Option ℕ = λ j. above c.args.picture.now.size p c.args.component c.args.block.x c.args.block.y (column + j + 1) in
    let samples : ℕ → ℕ = λ j. p c.args.component (column + j) (c.args.block.y - 1) in
    let all : AreAll true g samples = rw c.if-has_above.true at c.has_above.ensures.same in
    let first : column + 0 ≡ column = omega arith in
    first_found (neighbour c.args.picture.now.size p c.args.component c.args.block) g samples
    (2 * side c.args.block + 1) (8 * c.loop-part.part) (2 * side c.args.block) c.sample.result c.loop-part.invariant all
    (λ j h. above_place c.args.picture.now.size p c.args.component c.args.block c.loop-part.part column j refl h)
    (omega arith) (rw first c.sample.ensures)

pub loop-part-preserved : goal.loop-part-preserved
loop-part-preserved c =
    let p = picture_of c.args.picture.now in
    let column : ℕ = c.args.block.x + 8 * c.loop-part.part in
    let g : ℕ → Option ℕ = λ j. above c.args.picture.now.size p c.args.component c.args.block.x c.args.block.y (column + j + 1) in
    let samples : ℕ → ℕ = λ j. p c.args.component (column + j) (c.args.block.y - 1) in
    let none : AreAll false g samples = rw c.if-has_above.false at c.has_above.ensures.same in
    missing_more (neighbour c.args.picture.now.size p c.args.component c.args.block) g samples
    (2 * side c.args.block + 1) (8 * c.loop-part.part) (8 * (c.loop-part.part + 1)) c.loop-part.invariant none
    (λ j h. above_place c.args.picture.now.size p c.args.component c.args.block c.loop-part.part column j refl h)
    (omega arith)
