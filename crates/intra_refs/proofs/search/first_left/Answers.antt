use Rattle.std.proofs.Common.{ℕ, ◌+◌, ◌*◌, ◌-◌, arith, refl, ap, ◌∙◌, Option, true, false}
use Rattle.h265_model.specs.Plain.{side}
use Rattle.px_plane.specs.Planes.{picture_of}
use Rattle.intra_refs.specs.Neighbours.{neighbour, left_of, AreAll}
use Rattle.intra_refs.proofs.Filling.{left_place, missing_more, first_found}
use Rattle.intra_refs.proofs.search.first_left.Goals as goal

pub returns-then-has_left : goal.returns-then-has_left
returns-then-has_left c =
    let p = picture_of c.args.picture.now in
    let row : ℕ = c.args.block.y + (2 * c.side_of-n.result - 8 * (c.loop-part.part + 1)) in
    let g : ℕ → Option ℕ = λ j. left_of c.args.picture.now.size p c.args.component c.args.block.x c.args.block.y (row + 8 - j) in
    let samples : ℕ → ℕ = λ j. p c.args.component (c.args.block.x - 1) (row + (7 - j)) in
    let all : AreAll true g samples = rw c.if-has_left.true at c.has_left.ensures.same in
    first_found (neighbour c.args.picture.now.size p c.args.component c.args.block) g samples
    0 (8 * c.loop-part.part) (2 * side c.args.block) c.sample.result c.loop-part.invariant all
    (λ j h. ap (neighbour c.args.picture.now.size p c.args.component c.args.block) (omega arith) ∙ left_place c.args.picture.now.size p c.args.component c.args.block c.side_of-n.result c.loop-part.part row j c.side_of-n.ensures.value c.side_of-n.ensures.whole (omega arith) refl h)
    (omega arith) c.sample.ensures

pub loop-part-preserved : goal.loop-part-preserved
loop-part-preserved c =
    let p = picture_of c.args.picture.now in
    let row : ℕ = c.args.block.y + (2 * c.side_of-n.result - 8 * (c.loop-part.part + 1)) in
    let g : ℕ → Option ℕ = λ j. left_of c.args.picture.now.size p c.args.component c.args.block.x c.args.block.y (row + 8 - j) in
    let samples : ℕ → ℕ = λ j. p c.args.component (c.args.block.x - 1) (row + (7 - j)) in
    let none : AreAll false g samples = rw c.if-has_left.false at c.has_left.ensures.same in
    missing_more (neighbour c.args.picture.now.size p c.args.component c.args.block) g samples
    0 (8 * c.loop-part.part) (8 * (c.loop-part.part + 1)) c.loop-part.invariant none
    (λ j h. ap (neighbour c.args.picture.now.size p c.args.component c.args.block) (omega arith) ∙ left_place c.args.picture.now.size p c.args.component c.args.block c.side_of-n.result c.loop-part.part row j c.side_of-n.ensures.value c.side_of-n.ensures.whole (omega arith) refl h)
    (omega arith)
