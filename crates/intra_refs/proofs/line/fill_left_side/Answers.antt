use Rattle.std.proofs.Common.{◌≡◌, ℕ, ◌+◌, ◌*◌, ◌-◌, ◌<◌, arith, refl, sym, Option, ap, ◌∙◌}
use Rattle.px_plane.specs.Planes.{picture_of}
use Rattle.intra_refs.specs.Neighbours.{neighbour, left_of, carried}
use Rattle.intra_refs.proofs.Filling.{left_place, part_filled, part_carried}
use Rattle.intra_refs.proofs.line.fill_left_side.Goals as goal

pub loop-part-preserved : goal.loop-part-preserved
loop-part-preserved c =
    let p = picture_of c.args.picture.now in
    let row : ℕ = c.args.block.y + (2 * c.side_of-n.result - 8 * (c.loop-part.part + 1)) in
    let f : ℕ → Option ℕ = neighbour c.args.picture.now.size p c.args.component c.args.block in
    let g : ℕ → Option ℕ = λ j. left_of c.args.picture.now.size p c.args.component c.args.block.x c.args.block.y (row + 8 - j) in
    let same : (j : ℕ) → j < 8 → g j ≡ f (8 * c.loop-part.part + j) =
    λ j h. sym (left_place c.args.picture.now.size p c.args.component c.args.block c.side_of-n.result c.loop-part.part row j c.side_of-n.ensures.value c.side_of-n.ensures.whole (omega arith) refl h) in
    let next : 8 * (c.loop-part.part + 1) ≡ 8 * c.loop-part.part + 8 = omega arith in
    record {
      filled = part_filled c.loop-part.line c.fill_left-before.new.out f g c.args.first c.loop-part.before (8 * c.loop-part.part) _ (8 * (c.loop-part.part + 1))
          c.loop-part.invariant.filled c.loop-part.invariant.carried same c.fill_left-before.ensures.filled (omega arith) (omega arith) next;
      carried = part_carried f g c.args.first c.loop-part.before (8 * c.loop-part.part) c.fill_left-before.result c.loop-part.invariant.carried same c.fill_left-before.ensures.carried
          ∙ ap (carried c.args.first f) (sym next);
    }
