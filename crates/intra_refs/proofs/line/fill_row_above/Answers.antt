use Rattle.std.proofs.Common.{◌≡◌, ℕ, ◌+◌, ◌*◌, ◌<◌, arith, refl, sym, Option, ap, ◌∙◌}
use Rattle.h265_model.specs.Plain.{side}
use Rattle.px_plane.specs.Planes.{picture_of}
use Rattle.intra_refs.specs.Neighbours.{neighbour, above, carried}
use Rattle.intra_refs.proofs.Filling.{above_place, part_filled, part_carried}
use Rattle.intra_refs.proofs.line.fill_row_above.Goals as goal

pub loop-part-preserved : goal.loop-part-preserved
loop-part-preserved c =
    let p = picture_of c.args.picture.now in
    let column : ℕ = c.args.block.x + 8 * c.loop-part.part in
    let f : ℕ → Option ℕ = λ i. neighbour c.args.picture.now.size p c.args.component c.args.block (2 * side c.args.block + 1 + i) in
    let g : ℕ → Option ℕ = λ j. above c.args.picture.now.size p c.args.component c.args.block.x c.args.block.y (column + j + 1) in
    let same : (j : ℕ) → j < 8 → g j ≡ f (8 * c.loop-part.part + j) =
    λ j h. sym (above_place c.args.picture.now.size p c.args.component c.args.block c.loop-part.part column j refl h) in
    let next : 8 * (c.loop-part.part + 1) ≡ 8 * c.loop-part.part + 8 = omega arith in
    record {
      filled = part_filled c.loop-part.line c.fill_above-before.new.out f g c.args.first c.loop-part.before (8 * c.loop-part.part) _ (8 * (c.loop-part.part + 1))
          c.loop-part.invariant.filled c.loop-part.invariant.carried same c.fill_above-before.ensures.filled (omega arith) (omega arith) next;
      carried = part_carried f g c.args.first c.loop-part.before (8 * c.loop-part.part) c.fill_above-before.result c.loop-part.invariant.carried same c.fill_above-before.ensures.carried
          ∙ ap (carried c.args.first f) (sym next);
    }
