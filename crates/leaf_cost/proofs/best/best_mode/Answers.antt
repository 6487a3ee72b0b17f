use Rattle.std.proofs.Common.{◌≡◌, ◌≤◌, length, get_or, arith, sym, ◌∙◌}
use Rattle.std.proofs.lemmas.Bool.{eqb-true}
use Rattle.h265_model.specs.Plain.{leaf_with}
use Rattle.h265_model.specs.Choice.{intra_cost}
use Rattle.h265_model.specs.declared.leaf.Kind.TheVariants.{Intra}
use Rattle.px_plane.specs.Planes.{picture_of}
use Rattle.leaf_cost.specs.Costs.{block_cost}
use Rattle.leaf_cost.proofs.Picks.{best_same}
use Rattle.leaf_cost.proofs.Sums.{cost_is, cost_least}
use Rattle.leaf_cost.proofs.best.best_mode.Goals as goal
use Rattle.leaf_cost.proofs.best.best_mode.Goals.{then-limit-le8-via-then-limit-le8, then-limit-le8-via-else-limit-le8+then-is_empty}

pub returns-then-limit-le8 : goal.returns-then-limit-le8
returns-then-limit-le8 c = elim c.then-limit-le8.branch [
  | then-limit-le8-via-then-limit-le8 w ↦ record {
    each = λ i h.
        let least : 8 ≤ intra_cost c.args.picture.now.size (picture_of c.args.picture.now) (leaf_with c.args.block (Intra (get_or c.args.modes.now i 0))) =
        cost_least c.args.picture.now.size (picture_of c.args.picture.now) c.args.block (get_or c.args.modes.now i 0) in
        let low : c.args.limit ≤ 8 = w.if-limit-le8.true in
        omega arith;
  }
  | then-limit-le8-via-else-limit-le8+then-is_empty w ↦ record { each = λ i h. let none : length c.args.modes.now ≡ 0 = eqb-true _ _ (sym w.is_empty.ensures ∙ w.if-is_empty.true) in absurd (omega arith) }
]

pub returns : goal.returns
returns c =
    best_same c.best_of.result c.args.limit (λ mode. block_cost (record { g = c.plane_block.result; b = c.plane_block-2.result; r = c.plane_block-3.result }) mode c.args.block.log2)
    (λ mode. intra_cost c.args.picture.now.size (picture_of c.args.picture.now) (leaf_with c.args.block (Intra mode))) c.args.modes.now
    (λ mode. cost_is (record { g = c.plane_block.result; b = c.plane_block-2.result; r = c.plane_block-3.result }) c.args.picture.now.size (picture_of c.args.picture.now) c.args.block mode
    c.plane_block.ensures c.plane_block-2.ensures c.plane_block-3.ensures)
    c.best_of.ensures
