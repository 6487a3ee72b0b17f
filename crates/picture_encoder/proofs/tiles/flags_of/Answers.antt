use Rattle.std.proofs.Common.{◌≡◌, ◌+◌, ◌*◌, ◌/◌, get_or, ap, ◌∙◌, rules, arith}
use Rattle.picture_encoder.specs.Planning.{raised}
use Rattle.picture_encoder.proofs.Counts.{none_raised, raised_set}
use Rattle.picture_encoder.proofs.tiles.flags_of.Goals as goal

pub loop-tile-init : goal.loop-tile-init
loop-tile-init c =
    let none : raised c.in_ok-flags.flags.items ≡ 0 = ap raised (c.in_ok-flags.ensures.items_if_clones_equal (λ y e. e)) ∙ none_raised ((c.w.result + 31) / 32 * ((c.h.result + 31) / 32)) in
    record { few = omega arith; listed = λ k less. absurd (omega arith) }

pub loop-tile-preserved : goal.loop-tile-preserved
loop-tile-preserved c =
    record {
      few = (let before = c.loop-tile.invariant.few in omega (arith, raised_set c.loop-tile.flags.items (get_or c.args.tiles.now c.loop-tile.tile-index 0)));
      listed = search rules;
    }
