use Rattle.std.proofs.Common.{◌∙◌, ◌-◌, ap, get_or, not, w16, rules, arith}
use Rattle.std.proofs.lemmas.Int.{to_z-of_z}
use Rattle.h265_model.specs.Residual.{cbf, is_zero, scan, place_at}
use Rattle.residual_code.specs.Parts.{tile_at, tile_levels}
use Rattle.scan_orders.proofs.ScanPlaces.{place_low}
use Rattle.residual_code.proofs.LastLaws.{lead_zero, lead_level, some_last, level_zero, level_not}
use Rattle.residual_code.proofs.blocks.last_level.Goals as goal

pub level_at-requires-clause-column : goal.level_at-requires-clause-column
level_at-requires-clause-column c = (place_low c.args.scan (c.loop-left.left - 1) _ (let f = c.loop-left.invariant.few in omega arith) (ap (λ l. get_or l (c.loop-left.left - 1) (0, 0)) c.places-order.ensures.value)).0

pub level_at-requires-clause-row : goal.level_at-requires-clause-row
level_at-requires-clause-row c = (place_low c.args.scan (c.loop-left.left - 1) _ (let f = c.loop-left.invariant.few in omega arith) (ap (λ l. get_or l (c.loop-left.left - 1) (0, 0)) c.places-order.ensures.value)).1

pub returns-then-is_level-clause-last : goal.returns-then-is_level-clause-last
returns-then-is_level-clause-last c = c.loop-left.invariant.same ∙ lead_level (λ i. tile_at c.args.tile.now (place_at (scan c.args.scan 2) i)) c.loop-left.left (omega arith) (level_not c.level_at.result _ c.is_level.result (c.level_at.ensures ∙ ap (λ l. tile_at c.args.tile.now (get_or l (c.loop-left.left - 1) (0, 0))) c.places-order.ensures.value) (c.is_level.ensures ∙ ap (λ v. not (is_zero v)) (to_z-of_z w16 c.level_at.result (search rules))) c.if-is_level.true)

pub loop-left-preserved : goal.loop-left-preserved
loop-left-preserved c = record {
  few = let f = c.loop-left.invariant.few in omega arith;
  same = c.loop-left.invariant.same ∙ lead_zero (λ i. tile_at c.args.tile.now (place_at (scan c.args.scan 2) i)) c.loop-left.left (omega arith) (level_zero c.level_at.result _ c.is_level.result (c.level_at.ensures ∙ ap (λ l. tile_at c.args.tile.now (get_or l (c.loop-left.left - 1) (0, 0))) c.places-order.ensures.value) (c.is_level.ensures ∙ ap (λ v. not (is_zero v)) (to_z-of_z w16 c.level_at.result (search rules))) c.if-is_level.false);
}

pub unreachable-requires : goal.unreachable-requires
unfolding cbf
unreachable-requires c = some_last (λ i. tile_at c.args.tile.now (place_at (scan c.args.scan 2) i)) (tile_levels c.args.scan c.args.tile.now 16) c.loop-left.left c.loop-left-test.false c.requires.some c.loop-left.invariant.same
