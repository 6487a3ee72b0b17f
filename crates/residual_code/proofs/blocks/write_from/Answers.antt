use Rattle.std.proofs.Common.{◌≡◌, ◌∙◌, ◌<◌, ◌*◌, ◌+◌, ◌++◌, ◌∷◌, [], ap, refl, ℕ, List, get_or, true, false, w16, rules, arith}
use Rattle.std.proofs.lemmas.Int.{to_z-of_z}
use Rattle.bin_items.proofs.Growing.{writes_at_err, front_first, front_then, front_as, writes_then, writes_as}
use Rattle.h265_model.specs.Residual.{cbf, scan, place_at, nonzero, ended_at_zero, without_leading_zeros}
use Rattle.residual_code.specs.Parts.{shape_of, sub_of, sub_levels, tile_at, tile_levels}
use Rattle.scan_orders.proofs.ScanPlaces.{place_low}
use Rattle.residual_code.proofs.FlagLaws.{sub_low}
use Rattle.scan_orders.proofs.MarkLaws.{is_sub}
use Rattle.residual_code.proofs.Sizes.{size_high}
use Rattle.residual_code.proofs.LastLaws.{one_level}
use Rattle.residual_code.proofs.FromLaws.{from_written, inside, place_is, first_mark}
use Rattle.residual_code.proofs.blocks.write_from.Goals as goal

pub overflow_mul-sub : goal.overflow_mul-sub
overflow_mul-sub g c = let at = (is_sub (shape_of c.args.shape) c.args.sub.number c.args.sub.x c.args.sub.y c.requires.shape.low c.requires.shape.high c.requires.place.number c.requires.place.x c.requires.place.y).wide in omega arith

pub overflow_add-sub : goal.overflow_add-sub
overflow_add-sub g c = let at = (is_sub (shape_of c.args.shape) c.args.sub.number c.args.sub.x c.args.sub.y c.requires.shape.low c.requires.shape.high c.requires.place.number c.requires.place.x c.requires.place.y).wide in let p : c.from.result < 4 = rw c.from.ensures (place_low c.args.shape.scan c.last_level-last.result _ c.last_level-last.ensures.within (ap (λ l. get_or l c.last_level-last.result (0, 0)) c.places.ensures.value)).0 in omega arith

pub overflow_mul-sub-2 : goal.overflow_mul-sub-2
overflow_mul-sub-2 g c = let at = (is_sub (shape_of c.args.shape) c.args.sub.number c.args.sub.x c.args.sub.y c.requires.shape.low c.requires.shape.high c.requires.place.number c.requires.place.x c.requires.place.y).tall in omega arith

pub overflow_add-sub-2 : goal.overflow_add-sub-2
overflow_add-sub-2 g c = let at = (is_sub (shape_of c.args.shape) c.args.sub.number c.args.sub.x c.args.sub.y c.requires.shape.low c.requires.shape.high c.requires.place.number c.requires.place.x c.requires.place.y).tall in let p : c.from-2.result < 4 = rw c.from-2.ensures (place_low c.args.shape.scan c.last_level-last.result _ c.last_level-last.ensures.within (ap (λ l. get_or l c.last_level-last.result (0, 0)) c.places.ensures.value)).1 in omega arith

pub write_last-requires-clause-x : goal.write_last-requires-clause-x
write_last-requires-clause-x g c = (inside c.args.shape.log2 c.args.sub.x c.from.result c.requires.shape.low c.requires.shape.high (sub_low c.args.shape c.args.sub c.requires.shape c.requires.place).0 (rw c.from.ensures (place_low c.args.shape.scan c.last_level-last.result _ c.last_level-last.ensures.within (ap (λ l. get_or l c.last_level-last.result (0, 0)) c.places.ensures.value)).0))

pub write_last-requires-clause-y : goal.write_last-requires-clause-y
write_last-requires-clause-y g c = (inside c.args.shape.log2 c.args.sub.y c.from-2.result c.requires.shape.low c.requires.shape.high (sub_low c.args.shape c.args.sub c.requires.shape c.requires.place).1 (rw c.from-2.ensures (place_low c.args.shape.scan c.last_level-last.result _ c.last_level-last.ensures.within (ap (λ l. get_or l c.last_level-last.result (0, 0)) c.places.ensures.value)).1))

pub level_at-requires-clause-column : goal.level_at-requires-clause-column
level_at-requires-clause-column g c = (place_low c.args.shape.scan c.last_level-last.result _ c.last_level-last.ensures.within (ap (λ l. get_or l c.last_level-last.result (0, 0)) c.places.ensures.value)).0

pub level_at-requires-clause-row : goal.level_at-requires-clause-row
level_at-requires-clause-row g c = (place_low c.args.shape.scan c.last_level-last.result _ c.last_level-last.ensures.within (ap (λ l. get_or l c.last_level-last.result (0, 0)) c.places.ensures.value)).1

pub write_levels-requires-clause-value_bounds : goal.write_levels-requires-clause-value_bounds
write_levels-requires-clause-value_bounds g c = let first : c.push.new.self.items ≡ (tile_at c.args.tile.now (place_at (scan c.args.shape.scan 2) c.last_level-last.result)) ∷ [] = ((rw c.new-values.ensures at c.push.ensures.items) ∙ (ap (λ w. w ∷ []) (to_z-of_z w16 c.level_at.result (search rules) ∙ (c.level_at.ensures ∙ ap (λ l. tile_at c.args.tile.now (get_or l c.last_level-last.result (0, 0))) c.places.ensures.value)))) in rw first (size_high c.args.tile.now _ c.requires.tile_bounds, tt)

pub write_levels-requires-clause-nonzero : goal.write_levels-requires-clause-nonzero
unfolding cbf
write_levels-requires-clause-nonzero g c = let first : c.push.new.self.items ≡ (tile_at c.args.tile.now (place_at (scan c.args.shape.scan 2) c.last_level-last.result)) ∷ [] = ((rw c.new-values.ensures at c.push.ensures.items) ∙ (ap (λ w. w ∷ []) (to_z-of_z w16 c.level_at.result (search rules) ∙ (c.level_at.ensures ∙ ap (λ l. tile_at c.args.tile.now (get_or l c.last_level-last.result (0, 0))) c.places.ensures.value)))) in rw first (one_level _ _ (tile_levels c.args.shape.scan c.args.tile.now 16) c.requires.some c.last_level-last.ensures.last)

pub mark_of-requires-clause-x : goal.mark_of-requires-clause-x
mark_of-requires-clause-x g c = let at = (is_sub (shape_of c.args.shape) c.args.sub.number c.args.sub.x c.args.sub.y c.requires.shape.low c.requires.shape.high c.requires.place.number c.requires.place.x c.requires.place.y).wide in omega arith

pub mark_of-requires-clause-y : goal.mark_of-requires-clause-y
mark_of-requires-clause-y g c = let at = (is_sub (shape_of c.args.shape) c.args.sub.number c.args.sub.x c.args.sub.y c.requires.shape.low c.requires.shape.high c.requires.place.number c.requires.place.x c.requires.place.y).tall in omega arith

pub bounds-marks-mark_of : goal.bounds-marks-mark_of
bounds-marks-mark_of g c = let at = (is_sub (shape_of c.args.shape) c.args.sub.number c.args.sub.x c.args.sub.y c.requires.shape.low c.requires.shape.high c.requires.place.number c.requires.place.x c.requires.place.y).wide in let to = (is_sub (shape_of c.args.shape) c.args.sub.number c.args.sub.x c.args.sub.y c.requires.shape.low c.requires.shape.high c.requires.place.number c.requires.place.x c.requires.place.y).tall in rw c.mark_of.ensures (omega arith)

pub returns-in_err-write_last-clause-taken : goal.returns-in_err-write_last-clause-taken
returns-in_err-write_last-clause-taken g c = writes_at_err _ _ _ _ _ c.from_residual.ensures.1 (front_as _ _ _ _ (from_written (shape_of c.args.shape) (sub_levels (shape_of c.args.shape) c.args.levels.now) (sub_of c.args.sub) (4 * c.args.sub.x + c.from.result, 4 * c.args.sub.y + c.from-2.result) c.args.sub.number c.last_level-last.result (tile_at c.args.tile.now (place_at (scan c.args.shape.scan 2) c.last_level-last.result)) c.args.tile.now (without_leading_zeros (tile_levels c.args.shape.scan c.args.tile.now 16)) ((tile_at c.args.tile.now (place_at (scan c.args.shape.scan 2) c.last_level-last.result)) ∷ []) (ended_at_zero false (((tile_at c.args.tile.now (place_at (scan c.args.shape.scan 2) c.last_level-last.result)) ∷ []) ++ nonzero (tile_levels c.args.shape.scan c.args.tile.now c.last_level-last.result))) c.last_level-last.ensures.last refl c.requires.known (place_is c.args.shape c.args.sub c.last_level-last.result c.from.result c.from-2.result c.requires.place (c.from.ensures ∙ ap (λ (l : List (ℕ × ℕ)). (get_or l c.last_level-last.result (0, 0)).0) c.places.ensures.value) (c.from-2.ensures ∙ ap (λ (l : List (ℕ × ℕ)). (get_or l c.last_level-last.result (0, 0)).1) c.places.ensures.value)) refl) (front_first _ _ _ _ c.in_err-write_last.ensures.taken))

pub returns-in_err-write_levels-clause-taken : goal.returns-in_err-write_levels-clause-taken
returns-in_err-write_levels-clause-taken g c = let first : c.push.new.self.items ≡ (tile_at c.args.tile.now (place_at (scan c.args.shape.scan 2) c.last_level-last.result)) ∷ [] = ((rw c.new-values.ensures at c.push.ensures.items) ∙ (ap (λ w. w ∷ []) (to_z-of_z w16 c.level_at.result (search rules) ∙ (c.level_at.ensures ∙ ap (λ l. tile_at c.args.tile.now (get_or l c.last_level-last.result (0, 0))) c.places.ensures.value)))) in writes_at_err _ _ _ _ _ c.from_residual-in_err-write_levels.ensures.1 (front_as _ _ _ _ (from_written (shape_of c.args.shape) (sub_levels (shape_of c.args.shape) c.args.levels.now) (sub_of c.args.sub) (4 * c.args.sub.x + c.from.result, 4 * c.args.sub.y + c.from-2.result) c.args.sub.number c.last_level-last.result (tile_at c.args.tile.now (place_at (scan c.args.shape.scan 2) c.last_level-last.result)) c.args.tile.now (without_leading_zeros (tile_levels c.args.shape.scan c.args.tile.now 16)) c.push.new.self.items (ended_at_zero false (c.push.new.self.items ++ nonzero (tile_levels c.args.shape.scan c.args.tile.now c.last_level-last.result))) c.last_level-last.ensures.last first c.requires.known (place_is c.args.shape c.args.sub c.last_level-last.result c.from.result c.from-2.result c.requires.place (c.from.ensures ∙ ap (λ (l : List (ℕ × ℕ)). (get_or l c.last_level-last.result (0, 0)).0) c.places.ensures.value) (c.from-2.ensures ∙ ap (λ (l : List (ℕ × ℕ)). (get_or l c.last_level-last.result (0, 0)).1) c.places.ensures.value)) refl) (front_then _ _ _ _ _ c.in_ok-write_last.ensures.taken (front_first _ _ _ _ c.in_err-write_levels.ensures.taken)))

pub returns-clause-taken : goal.returns-clause-taken
returns-clause-taken g c = let first : c.push.new.self.items ≡ (tile_at c.args.tile.now (place_at (scan c.args.shape.scan 2) c.last_level-last.result)) ∷ [] = ((rw c.new-values.ensures at c.push.ensures.items) ∙ (ap (λ w. w ∷ []) (to_z-of_z w16 c.level_at.result (search rules) ∙ (c.level_at.ensures ∙ ap (λ l. tile_at c.args.tile.now (get_or l c.last_level-last.result (0, 0))) c.places.ensures.value)))) in writes_as _ _ _ _ _ (from_written (shape_of c.args.shape) (sub_levels (shape_of c.args.shape) c.args.levels.now) (sub_of c.args.sub) (4 * c.args.sub.x + c.from.result, 4 * c.args.sub.y + c.from-2.result) c.args.sub.number c.last_level-last.result (tile_at c.args.tile.now (place_at (scan c.args.shape.scan 2) c.last_level-last.result)) c.args.tile.now (without_leading_zeros (tile_levels c.args.shape.scan c.args.tile.now 16)) c.push.new.self.items c.write_levels.new.ended c.last_level-last.ensures.last first c.requires.known (place_is c.args.shape c.args.sub c.last_level-last.result c.from.result c.from-2.result c.requires.place (c.from.ensures ∙ ap (λ (l : List (ℕ × ℕ)). (get_or l c.last_level-last.result (0, 0)).0) c.places.ensures.value) (c.from-2.ensures ∙ ap (λ (l : List (ℕ × ℕ)). (get_or l c.last_level-last.result (0, 0)).1) c.places.ensures.value)) c.in_ok-write_levels.ensures.ended) (writes_then _ _ _ _ _ _ c.in_ok-write_last.ensures.taken (writes_then _ _ _ _ _ _ c.in_ok-write_levels.ensures.taken (c.write_subs.ensures.taken (true ∷ []) (rw c.mark_of.ensures (first_mark c.args.shape c.args.sub c.requires.shape c.requires.place)))))
