use Rattle.std.proofs.Common.{◌∙◌, ap, ◌++◌, ◌∷◌, [], get_or, not, w16, rules}
use Rattle.std.proofs.lemmas.Int.{to_z-of_z}
use Rattle.bin_items.proofs.Growing.{writes_at_err, front_as, grew_as}
use Rattle.h265_model.specs.Residual.{nonzero, is_zero}
use Rattle.residual_code.specs.Parts.{tile_at}
use Rattle.scan_orders.proofs.ScanPlaces.{place_low}
use Rattle.residual_code.proofs.FlagLaws.{part_is}
use Rattle.residual_code.proofs.flags.write_flag.Goals as goal

pub level_at-level-requires-clause-column : goal.level_at-level-requires-clause-column
level_at-level-requires-clause-column g c = (place_low c.args.shape.scan c.args.number _ c.requires.number (ap (λ l. get_or l c.args.number (0, 0)) c.places.ensures.value)).0

pub level_at-level-requires-clause-row : goal.level_at-level-requires-clause-row
level_at-level-requires-clause-row g c = (place_low c.args.shape.scan c.args.number _ c.requires.number (ap (λ l. get_or l c.args.number (0, 0)) c.places.ensures.value)).1

pub write_bin-requires-clause-column : goal.write_bin-requires-clause-column
write_bin-requires-clause-column g c = (place_low c.args.shape.scan c.args.number _ c.requires.number (ap (λ l. get_or l c.args.number (0, 0)) c.places.ensures.value)).0

pub write_bin-requires-clause-row : goal.write_bin-requires-clause-row
write_bin-requires-clause-row g c = (place_low c.args.shape.scan c.args.number _ c.requires.number (ap (λ l. get_or l c.args.number (0, 0)) c.places.ensures.value)).1

pub returns-in_err-write_bin-clause-taken : goal.returns-in_err-write_bin-clause-taken
returns-in_err-write_bin-clause-taken g c =
    writes_at_err _ _ _ _ _ c.from_residual.ensures.1
    (front_as _ _ _ _ (part_is c.args.shape c.args.sub c.args.number _ c.args.inner c.is_implied-implied.result c.is_empty.result c.is_level.result c.args.values.now.items c.args.tile.now c.level_at-level.result c.requires.sub
    (ap (λ l. get_or l c.args.number (0, 0)) c.places.ensures.value) c.level_at-level.ensures (c.is_level.ensures ∙ ap (λ v. not (is_zero v)) (to_z-of_z w16 c.level_at-level.result (search rules))) c.is_implied-implied.ensures c.is_empty.ensures) c.in_err-write_bin.ensures.taken)

pub returns-clause-taken : goal.returns-clause-taken
returns-clause-taken g c =
    grew_as _ _ _ _ (part_is c.args.shape c.args.sub c.args.number _ c.args.inner c.is_implied-implied.result c.is_empty.result c.is_level.result c.args.values.now.items c.args.tile.now c.level_at-level.result c.requires.sub
    (ap (λ l. get_or l c.args.number (0, 0)) c.places.ensures.value) c.level_at-level.ensures (c.is_level.ensures ∙ ap (λ v. not (is_zero v)) (to_z-of_z w16 c.level_at-level.result (search rules))) c.is_implied-implied.ensures c.is_empty.ensures) c.in_ok-write_bin.ensures.taken

pub returns-clause-values : goal.returns-clause-values
returns-clause-values g c =
    c.add.ensures ∙ ap (λ v. c.args.values.now.items ++ nonzero (v ∷ [])) (to_z-of_z w16 c.level_at-level.result (search rules) ∙ (c.level_at-level.ensures ∙ ap (λ l. tile_at c.args.tile.now (get_or l c.args.number (0, 0))) c.places.ensures.value))
