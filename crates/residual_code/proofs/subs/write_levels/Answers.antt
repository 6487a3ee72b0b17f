use Rattle.std.proofs.Common.{◌∙◌, ap}
use Rattle.bin_items.proofs.Growing.{writes_at_err, front_first, writes_then, writes_as}
use Rattle.h265_model.specs.Residual.{ended_at_zero}
use Rattle.residual_code.specs.Parts.{tile_levels}
use Rattle.residual_code.proofs.LevelLaws.{levels_high, nonzero_high, append_high, values_nonzero, on_ok, value_items_as}
use Rattle.residual_code.proofs.subs.write_levels.Goals as goal

pub returns-in_err-write_flags-clause-taken : goal.returns-in_err-write_flags-clause-taken
returns-in_err-write_flags-clause-taken g c = writes_at_err _ _ _ _ _ c.from_residual.ensures.1 (front_first _ _ _ _ c.in_err-write_flags.ensures.taken)

pub write_values-requires-clause-bounds : goal.write_values-requires-clause-bounds
write_values-requires-clause-bounds g c =
    rw (c.as_slice-3.ensures.value, c.in_ok-write_flags.ensures.values) (append_high _ _ c.requires.value_bounds (nonzero_high _ (levels_high c.args.shape.scan c.args.tile.now c.args.top c.requires.bounds)))

pub write_values-requires-clause-nonzero : goal.write_values-requires-clause-nonzero
write_values-requires-clause-nonzero g c = rw (c.as_slice-3.ensures.value, c.in_ok-write_flags.ensures.values) (values_nonzero c.args.values.now.items (tile_levels c.args.shape.scan c.args.tile.now c.args.top) c.requires.nonzero)

pub returns-clause-taken : goal.returns-clause-taken
returns-clause-taken g c =
    writes_then _ _ _ _ _ _ c.in_ok-write_flags.ensures.taken
    (writes_as _ _ _ _ _ (value_items_as _ _ _ _ _ c.set_of-set.ensures.value (c.as_slice-3.ensures.value ∙ c.in_ok-write_flags.ensures.values)) c.write_values.ensures.taken)

pub returns-clause-ended : goal.returns-clause-ended
returns-clause-ended g c =
    on_ok _ (c.ended_after.ensures ∙ ap (ended_at_zero c.args.ended.now) (c.as_slice-2.ensures.value ∙ c.in_ok-write_flags.ensures.values))
