use Rattle.std.proofs.Common.{ap}
use Rattle.h265_model.specs.Modes.{mode_items}
use Rattle.bin_items.proofs.Growing.{front_kept, writes_as, writes_at_err, writes_next}
use Rattle.coding_tree.proofs.intra.write_prediction.Goals as goal

pub returns-in_err-bin-clause-taken : goal.returns-in_err-bin-clause-taken
returns-in_err-bin-clause-taken g c = λ before stands. writes_at_err _ _ _ _ _ c.from_residual.ensures.1 (front_kept _ _ _ c.in_err-bin.ensures.taken)

pub returns-clause-taken : goal.returns-clause-taken
returns-clause-taken g c = λ before stands.
    writes_next _ _ _ _ _ _ c.in_ok-bin.ensures.taken (writes_as _ _ _ _ _ (ap (mode_items c.args.mode) (c.candidates.ensures.value before stands)) c.write_mode.ensures.taken)
