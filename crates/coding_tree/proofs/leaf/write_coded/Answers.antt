use Rattle.bin_items.proofs.Growing.{front_first, front_then, writes_at_err, writes_then}
use Rattle.coding_tree.proofs.leaf.write_coded.Goals as goal

pub returns-in_err-write_pred_mode-clause-taken : goal.returns-in_err-write_pred_mode-clause-taken
returns-in_err-write_pred_mode-clause-taken g c = λ before stands. writes_at_err _ _ _ _ _ c.from_residual.ensures.1 (front_first _ _ _ _ c.in_err-write_pred_mode.ensures.taken)

pub returns-in_err-write_part_mode-clause-taken : goal.returns-in_err-write_part_mode-clause-taken
returns-in_err-write_part_mode-clause-taken g c = λ before stands.
    writes_at_err _ _ _ _ _ c.from_residual-in_err-write_part_mode.ensures.1 (front_then _ _ _ _ _ c.in_ok-write_pred_mode.ensures.taken (front_first _ _ _ _ c.in_err-write_part_mode.ensures.taken))

pub returns-clause-taken : goal.returns-clause-taken
returns-clause-taken g c = λ before stands.
    writes_then _ _ _ _ _ _ c.in_ok-write_pred_mode.ensures.taken (writes_then _ _ _ _ _ _ c.in_ok-write_part_mode.ensures.taken (c.write_content.ensures.taken before stands))
