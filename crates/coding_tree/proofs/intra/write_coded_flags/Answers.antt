use Rattle.bin_items.proofs.Growing.{front_kept, front_next, writes_at_err, writes_next, writes_took}
use Rattle.coding_tree.proofs.intra.write_coded_flags.Goals as goal

pub returns-in_err-write_flag-clause-taken : goal.returns-in_err-write_flag-clause-taken
returns-in_err-write_flag-clause-taken g c = writes_at_err _ _ _ _ _ c.from_residual.ensures.1 (front_kept _ _ _ c.in_err-write_flag.ensures.taken)

pub returns-in_err-write_flag-2-clause-taken : goal.returns-in_err-write_flag-2-clause-taken
returns-in_err-write_flag-2-clause-taken g c = writes_at_err _ _ _ _ _ c.from_residual-in_err-write_flag-2.ensures.1
    (front_next _ _ _ _ _ c.in_ok-write_flag.ensures.taken (front_kept _ _ _ c.in_err-write_flag-2.ensures.taken))

pub returns-in_err-write_flag-3-clause-taken : goal.returns-in_err-write_flag-3-clause-taken
returns-in_err-write_flag-3-clause-taken g c = writes_at_err _ _ _ _ _ c.from_residual-in_err-write_flag-3.ensures.1
    (front_next _ _ _ _ _ c.in_ok-write_flag.ensures.taken (front_next _ _ _ _ _ c.in_ok-write_flag-2.ensures.taken (front_kept _ _ _ c.in_err-write_flag-3.ensures.taken)))

pub returns-clause-taken : goal.returns-clause-taken
returns-clause-taken g c =
    writes_next _ _ _ _ _ _ c.in_ok-write_flag.ensures.taken (writes_next _ _ _ _ _ _ c.in_ok-write_flag-2.ensures.taken
    (writes_next _ _ _ _ _ _ c.in_ok-write_flag-3.ensures.taken (writes_took _ _ _ _ c.write_flag-4.ensures.taken)))
