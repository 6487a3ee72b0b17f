use Rattle.bin_items.proofs.Growing.{front_as, front_first, front_kept, front_next, front_then, grew_as, grew_next, grew_then, writes_at_err}
use Rattle.coding_tree.proofs.UnitLaws.{unit_is}
use Rattle.coding_tree.proofs.leaf.write_leaf.Goals as goal

pub returns-in_err-write_flag-clause-taken : goal.returns-in_err-write_flag-clause-taken
returns-in_err-write_flag-clause-taken g c = λ before stands. writes_at_err _ _ _ _ _ c.from_residual.ensures.1 (front_kept _ _ _ c.in_err-write_flag.ensures.taken)

pub returns-in_err-write_skip_flag-clause-taken : goal.returns-in_err-write_skip_flag-clause-taken
returns-in_err-write_skip_flag-clause-taken g c = λ before stands.
    writes_at_err _ _ _ _ _ c.from_residual-in_err-write_skip_flag.ensures.1 (front_as _ _ _ _ (unit_is c.args.kind _ before c.args.leaf)
    (front_next _ _ _ _ _ c.in_ok-write_flag.ensures.taken (front_first _ _ _ _ (c.in_err-write_skip_flag.ensures.taken before stands))))

pub returns-in_err-write_rest-clause-taken : goal.returns-in_err-write_rest-clause-taken
returns-in_err-write_rest-clause-taken g c = λ before stands.
    writes_at_err _ _ _ _ _ c.from_residual-in_err-write_rest.ensures.1 (front_as _ _ _ _ (unit_is c.args.kind _ before c.args.leaf)
    (front_next _ _ _ _ _ c.in_ok-write_flag.ensures.taken (front_then _ _ _ _ _ (c.in_ok-write_skip_flag.ensures.taken before stands) (c.in_err-write_rest.ensures.taken before stands))))

pub returns-clause-taken : goal.returns-clause-taken
returns-clause-taken g c = λ before stands.
    grew_as _ _ _ _ (unit_is c.args.kind _ before c.args.leaf)
    (grew_next _ _ _ _ _ c.in_ok-write_flag.ensures.taken (grew_then _ _ _ _ _ (c.in_ok-write_skip_flag.ensures.taken before stands) (c.in_ok-write_rest.ensures.taken before stands)))
