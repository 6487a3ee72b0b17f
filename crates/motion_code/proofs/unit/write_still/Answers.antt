use Rattle.std.proofs.Common.{subst, [], ◌∷◌, ◌++◌}
use Rattle.h265_model.specs.declared.leaf.Leaf.{Leaf}
use Rattle.h265_model.specs.Motion.{kind_as_coded}
use Rattle.pu_code.specs.Cells.{StandsFor}
use Rattle.motion_code.proofs.Kept.{kept_more}
use Rattle.motion_code.proofs.Shorts.{short_more}
use Rattle.motion_code.proofs.unit.write_still.Goals as goal

pub returns-clause-set : goal.returns-clause-set
returns-clause-set g c = λ before at.
    kept_more _ _ _ _ c.args.unit _ before (λ ls stands. subst (λ (leaf : Leaf). StandsFor c.write_leaf.new.grid (ls ++ leaf ∷ [])) c.leaf_of.ensures (c.in_ok-write_leaf.ensures.set ls stands))
    c.set.ensures.set (c.vector_of-vector.ensures.value before at.vectors) at

pub returns-clause-short : goal.returns-clause-short
returns-clause-short g c = short_more _ _ c.args.unit.block (kind_as_coded c.args.unit.kind) _ c.set.ensures.set c.vector_of-vector.ensures.short c.requires.short
