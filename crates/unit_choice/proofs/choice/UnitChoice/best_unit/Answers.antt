use Rattle.std.proofs.Common.{sym, ◌∙◌}
use Rattle.h265_model.specs.declared.leaf.Kind.TheVariants.{Skip}
use Rattle.px_plane.specs.Planes.{picture_of}
use Rattle.unit_choice.proofs.Winners.{skip_wins, no_skip}
use Rattle.unit_choice.proofs.choice.UnitChoice.best_unit.Goals as goal

pub returns-then-is_copy-clause-planned : goal.returns-then-is_copy-clause-planned
returns-then-is_copy-clause-planned c =
    let s = c.self.inside in
    rw (← c.self.view_is) (λ units e.
    skip_wins (picture_of s.vectors.last) (picture_of s.vectors.current) s.vectors.current.size s.effort units c.args.block
    (rw e (sym (c.is_copy.ensures.copy Skip) ∙ c.if-is_copy.true)))

pub returns-clause-planned : goal.returns-clause-planned
returns-clause-planned c =
    let s = c.self.inside in
    rw (← c.self.view_is) (λ units e.
    no_skip (picture_of s.vectors.last) (picture_of s.vectors.current) s.vectors.current.size s.effort units c.args.block
    (rw e (sym (c.is_copy.ensures.copy Skip) ∙ c.if-is_copy.false))
    ∙ c.unskipped.ensures.planned)
