use Rattle.std.proofs.Common.{refl}
use Rattle.chosen_units.proofs.Turns.{here_is, next_is}
use Rattle.chosen_units.proofs.chosen.vector_among.Goals as goal

pub returns-then-covers : goal.returns-then-covers
returns-then-covers c = here_is c.args.x c.args.y c.loop-one.one-index c.args.list.now _ c.loop-one-test.true c.loop-one.invariant c.if-covers.ensures

pub loop-one-preserved : goal.loop-one-preserved
loop-one-preserved c = next_is c.args.x c.args.y c.loop-one.one-index _ c.args.list.now _ c.loop-one-test.true c.loop-one.invariant c.if-covers.ensures refl
