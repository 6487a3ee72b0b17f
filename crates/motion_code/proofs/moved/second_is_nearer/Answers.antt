use Rattle.std.proofs.Common.{refl}
use Rattle.h265_model.specs.Motion.{second_is_nearer}
use Rattle.motion_code.proofs.moved.second_is_nearer.Goals as goal

pub returns : goal.returns
unfolding second_is_nearer
returns c = rw (c.size_of-first.ensures, c.size_of-second.ensures, c.difference_of.ensures.value, c.difference_of-2.ensures.value) refl
