use Rattle.std.proofs.Common.{take}
use Rattle.frames.proofs.Mixes.{IsLaid}
use Rattle.frames.proofs.frame.lay_row.Given as goal

-- the pixels before x were laid
abbrev pub invariant-loop-x : goal.invariant-loop-x
invariant-loop-x l = IsLaid (take l.at l.initial.out) l.r l.g l.b l.x l.out
