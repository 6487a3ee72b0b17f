use Rattle.std.proofs.Common.{length, ◌-◌, ◌≤◌}
use Rattle.annexb.specs.Marks.{ArePlain}
use Rattle.annexb.proofs.marks.find_mark.Given as goal

-- no byte passed so far is a mark
abbrev pub invariant-loop-place : goal.invariant-loop-place
invariant-loop-place l = (2 ≤ l.place) × ArePlain l.least l.most l.bytes l.place

abbrev pub decreases-loop-place : goal.decreases-loop-place
decreases-loop-place l = length l.bytes - l.place
