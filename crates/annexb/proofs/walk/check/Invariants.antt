use Rattle.std.proofs.Common.{◌-◌, List, length}
use Rattle.h265_model.specs.NalUnits.{NalUnit}
use Rattle.annexb.proofs.Streams.{IsReadSoFar}
use Rattle.annexb.proofs.walk.check.Given as goal

-- the NAL units so far are some list
abbrev pub invariant-loop-start : goal.invariant-loop-start
invariant-loop-start l = (list : List NalUnit) × IsReadSoFar l.bytes list l.place

abbrev pub decreases-loop-start : goal.decreases-loop-start
decreases-loop-start l = length l.bytes - l.place
