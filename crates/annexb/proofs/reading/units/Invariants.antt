use Rattle.std.proofs.Common.{◌≡◌, ◌++◌, length, Ok}
use Rattle.h265_model.specs.NalUnits.{units}
use Rattle.annexb.proofs.reading.units.Given as goal

-- what was taken and what is left are the whole
abbrev pub invariant-loop-rbsp : goal.invariant-loop-rbsp
invariant-loop-rbsp l = units l.bytes ≡ Ok (l.list.items ++ l.walk)

abbrev pub decreases-loop-rbsp : goal.decreases-loop-rbsp
decreases-loop-rbsp l = length l.walk
