use Rattle.std.proofs.Common.{◌≡◌, length}
use Rattle.screenrec.proofs.decode.walk.Given as goal

-- the stream still stops where it did
abbrev pub invariant-loop-reader : goal.invariant-loop-reader
invariant-loop-reader l = l.reader.stop ≡ l.fn.reader.stop

abbrev pub decreases-loop-reader : goal.decreases-loop-reader
decreases-loop-reader l = length l.reader.pictures
