use Rattle.std.proofs.Common.{◌≡◌, ◌+◌, ◌≤◌, length}
use Rattle.h265_model.specs.Decode.{start_codes}
use Rattle.annexb.proofs.starts.start_codes.Given as goal

-- those that were counted, and those that are left, are all
abbrev pub invariant-loop-rest : goal.invariant-loop-rest
invariant-loop-rest l = (l.count + length l.rest ≤ length l.fn.bytes) × (l.count + start_codes l.rest ≡ start_codes l.fn.bytes)

abbrev pub decreases-loop-rest : goal.decreases-loop-rest
decreases-loop-rest l = length l.rest
