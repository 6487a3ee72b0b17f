use Rattle.std.proofs.Common.{◌≡◌, ◌+◌, ℕ, length}
use Rattle.h265_model.specs.NalUnits.{forbidden}
use Rattle.annexb.proofs.payload.forbidden_place.Given as goal

-- nothing forbidden was passed
abbrev pub invariant-loop-rest : goal.invariant-loop-rest
invariant-loop-rest l =
    (l.passed + length l.rest ≡ length l.fn.bytes) × ((at : ℕ) → forbidden at l.fn.bytes ≡ forbidden (at + l.passed) l.rest)

abbrev pub decreases-loop-rest : goal.decreases-loop-rest
decreases-loop-rest l = length l.rest
