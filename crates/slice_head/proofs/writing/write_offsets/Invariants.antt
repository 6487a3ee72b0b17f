use Rattle.std.proofs.Common.{◌≡◌, ◌-◌, ◌++◌, take, map}
use Rattle.h265_model.specs.Fields.{fixed, fields_bits}
use Rattle.slice_head.proofs.writing.write_offsets.Given as goal

abbrev pub invariant-loop-offset : goal.invariant-loop-offset
invariant-loop-offset l = l.out ≡ l.initial.out ++ fields_bits (map (λ offset. fixed 12 32 (offset - 1)) (take l.offset-index l.offsets))
