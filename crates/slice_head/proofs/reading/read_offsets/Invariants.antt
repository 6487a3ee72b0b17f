use Rattle.std.proofs.Common.{◌≡◌, ◌-◌}
use Rattle.h265_model.specs.SliceHead.{read_offsets}
use Rattle.slice_head.proofs.OffsetLaws.{put_before}
use Rattle.slice_head.proofs.reading.read_offsets.Given as goal

abbrev pub invariant-loop : goal.invariant-loop
invariant-loop l = read_offsets l.count l.initial.from.left ≡ put_before l.offsets.items (read_offsets (l.count - l.counter) l.from.left)
