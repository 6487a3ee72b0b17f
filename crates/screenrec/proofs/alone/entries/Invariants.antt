use Rattle.std.proofs.Common.{◌≡◌, ℕ, map}
use Rattle.std.specs.List.{range_with_len}
use Rattle.recorder_model.specs.declared.entry.Entry.{Entry}
use Rattle.recorder_model.specs.declared.entry.Entry.TheVariants as entry
use Rattle.screenrec.proofs.alone.entries.Given as goal

abbrev pub invariant-loop-index : goal.invariant-loop-index
invariant-loop-index l = l.entries.items ≡ map {A = ℕ} {B = Entry} (λ index. entry.Line 0 index) (range_with_len 0 l.index)
