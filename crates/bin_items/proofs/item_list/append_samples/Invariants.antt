use Rattle.std.proofs.Common.{◌≡◌, ◌++◌, take}
use Rattle.bin_items.specs.Growth.{sample_items}
use Rattle.bin_items.proofs.item_list.append_samples.Given as goal

abbrev pub invariant-loop-sample : goal.invariant-loop-sample
invariant-loop-sample l = l.list.items ≡ l.initial.list.items ++ sample_items (take l.sample-index l.samples)
