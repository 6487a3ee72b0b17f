use Rattle.std.proofs.Common.{◌≡◌, ◌≤◌, ◌++◌, ◌%◌}
use Rattle.h265_model.specs.Bits.{bits, u}
use Rattle.bit_string.specs.Parts.{Begins}
use Rattle.bit_string.proofs.writer.append_bytes.Given as goal

abbrev pub invariant-loop-left : goal.invariant-loop-left
invariant-loop-left l = record {
  fewer : l.left ≤ l.count;
  spare : l.left % 8 ≡ l.count % 8;
  same : bits l.bytes.items ++ u l.left l.word ≡ bits l.initial.bytes.items ++ u l.count l.word;
  kept : Begins l.initial.bytes.items l.bytes.items;
}

abbrev pub decreases-loop-left : goal.decreases-loop-left
decreases-loop-left l = l.left
