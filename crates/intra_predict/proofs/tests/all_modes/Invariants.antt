use Rattle.std.proofs.Common.{◌≡◌, ◌*◌, length}
use Rattle.h265_model.specs.Plain.{side}
use Rattle.intra_predict.proofs.tests.all_modes.Given as goal

abbrev pub invariant-loop-mode : goal.invariant-loop-mode
invariant-loop-mode l = record {
  out : length l.out ≡ side l.block * side l.block;
  plain : l.plain.log2 ≡ l.block.log2;
  smoothed : l.smoothed.log2 ≡ l.block.log2;
}
