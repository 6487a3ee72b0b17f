use Rattle.std.proofs.Common.{◌≡◌}
use Rattle.h265_model.specs.Bits.{read_ue, read_ue_after}
use Rattle.bit_string.specs.Parts.{Moves}
use Rattle.bit_string.proofs.reader.BitReader.zeros.Given as goal

abbrev pub invariant-loop-zeros : goal.invariant-loop-zeros
invariant-loop-zeros l = (read_ue l.initial.self.left ≡ read_ue_after l.zeros l.self.left) × Moves l.initial.self l.self
