use Rattle.std.proofs.Common.{◌≡◌, ◌-◌, map, drop}
use Rattle.std.specs.Prelude.{nat_abs}
use Rattle.h265_model.specs.Residual.{greater1_flags, greater2_of, has_flag}
use Rattle.residual_code.proofs.values.first_large.Given as goal

abbrev pub invariant-loop-i : goal.invariant-loop-i
invariant-loop-i l = record {
  flag : has_flag (greater1_flags 8 (map nat_abs l.values)) ≡ has_flag (greater1_flags (8 - l.i) (drop l.i (map nat_abs l.values)));
  size : greater2_of 8 (map nat_abs l.values) ≡ greater2_of (8 - l.i) (drop l.i (map nat_abs l.values));
}
