use Rattle.std.proofs.Common.{◌≡◌, arith, rules, refl}
use Rattle.h265_model.specs.Predict.{is_filtered}
use Rattle.intra_refs.proofs.line.filtered.Goals as goal
use Rattle.intra_refs.proofs.line.filtered.Goals.{in-3, in-4, in_default}

pub returns-then-mode-ne1 : goal.returns-then-mode-ne1
unfolding is_filtered
returns-then-mode-ne1 c = elim c.match-log2.branch [
  | in-3 w ↦ rw (w.threshold-is, w.in-3.is) (search rules)
  | in-4 w ↦ rw (w.threshold-is, w.in-4.is) (search rules)
  | in_default w ↦ let five : c.args.log2 ≡ 5 = omega arith in rw (w.threshold-is, five) (search rules)
]

pub returns-else-mode-ne1 : goal.returns-else-mode-ne1
unfolding is_filtered
returns-else-mode-ne1 c = rw c.if-mode-ne1.false refl
