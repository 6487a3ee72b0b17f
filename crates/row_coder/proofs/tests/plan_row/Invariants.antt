use Rattle.std.proofs.Common.{◌≡◌, ℕ, ◌+◌, ◌*◌, ◌<◌, length, get_or, []}
use Rattle.h265_model.specs.Plain.{ctus}
use Rattle.h265_model.specs.Tree.{IsLawfulTree, AreAllowed}
use Rattle.row_coder.specs.Rows.{leaves_of}
use Rattle.row_coder.proofs.tests.plan_row.Given as goal

abbrev pub invariant-loop-i : goal.invariant-loop-i
invariant-loop-i g l = record {
  many : length l.plans.items ≡ l.i;
  tree : (k : ℕ) → k < l.i → IsLawfulTree l.now.size (l.row * ctus l.now.size.w + k) (get_or (leaves_of l.plans.items) k []);
  allowed : (k : ℕ) → k < l.i → AreAllowed l.fn.kind (get_or (leaves_of l.plans.items) k []);
}
