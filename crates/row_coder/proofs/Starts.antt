-- The contexts that a row starts from.
use Rattle.std.proofs.Common.{◌≡◌, refl, sym, ℕ, zero, suc, ◌<◌, ◌≤◌, List, arith}
use Rattle.std.specs.Prelude.{Option, Some, None, nat_le}
use Rattle.std.proofs.lemmas.Bool.{cond-true, cond-false, le-leb, lt-leb}
use Rattle.h265_model.specs.declared.leaf.SliceKind.{SliceKind}
use Rattle.h265_model.specs.Contexts.{start, row_start}
use Rattle.row_coder.specs.Rows.{first_contexts}

pub starts_first : (kind : SliceKind) (across : ℕ) (inherited : Option (List ℕ)) → start kind ≡ first_contexts kind across 0 inherited
unfolding row_start
starts_first kind across None = refl
starts_first kind across (Some contexts) = refl

pub starts_narrow : (kind : SliceKind) (across number : ℕ) (inherited : Option (List ℕ)) → across < 2 → start kind ≡ first_contexts kind across number inherited
unfolding row_start
starts_narrow kind across number None h = refl
starts_narrow kind across zero (Some contexts) h = refl
starts_narrow kind across (suc number) (Some contexts) h = sym (cond-false (nat_le 2 across) _ _ (lt-leb 2 across h))

pub starts_inherited : (kind : SliceKind) (across number : ℕ) (contexts : List ℕ) → 0 < number → 2 ≤ across → contexts ≡ first_contexts kind across number (Some contexts)
unfolding row_start
starts_inherited kind across zero contexts h two = absurd (omega arith)
starts_inherited kind across (suc number) contexts h two = sym (cond-true (nat_le 2 across) _ _ (le-leb 2 across two))
