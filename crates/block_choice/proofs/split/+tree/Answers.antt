use Rattle.std.proofs.Common.{◌≡◌, ℕ, ◌+◌, ◌-◌, ◌*◌, ◌<◌, ◌≤◌, ◌^◌, List, [], ◌∷◌, ◌++◌, take, length, true, refl, sym, ap, ◌∙◌, arith, length-append}
use Rattle.std.specs.Prelude.{Some, None}
use Rattle.arrayvec.specs.ArrayVec.{ArrayVec}
use Rattle.h265_model.specs.declared.leaf.Leaf.{Leaf}
use Rattle.h265_model.specs.Plain.{block_at, leaf_with}
use Rattle.h265_model.specs.Predict.{is_inside}
use Rattle.h265_model.specs.Choice.{Plan}
use Rattle.px_plane.specs.Planes.{picture_of}
use Rattle.std.proofs.lemmas.Nat.{mul-le}
use Rattle.h265_model.proofs.ListParts.{take_front}
use Rattle.intra_refs.proofs.Sides.{eights}
use Rattle.block_choice.specs.Plans.{before_of}
use Rattle.block_choice.proofs.Planned.{bound_of, split_of, split_planned, none_planned, leaf_planned, parts, parts_all, parts_next, parts_most, four_some, quarter_place}
use Rattle.block_choice.proofs.split.+tree.Goals as goal
use Rattle.block_choice.proofs.split.+tree.Goals.{plan_block-in-Some, plan_block-in-None, plan_block-then-depth-gt0+in_default, plan_block-else-depth-gt0}

pub plan_block-returns-in-Some-plan_split-clause-planned : goal.plan_block-returns-in-Some-plan_split-clause-planned
plan_block-returns-in-Some-plan_split-clause-planned t c =
    let k = c.args.task.now in
    let bound : c.match-leaf.bound ≡ bound_of (before_of k) (picture_of k.current.now) k.current.now.size k.effort c.whole_leaf-leaf.result c.args.limit =
    elim c.match-leaf.branch [ plan_block-in-Some w ↦ w.bound-is ∙ rw w.in-Some.is refl | plan_block-in-None w ↦ w.bound-is ∙ rw w.in-None.is refl ] in
    let inside : is_inside k.current.now.size c.args.x c.args.y ≡ true = sym c.is_inside.ensures ∙ c.if-not-is_inside.false in
    split_planned (before_of k) (picture_of k.current.now) k.current.now.size k.effort c.whole_leaf-leaf.result c.args.limit c.args.depth c.args.x c.args.y c.in-Some-plan_split.cost
    c.args.leaves.now.items c.plan_split.new.leaves.items inside c.if-depth-gt0.true c.whole_leaf-leaf.ensures (rw (← bound) c.in-Some-plan_split.ensures.planned)

pub plan_block-returns-in_err-best-clause-planned : goal.plan_block-returns-in_err-best-clause-planned
plan_block-returns-in_err-best-clause-planned t c =
    let k = c.args.task.now in
    let bound : c.match-leaf.bound ≡ bound_of (before_of k) (picture_of k.current.now) k.current.now.size k.effort c.whole_leaf-leaf.result c.args.limit =
    elim c.match-leaf.branch [ plan_block-in-Some w ↦ w.bound-is ∙ rw w.in-Some.is refl | plan_block-in-None w ↦ w.bound-is ∙ rw w.in-None.is refl ] in
    let inside : is_inside k.current.now.size c.args.x c.args.y ≡ true = sym c.is_inside.ensures ∙ c.if-not-is_inside.false in
    let splits : 0 < c.args.depth → c.match-leaf.bound ≤ (split_of (before_of k) (picture_of k.current.now) k.current.now.size k.effort (c.args.depth - 1) c.args.x c.args.y).cost =
    λ some. elim c.if-depth-gt0.branch [
      | plan_block-then-depth-gt0+in_default w ↦ w.in_default.ensures.planned.0
      | plan_block-else-depth-gt0 w ↦ absurd (let no : c.args.depth ≤ 0 = w.if-depth-gt0.false in omega arith)
    ] in
    let kept : c.if-depth-gt0.leaves.items ≡ c.args.leaves.now.items =
    elim c.if-depth-gt0.branch [ plan_block-then-depth-gt0+in_default w ↦ ap (λ (l : ArrayVec Leaf). l.items) w.leaves-is ∙ w.in_default.ensures.planned.1 | plan_block-else-depth-gt0 w ↦ ap (λ (l : ArrayVec Leaf). l.items) w.leaves-is ] in
    let taken : c.match-leaf.leaf ≡ c.whole_leaf-leaf.result = elim c.match-leaf.branch [ plan_block-in-Some w ↦ w.leaf-is ∙ sym w.in-Some.is | plan_block-in-None w ↦ w.leaf-is ] in
    let none : c.whole_leaf-leaf.result ≡ None = sym taken ∙ c.in_err-best.was in
    let is = rw none at c.whole_leaf-leaf.ensures in
    let to : c.match-leaf.bound ≡ c.args.limit = rw none at bound in
    let low = none_planned (before_of k) (picture_of k.current.now) k.current.now.size k.effort c.args.limit c.args.depth c.args.x c.args.y inside
    (eights c.args.x (3 + c.args.depth) (omega arith) (omega arith) c.requires.place.whole_x) (eights c.args.y (3 + c.args.depth) (omega arith) (omega arith) c.requires.place.whole_y) is (rw (← to) splits) in
    rw c.from_residual.ensures (low, kept)

pub plan_block-push-requires : goal.plan_block-push-requires
plan_block-push-requires t c =
    let kept : c.if-depth-gt0.leaves.items ≡ c.args.leaves.now.items =
    elim c.if-depth-gt0.branch [ plan_block-then-depth-gt0+in_default w ↦ ap (λ (l : ArrayVec Leaf). l.items) w.leaves-is ∙ w.in_default.ensures.planned.1 | plan_block-else-depth-gt0 w ↦ ap (λ (l : ArrayVec Leaf). l.items) w.leaves-is ] in
    let some = four_some c.args.depth in
    let same : length c.if-depth-gt0.leaves.items ≡ length c.args.leaves.now.items = ap (λ (l : List Leaf). length l) kept in
    omega arith

pub plan_block-returns-clause-planned : goal.plan_block-returns-clause-planned
plan_block-returns-clause-planned t c =
    let k = c.args.task.now in
    let bound : c.match-leaf.bound ≡ bound_of (before_of k) (picture_of k.current.now) k.current.now.size k.effort c.whole_leaf-leaf.result c.args.limit =
    elim c.match-leaf.branch [ plan_block-in-Some w ↦ w.bound-is ∙ rw w.in-Some.is refl | plan_block-in-None w ↦ w.bound-is ∙ rw w.in-None.is refl ] in
    let inside : is_inside k.current.now.size c.args.x c.args.y ≡ true = sym c.is_inside.ensures ∙ c.if-not-is_inside.false in
    let splits : 0 < c.args.depth → c.match-leaf.bound ≤ (split_of (before_of k) (picture_of k.current.now) k.current.now.size k.effort (c.args.depth - 1) c.args.x c.args.y).cost =
    λ some. elim c.if-depth-gt0.branch [
      | plan_block-then-depth-gt0+in_default w ↦ w.in_default.ensures.planned.0
      | plan_block-else-depth-gt0 w ↦ absurd (let no : c.args.depth ≤ 0 = w.if-depth-gt0.false in omega arith)
    ] in
    let kept : c.if-depth-gt0.leaves.items ≡ c.args.leaves.now.items =
    elim c.if-depth-gt0.branch [ plan_block-then-depth-gt0+in_default w ↦ ap (λ (l : ArrayVec Leaf). l.items) w.leaves-is ∙ w.in_default.ensures.planned.1 | plan_block-else-depth-gt0 w ↦ ap (λ (l : ArrayVec Leaf). l.items) w.leaves-is ] in
    let taken : c.match-leaf.leaf ≡ c.whole_leaf-leaf.result = elim c.match-leaf.branch [ plan_block-in-Some w ↦ w.leaf-is ∙ sym w.in-Some.is | plan_block-in-None w ↦ w.leaf-is ] in
    let found : c.whole_leaf-leaf.result ≡ Some c.in_ok-best.best = sym taken ∙ c.in_ok-best.was in
    let is = rw found at c.whole_leaf-leaf.ensures in
    let to : c.match-leaf.bound ≡ c.in_ok-best.best.cost = rw found at bound in
    let p = leaf_planned (before_of k) (picture_of k.current.now) k.current.now.size k.effort c.in_ok-best.best c.args.limit c.args.depth c.args.x c.args.y inside is (rw (← to) splits) in
    rw p (refl, is.1, c.push.ensures.items ∙ ap (λ (l : List Leaf). l ++ leaf_with (block_at c.args.x c.args.y (3 + c.args.depth)) c.in_ok-best.best.kind ∷ []) kept)

pub plan_block-returns-clause-few : goal.plan_block-returns-clause-few
plan_block-returns-clause-few t c =
    let kept : c.if-depth-gt0.leaves.items ≡ c.args.leaves.now.items =
    elim c.if-depth-gt0.branch [ plan_block-then-depth-gt0+in_default w ↦ ap (λ (l : ArrayVec Leaf). l.items) w.leaves-is ∙ w.in_default.ensures.planned.1 | plan_block-else-depth-gt0 w ↦ ap (λ (l : ArrayVec Leaf). l.items) w.leaves-is ] in
    let some = four_some c.args.depth in
    let same : length c.if-depth-gt0.leaves.items ≡ length c.args.leaves.now.items = ap (λ (l : List Leaf). length l) kept in
    let more = ap (λ (l : List Leaf). length l) c.push.ensures.items ∙ length-append c.if-depth-gt0.leaves.items _ in
    omega arith

pub plan_split-plan_block-requires : goal.plan_split-plan_block-requires
plan_split-plan_block-requires t c =
    let q : ℕ = c.loop-quarter.quarter in
    let few = c.loop-quarter.invariant.few in
    let quarters : (q + 1) * 4 ^ c.args.depth ≤ 4 * 4 ^ c.args.depth = mul-le (q + 1) (4 ^ c.args.depth) 4 (4 ^ c.args.depth) (omega arith) (omega arith) in (
      omega arith,
      (
        c.requires.task,
        (
          omega arith,
          (
            quarter_place c.args.task.now c.args.depth c.args.x c.args.y q c.side_of-half.result c.requires.depth (omega arith) c.side_of-half.ensures.value c.requires.place,
            omega arith,
          ),
        ),
      ),
    )

pub plan_split-returns-in-None-clause-planned : goal.plan_split-returns-in-None-clause-planned
plan_split-returns-in-None-clause-planned t c =
    let k = c.args.task.now in
    let d : ℕ = c.args.depth in
    let q : ℕ = c.loop-quarter.quarter in
    let half : c.side_of-half.result ≡ 2 ^ (3 + d) = c.side_of-half.ensures.value in
    let part = rw half at c.in-None.ensures.planned.0 in
    let next = parts_next (before_of k) (picture_of k.current.now) k.current.now.size k.effort d c.args.x c.args.y q (q + 1) refl in
    let back : (q + 1) + (3 - q) ≡ 4 = omega arith in
    let most = rw back at (parts_most (before_of k) (picture_of k.current.now) k.current.now.size k.effort d c.args.x c.args.y (q + 1) (3 - q)) in
    let all = parts_all (before_of k) (picture_of k.current.now) k.current.now.size k.effort d c.args.x c.args.y in
    let cost_next = ap (λ (p : Plan). p.cost) next in
    let cost_all = ap (λ (p : Plan). p.cost) all in
    let before = c.loop-quarter.invariant.cost in
    let rest = c.saturating_sub.ensures in
    let low : c.args.limit ≤ (split_of (before_of k) (picture_of k.current.now) k.current.now.size k.effort d c.args.x c.args.y).cost = omega (arith, part, cost_next, cost_all, most, before, rest) in
    let old : List Leaf = c.args.leaves.now.items in
    let some : List Leaf = (parts (before_of k) (picture_of k.current.now) k.current.now.size k.effort d c.args.x c.args.y q).leaves in
    (low, c.truncate.ensures.items ∙ (ap (take c.len-mark.result) (c.in-None.ensures.planned.1 ∙ c.loop-quarter.invariant.leaves) ∙ (ap (λ (n : ℕ). take n (old ++ some)) c.len-mark.ensures.value ∙ take_front old some)))
