use Rattle.std.proofs.Common.{◌≡◌, ℕ, ◌+◌, ◌*◌, ◌/◌, ◌<◌, ◌++◌, List, length, take, get_or, [], true, rules, ap, sym, ◌∙◌, subst, arith, refl}
use Rattle.std.specs.Prelude.{Option, Some}
use Rattle.std.specs.Arc.{arc_value}
use Rattle.std.specs.List.{AllByRecursion}
use Rattle.std.proofs.lemmas.Bool.{false≢true}
use Rattle.arrayvec.specs.ArrayVec.{ArrayVec}
use Rattle.h265_model.specs.declared.leaf.Leaf.{Leaf}
use Rattle.h265_model.specs.Plain.{Size, ctus, joined}
use Rattle.h265_model.specs.Tree.{AreAllowed}
use Rattle.px_plane.specs.Planes.{Planes}
use Rattle.pu_code.specs.Cells.{StandsFor, IsUnit}
use Rattle.row_coder.specs.Rows.{plan_of, leaves_of, IsKept, IsUnderWay, IsCoded}
use Rattle.row_coder.proofs.RowSteps.{unit_left, length_leaves, leaves_at, in_picture, in_tiles, tree_as, taken_as, last_is, kept_for, coded_more}
use Rattle.row_coder.proofs.job.CtuRowRowJob.code_next.Goals as goal

pub index-requires : goal.index-requires
unfolding plan_of
index-requires c =
    let left = rw (← c.self.view_is) at c.requires.left in
    let inside : c.in_ok-coded.coded < length c.self.inside.plans.items = unit_left c.self.inside.coded c.in_ok-coded.coded c.self.inside.plans.items (sym c.take.ensures.value ∙ c.in_ok-coded.ensures.ok_part) left in
    search (inside, rules)

pub grid_for-requires : goal.grid_for-requires
unfolding plan_of
grid_for-requires c =
    let s = c.self.inside in
    let n : ℕ = c.in_ok-coded.coded in
    let p : Planes = arc_value s.picture in
    let back : s.coded ≡ Some n = sym c.take.ensures.value ∙ c.in_ok-coded.ensures.ok_part in
    let so : IsCoded p s.kind s.number s.above.items (leaves_of s.plans.items) s.inherited s.grid s.coder n =
    subst (λ (o : Option ℕ). IsUnderWay p s.kind s.number s.above.items (leaves_of s.plans.items) s.inherited s.grid s.coder o) back c.self.invariant.under_way in
    let sz : c.size-size.result ≡ p.size = c.size-size.ensures.value ∙ ap (λ (q : Planes). q.size) c.deref.ensures in
    subst (λ (z : Size). AllByRecursion (IsUnit z) c.as_slice.result.now) (sym sz) (subst (AllByRecursion (IsUnit p.size)) (sym c.as_slice.ensures.value) so.units)

pub write_ctu-requires-clause-size : goal.write_ctu-requires-clause-size
unfolding plan_of
write_ctu-requires-clause-size c =
    let s = c.self.inside in
    let n : ℕ = c.in_ok-coded.coded in
    let p : Planes = arc_value s.picture in
    let back : s.coded ≡ Some n = sym c.take.ensures.value ∙ c.in_ok-coded.ensures.ok_part in
    let so : IsCoded p s.kind s.number s.above.items (leaves_of s.plans.items) s.inherited s.grid s.coder n =
    subst (λ (o : Option ℕ). IsUnderWay p s.kind s.number s.above.items (leaves_of s.plans.items) s.inherited s.grid s.coder o) back c.self.invariant.under_way in
    let sz : c.size-size.result ≡ p.size = c.size-size.ensures.value ∙ ap (λ (q : Planes). q.size) c.deref.ensures in
    let used : IsKept p.size (s.above.items ++ joined (take n (leaves_of s.plans.items))) n (Some c.in_ok-grid.grid) =
    kept_for p s.kind s.number s.above.items (leaves_of s.plans.items) s.inherited s.grid c.in_ok-grid.grid n so.kept
    (λ none. let new = c.in_ok-grid.ensures.made (c.take-2.ensures.value ∙ none) in (new.0 ∙ sz, subst (StandsFor c.in_ok-grid.grid) c.as_slice.ensures.value new.1))
    (λ before is. c.in_ok-grid.ensures.kept before (c.take-2.ensures.value ∙ is)) in
    used.0 ∙ sym sz

pub write_ctu-requires-clause-ctu : goal.write_ctu-requires-clause-ctu
unfolding plan_of
write_ctu-requires-clause-ctu c =
    let s = c.self.inside in
    let n : ℕ = c.in_ok-coded.coded in
    let p : Planes = arc_value s.picture in
    let left = rw (← c.self.view_is) at c.requires.left in
    let inside : n < length s.plans.items = unit_left s.coded n s.plans.items (sym c.take.ensures.value ∙ c.in_ok-coded.ensures.ok_part) left in
    let many = c.self.invariant.trees.many in
    let less : n < ctus p.size.w = (let l = length_leaves s.plans.items in omega arith) in
    let sz : c.size-size.result ≡ p.size = c.size-size.ensures.value ∙ ap (λ (q : Planes). q.size) c.deref.ensures in
    let cw : (c.w.result + 31) / 32 ≡ ctus p.size.w = ap (λ (k : ℕ). ctus k) (c.w.ensures.value ∙ ap (λ (z : Size). z.w) sz) in
    in_tiles c.size-size.result p.size _ (s.number * ctus p.size.w + n) sz (ap (λ (k : ℕ). s.number * k + n) cw) (in_picture s.number n (ctus p.size.w) (ctus p.size.h) c.self.invariant.number less)

pub write_ctu-requires-clause-tree : goal.write_ctu-requires-clause-tree
unfolding plan_of
write_ctu-requires-clause-tree c =
    let s = c.self.inside in
    let n : ℕ = c.in_ok-coded.coded in
    let p : Planes = arc_value s.picture in
    let left = rw (← c.self.view_is) at c.requires.left in
    let inside : n < length s.plans.items = unit_left s.coded n s.plans.items (sym c.take.ensures.value ∙ c.in_ok-coded.ensures.ok_part) left in
    let many = c.self.invariant.trees.many in
    let less : n < ctus p.size.w = (let l = length_leaves s.plans.items in omega arith) in
    let sz : c.size-size.result ≡ p.size = c.size-size.ensures.value ∙ ap (λ (q : Planes). q.size) c.deref.ensures in
    let cw : (c.w.result + 31) / 32 ≡ ctus p.size.w = ap (λ (k : ℕ). ctus k) (c.w.ensures.value ∙ ap (λ (z : Size). z.w) sz) in
    let here : c.as_slice-leaves.result.now ≡ get_or (leaves_of s.plans.items) n [] = c.as_slice-leaves.ensures.value ∙ (ap (λ (v : ArrayVec Leaf). v.items) c.index.ensures ∙ sym (leaves_at s.plans.items n c.index.result.now inside)) in
    tree_as c.size-size.result p.size _ (s.number * ctus p.size.w + n) c.as_slice-leaves.result.now _ sz (ap (λ (k : ℕ). s.number * k + n) cw) here (c.self.invariant.trees.tree n less)

pub write_ctu-requires-clause-allowed : goal.write_ctu-requires-clause-allowed
unfolding plan_of
write_ctu-requires-clause-allowed c =
    let s = c.self.inside in
    let n : ℕ = c.in_ok-coded.coded in
    let p : Planes = arc_value s.picture in
    let left = rw (← c.self.view_is) at c.requires.left in
    let inside : n < length s.plans.items = unit_left s.coded n s.plans.items (sym c.take.ensures.value ∙ c.in_ok-coded.ensures.ok_part) left in
    let many = c.self.invariant.trees.many in
    let less : n < ctus p.size.w = (let l = length_leaves s.plans.items in omega arith) in
    let here : c.as_slice-leaves.result.now ≡ get_or (leaves_of s.plans.items) n [] = c.as_slice-leaves.ensures.value ∙ (ap (λ (v : ArrayVec Leaf). v.items) c.index.ensures ∙ sym (leaves_at s.plans.items n c.index.result.now inside)) in
    subst (λ (l : List Leaf). AreAllowed s.kind l) (sym here) (c.self.invariant.trees.allowed n less)

pub write_ctu-requires-clause-not_ended : goal.write_ctu-requires-clause-not_ended
unfolding plan_of
write_ctu-requires-clause-not_ended c =
    let s = c.self.inside in
    let n : ℕ = c.in_ok-coded.coded in
    let p : Planes = arc_value s.picture in
    let left = rw (← c.self.view_is) at c.requires.left in
    let back : s.coded ≡ Some n = sym c.take.ensures.value ∙ c.in_ok-coded.ensures.ok_part in
    let inside : n < length s.plans.items = unit_left s.coded n s.plans.items back left in
    let many = c.self.invariant.trees.many in
    let less : n < ctus p.size.w = (let l = length_leaves s.plans.items in omega arith) in
    let so : IsCoded p s.kind s.number s.above.items (leaves_of s.plans.items) s.inherited s.grid s.coder n =
    subst (λ (o : Option ℕ). IsUnderWay p s.kind s.number s.above.items (leaves_of s.plans.items) s.inherited s.grid s.coder o) back c.self.invariant.under_way in
    so.is_open (in_picture s.number n (ctus p.size.w) (ctus p.size.h) c.self.invariant.number less)

pub invariant_of-self-2 : goal.invariant_of-self-2
unfolding plan_of
invariant_of-self-2 c =
    let s = c.self.inside in
    let n : ℕ = c.in_ok-coded.coded in
    let p : Planes = arc_value s.picture in
    let left = rw (← c.self.view_is) at c.requires.left in
    let began : s.begun ≡ true = rw (← c.self.view_is) at c.requires.begun in
    let back : s.coded ≡ Some n = sym c.take.ensures.value ∙ c.in_ok-coded.ensures.ok_part in
    let inside : n < length s.plans.items = unit_left s.coded n s.plans.items back left in
    let many = c.self.invariant.trees.many in
    let less : n < ctus p.size.w = (let l = length_leaves s.plans.items in omega arith) in
    let sz : c.size-size.result ≡ p.size = c.size-size.ensures.value ∙ ap (λ (q : Planes). q.size) c.deref.ensures in
    let cw : (c.w.result + 31) / 32 ≡ ctus p.size.w = ap (λ (k : ℕ). ctus k) (c.w.ensures.value ∙ ap (λ (z : Size). z.w) sz) in
    let ch : (c.h.result + 31) / 32 ≡ ctus p.size.h = ap (λ (k : ℕ). ctus k) (c.h.ensures.value ∙ ap (λ (z : Size). z.h) sz) in
    let here : c.as_slice-leaves.result.now ≡ get_or (leaves_of s.plans.items) n [] = c.as_slice-leaves.ensures.value ∙ (ap (λ (v : ArrayVec Leaf). v.items) c.index.ensures ∙ sym (leaves_at s.plans.items n c.index.result.now inside)) in
    let so : IsCoded p s.kind s.number s.above.items (leaves_of s.plans.items) s.inherited s.grid s.coder n =
    subst (λ (o : Option ℕ). IsUnderWay p s.kind s.number s.above.items (leaves_of s.plans.items) s.inherited s.grid s.coder o) back c.self.invariant.under_way in
    let used : IsKept p.size (s.above.items ++ joined (take n (leaves_of s.plans.items))) n (Some c.in_ok-grid.grid) =
    kept_for p s.kind s.number s.above.items (leaves_of s.plans.items) s.inherited s.grid c.in_ok-grid.grid n so.kept
    (λ none. let new = c.in_ok-grid.ensures.made (c.take-2.ensures.value ∙ none) in (new.0 ∙ sz, subst (StandsFor c.in_ok-grid.grid) c.as_slice.ensures.value new.1))
    (λ before is. c.in_ok-grid.ensures.kept before (c.take-2.ensures.value ∙ is)) in
    record {
      wide = c.self.invariant.wide;
      narrow = c.self.invariant.narrow;
      few = c.self.invariant.few;
      number = c.self.invariant.number;
      trees = c.self.invariant.trees;
      fresh = λ not_begun. absurd (false≢true (sym not_begun ∙ began));
      bare = λ not_begun. absurd (false≢true (sym not_begun ∙ began));
      under_way = coded_more p s.kind s.number s.above.items (leaves_of s.plans.items) s.inherited s.grid c.in_ok-grid.grid c.write_ctu.new.grid s.coder c.write_ctu.new.sink c.bin.new.self n _ c.as_slice-leaves.result.now _ less
          (ap (λ (k : ℕ). s.number * k + n) cw) here (last_is _ _ _ p.size cw ch) so used c.write_ctu.ensures.size
          (λ before at. taken_as s.kind c.size-size.result p.size c.deref-2.result.now p before c.as_slice-leaves.result.now _ _ _ sz c.deref-2.ensures (c.in_ok-write_ctu.ensures.taken before at))
          c.in_ok-bin.ensures.taken c.in_ok-bin.ensures.phase c.in_ok-write_ctu.ensures.set;
    }

pub returns-clause-plan : goal.returns-clause-plan
unfolding plan_of
returns-clause-plan c = rw (← c.self.view_is) refl
