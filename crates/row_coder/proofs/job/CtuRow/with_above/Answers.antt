use Rattle.std.proofs.Common.{◌≡◌, ℕ, ◌+◌, ◌-◌, ◌*◌, ◌<◌, List, [], length, get_or, ap, sym, ◌∙◌, subst, arith}
use Rattle.std.specs.List.{AllByRecursion}
use Rattle.arrayvec.specs.ArrayVec.{ArrayVec}
use Rattle.h265_model.specs.declared.leaf.Leaf.{Leaf}
use Rattle.h265_model.specs.Plain.{ctus}
use Rattle.px_plane.specs.Planes.{Planes}
use Rattle.pu_code.specs.Cells.{IsUnit}
use Rattle.row_coder.specs.Rows.{Row, leaves_of}
use Rattle.row_coder.proofs.RowSteps.{leaves_at, length_leaves}
use Rattle.row_coder.proofs.Walks.{ctu_units}
use Rattle.row_coder.proofs.job.CtuRow.with_above.Goals as goal

pub add_above-requires-clause-units : goal.add_above-requires-clause-units
add_above-requires-clause-units c =
    let p : Planes = c.args.self.planes in
    let k : ℕ = c.loop-leaves.leaves-index in
    let same : c.loop-leaves.row.planes ≡ p = ap (λ (r : Row). r.planes) c.loop-leaves.invariant in
    let inside : k < length c.args.above.now = c.loop-leaves-test.true in
    let many = c.requires.above.many in
    let less : k < ctus p.size.w = (let l = length_leaves c.args.above.now in omega arith) in
    let here : c.as_slice.result.now ≡ get_or (leaves_of c.args.above.now) k [] = c.as_slice.ensures.value ∙ (ap (λ (v : ArrayVec Leaf). v.items) c.leaves-item.is ∙ sym (leaves_at c.args.above.now k _ inside)) in
    subst (λ (q : Planes). AllByRecursion (IsUnit q.size) c.as_slice.result.now) (sym same)
    (subst (λ (l : List Leaf). AllByRecursion (IsUnit p.size) l) (sym here)
    (ctu_units p.size ((c.args.self.number - 1) * ctus p.size.w + k) (get_or (leaves_of c.args.above.now) k []) (c.requires.above.tree k less)))
