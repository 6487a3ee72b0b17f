use Rattle.std.proofs.Common.{◌≡◌, sym, ap, ◌∙◌, ℕ, ◌+◌, ◌-◌, ◌*◌, ◌/◌, ◌%◌, ◌≤◌, ◌^◌, arith}
use Rattle.std.specs.Prelude.{Some}
use Rattle.h265_model.specs.declared.moves.Vector.{Vector}
use Rattle.h265_model.specs.Plain.{Size}
use Rattle.px_plane.specs.Planes.{picture_of}
use Rattle.vector_search.proofs.Copy.{first_is}
use Rattle.vector_search.proofs.Sides.{eights, side_eights, eights_apart}
use Rattle.vector_search.proofs.search.VectorSearch.first_copy.Goals as goal
use Rattle.vector_search.proofs.search.VectorSearch.first_copy.Goals.{in-Some, in-None}

pub returns-clause-first : goal.returns-clause-first
returns-clause-first c =
    let s = c.self.inside in
    let size : Size = s.current.now.size in
    let block = c.args.block in
    let log2 : ℕ = block.log2 in
    let l = side_eights log2 (omega arith) (omega arith) in
    let wx : block.x % 8 ≡ 0 = eights block.x log2 (omega arith) (omega arith) c.requires.block.whole_x in
    let wy : block.y % 8 ≡ 0 = eights block.y log2 (omega arith) (omega arith) c.requires.block.whole_y in
    let i : ℕ = (block.x - s.x) / 8 in
    let j : ℕ = (block.y - s.y) / 8 in
    let n : ℕ = c.side_of.result / 8 in
    let en : 2 ^ log2 ≡ n * 8 = rw c.side_of.ensures.value (sym l.0) in
    let some : 1 ≤ n = rw c.side_of.ensures.value l.1 in
    let b = rw (← c.self.view_is) at c.requires.block in
    let ex : block.x ≡ s.x + i * 8 = eights_apart s.x block.x c.self.invariant.3 wx b.left in
    let ey : block.y ≡ s.y + j * 8 = eights_apart s.y block.y c.self.invariant.4 wy b.top in
    let hi : i + n ≤ 4 = let r : block.x + 2 ^ log2 ≤ s.x + 32 = b.right in omega (arith, ex, en, r) in
    let hj : j + n ≤ 4 = let r : block.y + 2 ^ log2 ≤ s.y + 32 = b.bottom in omega (arith, ey, en, r) in
    let e = first_is c.compare_all.new.squares.equal (picture_of s.last.now) (picture_of s.current.now) size s.x s.y block i j n c.first_number.result
    (c.compare_all.ensures.tells.made c.compare_all.ensures.made) ex ey en some hi hj b.across b.down c.first_number.ensures in
    rw (← c.self.view_is) (elim c.match-first_number.branch [
      | in-Some w ↦ rw w.result-is (ap (λ (v : Vector). Some v) w.vector_at.ensures.tried ∙ rw w.in-Some.is at e)
      | in-None w ↦ rw w.result-is (rw w.in-None.is at e)
    ])
