use Rattle.std.proofs.Common.{◌≡◌, ℕ, ◌+◌, ◌*◌, ◌/◌, ◌%◌, ◌<◌, ◌≤◌, length, arith, ap, ◌∙◌}
use Rattle.std.proofs.lemmas.List.{length-set}
use Rattle.h265_model.specs.Plain.{Size, coded}
use Rattle.px_plane.specs.Planes.{picture_of}
use Rattle.vector_search.proofs.Moves.{first_more, first_beyond}
use Rattle.vector_search.proofs.squares.compare_by.Goals as goal
use Rattle.vector_search.proofs.squares.compare_by.Goals.{then-left-w+then-top-h, else-left-w, else-left-w-via-then-left-w+else-top-h, else-left-w-via-else-left-w}

out : (w x : ℕ) → x % 8 ≡ 0 → w ≤ x → x < coded w → ⊥
out w x a b h = omega arith

eight : (x k : ℕ) → x % 8 ≡ 0 → (x + k * 8) % 8 ≡ 0
eight x k h = omega arith

pub loop-k-preserved : goal.loop-k-preserved
loop-k-preserved c =
    let p = picture_of c.args.last.now in
    let q = picture_of c.args.current.now in
    let size : Size = c.args.current.now.size in
    let k : ℕ = c.loop-k.k in
    let n : ℕ = c.args.number in
    let column : (16 * n + k) % 4 ≡ k % 4 = omega arith in
    let row : (16 * n + k) / 4 % 4 ≡ k / 4 = omega arith in
    let which : (16 * n + k) / 16 ≡ n = omega arith in
    let next : 16 * n + k + 1 ≡ 16 * n + (k + 1) = omega arith in
    let ew : c.w-w.result ≡ size.w = c.w-w.ensures.value ∙ ap (λ (s : Size). s.w) c.size.ensures.value in
    let eh : c.h-h.result ≡ size.h = c.h-h.ensures.value ∙ ap (λ (s : Size). s.h) c.size-2.ensures.value in
    elim c.if-left-w.branch [
      | then-left-w+then-top-h w ↦
          rw w.equal-is (record {
            long = length-set c.loop-k.equal (16 * n + k) w.is_moved.result ∙ c.loop-k.invariant.long;
            tells = rw next at (first_more c.loop-k.equal p q size c.args.x c.args.y (16 * n + k) w.is_moved.result c.loop-k.invariant.tells
                (let l : length c.loop-k.equal ≡ 4112 = c.loop-k.invariant.long in omega arith)
                (rw (column, row, which, ← c.vector_at-vector.ensures.tried) w.is_moved.ensures));
          })
      | else-left-w w ↦
          rw w.equal-is (record {
            long = c.loop-k.invariant.long;
            tells = rw next at (first_beyond c.loop-k.equal p q size c.args.x c.args.y (16 * n + k) c.loop-k.invariant.tells (rw (column, row) (λ hx hy. elim w.else-left-w.branch [
              | else-left-w-via-then-left-w+else-top-h v ↦ out size.h (c.args.y + k / 4 * 8) (eight c.args.y (k / 4) c.requires.whole_y) (rw (← eh) v.if-top-h.false) hy
              | else-left-w-via-else-left-w v ↦ out size.w (c.args.x + k % 4 * 8) (eight c.args.x (k % 4) c.requires.whole_x) (rw (← ew) v.if-left-w.false) hx
            ])));
          })
    ]

pub returns-clause-tells : goal.returns-clause-tells
returns-clause-tells c =
    let all : c.loop-k.k ≡ 16 = omega arith in
    rw all at c.loop-k.invariant.tells
