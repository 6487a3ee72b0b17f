use Rattle.std.proofs.Common.{◌≡◌, ℕ, ◌+◌, ◌*◌, ◌/◌, ◌%◌, ◌<◌, ◌≤◌, length, arith, ap, ◌∙◌}
use Rattle.std.proofs.lemmas.List.{length-set}
use Rattle.h265_model.specs.Plain.{Size, coded}
use Rattle.px_plane.specs.Planes.{picture_of}
use Rattle.block_choice.proofs.Squares.{first_more, first_beyond, tells_from}
use Rattle.block_choice.proofs.copies.equal_squares.Goals as goal
use Rattle.block_choice.proofs.copies.equal_squares.Goals.{then-rect-w+then-rect-h, else-rect-w, else-rect-w-via-then-rect-w+else-rect-h, else-rect-w-via-else-rect-w}

out : (w x : ℕ) → x % 8 ≡ 0 → w ≤ x → x < coded w → ⊥
out w x a b h = omega arith

eight : (x k : ℕ) → x % 8 ≡ 0 → (x + k * 8) % 8 ≡ 0
eight x k h = omega arith

pub loop-k-preserved : goal.loop-k-preserved
loop-k-preserved g c =
    let p = picture_of c.args.prev.now in
    let q = picture_of c.args.now.now in
    let size : Size = c.args.now.now.size in
    let k : ℕ = c.loop-k.k in
    let ew : c.w-w.result ≡ size.w = c.w-w.ensures.value ∙ ap (λ (s : Size). s.w) c.size.ensures.value in
    let eh : c.h-h.result ≡ size.h = c.h-h.ensures.value ∙ ap (λ (s : Size). s.h) c.size-2.ensures.value in
    elim c.if-rect-w.branch [
      | then-rect-w+then-rect-h w ↦
          rw (w.copies-is, w.steps-is) (record {
            long = length-set c.loop-k.copies k w.block_equal.result ∙ c.loop-k.invariant.long;
            copies = first_more c.loop-k.copies p q size c.args.x c.args.y k w.block_equal.result c.loop-k.invariant.copies (let l : length c.loop-k.copies ≡ 16 = c.loop-k.invariant.long in omega arith) w.block_equal.ensures.equal;
            low = let a = c.loop-k.invariant.low in let t = w.block_equal.ensures.ticks in omega arith;
            high = let a = c.loop-k.invariant.high in let t = w.block_equal.ensures.at_most in omega arith;
          })
      | else-rect-w w ↦
          rw (w.copies-is, w.steps-is) (record {
            long = c.loop-k.invariant.long;
            copies = first_beyond c.loop-k.copies p q size c.args.x c.args.y k c.loop-k.invariant.copies (λ hx hy. elim w.else-rect-w.branch [
              | else-rect-w-via-then-rect-w+else-rect-h v ↦ out size.h (c.args.y + k / 4 * 8) (eight c.args.y (k / 4) c.requires.whole_y) (rw (← eh) v.if-rect-h.false) hy
              | else-rect-w-via-else-rect-w v ↦ out size.w (c.args.x + k % 4 * 8) (eight c.args.x (k % 4) c.requires.whole_x) (rw (← ew) v.if-rect-w.false) hx
            ]);
            low = c.loop-k.invariant.low;
            high = let a = c.loop-k.invariant.high in omega arith;
          })
    ]

pub returns-clause-copies : goal.returns-clause-copies
returns-clause-copies g c =
    let all : c.loop-k.k ≡ 16 = omega arith in
    tells_from c.loop-k.copies (picture_of c.args.prev.now) (picture_of c.args.now.now) c.args.now.now.size c.args.x c.args.y (rw all at c.loop-k.invariant.copies)
