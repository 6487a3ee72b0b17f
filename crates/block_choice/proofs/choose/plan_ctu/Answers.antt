use Rattle.std.proofs.Common.{◌≡◌, ℕ, ◌+◌, ◌*◌, ◌/◌, ◌%◌, ◌<◌, true, false, Option, Some, None, replicate, refl, ◌∙◌, ap, arith}
use Rattle.std.proofs.lemmas.List.{get_or-replicate}
use Rattle.h265_model.specs.Plain.{Size, Picture, coded, ctu_x, ctu_y}
use Rattle.h265_model.specs.Choice.{Plan, plan, choice}
use Rattle.px_plane.specs.Planes.{picture_of}
use Rattle.px_plane.specs.Blocks.{IsSameBlock}
use Rattle.block_choice.specs.Plans.{IsSameTree, TellsCopies, square_at}
use Rattle.block_choice.proofs.choose.plan_ctu.Goals as goal
use Rattle.block_choice.proofs.choose.plan_ctu.Goals.{then-touched, else-touched}

same_square : (p q : Picture) (size : Size) (ctu i j : ℕ) → IsSameTree p q size ctu → i < 4 → j < 4 → ctu_x size ctu + i * 8 < coded size.w → ctu_y size ctu + j * 8 < coded size.h
    → IsSameBlock p q (square_at (ctu_x size ctu + i * 8) (ctu_y size ctu + j * 8))
same_square p q size ctu i j same hi hj hx hy = record {
  each = λ c a b hc ha hb.
      let column : ctu_x size ctu + (i * 8 + a) ≡ ctu_x size ctu + i * 8 + a = omega arith in
      let row : ctu_y size ctu + (j * 8 + b) ≡ ctu_y size ctu + j * 8 + b = omega arith in
      rw (← column, ← row) (same.each c (i * 8 + a) (j * 8 + b) hc (omega arith) (omega arith) (below (ctu % ((size.w + 31) / 32)) i a size.w ha hx) (below (ctu / ((size.w + 31) / 32)) j b size.h hb hy));
}
  where
    below : (m i a n : ℕ) → a < 8 → m * 32 + i * 8 < coded n → m * 32 + (i * 8 + a) < coded n
    below m i a n ha h = omega arith

untouched_tells : (p q : Picture) (size : Size) (ctu w : ℕ) → w ≡ size.w → IsSameTree p q size ctu
    → TellsCopies (replicate 16 true) true p q size (ctu % ((w + 31) / 32) * 32) (ctu / ((w + 31) / 32) * 32)
untouched_tells p q size ctu w e same = rw e (record {
  each = λ i j hi hj hx hy. (λ _. (refl, same_square p q size ctu i j same hi hj hx hy), λ _. get_or-replicate 16 (4 * j + i) true false (omega arith));
})

pub plan_with-requires-in-Some-clause-copies : goal.plan_with-requires-in-Some-clause-copies
plan_with-requires-in-Some-clause-copies g c =
    let ew : c.w.result ≡ c.args.now.now.size.w = c.w.ensures.value ∙ ap (λ (s : Size). s.w) c.size-size.ensures.value in
    elim c.if-touched.branch [
      | then-touched w ↦ rw w.copies-is w.equal_squares-copies.ensures.copies
      | else-touched w ↦
          let same = rw c.in-Some.is at c.requires.untouched in
          rw w.copies-is (untouched_tells (picture_of c.in-Some.before.now) (picture_of c.args.now.now) c.args.now.now.size c.args.ctu c.w.result ew (same w.if-touched.false))
    ]

leaves_at : Option Picture → Picture → Size → ℕ → ℕ → ℕ → Plan
leaves_at prev now size effort ctu w = plan prev now size effort 2 (ctu % ((w + 31) / 32) * 32) (ctu / ((w + 31) / 32) * 32)

pub returns-in-None-clause-choice : goal.returns-in-None-clause-choice
unfolding choice leaves_at
returns-in-None-clause-choice g c =
    let ew : c.w.result ≡ c.args.now.now.size.w = c.w.ensures.value ∙ ap (λ (s : Size). s.w) c.size-size.ensures.value in
    rw c.in-None.is (c.plan_with.ensures ∙ ap (λ (w : ℕ). (leaves_at None (picture_of c.args.now.now) c.args.now.now.size c.args.effort c.args.ctu w).leaves) ew)

pub returns-after-touched-clause-choice : goal.returns-after-touched-clause-choice
unfolding choice leaves_at
returns-after-touched-clause-choice g c =
    let ew : c.w.result ≡ c.args.now.now.size.w = c.w.ensures.value ∙ ap (λ (s : Size). s.w) c.size-size.ensures.value in
    rw c.in-Some.is (c.plan_with-in-Some.ensures ∙ ap (λ (w : ℕ). (leaves_at (Some (picture_of c.in-Some.before.now)) (picture_of c.args.now.now) c.args.now.now.size c.args.effort c.args.ctu w).leaves) ew)
