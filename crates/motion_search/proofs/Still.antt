-- A coding tree unit that is the same in both pictures, where nothing moves.
use Rattle.std.proofs.Common.{◌≡◌, refl, ap, ◌∙◌, ℕ, ◌+◌, ◌<◌, ◌≤◌, true, List, [], ◌∷◌, arith}
use Rattle.std.specs.Prelude.{◌==◌}
use Rattle.std.proofs.lemmas.Bool.{and_parts, and_from, eq-eqb, le-leb, lt-ltb, leb-true}
use Rattle.h265_model.proofs.Squares.{same_places}
use Rattle.h265_model.specs.declared.moves.MoveKind.TheVariants as moves
use Rattle.h265_model.specs.declared.leaf.Leaf.{Leaf}
use Rattle.h265_model.specs.Plain.{Size, Picture, coded, block_at, ctu_x, ctu_y}
use Rattle.h265_model.specs.Predict.{is_inside}
use Rattle.h265_model.specs.Tree.{is_whole, samples_in}
use Rattle.h265_model.specs.Choice.{same}
use Rattle.h265_model.specs.Rebuild.{moved_samples}
use Rattle.h265_model.specs.Motion.{Moving, merge, no_motion, has_source, leaf_as_coded}
use Rattle.h265_model.specs.MotionChoice.{one_unit, unit_at, is_copy_by, unit_plan, plan}
use Rattle.block_choice.specs.Plans.{IsSameTree}
use Rattle.motion_search.proofs.Costs.{skip_first, unit_first}

same_refl : (xs : List ℕ) → same xs xs ≡ true
same_refl [] = refl
same_refl (x ∷ xs) = and_from (x == x) (same xs xs) (eq-eqb x x refl) (same_refl xs)

module _ (prev now : Picture) (size : Size) (ctu : ℕ) where
  skip : Leaf
  skip = leaf_as_coded (unit_at (block_at (ctu_x size ctu) (ctu_y size ctu) 5) moves.Skip)

  -- what the test of a whole block says
  wide : is_whole size 32 (ctu_x size ctu) (ctu_y size ctu) ≡ true → ctu_x size ctu + 32 ≤ coded size.w
  wide whole = leb-true _ _ (and_parts _ _ whole).0

  tall : is_whole size 32 (ctu_x size ctu) (ctu_y size ctu) ≡ true → ctu_y size ctu + 32 ≤ coded size.h
  tall whole = leb-true _ _ (and_parts _ _ whole).1

  same_component : (c : ℕ) → c < 3 → is_whole size 32 (ctu_x size ctu) (ctu_y size ctu) ≡ true → IsSameTree prev now size ctu
      → same (moved_samples prev skip no_motion c) (samples_in now skip c) ≡ true
  unfolding moved_samples skip
  same_component c few whole alike =
      let w = wide whole in
      let h = tall whole in
      ap (λ (l : List ℕ). same l (samples_in now skip c))
      (same_places 32 32 (λ i j. prev c (ctu_x size ctu + i + 0) (ctu_y size ctu + j + 0)) (λ i j. now c (ctu_x size ctu + i) (ctu_y size ctu + j))
      (λ i j hi hj. let ei : ctu_x size ctu + i + 0 ≡ ctu_x size ctu + i = omega arith in let ej : ctu_y size ctu + j + 0 ≡ ctu_y size ctu + j = omega arith in
      rw (ei, ej) (alike.each c i j few hi hj (omega (arith, w, hi)) (omega (arith, h, hj)))))
      ∙ same_refl (samples_in now skip c)

  source : is_whole size 32 (ctu_x size ctu) (ctu_y size ctu) ≡ true → has_source size (block_at (ctu_x size ctu) (ctu_y size ctu) 5) no_motion ≡ true
  unfolding has_source
  source whole =
      let w = wide whole in
      let h = tall whole in
      and_from _ _ (le-leb (ctu_x size ctu + 0 + 32) (coded size.w) (omega (arith, w))) (le-leb (ctu_y size ctu + 0 + 32) (coded size.h) (omega (arith, h)))

  copied : is_whole size 32 (ctu_x size ctu) (ctu_y size ctu) ≡ true → IsSameTree prev now size ctu → is_copy_by prev now size skip no_motion ≡ true
  unfolding is_copy_by skip
  copied whole alike =
      and_from _ _ (source whole)
      (and_from _ _ (same_component 0 (omega arith) whole alike) (and_from _ _ (same_component 1 (omega arith) whole alike) (and_from _ _ (same_component 2 (omega arith) whole alike) refl)))

  inside : is_whole size 32 (ctu_x size ctu) (ctu_y size ctu) ≡ true → is_inside size (ctu_x size ctu) (ctu_y size ctu) ≡ true
  inside whole =
      let w = wide whole in
      let h = tall whole in
      and_from _ _ (lt-ltb (ctu_x size ctu) (coded size.w) (omega (arith, w))) (lt-ltb (ctu_y size ctu) (coded size.h) (omega (arith, h)))

  -- one skip
  pub still_plan : (effort : ℕ) (before : List Moving) → is_whole size 32 (ctu_x size ctu) (ctu_y size ctu) ≡ true → IsSameTree prev now size ctu
      → merge before (block_at (ctu_x size ctu) (ctu_y size ctu) 5) ≡ no_motion
      → plan prev now size effort 2 (ctu_x size ctu) (ctu_y size ctu) before ≡ one_unit 1 (unit_at (block_at (ctu_x size ctu) (ctu_y size ctu) 5) moves.Skip)
  unfolding skip
  still_plan effort before whole alike none =
      let block = block_at (ctu_x size ctu) (ctu_y size ctu) 5 in
      let e : unit_plan prev now size effort before block ≡ one_unit 1 (unit_at block moves.Skip) =
      skip_first prev now size effort before block (ap (is_copy_by prev now size skip) none ∙ copied whole alike) in
      unit_first prev now size effort 1 (ctu_x size ctu) (ctu_y size ctu) before (one_unit 1 (unit_at block moves.Skip)) (inside whole) whole e (omega arith)
