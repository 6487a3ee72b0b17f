-- The plan of a block: one coding unit, or those of its quarters.
use Rattle.std.proofs.Common.{◌≡◌, refl, sym, ap, subst, ◌∙◌, ℕ, zero, suc, ◌+◌, ◌*◌, ◌-◌, ◌/◌, ◌%◌, ◌^◌, ◌<◌, ◌≤◌, Bool, true, false, cond, not, List, [], ◌∷◌, ◌++◌, length, take, append_assoc, length-append, arith, pow-suc, inl, inr}
use Rattle.std.specs.Prelude.{Option, Some, None}
use Rattle.std.proofs.lemmas.Bool.{false≢true, and_parts, and_from, le-leb, ltb-true, cases_eq}
use Rattle.std.proofs.lemmas.Nat.{mul-le}
use Rattle.std.proofs.lemmas.List.{append-nil}
use Rattle.h265_model.proofs.ListParts.{take_front}
use Rattle.h265_model.specs.declared.moves.MoveLeaf.{MoveLeaf}
use Rattle.h265_model.specs.Plain.{block_at, Size, coded}
use Rattle.h265_model.specs.Predict.{is_inside}
use Rattle.h265_model.specs.Tree.{is_whole}
use Rattle.h265_model.specs.Motion.{Moving, as_coded, coded_after}
use Rattle.h265_model.specs.MotionChoice.{MovePlan, cheaper, one_unit, plan, no_units, and_part}
use Rattle.px_plane.specs.Planes.{picture_of}
use Rattle.motion_grid.specs.Cells.{HasMotion}
use Rattle.chosen_units.specs.Chosen.{Choosing}
use Rattle.vector_search.specs.Copies.{Search}
use Rattle.unit_choice.specs.Units.{Trial}
use Rattle.unit_choice.specs.declared.units.PlannedUnit.{PlannedUnit}
use Rattle.motion_search.specs.Planned.{IsPlace, IsWholeUnit, IsPlannedAs, IsPlanned, Grows, plan_of, split_of, unit_of}
use Rattle.motion_search.proofs.Costs.{cheaper_first, cheaper_second, cheaper_least, plan_least}

pub coded-append : (before : List Moving) (a b : List MoveLeaf) → coded_after before (a ++ b) ≡ coded_after (coded_after before a) b
coded-append before [] b = refl
coded-append before (u ∷ a) b = coded-append (before ++ as_coded before u ∷ []) a b

module _ (t : Trial) where
  abbrev size_of : Size
  size_of = t.search.current.size

  -- the split of a block of one depth more
  abbrev pub split_at : ℕ → ℕ → ℕ → List Moving → MovePlan
  split_at d x y before = split_of t d (2 ^ (3 + d)) x y before

  pub plan_outside : (depth x y : ℕ) (before : List Moving) → is_inside size_of x y ≡ false → plan_of t depth x y before ≡ no_units
  plan_outside zero x y before e = rw e refl
  plan_outside (suc depth) x y before e = rw e refl

  turned : (b : Bool) (s l : MovePlan) → cond (not b) s l ≡ cond b l s
  turned true s l = refl
  turned false s l = refl

  step : (d x y : ℕ) (before : List Moving) → is_inside size_of x y ≡ true
      → plan_of t (suc d) x y before ≡ cond (is_whole size_of (2 ^ (3 + suc d)) x y) (cheaper (unit_of t (block_at x y (3 + suc d)) before) (split_at d x y before)) (split_at d x y before)
  step d x y before inside =
      let n : 3 + suc d ≡ suc (3 + d) = omega arith in
      let side : 2 ^ (3 + suc d) ≡ 2 * 2 ^ (3 + d) = ap (λ (k : ℕ). 2 ^ k) n ∙ (pow-suc 2 (3 + d) ∙ omega arith) in
      let log2 : 3 + suc d ≡ 4 + d = omega arith in
      rw (side, log2, inside) (turned (is_whole size_of (2 * 2 ^ (3 + d)) x y) (split_at d x y before) _)

  whole_8 : (x y : ℕ) → is_inside size_of x y ≡ true → x % 8 ≡ 0 → y % 8 ≡ 0 → is_whole size_of 8 x y ≡ true
  whole_8 x y inside wx wy =
      let p = and_parts _ _ inside in
      let hx : x < coded size_of.w = ltb-true x (coded size_of.w) p.0 in
      let hy : y < coded size_of.h = ltb-true y (coded size_of.h) p.1 in
      let ex : x + 8 ≤ coded size_of.w = omega arith in
      let ey : y + 8 ≤ coded size_of.h = omega arith in
      and_from _ _ (le-leb (x + 8) (coded size_of.w) ex) (le-leb (y + 8) (coded size_of.h) ey)

  -- what is to be undercut next
  abbrev pub bound_of : Option PlannedUnit → ℕ → ℕ
  bound_of None limit = limit
  bound_of (Some u) limit = u.cost

  wins_at : (r : Option PlannedUnit) (w : Bool) (limit : ℕ) (p s : MovePlan) → IsWholeUnit r limit w p → s.cost < bound_of r limit → (cond w (cheaper p s) s ≡ s) × (s.cost < limit)
  wins_at None true limit p s is less = let m : limit ≤ p.cost = is refl in (cheaper_second p s (omega arith), less)
  wins_at None false limit p s is less = (refl, less)
  wins_at (Some u) true limit p s is less =
      let e : p.cost ≡ u.cost = ap (λ (q : MovePlan). q.cost) is.2 in
      let m : u.cost < limit = is.1 in
      (cheaper_second p s (omega arith), omega arith)
  wins_at (Some u) false limit p s is less = absurd (false≢true is.0)

  none_at : (w : Bool) (limit : ℕ) (p s : MovePlan) → (w ≡ true → limit ≤ p.cost) → limit ≤ s.cost → limit ≤ (cond w (cheaper p s) s).cost
  none_at true limit p s h m = cheaper_least limit p s (h refl) m
  none_at false limit p s h m = m

  unit_at : (u : PlannedUnit) (w : Bool) (limit : ℕ) (p s : MovePlan) → IsWholeUnit (Some u) limit w p → u.cost ≤ s.cost → cond w (cheaper p s) s ≡ one_unit u.cost u.unit
  unit_at u true limit p s is more = let e : p.cost ≡ u.cost = ap (λ (q : MovePlan). q.cost) is.2 in cheaper_first p s (omega arith) ∙ is.2
  unit_at u false limit p s is more = absurd (false≢true is.0)

  abbrev IsWhole : Option PlannedUnit → ℕ → ℕ → ℕ → ℕ → List Moving → Type 0
  IsWhole r limit depth x y before = IsWholeUnit r limit (is_whole size_of (2 ^ (3 + depth)) x y) (unit_of t (block_at x y (3 + depth)) before)

  -- the quarters win
  split_wins : (r : Option PlannedUnit) (limit depth x y cost : ℕ) (before : List Moving) (old new : List MoveLeaf) → is_inside size_of x y ≡ true → 0 < depth
      → IsWhole r limit depth x y before
      → IsPlannedAs (Some cost) (bound_of r limit) (split_at (depth - 1) x y before) old new → IsPlannedAs (Some cost) limit (plan_of t depth x y before) old new
  split_wins r limit zero x y cost before old new inside some is planned = absurd (omega arith)
  split_wins r limit (suc d) x y cost before old new inside some is planned =
      let back : suc d - 1 ≡ d = omega arith in
      let planned' : IsPlannedAs (Some cost) (bound_of r limit) (split_at d x y before) old new = rw back at planned in
      let less : (split_at d x y before).cost < bound_of r limit = rw planned'.0 at planned'.1 in
      let w = wins_at r (is_whole size_of (2 ^ (3 + suc d)) x y) limit (unit_of t (block_at x y (3 + suc d)) before) (split_at d x y before) is less in
      let p : plan_of t (suc d) x y before ≡ split_at d x y before = step d x y before inside ∙ w.0 in
      let low : (split_at d x y before).cost < limit = w.1 in
      rw p (planned'.0, rw planned'.0 low, planned'.2)

  -- nothing is below the limit
  none_wins : (limit depth x y : ℕ) (before : List Moving) → is_inside size_of x y ≡ true → x % 8 ≡ 0 → y % 8 ≡ 0
      → IsWhole None limit depth x y before
      → (0 < depth → limit ≤ (split_at (depth - 1) x y before).cost) → limit ≤ (plan_of t depth x y before).cost
  none_wins limit zero x y before inside wx wy is splits = rw inside (is (whole_8 x y inside wx wy))
  none_wins limit (suc d) x y before inside wx wy is splits =
      let back : suc d - 1 ≡ d = omega arith in
      let s : limit ≤ (split_at d x y before).cost = rw back at (splits (omega arith)) in
      rw (step d x y before inside) (none_at (is_whole size_of (2 ^ (3 + suc d)) x y) limit (unit_of t (block_at x y (3 + suc d)) before) (split_at d x y before) is s)

  -- one coding unit wins
  unit_wins : (u : PlannedUnit) (limit depth x y : ℕ) (before : List Moving) → is_inside size_of x y ≡ true
      → IsWhole (Some u) limit depth x y before
      → (0 < depth → u.cost ≤ (split_at (depth - 1) x y before).cost) → plan_of t depth x y before ≡ one_unit u.cost u.unit
  unit_wins u limit zero x y before inside is splits = rw inside is.2
  unit_wins u limit (suc d) x y before inside is splits =
      let back : suc d - 1 ≡ d = omega arith in
      let s : u.cost ≤ (split_at d x y before).cost = rw back at (splits (omega arith)) in
      step d x y before inside ∙ unit_at u (is_whole size_of (2 ^ (3 + suc d)) x y) limit (unit_of t (block_at x y (3 + suc d)) before) (split_at d x y before) is s

  -- ---- the same of chosen units

  -- the cheapest unit of a block, after those that are chosen
  abbrev pub IsUnitOf : Option PlannedUnit → ℕ → ℕ → ℕ → ℕ → Choosing → Type 0
  IsUnitOf r limit depth x y old = (before : List Moving) → HasMotion old.motion before → IsWhole r limit depth x y (coded_after before old.units)

  pub split_planned : (r : Option PlannedUnit) (limit bound depth x y cost : ℕ) (old new : Choosing) → is_inside size_of x y ≡ true → 0 < depth → bound ≡ bound_of r limit
      → IsUnitOf r limit depth x y old → IsPlanned (Some cost) bound (split_at (depth - 1) x y) old new → IsPlanned (Some cost) limit (plan_of t depth x y) old new
  split_planned r limit bound depth x y cost old new inside some e is planned = λ before has.
      split_wins r limit depth x y cost (coded_after before old.units) old.units new.units inside some (is before has)
      (subst (λ (b : ℕ). IsPlannedAs (Some cost) b (split_at (depth - 1) x y (coded_after before old.units)) old.units new.units) e (planned before has))

  -- the quarters of a block don't cost less
  abbrev pub IsNoSplit : ℕ → ℕ → ℕ → ℕ → Choosing → Type 0
  IsNoSplit bound depth x y old = (before : List Moving) → HasMotion old.motion before → 0 < depth → bound ≤ (split_at (depth - 1) x y (coded_after before old.units)).cost

  pub none_planned : (limit depth x y : ℕ) (old new : Choosing) → is_inside size_of x y ≡ true → x % 8 ≡ 0 → y % 8 ≡ 0
      → IsUnitOf None limit depth x y old → IsNoSplit limit depth x y old → new.units ≡ old.units → IsPlanned None limit (plan_of t depth x y) old new
  none_planned limit depth x y old new inside wx wy is splits same = λ before has.
      (none_wins limit depth x y (coded_after before old.units) inside wx wy (is before has) (splits before has), same)

  pub unit_planned : (u : PlannedUnit) (limit depth x y : ℕ) (old new : Choosing) → is_inside size_of x y ≡ true
      → IsUnitOf (Some u) limit depth x y old → IsNoSplit u.cost depth x y old → new.units ≡ old.units ++ u.unit ∷ [] → IsPlanned (Some u.cost) limit (plan_of t depth x y) old new
  unit_planned u limit depth x y old new inside is splits added = λ before has.
      let p = unit_wins u limit depth x y (coded_after before old.units) inside (is before has) (splits before has) in
      rw p (refl, (is before has).1, added)

  pub few_planned : (limit depth x y : ℕ) (old new : Choosing) → is_inside size_of x y ≡ true → limit ≤ 1 → new.units ≡ old.units → IsPlanned None limit (plan_of t depth x y) old new
  few_planned limit depth x y old new inside few same = λ before has.
      let h = plan_least (picture_of t.search.last) (picture_of t.search.current) size_of t.effort depth x y (coded_after before old.units) inside in
      (omega arith, same)

  -- ---- the quarters, one after another

  abbrev child : ℕ → ℕ → ℕ → ℕ → List Moving → MovePlan
  child depth x y q before = plan_of t depth (x + q % 2 * 2 ^ (3 + depth)) (y + q / 2 * 2 ^ (3 + depth)) before

  abbrev pub parts : ℕ → ℕ → ℕ → List Moving → ℕ → MovePlan
  parts depth x y before zero = no_units
  parts depth x y before (suc q) = and_part (parts depth x y before q) (child depth x y q) before

  parts_most : (depth x y : ℕ) (before : List Moving) (q k : ℕ) → (parts depth x y before q).cost ≤ (parts depth x y before (q + k)).cost
  parts_most depth x y before q zero = let e : q + 0 ≡ q = omega arith in rw e (omega arith)
  parts_most depth x y before q (suc k) =
      let n : q + suc k ≡ suc (q + k) = omega arith in
      let h = parts_most depth x y before q k in
      rw n (omega arith)

  parts_all : (depth x y : ℕ) (before : List Moving) → split_at depth x y before ≡ record { cost = 1 + (parts depth x y before 4).cost; units = (parts depth x y before 4).units }
  parts_all depth x y before =
      let x0 : x + 0 * 2 ^ (3 + depth) ≡ x = omega arith in
      let y0 : y + 0 * 2 ^ (3 + depth) ≡ y = omega arith in
      let x1 : x + 1 * 2 ^ (3 + depth) ≡ x + 2 ^ (3 + depth) = omega arith in
      let y1 : y + 1 * 2 ^ (3 + depth) ≡ y + 2 ^ (3 + depth) = omega arith in
      let z : 0 + (plan_of t depth x y before).cost ≡ (plan_of t depth x y before).cost = omega arith in
      rw (x0, y0, x1, y1, z) refl

  -- the first q quarters of a block are planned, with the split
  pub record IsSoFar (depth x y q cost : ℕ) (old new : Choosing) : Type 0 where
    pub motion : new.motion ≡ old.motion
    pub total : (before : List Moving) → HasMotion old.motion before → cost ≡ 1 + (parts depth x y (coded_after before old.units) q).cost
    pub units : (before : List Moving) → HasMotion old.motion before → new.units ≡ old.units ++ (parts depth x y (coded_after before old.units) q).units

  pub none_so_far : (depth x y : ℕ) (old : Choosing) → IsSoFar depth x y 0 1 old old
  none_so_far depth x y old = record { motion = refl; total = λ before has. refl; units = λ before has. sym (append-nil old.units) }

  -- the units before the next quarter
  next_before : (depth x y q cost : ℕ) (old mid : Choosing) (before : List Moving) → IsSoFar depth x y q cost old mid → HasMotion old.motion before
      → coded_after before mid.units ≡ coded_after (coded_after before old.units) (parts depth x y (coded_after before old.units) q).units
  next_before depth x y q cost old mid before is has =
      ap (coded_after before) (is.units before has) ∙ coded-append before old.units (parts depth x y (coded_after before old.units) q).units

  -- what was planned of the next quarter, after the others
  next_planned : (r : Option ℕ) (limit depth x y q cost half : ℕ) (old mid new : Choosing) (before : List Moving) → half ≡ 2 ^ (3 + depth) → IsSoFar depth x y q cost old mid → HasMotion old.motion before
      → IsPlanned r limit (plan_of t depth (x + q % 2 * half) (y + q / 2 * half)) mid new
      → IsPlannedAs r limit (child depth x y q (coded_after (coded_after before old.units) (parts depth x y (coded_after before old.units) q).units)) mid.units new.units
  next_planned r limit depth x y q cost half old mid new before e is has planned =
      let h : HasMotion mid.motion before = subst (λ m. HasMotion m before) (sym is.motion) has in
      let p : IsPlannedAs r limit (child depth x y q (coded_after before mid.units)) mid.units new.units =
      subst (λ (n : ℕ). IsPlannedAs r limit (plan_of t depth (x + q % 2 * n) (y + q / 2 * n) (coded_after before mid.units)) mid.units new.units) e (planned before h) in
      subst (λ (b : List Moving). IsPlannedAs r limit (child depth x y q b) mid.units new.units) (next_before depth x y q cost old mid before is has) p

  pub one_more : (limit depth x y q k cost part sum half : ℕ) (old mid new : Choosing) → half ≡ 2 ^ (3 + depth) → k ≡ q + 1 → sum ≡ cost + part → new.motion ≡ mid.motion
      → IsSoFar depth x y q cost old mid
      → IsPlanned (Some part) limit (plan_of t depth (x + q % 2 * half) (y + q / 2 * half)) mid new → IsSoFar depth x y k sum old new
  one_more limit depth x y q k cost part sum half old mid new e next whole motion is planned = rw at_next total_is
    where
      at_next : k ≡ suc q
      at_next = omega arith

      total_is : IsSoFar depth x y (suc q) sum old new
      total_is = record {
        motion = motion ∙ is.motion;
        total = λ before has.
            let p = next_planned (Some part) limit depth x y q cost half old mid new before e is has planned in
            let c = is.total before has in
            let d = p.0 in
            omega (arith, whole, c, d);
        units = λ before has.
            let p = next_planned (Some part) limit depth x y q cost half old mid new before e is has planned in
            p.2 ∙ (ap (λ (l : List MoveLeaf). l ++ (child depth x y q (coded_after (coded_after before old.units) (parts depth x y (coded_after before old.units) q).units)).units) (is.units before has)
            ∙ append_assoc old.units (parts depth x y (coded_after before old.units) q).units _);
      }

  -- all four quarters
  pub four_planned : (limit depth x y cost half : ℕ) (old new : Choosing) → half ≡ 2 ^ (3 + depth) → cost < limit → IsSoFar depth x y 4 cost old new → IsPlanned (Some cost) limit (split_of t depth half x y) old new
  four_planned limit depth x y cost half old new e low is = subst (λ (n : ℕ). IsPlanned (Some cost) limit (split_of t depth n x y) old new) (sym e) (λ before has.
      subst (λ (p : MovePlan). IsPlannedAs (Some cost) limit p old.units new.units) (sym (parts_all depth x y (coded_after before old.units))) (is.total before has, low, is.units before has))

  -- the next quarter costs too much
  pub split_none : (limit rest depth x y q cost half : ℕ) (old mid new after : Choosing) → half ≡ 2 ^ (3 + depth) → q < 4 → rest ≡ limit - cost → IsSoFar depth x y q cost old mid
      → IsPlanned None rest (plan_of t depth (x + q % 2 * half) (y + q / 2 * half)) mid new → after.units ≡ old.units → IsPlanned None limit (split_of t depth half x y) old after
  split_none limit rest depth x y q cost half old mid new after e few left is planned same =
      subst (λ (n : ℕ). IsPlanned None limit (split_of t depth n x y) old after) (sym e) (λ before has. (low before has, same))
    where
      low : (before : List Moving) → HasMotion old.motion before → limit ≤ (split_at depth x y (coded_after before old.units)).cost
      low before has =
          let b : List Moving = coded_after before old.units in
          let p = (next_planned None rest depth x y q cost half old mid new before e is has planned).0 in
          let c = is.total before has in
          let back : suc q + (3 - q) ≡ 4 = omega arith in
          let most = rw back at (parts_most depth x y b (suc q) (3 - q)) in
          let all = ap (λ (s : MovePlan). s.cost) (parts_all depth x y b) in
          omega (arith, p, c, most, left, all)

pub four_some : (d : ℕ) → 1 ≤ 4 ^ d
four_some zero = omega arith
four_some (suc d) = let h = four_some d in let e = pow-suc 4 d in omega arith

-- a quarter of a block in the coding tree unit is one, too
pub quarter_place : (t : Search) (d x y q half : ℕ) → d ≤ 1 → q < 4 → half ≡ 2 ^ (3 + d) → IsPlace t (block_at x y (3 + (d + 1))) → IsPlace t (block_at (x + q % 2 * half) (y + q / 2 * half) (3 + d))
quarter_place t zero x y q half most less e place =
    let right : x + 16 ≤ t.x + 32 = place.right in
    let bottom : y + 16 ≤ t.y + 32 = place.bottom in
    let whole_x : x % 16 ≡ 0 = place.whole_x in
    let whole_y : y % 16 ≡ 0 = place.whole_y in
    let left : t.x ≤ x = place.left in
    let top : t.y ≤ y = place.top in
    let eight : half ≡ 8 = e in
    rw eight (record { left = omega arith; right = omega arith; top = omega arith; bottom = omega arith; whole_x = omega arith; whole_y = omega arith })
quarter_place t (suc zero) x y q half most less e place =
    let right : x + 32 ≤ t.x + 32 = place.right in
    let bottom : y + 32 ≤ t.y + 32 = place.bottom in
    let whole_x : x % 32 ≡ 0 = place.whole_x in
    let whole_y : y % 32 ≡ 0 = place.whole_y in
    let left : t.x ≤ x = place.left in
    let top : t.y ≤ y = place.top in
    let sixteen : half ≡ 16 = e in
    rw sixteen (record { left = omega arith; right = omega arith; top = omega arith; bottom = omega arith; whole_x = omega arith; whole_y = omega arith })
quarter_place t (suc (suc d)) x y q half most less e place = absurd (omega arith)

-- ---- chosen units that grow

pub grows_none : (c : Choosing) (n : ℕ) → Grows c c n
grows_none c n = record { motion = refl; added = []; units = sym (append-nil c.units); few = omega arith }

pub grows_same : (a b : Choosing) (n : ℕ) → b.motion ≡ a.motion → b.units ≡ a.units → Grows a b n
grows_same a b n m e = record { motion = m; added = []; units = e ∙ sym (append-nil a.units); few = omega arith }

pub grows_more : (a b c : Choosing) (m n k : ℕ) → Grows a b m → Grows b c n → m + n ≤ k → Grows a c k
grows_more a b c m n k f g h = record {
  motion = g.motion ∙ f.motion;
  added = f.added ++ g.added;
  units = g.units ∙ (ap (λ (l : List MoveLeaf). l ++ g.added) f.units ∙ append_assoc a.units f.added g.added);
  few = let e = length-append f.added g.added in let x = f.few in let y = g.few in omega (arith, e, x, y, h);
}

-- what was added is taken off
pub grows_back : (a b c : Choosing) (n k : ℕ) → Grows a b n → k ≡ length a.units → c.units ≡ take k b.units → c.units ≡ a.units
grows_back a b c n k g e h = h ∙ (ap (take k) g.units ∙ (ap (λ (m : ℕ). take m (a.units ++ g.added)) e ∙ take_front a.units g.added))

-- a block begins at multiples of 8
pub eights : (x log2 : ℕ) → 3 ≤ log2 → log2 ≤ 5 → x % 2 ^ log2 ≡ 0 → x % 8 ≡ 0
eights x log2 low high h = elim (cases_eq log2 3) [
  | inl three ↦ rw three at h
  | inr not_three ↦ elim (cases_eq log2 4) [
    | inl four ↦ let e : x % 16 ≡ 0 = rw four at h in omega arith
    | inr not_four ↦
        let five : log2 ≡ 5 = omega arith in
        let e : x % 32 ≡ 0 = rw five at h in
        omega arith
  ]
]

-- the quarters of a block were planned, and cost too much
pub no_split : (k other : Trial) (bound to depth x y : ℕ) (old new : Choosing) → other ≡ k → bound ≡ to
    → IsPlanned None bound (split_of other (depth - 1) (2 ^ (3 + (depth - 1))) x y) old new → IsNoSplit k to depth x y old
no_split k other bound to depth x y old new e f planned =
    let at : IsPlanned None to (split_of k (depth - 1) (2 ^ (3 + (depth - 1))) x y) old new =
    subst (λ (b : ℕ). IsPlanned None b (split_of k (depth - 1) (2 ^ (3 + (depth - 1))) x y) old new) f
    (subst (λ (m : Trial). IsPlanned None bound (split_of m (depth - 1) (2 ^ (3 + (depth - 1))) x y) old new) e planned) in
    λ before has some. (at before has).0

-- a block of side 8 has no quarters
pub no_quarters : (k : Trial) (to depth x y : ℕ) (old : Choosing) → depth ≤ 0 → IsNoSplit k to depth x y old
no_quarters k to depth x y old none = λ before has some. absurd (omega arith)

-- nothing was added, and then a unit
pub record IsKept (a b : Choosing) : Type 0 where
  pub motion : b.motion ≡ a.motion
  pub units : b.units ≡ a.units

pub kept_long : (a b : Choosing) → IsKept a b → length b.units ≡ length a.units
kept_long a b h = ap (λ (l : List MoveLeaf). length l) h.units

pub one_added : (a b c : Choosing) (unit : MoveLeaf) → IsKept a b → c.units ≡ b.units ++ unit ∷ [] → c.units ≡ a.units ++ unit ∷ []
one_added a b c unit h e = e ∙ ap (λ (l : List MoveLeaf). l ++ unit ∷ []) h.units

pub grows_one : (a b c : Choosing) (unit : MoveLeaf) (n : ℕ) → IsKept a b → c.motion ≡ b.motion → c.units ≡ b.units ++ unit ∷ [] → 1 ≤ n → Grows a c n
grows_one a b c unit n h m e some = record { motion = m ∙ h.motion; added = unit ∷ []; units = one_added a b c unit h e; few = some }

-- there is room for one block more
pub room_left : (a b : Choosing) (q n : ℕ) → Grows a b (q * n) → length a.units + 4 * n ≤ 16 → q < 4 → length b.units + n ≤ 16
room_left a b q n g room few =
    let quarters : (q + 1) * n ≤ 4 * n = mul-le (q + 1) n 4 n (omega arith) (omega arith) in
    let long = ap (λ (l : List MoveLeaf). length l) g.units ∙ length-append a.units g.added in
    let most = g.few in
    omega (arith, quarters, long, most, room)

-- the whole of a coding tree unit is planned, where none is chosen before and the limit is above all costs
all_planned : (r : Option ℕ) (limit : ℕ) (plan : List Moving → MovePlan) (old new : Choosing) → old.units ≡ [] → ((b : List Moving) → (plan b).cost < limit)
    → IsPlanned r limit plan old new → (before : List Moving) → HasMotion old.motion before → new.units ≡ (plan before).units
all_planned r limit plan old new none low planned before has =
    go r (subst (λ (us : List MoveLeaf). IsPlannedAs r limit (plan (coded_after before us)) us new.units) none (planned before has))
  where
    go : (r : Option ℕ) → IsPlannedAs r limit (plan before) [] new.units → new.units ≡ (plan before).units
    go None is = let l = low before in absurd (omega (arith, l, is.0))
    go (Some cost) is = is.2

pub search_is : (r : Option ℕ) (limit depth x y : ℕ) (t k : Trial) (old from new : Choosing) → t ≡ k → old ≡ from → from.units ≡ [] → ((b : List Moving) → (plan_of k depth x y b).cost < limit)
    → IsPlanned r limit (plan_of t depth x y) old new → (before : List Moving) → HasMotion from.motion before → new.units ≡ (plan_of k depth x y before).units
search_is r limit depth x y t k old from new e f none low planned =
    let one : IsPlanned r limit (plan_of k depth x y) old new = subst (λ (m : Trial). IsPlanned r limit (plan_of m depth x y) old new) e planned in
    all_planned r limit (plan_of k depth x y) from new none low (subst (λ (m : Choosing). IsPlanned r limit (plan_of k depth x y) m new) f one)
