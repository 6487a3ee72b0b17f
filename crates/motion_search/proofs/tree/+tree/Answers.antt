use Rattle.std.proofs.Common.{◌≡◌, ℕ, ◌+◌, ◌-◌, ◌*◌, ◌/◌, ◌%◌, ◌<◌, ◌^◌, true, false, refl, sym, ap, subst, ◌∙◌, arith}
use Rattle.std.specs.Prelude.{Option, Some, None}
use Rattle.std.proofs.lemmas.List.{append-nil}
use Rattle.h265_model.specs.Plain.{block_at, Size}
use Rattle.h265_model.specs.Predict.{is_inside}
use Rattle.h265_model.specs.Motion.{coded_after}
use Rattle.chosen_units.specs.Chosen.{Choosing}
use Rattle.unit_choice.specs.Units.{Trial}
use Rattle.unit_choice.specs.declared.units.PlannedUnit.{PlannedUnit}
use Rattle.motion_search.specs.Planned.{IsTrial, IsPlace, IsPlanned, plan_of, split_of}
use Rattle.motion_search.proofs.Planned.{bound_of, plan_outside, split_at, IsUnitOf, IsNoSplit, split_planned, none_planned, unit_planned, few_planned, one_more, split_none, four_some, quarter_place, grows_more, grows_back, eights, no_split, no_quarters, IsKept, kept_long, one_added, grows_one, room_left}
use Rattle.motion_search.proofs.tree.+tree.Goals as goal
use Rattle.motion_search.proofs.tree.+tree.Goals.{plan_block-in-Some, plan_block-in-None, plan_block-then-depth-gt0+in_default, plan_block-else-depth-gt0}

pub plan_block-returns-then-limit-gt0-clause-planned : goal.plan_block-returns-then-limit-gt0-clause-planned
plan_block-returns-then-limit-gt0-clause-planned t c =
    let outside : is_inside c.args.choice.now.search.current.size c.args.x c.args.y ≡ false = ap (λ (s : Size). is_inside s c.args.x c.args.y) (sym c.requires.size) ∙ (sym c.is_inside.ensures ∙ c.if-not-is_inside.true) in
    λ before has. rw (plan_outside c.args.choice.now c.args.depth c.args.x c.args.y (coded_after before c.args.chosen.now.units) outside) (refl, c.if-limit-gt0.true, sym (append-nil c.args.chosen.now.units))

pub plan_block-returns-then-limit-le1-clause-planned : goal.plan_block-returns-then-limit-le1-clause-planned
plan_block-returns-then-limit-le1-clause-planned t c =
    let inside : is_inside c.args.choice.now.search.current.size c.args.x c.args.y ≡ true = ap (λ (s : Size). is_inside s c.args.x c.args.y) (sym c.requires.size) ∙ (sym c.is_inside.ensures ∙ c.if-not-is_inside.false) in
    few_planned c.args.choice.now c.args.limit c.args.depth c.args.x c.args.y c.args.chosen.now c.args.chosen.now inside c.if-limit-le1.true refl

pub plan_block-returns-in-Some-plan_split-clause-planned : goal.plan_block-returns-in-Some-plan_split-clause-planned
plan_block-returns-in-Some-plan_split-clause-planned t c =
    let k : Trial = c.args.choice.now in
    let inside : is_inside c.args.choice.now.search.current.size c.args.x c.args.y ≡ true = ap (λ (s : Size). is_inside s c.args.x c.args.y) (sym c.requires.size) ∙ (sym c.is_inside.ensures ∙ c.if-not-is_inside.false) in
    let bound : c.match-unit.bound ≡ bound_of k c.whole_unit-unit.result c.args.limit =
    elim c.match-unit.branch [ plan_block-in-Some w ↦ w.bound-is ∙ rw w.in-Some.is refl | plan_block-in-None w ↦ w.bound-is ∙ rw w.in-None.is refl ] in
    split_planned k c.whole_unit-unit.result c.args.limit c.match-unit.bound c.args.depth c.args.x c.args.y c.in-Some-plan_split.cost c.args.chosen.now c.plan_split.new.chosen inside c.if-depth-gt0.true bound
    c.whole_unit-unit.ensures.planned
    (subst (λ (m : Trial). IsPlanned (Some c.in-Some-plan_split.cost) c.match-unit.bound (split_at m (c.args.depth - 1) c.args.x c.args.y) c.args.chosen.now c.plan_split.new.chosen)
    c.whole_unit-unit.ensures.same c.in-Some-plan_split.ensures.planned)

pub plan_block-returns-in-Some-plan_split-clause-below : goal.plan_block-returns-in-Some-plan_split-clause-below
plan_block-returns-in-Some-plan_split-clause-below t c =
    let low : c.in-Some-plan_split.cost < c.match-unit.bound = c.in-Some-plan_split.ensures.below in
    elim c.match-unit.branch [
      | plan_block-in-Some w ↦ (let e = w.bound-is in let l = rw w.in-Some.is at c.whole_unit-unit.ensures.below in omega (arith, low, e, l))
      | plan_block-in-None w ↦ (let e = w.bound-is in omega (arith, low, e))
    ]

pub plan_block-returns-in_err-planned-clause-planned : goal.plan_block-returns-in_err-planned-clause-planned
plan_block-returns-in_err-planned-clause-planned t c =
    let k : Trial = c.args.choice.now in
    let inside : is_inside c.args.choice.now.search.current.size c.args.x c.args.y ≡ true = ap (λ (s : Size). is_inside s c.args.x c.args.y) (sym c.requires.size) ∙ (sym c.is_inside.ensures ∙ c.if-not-is_inside.false) in
    let bound : c.match-unit.bound ≡ bound_of k c.whole_unit-unit.result c.args.limit =
    elim c.match-unit.branch [ plan_block-in-Some w ↦ w.bound-is ∙ rw w.in-Some.is refl | plan_block-in-None w ↦ w.bound-is ∙ rw w.in-None.is refl ] in
    let kept : IsKept c.args.chosen.now c.if-depth-gt0.chosen =
    elim c.if-depth-gt0.branch [
      | plan_block-then-depth-gt0+in_default w ↦ subst (λ (m : Choosing). IsKept c.args.chosen.now m) (sym w.chosen-is) (record { motion = w.in_default.ensures.grows.motion; units = w.in_default.ensures.none })
      | plan_block-else-depth-gt0 w ↦ subst (λ (m : Choosing). IsKept c.args.chosen.now m) (sym w.chosen-is) (record { motion = refl; units = refl })
    ] in
    let taken : c.match-unit.unit ≡ c.whole_unit-unit.result = elim c.match-unit.branch [ plan_block-in-Some w ↦ w.unit-is ∙ sym w.in-Some.is | plan_block-in-None w ↦ w.unit-is ] in
    let none : c.whole_unit-unit.result ≡ None = sym taken ∙ c.in_err-planned.was in
    let to : c.match-unit.bound ≡ c.args.limit = bound ∙ ap (λ (r : Option PlannedUnit). bound_of k r c.args.limit) none in
    let splits : IsNoSplit k c.args.limit c.args.depth c.args.x c.args.y c.args.chosen.now =
    elim c.if-depth-gt0.branch [
      | plan_block-then-depth-gt0+in_default w ↦ no_split k _ c.match-unit.bound c.args.limit c.args.depth c.args.x c.args.y c.args.chosen.now w.plan_split.new.chosen c.whole_unit-unit.ensures.same to w.in_default.ensures.planned
      | plan_block-else-depth-gt0 w ↦ no_quarters k c.args.limit c.args.depth c.args.x c.args.y c.args.chosen.now w.if-depth-gt0.false
    ] in
    let is : IsUnitOf k None c.args.limit c.args.depth c.args.x c.args.y c.args.chosen.now =
    subst (λ (r : Option PlannedUnit). IsUnitOf k r c.args.limit c.args.depth c.args.x c.args.y c.args.chosen.now) none c.whole_unit-unit.ensures.planned in
    subst (λ (r : Option ℕ). IsPlanned r c.args.limit (plan_of k c.args.depth c.args.x c.args.y) c.args.chosen.now c.if-depth-gt0.chosen) (sym c.from_residual.ensures)
    (none_planned k c.args.limit c.args.depth c.args.x c.args.y c.args.chosen.now c.if-depth-gt0.chosen inside
    (eights c.args.x (3 + c.args.depth) (omega arith) (omega arith) c.requires.place.whole_x) (eights c.args.y (3 + c.args.depth) (omega arith) (omega arith) c.requires.place.whole_y) is splits kept.units)

pub plan_block-push-requires-clause-room : goal.plan_block-push-requires-clause-room
plan_block-push-requires-clause-room t c =
    let kept : IsKept c.args.chosen.now c.if-depth-gt0.chosen =
    elim c.if-depth-gt0.branch [
      | plan_block-then-depth-gt0+in_default w ↦ subst (λ (m : Choosing). IsKept c.args.chosen.now m) (sym w.chosen-is) (record { motion = w.in_default.ensures.grows.motion; units = w.in_default.ensures.none })
      | plan_block-else-depth-gt0 w ↦ subst (λ (m : Choosing). IsKept c.args.chosen.now m) (sym w.chosen-is) (record { motion = refl; units = refl })
    ] in
    let some = four_some c.args.depth in
    let same = kept_long c.args.chosen.now c.if-depth-gt0.chosen kept in
    let room = c.requires.room in
    omega (arith, some, same, room)

pub plan_block-returns-clause-planned : goal.plan_block-returns-clause-planned
plan_block-returns-clause-planned t c =
    let k : Trial = c.args.choice.now in
    let inside : is_inside c.args.choice.now.search.current.size c.args.x c.args.y ≡ true = ap (λ (s : Size). is_inside s c.args.x c.args.y) (sym c.requires.size) ∙ (sym c.is_inside.ensures ∙ c.if-not-is_inside.false) in
    let bound : c.match-unit.bound ≡ bound_of k c.whole_unit-unit.result c.args.limit =
    elim c.match-unit.branch [ plan_block-in-Some w ↦ w.bound-is ∙ rw w.in-Some.is refl | plan_block-in-None w ↦ w.bound-is ∙ rw w.in-None.is refl ] in
    let kept : IsKept c.args.chosen.now c.if-depth-gt0.chosen =
    elim c.if-depth-gt0.branch [
      | plan_block-then-depth-gt0+in_default w ↦ subst (λ (m : Choosing). IsKept c.args.chosen.now m) (sym w.chosen-is) (record { motion = w.in_default.ensures.grows.motion; units = w.in_default.ensures.none })
      | plan_block-else-depth-gt0 w ↦ subst (λ (m : Choosing). IsKept c.args.chosen.now m) (sym w.chosen-is) (record { motion = refl; units = refl })
    ] in
    let taken : c.match-unit.unit ≡ c.whole_unit-unit.result = elim c.match-unit.branch [ plan_block-in-Some w ↦ w.unit-is ∙ sym w.in-Some.is | plan_block-in-None w ↦ w.unit-is ] in
    let found : c.whole_unit-unit.result ≡ Some c.in_ok-planned.planned = sym taken ∙ c.in_ok-planned.was in
    let to : c.match-unit.bound ≡ c.in_ok-planned.planned.cost = bound ∙ ap (λ (r : Option PlannedUnit). bound_of k r c.args.limit) found in
    let splits : IsNoSplit k c.in_ok-planned.planned.cost c.args.depth c.args.x c.args.y c.args.chosen.now =
    elim c.if-depth-gt0.branch [
      | plan_block-then-depth-gt0+in_default w ↦ no_split k _ c.match-unit.bound c.in_ok-planned.planned.cost c.args.depth c.args.x c.args.y c.args.chosen.now w.plan_split.new.chosen c.whole_unit-unit.ensures.same to w.in_default.ensures.planned
      | plan_block-else-depth-gt0 w ↦ no_quarters k c.in_ok-planned.planned.cost c.args.depth c.args.x c.args.y c.args.chosen.now w.if-depth-gt0.false
    ] in
    let is : IsUnitOf k (Some c.in_ok-planned.planned) c.args.limit c.args.depth c.args.x c.args.y c.args.chosen.now =
    subst (λ (r : Option PlannedUnit). IsUnitOf k r c.args.limit c.args.depth c.args.x c.args.y c.args.chosen.now) found c.whole_unit-unit.ensures.planned in
    unit_planned k c.in_ok-planned.planned c.args.limit c.args.depth c.args.x c.args.y c.args.chosen.now c.push.new.self inside is splits
    (one_added c.args.chosen.now c.if-depth-gt0.chosen c.push.new.self c.in_ok-planned.planned.unit kept c.push.ensures.units)

pub plan_block-returns-clause-below : goal.plan_block-returns-clause-below
plan_block-returns-clause-below t c =
    let taken : c.match-unit.unit ≡ c.whole_unit-unit.result = elim c.match-unit.branch [ plan_block-in-Some w ↦ w.unit-is ∙ sym w.in-Some.is | plan_block-in-None w ↦ w.unit-is ] in
    let found : c.whole_unit-unit.result ≡ Some c.in_ok-planned.planned = sym taken ∙ c.in_ok-planned.was in
    rw found at c.whole_unit-unit.ensures.below

pub plan_block-returns-clause-grows : goal.plan_block-returns-clause-grows
plan_block-returns-clause-grows t c =
    let kept : IsKept c.args.chosen.now c.if-depth-gt0.chosen =
    elim c.if-depth-gt0.branch [
      | plan_block-then-depth-gt0+in_default w ↦ subst (λ (m : Choosing). IsKept c.args.chosen.now m) (sym w.chosen-is) (record { motion = w.in_default.ensures.grows.motion; units = w.in_default.ensures.none })
      | plan_block-else-depth-gt0 w ↦ subst (λ (m : Choosing). IsKept c.args.chosen.now m) (sym w.chosen-is) (record { motion = refl; units = refl })
    ] in
    grows_one c.args.chosen.now c.if-depth-gt0.chosen c.push.new.self c.in_ok-planned.planned.unit (4 ^ c.args.depth) kept c.push.ensures.motion c.push.ensures.units (four_some c.args.depth)

pub plan_split-plan_block-requires : goal.plan_split-plan_block-requires
plan_split-plan_block-requires t c =
    let q : ℕ = c.loop-quarter.quarter in
    let same = c.loop-quarter.invariant.choice in (
      omega arith,
      (
        subst (λ (m : Trial). IsTrial m) (sym same) c.requires.trial,
        (
          c.requires.size ∙ ap (λ (m : Trial). m.search.current.size) (sym same),
          (
            omega arith,
            (
              subst (λ (m : Trial). IsPlace m.search (block_at (c.args.x + q % 2 * c.side_of-half.result) (c.args.y + q / 2 * c.side_of-half.result) (3 + c.args.depth))) (sym same)
                  (quarter_place c.args.choice.now.search c.args.depth c.args.x c.args.y q c.side_of-half.result c.requires.depth (omega arith) c.side_of-half.ensures.value c.requires.place),
              room_left c.args.chosen.now c.loop-quarter.chosen q (4 ^ c.args.depth) c.loop-quarter.invariant.grows c.requires.room (omega arith),
            ),
          ),
        ),
      ),
    )

pub plan_split-returns-in-None-clause-planned : goal.plan_split-returns-in-None-clause-planned
plan_split-returns-in-None-clause-planned t c =
    let k : Trial = c.args.choice.now in
    let q : ℕ = c.loop-quarter.quarter in
    let half : c.side_of-half.result ≡ 2 ^ (3 + c.args.depth) = c.side_of-half.ensures.value in
    let part = subst (λ (m : Trial). IsPlanned None c.saturating_sub.result (plan_of m c.args.depth (c.args.x + q % 2 * c.side_of-half.result) (c.args.y + q / 2 * c.side_of-half.result)) c.loop-quarter.chosen c.plan_block.new.chosen)
    c.loop-quarter.invariant.choice c.in-None.ensures.planned in
    let back = grows_back c.args.chosen.now c.plan_block.new.chosen c.truncate.new.self _ c.len-mark.result
    (grows_more c.args.chosen.now c.loop-quarter.chosen c.plan_block.new.chosen (q * 4 ^ c.args.depth) (4 ^ c.args.depth) (q * 4 ^ c.args.depth + 4 ^ c.args.depth) c.loop-quarter.invariant.grows c.in-None.ensures.grows (omega arith))
    c.len-mark.ensures.value c.truncate.ensures.units in
    subst (λ (n : ℕ). IsPlanned None c.args.limit (split_of k c.args.depth n c.args.x c.args.y) c.args.chosen.now c.truncate.new.self) half
    (split_none k c.args.limit c.saturating_sub.result c.args.depth c.args.x c.args.y q c.loop-quarter.cost c.side_of-half.result c.args.chosen.now c.loop-quarter.chosen c.plan_block.new.chosen c.truncate.new.self
    half (omega arith) c.saturating_sub.ensures c.loop-quarter.invariant.planned part back)

pub plan_split-loop-quarter-preserved : goal.plan_split-loop-quarter-preserved
plan_split-loop-quarter-preserved t c =
    let k : Trial = c.args.choice.now in
    let q : ℕ = c.loop-quarter.quarter in
    let half : c.side_of-half.result ≡ 2 ^ (3 + c.args.depth) = c.side_of-half.ensures.value in
    let part = subst (λ (m : Trial). IsPlanned (Some c.in-Some.part) c.saturating_sub.result (plan_of m c.args.depth (c.args.x + q % 2 * c.side_of-half.result) (c.args.y + q / 2 * c.side_of-half.result)) c.loop-quarter.chosen c.plan_block.new.chosen)
    c.loop-quarter.invariant.choice c.in-Some.ensures.planned in
    let low = c.in-Some.ensures.below in
    let rest = c.saturating_sub.ensures in
    record {
      choice = c.in-Some.ensures.same ∙ c.loop-quarter.invariant.choice;
      planned = one_more k c.saturating_sub.result c.args.depth c.args.x c.args.y q (q + 1) c.loop-quarter.cost c.in-Some.part (c.loop-quarter.cost + c.in-Some.part) c.side_of-half.result c.args.chosen.now c.loop-quarter.chosen c.plan_block.new.chosen
          half refl refl c.in-Some.ensures.grows.motion c.loop-quarter.invariant.planned part;
      below = λ some. omega (arith, low, rest);
      grows = grows_more c.args.chosen.now c.loop-quarter.chosen c.plan_block.new.chosen (q * 4 ^ c.args.depth) (4 ^ c.args.depth) ((q + 1) * 4 ^ c.args.depth) c.loop-quarter.invariant.grows c.in-Some.ensures.grows (omega arith);
    }
