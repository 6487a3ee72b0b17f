use Rattle.std.proofs.Common.{◌≡◌, ◌∙◌, ◌-◌, ap, sym, ℕ, List, get_or, true, false, arith}
use Rattle.h265_model.specs.Residual.{cbf, from_subs, from_last, without_leading_zeros}
use Rattle.residual_code.specs.Parts.{shape_of, sub_levels, down}
use Rattle.residual_code.proofs.StepLaws.{scan_low, sub_count_low, levels_are, coded_from, empty_from}
use Rattle.residual_code.proofs.SubLaws.{items_start, empty_start, empty_more, from_empty, from_coded, none_left}
use Rattle.residual_code.proofs.blocks.last_sub.Goals as goal

pub loop-left-init : goal.loop-left-init
loop-left-init c = record {
  few = let l = c.places-order.ensures.long in omega arith;
  empty = empty_start (shape_of c.args.shape) c.args.levels.now _ c.places-order.ensures.long;
  same = items_start (shape_of c.args.shape) c.args.levels.now c.requires.shape.low c.requires.shape.high ∙ ap (λ n. from_subs (shape_of c.args.shape) (down (sub_levels (shape_of c.args.shape) c.args.levels.now) n)) (sym c.places-order.ensures.long);
}

pub load-tile-requires-clause-x : goal.load-tile-requires-clause-x
load-tile-requires-clause-x c = (scan_low c.args.shape (c.loop-left.left - 1) c.from-x.result c.from-y.result c.requires.shape (let f = c.loop-left.invariant.few in omega arith) (c.from-x.ensures ∙ ap (λ (l : List (ℕ × ℕ)). (get_or l (c.loop-left.left - 1) (0, 0)).0) c.places-order.ensures.value) (c.from-y.ensures ∙ ap (λ (l : List (ℕ × ℕ)). (get_or l (c.loop-left.left - 1) (0, 0)).1) c.places-order.ensures.value)).0

pub load-tile-requires-clause-y : goal.load-tile-requires-clause-y
load-tile-requires-clause-y c = (scan_low c.args.shape (c.loop-left.left - 1) c.from-x.result c.from-y.result c.requires.shape (let f = c.loop-left.invariant.few in omega arith) (c.from-x.ensures ∙ ap (λ (l : List (ℕ × ℕ)). (get_or l (c.loop-left.left - 1) (0, 0)).0) c.places-order.ensures.value) (c.from-y.ensures ∙ ap (λ (l : List (ℕ × ℕ)). (get_or l (c.loop-left.left - 1) (0, 0)).1) c.places-order.ensures.value)).1

pub overflow_cast-sub : goal.overflow_cast-sub
overflow_cast-sub c = let l = sub_count_low c.args.shape c.requires.shape in let f = c.loop-left.invariant.few in omega arith

pub returns-then-not-is_empty-clause-items : goal.returns-then-not-is_empty-clause-items
returns-then-not-is_empty-clause-items c =
    let e = (levels_are c.args.shape (c.loop-left.left - 1) c.from-x.result c.from-y.result c.args.levels.now c.load-tile.result (c.from-x.ensures ∙ ap (λ (l : List (ℕ × ℕ)). (get_or l (c.loop-left.left - 1) (0, 0)).0) c.places-order.ensures.value) (c.from-y.ensures ∙ ap (λ (l : List (ℕ × ℕ)). (get_or l (c.loop-left.left - 1) (0, 0)).1) c.places-order.ensures.value) c.load-tile.ensures) in
    let some : cbf ((sub_levels (shape_of c.args.shape) c.args.levels.now) (c.loop-left.left - 1)) ≡ true = ap cbf (sym e) ∙ coded_from _ _ (c.is_empty.ensures c.args.shape.scan) c.if-not-is_empty.true in
    c.loop-left.invariant.same ∙ (from_coded (shape_of c.args.shape) (sub_levels (shape_of c.args.shape) c.args.levels.now) c.loop-left.left (omega arith) some
    ∙ ap (λ l. from_last (shape_of c.args.shape) (without_leading_zeros l) (down (sub_levels (shape_of c.args.shape) c.args.levels.now) (c.loop-left.left - 1))) (sym e))

pub loop-left-preserved : goal.loop-left-preserved
loop-left-preserved c =
    let e = (levels_are c.args.shape (c.loop-left.left - 1) c.from-x.result c.from-y.result c.args.levels.now c.load-tile.result (c.from-x.ensures ∙ ap (λ (l : List (ℕ × ℕ)). (get_or l (c.loop-left.left - 1) (0, 0)).0) c.places-order.ensures.value) (c.from-y.ensures ∙ ap (λ (l : List (ℕ × ℕ)). (get_or l (c.loop-left.left - 1) (0, 0)).1) c.places-order.ensures.value) c.load-tile.ensures) in
    let none : cbf ((sub_levels (shape_of c.args.shape) c.args.levels.now) (c.loop-left.left - 1)) ≡ false = ap cbf (sym e) ∙ empty_from _ _ (c.is_empty.ensures c.args.shape.scan) c.if-not-is_empty.false in
    record {
      few = let f = c.loop-left.invariant.few in omega arith;
      empty = empty_more (shape_of c.args.shape) c.args.levels.now c.loop-left.left (omega arith) none c.loop-left.invariant.empty;
      same = c.loop-left.invariant.same ∙ from_empty (shape_of c.args.shape) (sub_levels (shape_of c.args.shape) c.args.levels.now) c.loop-left.left (omega arith) none;
    }

pub unreachable-requires : goal.unreachable-requires
unfolding cbf
unreachable-requires c = none_left (shape_of c.args.shape) c.args.levels.now c.loop-left.left c.requires.shape.low c.requires.shape.high c.requires.long c.loop-left-test.false c.loop-left.invariant.empty c.requires.some
