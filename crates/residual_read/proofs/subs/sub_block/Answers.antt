use Rattle.std.proofs.Common.{◌∙◌, ap, refl, get_or, false, List, ℕ, arith}
use Rattle.scan_orders.proofs.MarkLaws.{is_sub, sub_known}
use Rattle.residual_read.specs.Parts.{shape_of, sub_of}
use Rattle.residual_read.proofs.subs.sub_block.Goals as goal

pub overflow_add-x : goal.overflow_add-x
overflow_add-x c = let x = (is_sub (shape_of c.args.shape) c.args.number c.from-x.result c.from-y.result c.requires.shape.low c.requires.shape.high c.requires.number (c.from-x.ensures ∙ ap (λ (l : List (ℕ × ℕ)). (get_or l c.args.number (0, 0)).0) c.places.ensures.value) (c.from-y.ensures ∙ ap (λ (l : List (ℕ × ℕ)). (get_or l c.args.number (0, 0)).1) c.places.ensures.value)).wide in let y = (is_sub (shape_of c.args.shape) c.args.number c.from-x.result c.from-y.result c.requires.shape.low c.requires.shape.high c.requires.number (c.from-x.ensures ∙ ap (λ (l : List (ℕ × ℕ)). (get_or l c.args.number (0, 0)).0) c.places.ensures.value) (c.from-y.ensures ∙ ap (λ (l : List (ℕ × ℕ)). (get_or l c.args.number (0, 0)).1) c.places.ensures.value)).tall in omega arith

pub mark_of-requires-clause-x : goal.mark_of-requires-clause-x
mark_of-requires-clause-x c = let x = (is_sub (shape_of c.args.shape) c.args.number c.from-x.result c.from-y.result c.requires.shape.low c.requires.shape.high c.requires.number (c.from-x.ensures ∙ ap (λ (l : List (ℕ × ℕ)). (get_or l c.args.number (0, 0)).0) c.places.ensures.value) (c.from-y.ensures ∙ ap (λ (l : List (ℕ × ℕ)). (get_or l c.args.number (0, 0)).1) c.places.ensures.value)).wide in let y = (is_sub (shape_of c.args.shape) c.args.number c.from-x.result c.from-y.result c.requires.shape.low c.requires.shape.high c.requires.number (c.from-x.ensures ∙ ap (λ (l : List (ℕ × ℕ)). (get_or l c.args.number (0, 0)).0) c.places.ensures.value) (c.from-y.ensures ∙ ap (λ (l : List (ℕ × ℕ)). (get_or l c.args.number (0, 0)).1) c.places.ensures.value)).tall in omega arith

pub mark_of-requires-clause-y : goal.mark_of-requires-clause-y
mark_of-requires-clause-y c = let x = (is_sub (shape_of c.args.shape) c.args.number c.from-x.result c.from-y.result c.requires.shape.low c.requires.shape.high c.requires.number (c.from-x.ensures ∙ ap (λ (l : List (ℕ × ℕ)). (get_or l c.args.number (0, 0)).0) c.places.ensures.value) (c.from-y.ensures ∙ ap (λ (l : List (ℕ × ℕ)). (get_or l c.args.number (0, 0)).1) c.places.ensures.value)).wide in let y = (is_sub (shape_of c.args.shape) c.args.number c.from-x.result c.from-y.result c.requires.shape.low c.requires.shape.high c.requires.number (c.from-x.ensures ∙ ap (λ (l : List (ℕ × ℕ)). (get_or l c.args.number (0, 0)).0) c.places.ensures.value) (c.from-y.ensures ∙ ap (λ (l : List (ℕ × ℕ)). (get_or l c.args.number (0, 0)).1) c.places.ensures.value)).tall in omega arith

pub bounds-marks-mark_of : goal.bounds-marks-mark_of
bounds-marks-mark_of c = let x = (is_sub (shape_of c.args.shape) c.args.number c.from-x.result c.from-y.result c.requires.shape.low c.requires.shape.high c.requires.number (c.from-x.ensures ∙ ap (λ (l : List (ℕ × ℕ)). (get_or l c.args.number (0, 0)).0) c.places.ensures.value) (c.from-y.ensures ∙ ap (λ (l : List (ℕ × ℕ)). (get_or l c.args.number (0, 0)).1) c.places.ensures.value)).wide in let y = (is_sub (shape_of c.args.shape) c.args.number c.from-x.result c.from-y.result c.requires.shape.low c.requires.shape.high c.requires.number (c.from-x.ensures ∙ ap (λ (l : List (ℕ × ℕ)). (get_or l c.args.number (0, 0)).0) c.places.ensures.value) (c.from-y.ensures ∙ ap (λ (l : List (ℕ × ℕ)). (get_or l c.args.number (0, 0)).1) c.places.ensures.value)).tall in rw c.mark_of.ensures (omega arith)

pub overflow_add-y : goal.overflow_add-y
overflow_add-y c = let x = (is_sub (shape_of c.args.shape) c.args.number c.from-x.result c.from-y.result c.requires.shape.low c.requires.shape.high c.requires.number (c.from-x.ensures ∙ ap (λ (l : List (ℕ × ℕ)). (get_or l c.args.number (0, 0)).0) c.places.ensures.value) (c.from-y.ensures ∙ ap (λ (l : List (ℕ × ℕ)). (get_or l c.args.number (0, 0)).1) c.places.ensures.value)).wide in let y = (is_sub (shape_of c.args.shape) c.args.number c.from-x.result c.from-y.result c.requires.shape.low c.requires.shape.high c.requires.number (c.from-x.ensures ∙ ap (λ (l : List (ℕ × ℕ)). (get_or l c.args.number (0, 0)).0) c.places.ensures.value) (c.from-y.ensures ∙ ap (λ (l : List (ℕ × ℕ)). (get_or l c.args.number (0, 0)).1) c.places.ensures.value)).tall in omega arith

pub mark_of-requires-2-clause-x : goal.mark_of-requires-2-clause-x
mark_of-requires-2-clause-x c = let x = (is_sub (shape_of c.args.shape) c.args.number c.from-x.result c.from-y.result c.requires.shape.low c.requires.shape.high c.requires.number (c.from-x.ensures ∙ ap (λ (l : List (ℕ × ℕ)). (get_or l c.args.number (0, 0)).0) c.places.ensures.value) (c.from-y.ensures ∙ ap (λ (l : List (ℕ × ℕ)). (get_or l c.args.number (0, 0)).1) c.places.ensures.value)).wide in let y = (is_sub (shape_of c.args.shape) c.args.number c.from-x.result c.from-y.result c.requires.shape.low c.requires.shape.high c.requires.number (c.from-x.ensures ∙ ap (λ (l : List (ℕ × ℕ)). (get_or l c.args.number (0, 0)).0) c.places.ensures.value) (c.from-y.ensures ∙ ap (λ (l : List (ℕ × ℕ)). (get_or l c.args.number (0, 0)).1) c.places.ensures.value)).tall in omega arith

pub mark_of-requires-2-clause-y : goal.mark_of-requires-2-clause-y
mark_of-requires-2-clause-y c = let x = (is_sub (shape_of c.args.shape) c.args.number c.from-x.result c.from-y.result c.requires.shape.low c.requires.shape.high c.requires.number (c.from-x.ensures ∙ ap (λ (l : List (ℕ × ℕ)). (get_or l c.args.number (0, 0)).0) c.places.ensures.value) (c.from-y.ensures ∙ ap (λ (l : List (ℕ × ℕ)). (get_or l c.args.number (0, 0)).1) c.places.ensures.value)).wide in let y = (is_sub (shape_of c.args.shape) c.args.number c.from-x.result c.from-y.result c.requires.shape.low c.requires.shape.high c.requires.number (c.from-x.ensures ∙ ap (λ (l : List (ℕ × ℕ)). (get_or l c.args.number (0, 0)).0) c.places.ensures.value) (c.from-y.ensures ∙ ap (λ (l : List (ℕ × ℕ)). (get_or l c.args.number (0, 0)).1) c.places.ensures.value)).tall in omega arith

pub bounds-marks-mark_of-2 : goal.bounds-marks-mark_of-2
bounds-marks-mark_of-2 c = let x = (is_sub (shape_of c.args.shape) c.args.number c.from-x.result c.from-y.result c.requires.shape.low c.requires.shape.high c.requires.number (c.from-x.ensures ∙ ap (λ (l : List (ℕ × ℕ)). (get_or l c.args.number (0, 0)).0) c.places.ensures.value) (c.from-y.ensures ∙ ap (λ (l : List (ℕ × ℕ)). (get_or l c.args.number (0, 0)).1) c.places.ensures.value)).wide in let y = (is_sub (shape_of c.args.shape) c.args.number c.from-x.result c.from-y.result c.requires.shape.low c.requires.shape.high c.requires.number (c.from-x.ensures ∙ ap (λ (l : List (ℕ × ℕ)). (get_or l c.args.number (0, 0)).0) c.places.ensures.value) (c.from-y.ensures ∙ ap (λ (l : List (ℕ × ℕ)). (get_or l c.args.number (0, 0)).1) c.places.ensures.value)).tall in rw c.mark_of-2.ensures (omega arith)

pub returns-clause-place : goal.returns-clause-place
returns-clause-place c = record { number = c.requires.number; x = (c.from-x.ensures ∙ ap (λ (l : List (ℕ × ℕ)). (get_or l c.args.number (0, 0)).0) c.places.ensures.value); y = (c.from-y.ensures ∙ ap (λ (l : List (ℕ × ℕ)). (get_or l c.args.number (0, 0)).1) c.places.ensures.value) }

pub returns-clause-known : goal.returns-clause-known
returns-clause-known c = λ flags are. sub_known (shape_of c.args.shape) c.args.number c.from-x.result c.from-y.result flags c.args.marks.now (sub_of (record { number = c.args.number; x = c.from-x.result; y = c.from-y.result; right = get_or c.args.marks.now c.mark_of.result false; below = get_or c.args.marks.now c.mark_of-2.result false })) (is_sub (shape_of c.args.shape) c.args.number c.from-x.result c.from-y.result c.requires.shape.low c.requires.shape.high c.requires.number (c.from-x.ensures ∙ ap (λ (l : List (ℕ × ℕ)). (get_or l c.args.number (0, 0)).0) c.places.ensures.value) (c.from-y.ensures ∙ ap (λ (l : List (ℕ × ℕ)). (get_or l c.args.number (0, 0)).1) c.places.ensures.value)) (c.from-x.ensures ∙ ap (λ (l : List (ℕ × ℕ)). (get_or l c.args.number (0, 0)).0) c.places.ensures.value) (c.from-y.ensures ∙ ap (λ (l : List (ℕ × ℕ)). (get_or l c.args.number (0, 0)).1) c.places.ensures.value) refl (ap (λ i. get_or c.args.marks.now i false) c.mark_of.ensures) (ap (λ i. get_or c.args.marks.now i false) c.mark_of-2.ensures) are
