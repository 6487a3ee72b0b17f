use Rattle.std.proofs.Common.{◌≡◌, ◌+◌, ◌<◌, ◌≤◌, ◌^◌, ◌++◌, List, ℕ, length, length-append, sym, ◌∙◌, ap, subst, arith}
use Rattle.std.specs.Arc.{arc_value}
use Rattle.picture_encoder.specs.Coded.{Coded, after_slice}
use Rattle.picture_encoder.specs.Planning.{slice_of, piece_of}
use Rattle.picture_encoder.proofs.Following.{task_slice}
use Rattle.picture_encoder.proofs.Lengths.{after_short}
use Rattle.picture_encoder.proofs.encoder.Encoder.piece.Goals as goal

pub returns-clause-piece : goal.returns-clause-piece
returns-clause-piece c =
    let e : Coded = c.self.inside.history in
    let now = arc_value c.args.now.now in
    let kept = subst (λ (d : Coded). d.last.size ≡ now.size) (sym c.self.view_is) c.requires.kept.size in
    let slice = c.in_ok-piece.ensures.slice ∙ task_slice e now c.task-task.result c.order_bits-order.result c.task-task.ensures.of (sym kept ∙ c.task-task.ensures.sized) c.order_bits-order.ensures.value in
    c.in_ok-extend_from_slice.ensures.items
    ∙ (ap (λ (l : List ℕ). l ++ c.args.after.now) slice
    ∙ (ap (λ (l : List ℕ). slice_of e now ++ l) (c.requires.after ∙ ap (λ (d : Coded). after_slice d.settings.extra now) (sym c.self.view_is))
    ∙ ap (λ (d : Coded). piece_of d now) c.self.view_is))

pub returns-clause-short : goal.returns-clause-short
returns-clause-short c =
    let long : length c.args.after.now ≤ 1024 = subst (λ (l : List ℕ). length l ≤ 1024) (sym c.requires.after) (after_short c.args.self.now.settings.extra (arc_value c.args.now.now)) in
    subst (λ (l : List ℕ). length l < 2 ^ 40) (sym c.in_ok-extend_from_slice.ensures.items)
    (omega (arith, length-append c.in_ok-piece.piece.items c.args.after.now, c.in_ok-piece.ensures.short, long))
