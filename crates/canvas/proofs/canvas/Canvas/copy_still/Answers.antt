use Rattle.std.proofs.Common.{◌≡◌, refl, ap, sym, subst, ◌∙◌, ◌+◌, ◌^◌, ◌≤◌, arith}
use Rattle.std.specs.Prelude.{◌++◌, ◌∷◌, [], IsTrue, Bool, true, false, List, length, slice_index_or}
use Rattle.std.specs.Vec.{with_items}
use Rattle.std.proofs.lemmas.List.{with_items_is}
use Rattle.h265_model.specs.Motion.{has_source, no_motion}
use Rattle.h265_model.specs.Plain.{Size, coded}
use Rattle.px_plane.specs.Planes.{Planes}
use Rattle.leaf_sink.specs.Units.{unit}
use Rattle.canvas.specs.Drawing.{Pictures, Draws}
use Rattle.canvas.specs.Marks.{AreMarked, IsMarked, ctu_at}
use Rattle.canvas.proofs.Marking.{IsBlock, marked_mended, marked_kept, copied_already, elsewhere_copied, mended_copied, copy_draws}
use Rattle.canvas.proofs.canvas.Canvas.copy_still.Goals as goal

pub returns-then-not-is_marked-clause-drawn : goal.returns-then-not-is_marked-clause-drawn
returns-then-not-is_marked-clause-drawn c = λ units content by draws.
    let old : Pictures = record { last = c.self.inside.last; drawn = c.self.inside.drawn } in
    let last : Planes = c.self.inside.last in
    let size : c.args.self.now.last.size ≡ last.size = sym (ap (λ (p : Pictures). p.last.size) c.self.view_is) in
    let is : IsBlock last.size c.args.block = record { low = c.requires.low; high = c.requires.high; column = c.requires.column; row = c.requires.row; across = subst (λ (s : Size). c.args.block.x + 2 ^ c.args.block.log2 ≤ coded s.w) size c.requires.across } in
    let number = c.ctu_of-ctu.ensures.value ∙ ap (λ (s : Size). ctu_at s c.args.block.x c.args.block.y) c.size.ensures.value in
    subst (λ (p : Pictures). Draws p (units ++ unit c.args.block content ∷ [])) c.self.view_is
    (copy_draws old old c.args.block no_motion c.args.block.x c.args.block.y (2 ^ c.args.block.log2) c.self.invariant.0.last.sized c.self.invariant.0.same c.self.invariant.0.same
    (subst (λ (s : Size). IsTrue (has_source s c.args.block no_motion)) size c.requires.source) (omega arith) (omega arith) refl refl
    (copied_already last c.self.inside.drawn c.self.inside.drawn c.self.inside.changed.items c.self.inside.changed.items c.args.block c.ctu_of-ctu.result is c.self.invariant.1 number c.self.invariant.0.same (ap (λ (l : List Bool). slice_index_or l c.ctu_of-ctu.result true) (sym c.deref.ensures.value) ∙ (sym c.is_marked.ensures ∙ c.if-not-is_marked.true)))
    units content by (subst (λ (p : Pictures). Draws p units) (sym c.self.view_is) draws))

pub invariant_of-self : goal.invariant_of-self
invariant_of-self c =
    let last : Planes = c.self.inside.last in
    let size : c.args.self.now.last.size ≡ last.size = sym (ap (λ (p : Pictures). p.last.size) c.self.view_is) in
    let items : (with_items c.self.inside.changed c.set_mark.new.marks).items ≡ c.set_mark.new.marks = with_items_is c.self.inside.changed c.set_mark.new.marks (omega (arith, c.self.inside.changed.ok)) in
    let same : c.copy_block.new.self.size ≡ last.size = c.copy_block.ensures.size ∙ c.self.invariant.0.same in
    let is : IsBlock last.size c.args.block = record { low = c.requires.low; high = c.requires.high; column = c.requires.column; row = c.requires.row; across = subst (λ (s : Size). c.args.block.x + 2 ^ c.args.block.log2 ≤ coded s.w) size c.requires.across } in
    let number = c.ctu_of-ctu.ensures.value ∙ ap (λ (s : Size). ctu_at s c.args.block.x c.args.block.y) c.size.ensures.value in (
      record { same = same; last = c.self.invariant.0.last; drawn = c.copy_block.ensures.whole },
      subst (λ (l : List Bool). AreMarked (record { last = last; drawn = c.copy_block.new.self }) l) (sym items)
          (marked_mended last c.self.inside.drawn c.copy_block.new.self c.self.inside.changed.items c.set_mark.new.marks c.args.block c.ctu_of-ctu.result is c.self.invariant.1 number (c.set_mark.ensures.long ∙ ap (λ (l : List Bool). length l) c.deref_mut.ensures.value) (subst (λ (l : List Bool). IsMarked l c.set_mark.new.marks c.ctu_of-ctu.result false) c.deref_mut.ensures.value c.set_mark.ensures.set)
          (sym c.side-n.ensures.value ∙ c.if-n-eq32.true)
          (elsewhere_copied last c.self.inside.drawn c.copy_block.new.self c.args.block.x c.args.block.y c.side-n.result c.args.block c.side-n.ensures.value same c.copy_block.ensures.copied)
          (mended_copied last c.self.inside.drawn c.copy_block.new.self c.side-n.result c.args.block c.side-n.ensures.value same c.copy_block.ensures.copied)),
    )

pub invariant_of-self-else-n-eq32 : goal.invariant_of-self-else-n-eq32
invariant_of-self-else-n-eq32 c =
    let last : Planes = c.self.inside.last in
    let size : c.args.self.now.last.size ≡ last.size = sym (ap (λ (p : Pictures). p.last.size) c.self.view_is) in
    let same : c.copy_block.new.self.size ≡ last.size = c.copy_block.ensures.size ∙ c.self.invariant.0.same in
    let is : IsBlock last.size c.args.block = record { low = c.requires.low; high = c.requires.high; column = c.requires.column; row = c.requires.row; across = subst (λ (s : Size). c.args.block.x + 2 ^ c.args.block.log2 ≤ coded s.w) size c.requires.across } in
    let number = c.ctu_of-ctu.ensures.value ∙ ap (λ (s : Size). ctu_at s c.args.block.x c.args.block.y) c.size.ensures.value in (
      record { same = same; last = c.self.invariant.0.last; drawn = c.copy_block.ensures.whole },
      marked_kept last c.self.inside.drawn c.copy_block.new.self c.self.inside.changed.items c.self.inside.changed.items c.args.block c.ctu_of-ctu.result is c.self.invariant.1 number
          (elsewhere_copied last c.self.inside.drawn c.copy_block.new.self c.args.block.x c.args.block.y c.side-n.result c.args.block c.side-n.ensures.value same c.copy_block.ensures.copied)
          (mended_copied last c.self.inside.drawn c.copy_block.new.self c.side-n.result c.args.block c.side-n.ensures.value same c.copy_block.ensures.copied),
    )

pub returns-then-n-eq32-clause-drawn : goal.returns-then-n-eq32-clause-drawn
returns-then-n-eq32-clause-drawn c = λ units content by draws.
    let old : Pictures = record { last = c.self.inside.last; drawn = c.self.inside.drawn } in
    let new : Pictures = record { last = c.self.inside.last; drawn = c.copy_block.new.self } in
    let size : c.args.self.now.last.size ≡ old.last.size = sym (ap (λ (p : Pictures). p.last.size) c.self.view_is) in
    copy_draws old new c.args.block no_motion c.args.block.x c.args.block.y c.side-n.result c.self.invariant.0.last.sized c.self.invariant.0.same (c.copy_block.ensures.size ∙ c.self.invariant.0.same)
    (subst (λ (s : Size). IsTrue (has_source s c.args.block no_motion)) size c.requires.source) (omega arith) (omega arith) c.side-n.ensures.value refl c.copy_block.ensures.copied
    units content by (subst (λ (p : Pictures). Draws p units) (sym c.self.view_is) draws)

pub returns-else-n-eq32-clause-drawn : goal.returns-else-n-eq32-clause-drawn
returns-else-n-eq32-clause-drawn c = λ units content by draws.
    let old : Pictures = record { last = c.self.inside.last; drawn = c.self.inside.drawn } in
    let new : Pictures = record { last = c.self.inside.last; drawn = c.copy_block.new.self } in
    let size : c.args.self.now.last.size ≡ old.last.size = sym (ap (λ (p : Pictures). p.last.size) c.self.view_is) in
    copy_draws old new c.args.block no_motion c.args.block.x c.args.block.y c.side-n.result c.self.invariant.0.last.sized c.self.invariant.0.same (c.copy_block.ensures.size ∙ c.self.invariant.0.same)
    (subst (λ (s : Size). IsTrue (has_source s c.args.block no_motion)) size c.requires.source) (omega arith) (omega arith) c.side-n.ensures.value refl c.copy_block.ensures.copied
    units content by (subst (λ (p : Pictures). Draws p units) (sym c.self.view_is) draws)
