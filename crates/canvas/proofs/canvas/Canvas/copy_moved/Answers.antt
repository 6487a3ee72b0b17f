use Rattle.std.proofs.Common.{◌≡◌, refl, ap, sym, subst, ◌∙◌, ◌+◌, ◌^◌, ◌≤◌, rules, arith, w32, to_z, of_z}
use Rattle.std.specs.Prelude.{IsTrue, ℤ, Bool, true, List, length}
use Rattle.std.specs.Vec.{with_items}
use Rattle.std.proofs.lemmas.List.{with_items_is}
use Rattle.px_plane.specs.Planes.{Planes}
use Rattle.std.proofs.lemmas.Int.{to_z-of_z}
use Rattle.h265_model.specs.Motion.{has_source, moved}
use Rattle.h265_model.specs.Plain.{Size, coded}
use Rattle.h265_model.specs.Settings.{is_size}
use Rattle.canvas.specs.Drawing.{Pictures, Draws, CanMove}
use Rattle.canvas.proofs.Units.{source_x, source_y}
use Rattle.canvas.proofs.Marking.{IsBlock, marked_changed, elsewhere_copied, copy_draws}
use Rattle.canvas.specs.Marks.{AreMarked, IsMarked, ctu_at}
use Rattle.canvas.proofs.canvas.Canvas.copy_moved.Goals as goal

pub moved-from_x-requires : goal.moved-from_x-requires
moved-from_x-requires c =
    let back : to_z w32 (of_z w32 c.args.vector.x) ≡ c.args.vector.x = to_z-of_z w32 c.args.vector.x (search rules) in
    let sized : IsTrue (is_size c.args.self.now.last.size) = subst (λ (s : Size). IsTrue (is_size s)) (c.size-size.ensures.value ∙ ap (λ (p : Pictures). p.last.size) c.self.view_is) c.size-size.ensures.within in
    subst (λ (v : ℤ). CanMove c.args.block.x v) (sym back) (source_x c.args.self.now.last.size c.args.block.x c.args.block.y c.args.block.log2 c.args.vector sized c.requires.source).0

pub moved-from_y-requires : goal.moved-from_y-requires
moved-from_y-requires c =
    let back : to_z w32 (of_z w32 c.args.vector.y) ≡ c.args.vector.y = to_z-of_z w32 c.args.vector.y (search rules) in
    let sized : IsTrue (is_size c.args.self.now.last.size) = subst (λ (s : Size). IsTrue (is_size s)) (c.size-size.ensures.value ∙ ap (λ (p : Pictures). p.last.size) c.self.view_is) c.size-size.ensures.within in
    subst (λ (v : ℤ). CanMove c.args.block.y v) (sym back) (source_y c.args.self.now.last.size c.args.block.x c.args.block.y c.args.block.log2 c.args.vector sized c.requires.source).0

pub copy_block-requires-clause-from_across : goal.copy_block-requires-clause-from_across
copy_block-requires-clause-from_across c =
    let back : to_z w32 (of_z w32 c.args.vector.x) ≡ c.args.vector.x = to_z-of_z w32 c.args.vector.x (search rules) in
    let same : c.args.self.now.last.size ≡ c.self.inside.drawn.size = sym (c.self.invariant.0.same ∙ ap (λ (p : Pictures). p.last.size) c.self.view_is) in
    let sized : IsTrue (is_size c.args.self.now.last.size) = subst (λ (s : Size). IsTrue (is_size s)) (c.size-size.ensures.value ∙ ap (λ (p : Pictures). p.last.size) c.self.view_is) c.size-size.ensures.within in
    let fits : moved c.args.block.x c.args.vector.x + 2 ^ c.args.block.log2 ≤ coded c.args.self.now.last.size.w = (source_x c.args.self.now.last.size c.args.block.x c.args.block.y c.args.block.log2 c.args.vector sized c.requires.source).1 in
    rw (c.moved-from_x.ensures, back, c.side-n.ensures.value, ← same) fits

pub copy_block-requires-clause-from_down : goal.copy_block-requires-clause-from_down
copy_block-requires-clause-from_down c =
    let back : to_z w32 (of_z w32 c.args.vector.y) ≡ c.args.vector.y = to_z-of_z w32 c.args.vector.y (search rules) in
    let same : c.args.self.now.last.size ≡ c.self.inside.drawn.size = sym (c.self.invariant.0.same ∙ ap (λ (p : Pictures). p.last.size) c.self.view_is) in
    let sized : IsTrue (is_size c.args.self.now.last.size) = subst (λ (s : Size). IsTrue (is_size s)) (c.size-size.ensures.value ∙ ap (λ (p : Pictures). p.last.size) c.self.view_is) c.size-size.ensures.within in
    let fits : moved c.args.block.y c.args.vector.y + 2 ^ c.args.block.log2 ≤ coded c.args.self.now.last.size.h = (source_y c.args.self.now.last.size c.args.block.x c.args.block.y c.args.block.log2 c.args.vector sized c.requires.source).1 in
    rw (c.moved-from_y.ensures, back, c.side-n.ensures.value, ← same) fits

pub invariant_of-self : goal.invariant_of-self
invariant_of-self c =
    let last : Planes = c.self.inside.last in
    let size : c.args.self.now.last.size ≡ last.size = sym (ap (λ (p : Pictures). p.last.size) c.self.view_is) in
    let items : (with_items c.self.inside.changed c.set_mark.new.marks).items ≡ c.set_mark.new.marks = with_items_is c.self.inside.changed c.set_mark.new.marks (omega (arith, c.self.inside.changed.ok)) in
    let same : c.copy_block.new.self.size ≡ last.size = c.copy_block.ensures.size ∙ c.self.invariant.0.same in
    let is : IsBlock last.size c.args.block = record { low = c.requires.low; high = c.requires.high; column = c.requires.column; row = c.requires.row; across = subst (λ (s : Size). c.args.block.x + 2 ^ c.args.block.log2 ≤ coded s.w) size c.requires.across } in
    let number = c.ctu_of.ensures.value ∙ ap (λ (s : Size). ctu_at s c.args.block.x c.args.block.y) c.size-size.ensures.value in (
      record { same = same; last = c.self.invariant.0.last; drawn = c.copy_block.ensures.whole },
      subst (λ (l : List Bool). AreMarked (record { last = last; drawn = c.copy_block.new.self }) l) (sym items)
          (marked_changed last c.self.inside.drawn c.copy_block.new.self c.self.inside.changed.items c.set_mark.new.marks c.args.block c.ctu_of.result is c.self.invariant.1 number (c.set_mark.ensures.long ∙ ap (λ (l : List Bool). length l) c.deref_mut.ensures.value) (subst (λ (l : List Bool). IsMarked l c.set_mark.new.marks c.ctu_of.result true) c.deref_mut.ensures.value c.set_mark.ensures.set)
          (elsewhere_copied last c.self.inside.drawn c.copy_block.new.self c.moved-from_x.result c.moved-from_y.result c.side-n.result c.args.block c.side-n.ensures.value same c.copy_block.ensures.copied)),
    )

pub returns-clause-drawn : goal.returns-clause-drawn
returns-clause-drawn c = λ units content by draws.
    let bx : to_z w32 (of_z w32 c.args.vector.x) ≡ c.args.vector.x = to_z-of_z w32 c.args.vector.x (search rules) in
    let vy : to_z w32 (of_z w32 c.args.vector.y) ≡ c.args.vector.y = to_z-of_z w32 c.args.vector.y (search rules) in
    let old : Pictures = record { last = c.self.inside.last; drawn = c.self.inside.drawn } in
    let new : Pictures = record { last = c.self.inside.last; drawn = c.copy_block.new.self } in
    let size : c.args.self.now.last.size ≡ old.last.size = sym (ap (λ (p : Pictures). p.last.size) c.self.view_is) in
    copy_draws old new c.args.block c.args.vector c.moved-from_x.result c.moved-from_y.result c.side-n.result c.self.invariant.0.last.sized c.self.invariant.0.same (c.copy_block.ensures.size ∙ c.self.invariant.0.same)
    (subst (λ (s : Size). IsTrue (has_source s c.args.block c.args.vector)) size c.requires.source)
    (c.moved-from_x.ensures ∙ ap (λ (v : ℤ). moved c.args.block.x v) bx) (c.moved-from_y.ensures ∙ ap (λ (v : ℤ). moved c.args.block.y v) vy) c.side-n.ensures.value refl c.copy_block.ensures.copied
    units content by (subst (λ (p : Pictures). Draws p units) (sym c.self.view_is) draws)
