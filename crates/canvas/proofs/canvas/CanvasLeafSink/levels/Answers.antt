use Rattle.std.proofs.Common.{◌≡◌, refl, ap, sym, subst, ◌∙◌, ℕ, ◌+◌, ◌^◌, ◌≤◌, List, Option, arith}
use Rattle.std.specs.Prelude.{ℤ}
use Rattle.std.specs.Option.{option_copied}
use Rattle.h265_model.specs.Plain.{block_at, Size, coded}
use Rattle.h265_model.specs.Tree.{ReadUnit, Levels}
use Rattle.px_plane.specs.Planes.{Planes, picture_of}
use Rattle.leaf_sink.specs.Units.{unit, HasAvailable, levels_of}
use Rattle.std.specs.Prelude.{Bool, true, length}
use Rattle.std.specs.Vec.{with_items}
use Rattle.std.proofs.lemmas.List.{with_items_is}
use Rattle.h265_model.specs.declared.block.CodingBlock.{CodingBlock}
use Rattle.canvas.specs.Marks.{AreMarked, IsMarked, ctu_at}
use Rattle.canvas.proofs.Marking.{IsBlock, marked_changed, elsewhere_drawn}
use Rattle.canvas.specs.Drawing.{Pictures, Draws, drawn_block}
use Rattle.canvas.proofs.Units.{unit_drawn}
use Rattle.canvas.proofs.Components.{AreDrawn, ArePredicted, three_drawn, levels_block}
use Rattle.canvas.proofs.canvas.CanvasLeafSink.levels.Goals as goal

pub returns-clause-taken : goal.returns-clause-taken
returns-clause-taken c = λ units draws has.
    let log2 : ℕ = c.args.block.log2 in
    let mode : ℕ = c.args.mode in
    let old : Pictures = record { last = c.self.inside.last; drawn = c.self.inside.drawn } in
    let new : Pictures = record { last = c.self.inside.last; drawn = c.draw_component-3.new.drawn } in
    let u : ReadUnit = unit (block_at c.args.block.x c.args.block.y log2) (Levels mode (levels_of log2 c.args.residuals)) in
    let d1 : Planes = c.draw_component.new.drawn in
    let d2 : Planes = c.draw_component-2.new.drawn in
    let l0 : Option (List ℤ) = option_copied c.args.residuals.luma in
    let l1 : Option (List ℤ) = option_copied c.args.residuals.cb in
    let l2 : Option (List ℤ) = option_copied c.args.residuals.cr in
    let e1 : d1.size ≡ old.drawn.size = c.draw_component.ensures.size in
    let e2 : d2.size ≡ old.drawn.size = c.draw_component-2.ensures.size ∙ e1 in
    let same : old.drawn.size ≡ old.last.size = c.self.invariant.0.same in
    let b0 : List ℕ = drawn_block old.drawn.size (picture_of old.drawn) mode 0 (block_at c.args.block.x c.args.block.y log2) l0 in
    let b1 : List ℕ = drawn_block d1.size (picture_of d1) mode 1 (block_at c.args.block.x c.args.block.y log2) l1 in
    let b2 : List ℕ = drawn_block d2.size (picture_of d2) mode 2 (block_at c.args.block.x c.args.block.y log2) l2 in
    let are : AreDrawn old.drawn d1 d2 c.draw_component-3.new.drawn c.args.block.x c.args.block.y (2 ^ log2) b0 b1 b2 = record {
      size1 = e1;
      size2 = e2;
      size3 = c.draw_component-3.ensures.size ∙ e2;
      first = c.draw_component.ensures.drawn;
      second = c.draw_component-2.ensures.drawn;
      third = c.draw_component-3.ensures.drawn;
    } in
    let is : ArePredicted old.last.size old.drawn d1 d2 mode c.args.block.x c.args.block.y log2 l0 l1 l2 b0 b1 b2 = record {
      first = ap (λ (s : Size). drawn_block s (picture_of old.drawn) mode 0 (block_at c.args.block.x c.args.block.y log2) l0) same;
      second = ap (λ (s : Size). drawn_block s (picture_of d1) mode 1 (block_at c.args.block.x c.args.block.y log2) l1) (e1 ∙ same);
      third = ap (λ (s : Size). drawn_block s (picture_of d2) mode 2 (block_at c.args.block.x c.args.block.y log2) l2) (e2 ∙ same);
    } in
    let drew : Draws old units = subst (λ (p : Pictures). Draws p units) (sym c.self.view_is) draws in
    let there : HasAvailable old.last.size units c.args.block.x c.args.block.y = subst (λ (p : Pictures). HasAvailable p.last.size units c.args.block.x c.args.block.y) (sym c.self.view_is) has in
    unit_drawn old new units u drew
    (three_drawn old new units u d1 d2 b0 b1 b2 refl same are
    (levels_block old units d1 d2 c.draw_component-3.new.drawn mode c.args.block.x c.args.block.y log2 l0 l1 l2 b0 b1 b2 same drew there are is))

pub invariant_of-self : goal.invariant_of-self
invariant_of-self c =
    let log2 : ℕ = c.args.block.log2 in
    let mode : ℕ = c.args.mode in
    let old : Pictures = record { last = c.self.inside.last; drawn = c.self.inside.drawn } in
    let d1 : Planes = c.draw_component.new.drawn in
    let d2 : Planes = c.draw_component-2.new.drawn in
    let l0 : Option (List ℤ) = option_copied c.args.residuals.luma in
    let l1 : Option (List ℤ) = option_copied c.args.residuals.cb in
    let l2 : Option (List ℤ) = option_copied c.args.residuals.cr in
    let e1 : d1.size ≡ old.drawn.size = c.draw_component.ensures.size in
    let e2 : d2.size ≡ old.drawn.size = c.draw_component-2.ensures.size ∙ e1 in
    let b0 : List ℕ = drawn_block old.drawn.size (picture_of old.drawn) mode 0 (block_at c.args.block.x c.args.block.y log2) l0 in
    let b1 : List ℕ = drawn_block d1.size (picture_of d1) mode 1 (block_at c.args.block.x c.args.block.y log2) l1 in
    let b2 : List ℕ = drawn_block d2.size (picture_of d2) mode 2 (block_at c.args.block.x c.args.block.y log2) l2 in
    let are : AreDrawn old.drawn d1 d2 c.draw_component-3.new.drawn c.args.block.x c.args.block.y (2 ^ log2) b0 b1 b2 = record {
      size1 = e1;
      size2 = e2;
      size3 = c.draw_component-3.ensures.size ∙ e2;
      first = c.draw_component.ensures.drawn;
      second = c.draw_component-2.ensures.drawn;
      third = c.draw_component-3.ensures.drawn;
    } in
    let last : Planes = c.self.inside.last in
    let d3 : Planes = c.draw_component-3.new.drawn in
    let block : CodingBlock = block_at c.args.block.x c.args.block.y log2 in
    let size : c.args.self.now.last.size ≡ last.size = sym (ap (λ (p : Pictures). p.last.size) c.self.view_is) in
    let items : (with_items c.self.inside.changed c.set_mark.new.marks).items ≡ c.set_mark.new.marks = with_items_is c.self.inside.changed c.set_mark.new.marks (omega (arith, c.self.inside.changed.ok)) in
    let is : IsBlock last.size block = record { low = c.requires.low; high = c.requires.high; column = c.requires.column; row = c.requires.row; across = subst (λ (s : Size). c.args.block.x + 2 ^ log2 ≤ coded s.w) size c.requires.across } in
    let number = c.ctu_of.ensures.value ∙ ap (λ (s : Size). ctu_at s c.args.block.x c.args.block.y) c.size.ensures.value in (
      record { same = are.size3 ∙ c.self.invariant.0.same; last = c.self.invariant.0.last; drawn = c.draw_component-3.ensures.whole },
      subst (λ (l : List Bool). AreMarked (record { last = last; drawn = d3 }) l) (sym items)
          (marked_changed last c.self.inside.drawn d3 c.self.inside.changed.items c.set_mark.new.marks block c.ctu_of.result is c.self.invariant.1 number
          (c.set_mark.ensures.long ∙ ap (λ (l : List Bool). length l) c.deref_mut.ensures.value) (subst (λ (l : List Bool). IsMarked l c.set_mark.new.marks c.ctu_of.result true) c.deref_mut.ensures.value c.set_mark.ensures.set)
          (elsewhere_drawn last c.self.inside.drawn d1 d2 d3 block b0 b1 b2 c.self.invariant.0.same are)),
    )
