use Rattle.std.proofs.Common.{◌≡◌, refl, ap, sym, subst, ◌∙◌, ℕ, ◌+◌, ◌*◌, ◌-◌, ◌^◌, ◌≤◌, arith, List, take, drop}
use Rattle.h265_model.specs.Tree.{thirds, ReadUnit, Samples}
use Rattle.h265_model.specs.Rebuild.{with_units}
use Rattle.h265_model.specs.Raster.{blank}
use Rattle.leaf_sink.specs.Units.{unit}
use Rattle.std.specs.Prelude.{Bool, true, length}
use Rattle.std.specs.Vec.{with_items}
use Rattle.std.proofs.lemmas.List.{with_items_is}
use Rattle.h265_model.specs.declared.block.CodingBlock.{CodingBlock}
use Rattle.canvas.specs.Marks.{AreMarked, IsMarked, ctu_at}
use Rattle.canvas.proofs.Marking.{IsBlock, marked_changed, elsewhere_drawn}
use Rattle.canvas.specs.Drawing.{Pictures, Draws}
use Rattle.canvas.proofs.Units.{unit_drawn}
use Rattle.canvas.proofs.Components.{AreDrawn, square_as, three_drawn, samples_block}
use Rattle.canvas.proofs.canvas.CanvasLeafSink.samples.Goals as goal
use Rattle.h265_model.specs.Plain.{block_at, Size, coded}
use Rattle.px_plane.specs.Planes.{Planes}

pub returns-clause-taken : goal.returns-clause-taken
returns-clause-taken c = λ units draws has.
    let log2 : ℕ = c.args.block.log2 in
    let a : ℕ = 2 ^ log2 * 2 ^ log2 in
    let samples : List ℕ = c.args.samples.now in
    let old : Pictures = record { last = c.self.inside.last; drawn = c.self.inside.drawn } in
    let new : Pictures = record { last = c.self.inside.last; drawn = c.put_block-3.new.self } in
    let u : ReadUnit = unit (block_at c.args.block.x c.args.block.y log2) (Samples (thirds a samples)) in
    let area : c.area-area.result ≡ a = c.area-area.ensures.value in
    let n : c.side-n.result ≡ 2 ^ log2 = c.side-n.ensures.value in
    let t1 : 2 * c.area-area.result - c.area-area.result ≡ a = omega arith in
    let t2 : 3 * c.area-area.result - 2 * c.area-area.result ≡ a = omega arith in
    let s2 : 2 * c.area-area.result ≡ a + a = omega arith in
    let are : AreDrawn old.drawn c.put_block.new.self c.put_block-2.new.self c.put_block-3.new.self c.args.block.x c.args.block.y (2 ^ log2) (take a samples) (take a (drop a samples)) (take a (drop (a + a) samples)) = record {
      size1 = c.put_block.ensures.size;
      size2 = c.put_block-2.ensures.size ∙ c.put_block.ensures.size;
      size3 = c.put_block-3.ensures.size ∙ (c.put_block-2.ensures.size ∙ c.put_block.ensures.size);
      first = square_as _ _ 0 c.args.block.x c.args.block.y _ _ _ _ n (ap (λ (k : ℕ). take k samples) area) c.put_block.ensures.put;
      second = square_as _ _ 1 c.args.block.x c.args.block.y _ _ _ _ n (ap (λ (k : ℕ). take k (drop c.area-area.result samples)) t1 ∙ ap (λ (k : ℕ). take a (drop k samples)) area) c.put_block-2.ensures.put;
      third = square_as _ _ 2 c.args.block.x c.args.block.y _ _ _ _ n (ap (λ (k : ℕ). take k (drop (2 * c.area-area.result) samples)) t2 ∙ ap (λ (k : ℕ). take a (drop k samples)) s2) c.put_block-3.ensures.put;
    } in
    unit_drawn old new units u (subst (λ (p : Pictures). Draws p units) (sym c.self.view_is) draws)
    (three_drawn old new units u c.put_block.new.self c.put_block-2.new.self (take a samples) (take a (drop a samples)) (take a (drop (a + a) samples)) refl c.self.invariant.0.same are
    (λ before stores component small. samples_block old.last.size before (with_units old.last.size before blank units) c.args.block.x c.args.block.y log2 samples _ _ _ refl refl refl component small))

pub invariant_of-self : goal.invariant_of-self
invariant_of-self c =
    let log2 : ℕ = c.args.block.log2 in
    let a : ℕ = 2 ^ log2 * 2 ^ log2 in
    let samples : List ℕ = c.args.samples.now in
    let old : Pictures = record { last = c.self.inside.last; drawn = c.self.inside.drawn } in
    let area : c.area-area.result ≡ a = c.area-area.ensures.value in
    let n : c.side-n.result ≡ 2 ^ log2 = c.side-n.ensures.value in
    let t1 : 2 * c.area-area.result - c.area-area.result ≡ a = omega arith in
    let t2 : 3 * c.area-area.result - 2 * c.area-area.result ≡ a = omega arith in
    let s2 : 2 * c.area-area.result ≡ a + a = omega arith in
    let are : AreDrawn old.drawn c.put_block.new.self c.put_block-2.new.self c.put_block-3.new.self c.args.block.x c.args.block.y (2 ^ log2) (take a samples) (take a (drop a samples)) (take a (drop (a + a) samples)) = record {
      size1 = c.put_block.ensures.size;
      size2 = c.put_block-2.ensures.size ∙ c.put_block.ensures.size;
      size3 = c.put_block-3.ensures.size ∙ (c.put_block-2.ensures.size ∙ c.put_block.ensures.size);
      first = square_as _ _ 0 c.args.block.x c.args.block.y _ _ _ _ n (ap (λ (k : ℕ). take k samples) area) c.put_block.ensures.put;
      second = square_as _ _ 1 c.args.block.x c.args.block.y _ _ _ _ n (ap (λ (k : ℕ). take k (drop c.area-area.result samples)) t1 ∙ ap (λ (k : ℕ). take a (drop k samples)) area) c.put_block-2.ensures.put;
      third = square_as _ _ 2 c.args.block.x c.args.block.y _ _ _ _ n (ap (λ (k : ℕ). take k (drop (2 * c.area-area.result) samples)) t2 ∙ ap (λ (k : ℕ). take a (drop k samples)) s2) c.put_block-3.ensures.put;
    } in
    let last : Planes = c.self.inside.last in
    let d3 : Planes = c.put_block-3.new.self in
    let block : CodingBlock = block_at c.args.block.x c.args.block.y log2 in
    let size : c.args.self.now.last.size ≡ last.size = sym (ap (λ (p : Pictures). p.last.size) c.self.view_is) in
    let items : (with_items c.self.inside.changed c.set_mark.new.marks).items ≡ c.set_mark.new.marks = with_items_is c.self.inside.changed c.set_mark.new.marks (omega (arith, c.self.inside.changed.ok)) in
    let is : IsBlock last.size block = record { low = c.requires.low; high = c.requires.high; column = c.requires.column; row = c.requires.row; across = subst (λ (s : Size). c.args.block.x + 2 ^ log2 ≤ coded s.w) size c.requires.across } in
    let number = c.ctu_of-ctu.ensures.value ∙ ap (λ (s : Size). ctu_at s c.args.block.x c.args.block.y) c.size.ensures.value in (
      record { same = are.size3 ∙ c.self.invariant.0.same; last = c.self.invariant.0.last; drawn = c.put_block-3.ensures.whole },
      subst (λ (l : List Bool). AreMarked (record { last = last; drawn = d3 }) l) (sym items)
          (marked_changed last c.self.inside.drawn d3 c.self.inside.changed.items c.set_mark.new.marks block c.ctu_of-ctu.result is c.self.invariant.1 number
          (c.set_mark.ensures.long ∙ ap (λ (l : List Bool). length l) c.deref_mut.ensures.value) (subst (λ (l : List Bool). IsMarked l c.set_mark.new.marks c.ctu_of-ctu.result true) c.deref_mut.ensures.value c.set_mark.ensures.set)
          (elsewhere_drawn last c.self.inside.drawn c.put_block.new.self c.put_block-2.new.self d3 block (take a samples) (take a (drop a samples)) (take a (drop (a + a) samples)) c.self.invariant.0.same are)),
    )
