use Rattle.std.proofs.Common.{◌≡◌, ◌+◌, ◌-◌, ◌*◌, ◌<◌, min, ap, ◌∙◌, arith}
use Rattle.h265_model.specs.Plain.{Size}
use Rattle.frame_paints.proofs.Going.{went_none, went_on}
use Rattle.frame_paints.proofs.Parts.{columns_none, columns_join, narrower}
use Rattle.frame_paints.proofs.Patches.{all_kept, kept_on, same_kept}
use Rattle.frame_paints.proofs.squares.mend_strip.Goals as goal

pub loop-column-init : goal.loop-column-init
loop-column-init c = record {
  went = went_none c.args.shown.now c.args.script.now;
  mended = columns_none c.args.shown.now c.args.frame.now 0 (min (64 * 0) c.w-w.result) c.args.top c.args.bottom (omega arith);
  beside = all_kept c.args.shown.now 0 c.w-w.result c.args.top c.args.bottom;
}

pub returns-in_err-mend_square-clause-went : goal.returns-in_err-mend_square-clause-went
returns-in_err-mend_square-clause-went c = went_on _ _ _ _ _ _ c.loop-column.invariant.went c.mend_square.ensures.went

pub loop-column-preserved : goal.loop-column-preserved
loop-column-preserved c =
    let p = c.args.shown.now in
    let q = c.loop-column.shown in
    let r = c.mend_square.new.shown in
    let frame = c.args.frame.now in
    let w = c.w-w.result in
    let x = c.loop-column.column * 64 in
    let n = c.min.result in
    let top = c.args.top in
    let bottom = c.args.bottom in
    let width : w ≡ frame.size.w = c.w-w.ensures.value ∙ ap (λ (s : Size). s.w) c.size.ensures.value in
    let of_p : frame.size.w ≡ p.size.w = ap (λ (s : Size). s.w) c.requires.sizes in
    let high_p : frame.size.h ≡ p.size.h = ap (λ (s : Size). s.h) c.requires.sizes in
    let of_q : q.size.w ≡ p.size.w = ap (λ (s : Size). s.w) c.loop-column.invariant.went.size in
    let high_q : q.size.h ≡ p.size.h = ap (λ (s : Size). s.h) c.loop-column.invariant.went.size in
    let inside : x < w = omega arith in
    let square = c.in_ok-mend_square.ensures.mended in
    let kept = c.in_ok-mend_square.ensures.beside in
    record {
      went = went_on _ _ _ _ _ _ c.loop-column.invariant.went c.mend_square.ensures.went;
      mended =
          columns_join r frame 0 x (min (64 * (c.loop-column.column + 1)) w) top bottom
          (same_kept q r frame 0 x top bottom x (x + n) top (top + (bottom - top)) (omega arith) (omega arith) (λ i j a b d e f g h k. omega arith)
          (narrower q frame 0 (min (64 * c.loop-column.column) w) top bottom 0 x top bottom (omega arith) (omega arith) (omega arith) (omega arith) c.loop-column.invariant.mended) kept)
          (narrower r frame x (x + n) top (top + (bottom - top)) x (min (64 * (c.loop-column.column + 1)) w) top bottom (omega arith) (omega arith) (omega arith) (omega arith) square);
      beside =
          kept_on p q r 0 w top bottom 0 w top bottom x (x + n) top (top + (bottom - top)) c.loop-column.invariant.went.size
          (omega arith) (omega arith) (omega arith) (omega arith) (omega arith) (omega arith) (omega arith) (omega arith) c.loop-column.invariant.beside kept;
    }

pub returns-clause-mended : goal.returns-clause-mended
returns-clause-mended c =
    let width : c.w-w.result ≡ c.args.frame.now.size.w = c.w-w.ensures.value ∙ ap (λ (s : Size). s.w) c.size.ensures.value in
    narrower c.loop-column.shown c.args.frame.now 0 (min (64 * c.loop-column.column) c.w-w.result) c.args.top c.args.bottom 0 c.args.frame.now.size.w c.args.top c.args.bottom (omega arith) (omega arith) (omega arith) (omega arith) c.loop-column.invariant.mended
