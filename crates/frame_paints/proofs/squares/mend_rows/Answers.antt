use Rattle.std.proofs.Common.{◌≡◌, ◌+◌, ◌*◌, ◌<◌, min, ap, arith}
use Rattle.h265_model.specs.Plain.{Size}
use Rattle.frame_paints.proofs.Going.{went_none, went_on}
use Rattle.frame_paints.proofs.Parts.{rows_none, rows_join, narrower}
use Rattle.frame_paints.proofs.Patches.{all_kept, kept_on, same_kept}
use Rattle.frame_paints.proofs.squares.mend_rows.Goals as goal

pub returns-in_err-mend_trimmed-clause-went : goal.returns-in_err-mend_trimmed-clause-went
returns-in_err-mend_trimmed-clause-went c = went_on _ _ _ _ _ _ c.loop-strip.invariant.went c.mend_trimmed.ensures.went

pub loop-strip-init : goal.loop-strip-init
loop-strip-init c = record {
  went = went_none c.args.shown.now c.args.script.now;
  mended = rows_none c.args.shown.now c.args.frame.now 0 c.args.frame.now.size.w c.args.top (min (c.args.top + 0) c.args.bottom) (omega arith);
  beside = all_kept c.args.shown.now 0 c.args.frame.now.size.w c.args.top c.args.bottom;
}

pub loop-strip-preserved : goal.loop-strip-preserved
loop-strip-preserved c =
    let p = c.args.shown.now in
    let q = c.loop-strip.shown in
    let r = c.mend_trimmed.new.shown in
    let frame = c.args.frame.now in
    let w = frame.size.w in
    let top = c.args.top in
    let bottom = c.args.bottom in
    let y = top + c.loop-strip.strip * 64 in
    let end = c.min-end.result in
    let of_p : frame.size.w ≡ p.size.w = ap (λ (s : Size). s.w) c.requires.sizes in
    let high_p : frame.size.h ≡ p.size.h = ap (λ (s : Size). s.h) c.requires.sizes in
    let of_q : q.size.w ≡ p.size.w = ap (λ (s : Size). s.w) c.loop-strip.invariant.went.size in
    let high_q : q.size.h ≡ p.size.h = ap (λ (s : Size). s.h) c.loop-strip.invariant.went.size in
    let inside : y < bottom = omega arith in
    let strip = c.in_ok-mend_trimmed.ensures.mended in
    let kept = c.in_ok-mend_trimmed.ensures.beside in
    record {
      went = went_on _ _ _ _ _ _ c.loop-strip.invariant.went c.mend_trimmed.ensures.went;
      mended =
          rows_join r frame 0 w top y (min (top + 64 * (c.loop-strip.strip + 1)) bottom)
          (same_kept q r frame 0 w top y 0 w y end (omega arith) (omega arith) (λ i j a b d e f g h k. omega arith)
          (narrower q frame 0 w top (min (top + 64 * c.loop-strip.strip) bottom) 0 w top y (omega arith) (omega arith) (omega arith) (omega arith) c.loop-strip.invariant.mended) kept)
          (narrower r frame 0 w y end 0 w y (min (top + 64 * (c.loop-strip.strip + 1)) bottom) (omega arith) (omega arith) (omega arith) (omega arith) strip);
      beside =
          kept_on p q r 0 w top bottom 0 w top bottom 0 w y end c.loop-strip.invariant.went.size
          (omega arith) (omega arith) (omega arith) (omega arith) (omega arith) (omega arith) (omega arith) (omega arith) c.loop-strip.invariant.beside kept;
    }

pub returns-clause-mended : goal.returns-clause-mended
returns-clause-mended c =
    narrower c.loop-strip.shown c.args.frame.now 0 c.args.frame.now.size.w c.args.top (min (c.args.top + 64 * c.loop-strip.strip) c.args.bottom) 0 c.args.frame.now.size.w c.args.top c.args.bottom (omega arith) (omega arith) (omega arith) (omega arith) c.loop-strip.invariant.mended
