use Rattle.std.proofs.Common.{◌≡◌, ◌+◌, ◌∙◌, ap, arith, subst, ℕ}
use Rattle.h265_model.specs.Plain.{Size}
use Rattle.frame_paints.specs.Parts.{SameBetween}
use Rattle.frame_paints.proofs.Going.{went_none, on_ok_both}
use Rattle.frame_paints.proofs.Patches.{trimmed}
use Rattle.frame_paints.proofs.squares.mend_trimmed.Goals as goal

pub returns-else-first-last-clause-went : goal.returns-else-first-last-clause-went
returns-else-first-last-clause-went c = went_none c.args.shown.now c.args.script.now

pub returns-then-first-last-clause-mended : goal.returns-then-first-last-clause-mended
returns-then-first-last-clause-mended c =
    let w = c.args.frame.now.size.w in
    let width : c.w-w.result ≡ w = c.w-w.ensures.value ∙ ap (λ (s : Size). s.w) c.size.ensures.value in
    let of_p : c.args.frame.now.size.w ≡ c.args.shown.now.size.w = ap (λ (s : Size). s.w) c.requires.sizes in
    let high_p : c.args.frame.now.size.h ≡ c.args.shown.now.size.h = ap (λ (s : Size). s.h) c.requires.sizes in
    let above = subst (λ (n : ℕ). SameBetween c.args.shown.now c.args.frame.now 0 (0 + n) c.args.top c.first_row-first.result) width c.first_row-first.ensures.same in
    let below = subst (λ (n : ℕ). SameBetween c.args.shown.now c.args.frame.now 0 (0 + n) c.last_row-last.result c.args.bottom) width c.last_row-last.ensures.same in
    on_ok_both c.mend_strip.result
    (λ mended kept. trimmed c.args.shown.now c.mend_strip.new.shown c.args.frame.now w c.args.top c.first_row-first.result c.last_row-last.result c.args.bottom (omega arith) (omega arith) (omega arith) (omega arith) above below mended kept)
    c.mend_strip.ensures.mended c.mend_strip.ensures.beside
