use Rattle.std.proofs.Common.{◌≡◌, ◌≤◌, ap, arith}
use Rattle.std.proofs.lemmas.Result.{on_ok_weaker}
use Rattle.h265_model.specs.Plain.{Size}
use Rattle.frame_paints.proofs.Going.{went_on}
use Rattle.frame_paints.proofs.Patches.{kept_on}
use Rattle.frame_paints.proofs.strips.paint_strip.Goals as goal

pub returns-clause-went : goal.returns-clause-went
returns-clause-went c = went_on _ _ _ _ _ _ c.paint_guesses.ensures.went c.mend_rows.ensures.went

pub returns-clause-beside : goal.returns-clause-beside
returns-clause-beside c =
    let w = c.args.frame.now.size.w in
    let of_old : w ≡ c.args.shown.now.size.w = ap (λ (s : Size). s.w) c.requires.sizes in
    on_ok_weaker c.mend_rows.result
    (λ kept. kept_on c.args.shown.now c.paint_guesses.new.shown c.mend_rows.new.shown 0 w c.args.top c.args.bottom 0 c.args.shown.now.size.w c.args.top c.args.bottom 0 w c.args.top c.args.bottom c.paint_guesses.ensures.went.size (omega arith) (omega arith) (omega arith) (omega arith) (omega arith) (omega arith) (omega arith) (omega arith) c.paint_guesses.ensures.beside kept)
    c.mend_rows.ensures.beside
