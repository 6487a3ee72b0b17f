use Rattle.std.proofs.Common.{◌==◌}
use Rattle.paint_script.proofs.Splits.{split-six}
use Rattle.paint_script.proofs.line.paint_words.Goals as goal

pub returns-in-Some : goal.returns-in-Some
returns-in-Some c =
    let words = c.in_ok-rect.rect in
    split-six (λ c. c == 32) c.args.text.now c.in_ok-rect.last.now c.in-Some.field-0.1.now words.x.now words.y.now words.w.now words.h.now _ c.in_ok-rect.ensures c.in-Some.ensures.pieces
