use Rattle.std.proofs.Common.{◌==◌}
use Rattle.paint_script.proofs.Splits.{split-seven}
use Rattle.paint_script.proofs.line.copy_words.Goals as goal

pub returns-in-Some : goal.returns-in-Some
returns-in-Some c =
    let words = c.in_ok-rect.rect in
    split-seven (λ c. c == 32) c.args.text.now c.in_ok-rect.last.now c.in_ok-to_x.to_y.now c.in-Some.field-0.1.now words.x.now words.y.now words.w.now words.h.now _ _
    c.in_ok-rect.ensures c.in_ok-to_x.ensures.pieces c.in-Some.ensures.pieces
