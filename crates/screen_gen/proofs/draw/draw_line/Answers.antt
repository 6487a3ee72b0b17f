use Rattle.std.proofs.Common.{◌∙◌}
use Rattle.screen_gen.proofs.Drawing.{fill_is, blit_is, drawn_is, spellable_blit_is}
use Rattle.screen_gen.proofs.draw.draw_line.Goals as goal

pub returns-then-kind-lt3-clause-line : goal.returns-then-kind-lt3-clause-line
returns-then-kind-lt3-clause-line c =
    let six = drawn_is _ _ _ _ _ _ _ _ _ _ _ _ _ c.next_word-kind.ensures c.next_word-x.ensures c.next_word-y.ensures c.next_word-w.ensures c.next_word-h.ensures c.next_word-last.ensures in
    fill_is c.next_word-kind.result c.next_word-x.result c.next_word-y.result c.next_word-w.result c.next_word-h.result c.next_word-last.result c.next_word-last.new.self
    c.rect.result c.colour.result c.if-kind-lt3.true c.rect.ensures c.colour.ensures.value
    ∙ six

pub returns-clause-line : goal.returns-clause-line
returns-clause-line c =
    let six = drawn_is _ _ _ _ _ _ _ _ _ _ _ _ _ c.next_word-kind.ensures c.next_word-x.ensures c.next_word-y.ensures c.next_word-w.ensures c.next_word-h.ensures c.next_word-last.ensures in
    blit_is c.next_word-kind.result c.next_word-x.result c.next_word-y.result c.next_word-w.result c.next_word-h.result c.next_word-last.result c.next_word-last.new.self
    c.rect-rect.result c.in_ok-pixels.pixels c.draw_pixels.new.random c.if-kind-lt3.false c.rect-rect.ensures c.in_ok-pixels.ensures.pixels c.in_ok-pixels.ensures.after
    ∙ six

pub returns-clause-spellable : goal.returns-clause-spellable
returns-clause-spellable c =
    spellable_blit_is c.next_word-x.result c.next_word-y.result c.next_word-w.result c.next_word-h.result c.next_word-last.new.self c.rect-rect.result c.in_ok-pixels.pixels
    c.rect-rect.ensures c.in_ok-pixels.ensures.pixels
