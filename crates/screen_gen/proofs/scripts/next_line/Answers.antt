use Rattle.std.proofs.Common.{sym, ◌∙◌}
use Rattle.screen_gen.proofs.NextLines.{cut_next, paint_may_be_next}
use Rattle.screen_gen.proofs.scripts.next_line.Goals as goal

pub returns-then-is_cut-clause-line : goal.returns-then-is_cut-clause-line
returns-then-is_cut-clause-line c = cut_next c.args.client c.args.index c.args.random.now (sym c.is_cut.ensures ∙ c.if-is_cut.true)

pub returns-clause-line : goal.returns-clause-line
returns-clause-line c =
    paint_may_be_next c.args.client c.args.index c.args.random.now c.draw_line.new.random c.draw_line.result (sym c.is_cut.ensures ∙ c.if-is_cut.false) c.draw_line.ensures.line
