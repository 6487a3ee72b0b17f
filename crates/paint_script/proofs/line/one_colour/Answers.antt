use Rattle.std.proofs.Common.{sym, refl, ◌∙◌}
use Rattle.paint_script.proofs.Colours.{one_colour-read, one_colour-none}
use Rattle.paint_script.proofs.line.one_colour.Goals as goal

pub returns-in-Some-clause-value : goal.returns-in-Some-clause-value
returns-in-Some-clause-value c =
    one_colour-read c.args.word.now c.in-Some.colour c.if-word-ne-COLOUR_DIGITS.false (sym c.colour_of.ensures.value ∙ c.in-Some.is)

pub returns-in-None-clause-value : goal.returns-in-None-clause-value
returns-in-None-clause-value c =
    (refl, one_colour-none c.args.word.now c.if-word-ne-COLOUR_DIGITS.false (sym c.colour_of.ensures.value ∙ c.in-None.is))
