use Rattle.std.proofs.Common.{◌∙◌, ◌&&◌, not, ap, sym}
use Rattle.recorder_model.specs.Script.{all_digits}
use Rattle.paint_script.proofs.Numbers.{number_up_to-digits, number_up_to-other}
use Rattle.paint_script.proofs.number.number_up_to.Goals as goal

pub returns-then-lacks_first_digit-clause-value : goal.returns-then-lacks_first_digit-clause-value
returns-then-lacks_first_digit-clause-value c =
    sym (number_up_to-other c.args.most c.args.word.now (c.lacks_first_digit.ensures ∙ ap (λ b. not b && all_digits c.args.word.now) c.if-lacks_first_digit.true))

pub returns-else-lacks_first_digit-clause-value : goal.returns-else-lacks_first_digit-clause-value
returns-else-lacks_first_digit-clause-value c =
    c.value_up_to.ensures.value ∙ sym (number_up_to-digits c.args.most c.args.word.now (c.lacks_first_digit.ensures ∙ ap (λ b. not b && all_digits c.args.word.now) c.if-lacks_first_digit.false))
