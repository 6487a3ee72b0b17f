use Rattle.std.proofs.Common.{◌+◌, ◌∷◌, ◌∙◌, ap, take, arith, sym}
use Rattle.std.proofs.lemmas.List.{take_rest}
use Rattle.std.specs.List.{slice_split}
use Rattle.std.proofs.Common.{◌==◌}
use Rattle.paint_script.proofs.Splits.{split-at, split-none}
use Rattle.paint_script.proofs.split.split_once.Goals as goal

pub returns-then-text-i-clause-pieces : goal.returns-then-text-i-clause-pieces
returns-then-text-i-clause-pieces c =
    let text = c.args.text.now in
    split-at c.args.separator text c.loop-i.i c.loop-i-test.true c.loop-i.invariant c.if-text-i.true
    ∙ ap (λ rest. take c.loop-i.i text ∷ slice_split (λ b. b == c.args.separator) rest) (sym (take_rest text (c.loop-i.i + 1)))

pub returns-clause-pieces : goal.returns-clause-pieces
returns-clause-pieces c =
    split-none c.args.separator c.args.text.now (λ k h. c.loop-i.invariant k (omega arith))
