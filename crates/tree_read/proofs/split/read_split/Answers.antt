use Rattle.tree_read.proofs.Splits.{split_zero, split_part, split_flag}
use Rattle.std.proofs.Common.{rules, sym, ◌∙◌}
use Rattle.tree_read.proofs.split.read_split.Goals as goal

pub returns-then-depth-eq0-clause-value : goal.returns-then-depth-eq0-clause-value
returns-then-depth-eq0-clause-value c = λ list stands. split_zero c.args.size list c.args.depth c.args.x c.args.y c.args.decoder.now (search rules)

pub returns-then-not-is_whole-clause-value : goal.returns-then-not-is_whole-clause-value
returns-then-not-is_whole-clause-value c = λ list stands. split_part c.args.size list c.args.depth c.side-n.result c.args.x c.args.y c.args.decoder.now (search rules) c.side-n.ensures.value (sym c.is_whole.ensures ∙ c.if-not-is_whole.true)

pub returns-clause-value : goal.returns-clause-value
returns-clause-value c = λ list stands. split_flag c.args.size list c.args.depth c.side-n.result c.args.x c.args.y c.split_context.result c.bin.result c.args.decoder.now c.bin.new.self (search rules) c.side-n.ensures.value (sym c.is_whole.ensures ∙ c.if-not-is_whole.false) c.requires.few
    (c.split_context.ensures.value list stands) c.bin.ensures.value
