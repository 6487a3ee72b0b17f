use Rattle.intra_refs.proofs.Sides.{eights}
use Rattle.intra_refs.proofs.line.refs.Goals as goal

pub fill_line-requires-clause-whole_x : goal.fill_line-requires-clause-whole_x
fill_line-requires-clause-whole_x c = eights c.args.block.x c.args.block.log2 c.requires.low c.requires.high c.requires.whole_x

pub fill_line-requires-clause-whole_y : goal.fill_line-requires-clause-whole_y
fill_line-requires-clause-whole_y c = eights c.args.block.y c.args.block.log2 c.requires.low c.requires.high c.requires.whole_y
