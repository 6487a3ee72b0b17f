use Rattle.std.proofs.Common.{◌∙◌, rules, w32}
use Rattle.std.proofs.lemmas.Int.{to_z-of_z}
use Rattle.unit_read.proofs.UnitReads.{source_is}
use Rattle.unit_read.proofs.copies.has_source.Goals as goal

pub returns : goal.returns
returns c = c.both.ensures ∙ source_is c.args.size c.args.block.x c.args.block.y c.args.block.log2 c.coded_side-wide.result c.coded_side-tall.result c.side-n.result c.args.vector _ _ c.reaches.result c.reaches-2.result
    (search rules) (search rules) c.side-n.ensures.value (to_z-of_z w32 c.args.vector.x (search rules)) (to_z-of_z w32 c.args.vector.y (search rules)) c.reaches.ensures c.reaches-2.ensures
