use Rattle.std.proofs.Common.{◌*◌, ◌/◌, length, arith}
use Rattle.frame_read.proofs.Colours.{part_laid, parts_laid}
use Rattle.frame_read.proofs.pixels.lay_colours.Goals as goal

pub loop-k-preserved : goal.loop-k-preserved
loop-k-preserved c = λ i d h.
    part_laid c.args.bytes.now c.loop-k.pixels c.lay_group.new.pixels (16 * c.loop-k.k) 16 _ _ (omega arith) (omega arith) (omega arith) c.lay_group.ensures c.loop-k.invariant i d (omega arith)

pub returns : goal.returns
returns c =
    parts_laid c.args.bytes.now c.loop-k.pixels c.lay_some.new.pixels (16 * (length c.args.pixels.now / 16)) _ (omega arith) (omega arith) (omega arith) c.lay_some.ensures
    (λ i d h. c.loop-k.invariant i d (omega arith))
