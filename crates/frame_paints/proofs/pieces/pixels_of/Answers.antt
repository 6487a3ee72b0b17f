use Rattle.frame_paints.proofs.Pixels.{row-more}
use Rattle.frame_paints.proofs.pieces.pixels_of.Goals as goal

pub loop-row-preserved : goal.loop-row-preserved
loop-row-preserved c = record {
  pixels = row-more c.args.frame.now c.loop-row.pixels.items c.add_row.new.pixels.items c.row.result.now c.row-in-loop-row.result.now c.row-in-loop-row-2.result.now c.args.piece.x c.args.piece.y c.args.piece.w c.loop-row.row c.row.ensures.samples c.row-in-loop-row.ensures.samples c.row-in-loop-row-2.ensures.samples c.loop-row.invariant.pixels c.in_ok-add_row.ensures.mixed;
  colours = c.in_ok-add_row.ensures.colours c.loop-row.invariant.colours;
}
