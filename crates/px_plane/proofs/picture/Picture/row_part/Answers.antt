use Rattle.std.proofs.Common.{◌+◌}
use Rattle.px_plane.specs.Planes.{picture_of}
use Rattle.px_plane.proofs.Blocks.{row_reads}
use Rattle.px_plane.proofs.picture.Picture.row_part.Goals as goal

pub returns : goal.returns
returns c = record {
  long = record { g = c.row_at.ensures.count; b = c.row_at-2.ensures.count; r = c.row_at-3.ensures.count };
  g = row_reads c.row_at.result.now (λ i. picture_of c.args.self.now 0 (c.args.x + i) c.args.y) c.args.n c.row_at.ensures.samples;
  b = row_reads c.row_at-2.result.now (λ i. picture_of c.args.self.now 1 (c.args.x + i) c.args.y) c.args.n c.row_at-2.ensures.samples;
  r = row_reads c.row_at-3.result.now (λ i. picture_of c.args.self.now 2 (c.args.x + i) c.args.y) c.args.n c.row_at-3.ensures.samples;
}
