use Rattle.std.proofs.Common.{◌∙◌, ◌≡◌, ◌+◌, ◌*◌, ◌-◌, arith, add-one, rules}
use Rattle.px_plane.proofs.Tiles.{tiles_laid_more, job_shows}
use Rattle.px_plane.proofs.picture.Picture.lay.Goals as goal

pub loop-k-preserved : goal.loop-k-preserved
loop-k-preserved c =
    let step = c.lay_tile.ensures in
    let known = c.loop-k.invariant in
    let n : c.loop-k.k * 3072 + 3072 - c.loop-k.k * 3072 ≡ 3072 = omega arith in
    let laid = rw (n, c.as_slice-tiles.ensures, c.as_slice-samples.ensures) at step in
    record {
      size = step.size ∙ known.size;
      whole = step.whole;
      each = rw add-one (tiles_laid_more c.args.self.now c.loop-k.self c.lay_tile.new.self c.args.job.now c.loop-k.k known.size known.each laid);
    }

pub returns-clause-laid : goal.returns-clause-laid
returns-clause-laid c = search rules

pub returns-clause-shows : goal.returns-clause-shows
returns-clause-shows c = λ shown job_is differs.
    job_shows c.args.self.now c.loop-k.self c.args.job.now shown c.loop-k.invariant.size c.loop-k.invariant.whole (returns-clause-laid c) job_is differs
