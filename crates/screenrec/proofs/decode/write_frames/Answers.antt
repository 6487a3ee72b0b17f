use Rattle.std.proofs.Common.{◌≡◌, ℕ, ◌+◌, [], refl, sym, ◌∙◌, ap, arith, length, take, drop}
use Rattle.recorder_model.specs.Frames.{frame, frames}
use Rattle.screenrec.specs.Walks.{next_frame, IsNextFrame}
use Rattle.screenrec.proofs.FrameLaws.{at_next, all_taken, told_none, count_none, told_more, count_more, next_is, next_in, told_whole, told_short}
use Rattle.screenrec.proofs.decode.write_frames.Goals as goal

pub loop-count-init : goal.loop-count-init
loop-count-init g c = record {
  told = told_none (g.F.Shelf.files c.args.shelf.now) c.args.reader.size c.args.name.now c.args.reader.pictures;
  counted = count_none c.args.reader.size c.args.reader.pictures;
  rest = refl;
  stop = c.requires.whole;
  size = refl;
  few = omega arith;
  short = omega arith;
  writes = refl;
  reads = refl;
}

pub loop-count-preserved : goal.loop-count-preserved
loop-count-preserved g c =
    let size = c.args.reader.size in
    let ps = c.args.reader.pictures in
    let k = c.loop-count.pictures in
    let so_far = c.loop-count.invariant in
    let step : IsNextFrame c.loop-count.reader c.write_next.new.reader c.in-Ok-Some.count = rw c.in-Ok-Some.field-0-is at c.in-Ok-Some.ensures.read in
    let next = at_next ps k step.picture c.write_next.new.reader.pictures (sym so_far.rest ∙ step.next) in
    let same : length (frame c.loop-count.reader.size step.picture) ≡ length (frame size step.picture) = ap (λ s. length (frame s step.picture)) so_far.size in
    record {
      told = told_more (g.F.Shelf.files c.args.shelf.now) (g.F.Shelf.files c.loop-count.shelf) (g.F.Shelf.files c.write_next.new.shelf) size c.args.name.now (next_frame c.loop-count.reader) ps k step.picture
          next.more (next_is c.loop-count.reader size step.picture c.write_next.new.reader.pictures step.next so_far.size) so_far.told (rw c.in-Ok-Some.field-0-is at c.in-Ok-Some.ensures.files);
      counted = omega (arith, so_far.counted, step.counted, same, count_more size ps k step.picture next.more);
      rest = sym next.left;
      stop = step.stop ∙ so_far.stop;
      size = step.size ∙ so_far.size;
      few = omega (arith, next.inside);
      short = omega (arith, step.short, so_far.short);
      writes = c.in-Ok-Some.ensures.cause.kept ∙ so_far.writes;
      reads = c.in-Ok-Some.ensures.reads ∙ so_far.reads;
    }

pub returns-in-Ok-None-clause-pictures : goal.returns-in-Ok-None-clause-pictures
returns-in-Ok-None-clause-pictures g c =
    let ps = c.args.reader.pictures in
    let none : c.loop-count.reader.pictures ≡ [] = rw c.in-Ok-None.field-0-is at c.in-Ok-None.ensures.read in
    omega (arith, c.loop-count.invariant.few, (all_taken ps c.loop-count.pictures (sym c.loop-count.invariant.rest ∙ none)).1)

pub returns-in-Ok-None-clause-files : goal.returns-in-Ok-None-clause-files
returns-in-Ok-None-clause-files g c =
    let ps = c.args.reader.pictures in
    let none : c.loop-count.reader.pictures ≡ [] = rw c.in-Ok-None.field-0-is at c.in-Ok-None.ensures.read in
    told_whole (g.F.Shelf.files c.args.shelf.now) (g.F.Shelf.files c.loop-count.shelf) (g.F.Shelf.files c.write_next.new.shelf) c.args.reader.size c.args.name.now ps c.loop-count.pictures c.loop-count.bytes
    (all_taken ps c.loop-count.pictures (sym c.loop-count.invariant.rest ∙ none)).0 c.loop-count.invariant.counted c.loop-count.invariant.told
    (rw c.in-Ok-None.field-0-is at c.in-Ok-None.ensures.files)

pub returns-in-Err-clause-files : goal.returns-in-Err-clause-files
returns-in-Err-clause-files g c =
    let ps = c.args.reader.pictures in
    told_short (g.F.Shelf.files c.args.shelf.now) (g.F.Shelf.files c.loop-count.shelf) (g.F.Shelf.files c.write_next.new.shelf) c.args.reader.size c.args.name.now (next_frame c.loop-count.reader)
    ps c.loop-count.pictures c.loop-count.bytes c.in-Err.error
    (next_in c.loop-count.reader c.args.reader.size ps c.loop-count.pictures c.loop-count.invariant.size c.loop-count.invariant.rest) c.loop-count.invariant.counted c.loop-count.invariant.told
    c.in-Err.ensures.files
