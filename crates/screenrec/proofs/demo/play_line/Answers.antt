use Rattle.std.proofs.Common.{◌≡◌, Ok, ◌++◌, ◌∷◌, [], ◌+◌, sym, ap, subst, length, arith}
use Rattle.recorder_model.specs.declared.line.Line.{Line}
use Rattle.screenrec.specs.Stored.{stream_after}
use Rattle.screenrec.proofs.StoredLaws.{paints, paint_adds, paint_counts, cut_counts}
use Rattle.screenrec.proofs.demo.play_line.Goals as goal

pub returns-in-Cut-clause-counted : goal.returns-in-Cut-clause-counted
returns-in-Cut-clause-counted c = λ settings done is.
    subst (λ (l : Line). length (stream_after settings (done ++ l ∷ [])) ≡ length (stream_after settings done) + c.len.result) (sym c.in-Cut.is)
    (cut_counts settings done (Ok c.len.result) (omega (arith, c.len.ensures, c.in_ok-piece.piece.ok, ap length (c.in_ok-piece.ensures.piece settings done is))))

pub returns : goal.returns
returns c = record {
  played = c.paint.ensures.played;
  cuts = omega (arith, c.paint.ensures.cuts);
  counted = λ settings done is. paint_counts settings done c.args.line.now (paint_adds settings done c.args.line.now (paints c.args.line.now c.in_default.not-Cut));
  short = omega arith;
}
