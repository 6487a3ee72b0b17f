use Rattle.screenrec.proofs.coder.Coder.new.Goals as goal
use Rattle.screenrec.proofs.coder.Coder.new.Goals.{in-Plain+in_ok-encoder_for-in-Plain, in-Segments+in_ok-segments_for-in-Segments, in-Moves+in_ok-moves_for-in-Moves}

pub returns-clause-fresh : goal.returns-clause-fresh
returns-clause-fresh c =
    elim c.match-settings.branch [
      | in-Plain+in_ok-encoder_for-in-Plain w ↦ rw w.encoder-is w.in_ok-encoder_for-in-Plain.ensures.fresh
      | in-Segments+in_ok-segments_for-in-Segments w ↦ rw w.encoder-is w.in_ok-segments_for-in-Segments.ensures.fresh
      | in-Moves+in_ok-moves_for-in-Moves w ↦ rw w.encoder-is w.in_ok-moves_for-in-Moves.ensures.fresh
    ]
