use Rattle.screenrec.proofs.coder.Coder.next.Goals as goal
use Rattle.screenrec.proofs.coder.Coder.next.Goals.{in-Picture, in-Segment, in-Moved}

pub returns-clause-coded : goal.returns-clause-coded
returns-clause-coded c =
    elim c.match-self.branch [
      | in-Picture w ↦ rw (w.result-is, w.self-inside-is, ← c.self.view_is, w.in-Picture.is) w.next_alone.ensures.coded
      | in-Segment w ↦ rw (w.result-is, w.self-inside-is, ← c.self.view_is, w.in-Segment.is) w.next_alone-in-Segment.ensures.coded
      | in-Moved w ↦ rw (w.result-is, w.self-inside-is, ← c.self.view_is, w.in-Moved.is) w.next_alone-in-Moved.ensures.coded
    ]

pub returns-clause-piece : goal.returns-clause-piece
returns-clause-piece c =
    elim c.match-self.branch [
      | in-Picture w ↦ rw (w.result-is, ← c.self.view_is, w.in-Picture.is) w.next_alone.ensures.piece
      | in-Segment w ↦ rw (w.result-is, ← c.self.view_is, w.in-Segment.is) w.next_alone-in-Segment.ensures.piece
      | in-Moved w ↦ rw (w.result-is, ← c.self.view_is, w.in-Moved.is) w.next_alone-in-Moved.ensures.piece
    ]
