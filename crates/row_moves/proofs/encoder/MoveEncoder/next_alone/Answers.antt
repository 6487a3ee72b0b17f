use Rattle.std.proofs.Common.{sym, ◌∙◌, ap, subst}
use Rattle.std.specs.Arc.{arc_value}
use Rattle.picture_encoder.specs.Coded.{Coded, IsLaid}
use Rattle.picture_encoder.specs.Planning.{units_of}
use Rattle.picture_encoder.proofs.Following.{stands_after, piece_after}
use Rattle.row_moves.proofs.encoder.MoveEncoder.next_alone.Goals as goal

pub keep-requires-clause-laid : goal.keep-requires-clause-laid
keep-requires-clause-laid c = subst (λ (e : Coded). IsLaid e.last c.args.job.now (arc_value c.in_ok-begun.begun.now)) (sym c.in_ok-begun.ensures.same) c.in_ok-begun.ensures.laid

pub returns-clause-coded : goal.returns-clause-coded
returns-clause-coded c = λ before now stands turns.
    let picture = arc_value c.in_ok-begun.begun.now in
    stands_after c.self.inside.history c.args.self.now picture c.args.job.now before now c.self.view_is c.in_ok-begun.ensures.laid c.in_ok-begun.ensures.size c.in_ok-begun.ensures.shows stands turns
    c.begin.new.self c.keep.new.self c.in_ok-begun.ensures.same c.keep.ensures

pub returns-clause-piece : goal.returns-clause-piece
returns-clause-piece c = λ before now stands turns.
    let picture = arc_value c.in_ok-begun.begun.now in
    piece_after c.self.inside.history c.args.self.now picture c.args.job.now before now c.self.view_is c.in_ok-begun.ensures.laid c.in_ok-begun.ensures.size c.in_ok-begun.ensures.shows stands turns
    c.in_ok-piece.piece.items
    (λ shows. c.in_ok-piece.ensures.piece ∙ ap (λ (e : Coded). units_of e picture) c.in_ok-begun.ensures.same)
