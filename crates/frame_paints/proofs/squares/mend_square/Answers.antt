use Rattle.std.proofs.Common.{subst}
use Rattle.std.proofs.lemmas.Result.{on_ok_weaker}
use Rattle.h265_model.specs.Plain.{Size}
use Rattle.frame_paints.specs.Parts.{IsPiece}
use Rattle.frame_paints.proofs.Going.{went_none}
use Rattle.frame_paints.proofs.Patches.{part_mended, part_kept}
use Rattle.frame_paints.proofs.squares.mend_square.Goals as goal

pub returns-in-None-clause-went : goal.returns-in-None-clause-went
returns-in-None-clause-went c = went_none c.args.shown.now c.args.script.now

pub returns-in-Some-clause-mended : goal.returns-in-Some-clause-mended
returns-in-Some-clause-mended c =
    on_ok_weaker c.paint_piece.result
    (λ stores. part_mended c.args.shown.now c.args.frame.now c.paint_piece.new.shown c.args.square c.in-Some.part c.paint_piece.ensures.went.size (subst (λ (s : Size). IsPiece s c.args.square) c.requires.sizes c.requires.square) c.in-Some.ensures.beside stores)
    c.paint_piece.ensures.patched

pub returns-in-Some-clause-beside : goal.returns-in-Some-clause-beside
returns-in-Some-clause-beside c =
    on_ok_weaker c.paint_piece.result
    (λ stores. part_kept c.args.shown.now c.args.frame.now c.paint_piece.new.shown c.args.square c.in-Some.part c.paint_piece.ensures.went.size c.in-Some.ensures.part stores)
    c.paint_piece.ensures.patched
