use Rattle.std.proofs.Common.{subst}
use Rattle.std.specs.Prelude.{IsTrue}
use Rattle.std.proofs.lemmas.Result.{on_ok_weaker}
use Rattle.h265_model.specs.Plain.{Size}
use Rattle.h265_model.specs.Settings.{is_size}
use Rattle.frame_paints.specs.Parts.{IsPiece}
use Rattle.frame_paints.proofs.Going.{went_none}
use Rattle.frame_paints.proofs.Patches.{fill_patches, blit_patches, pixel_count, piece_spelled}
use Rattle.frame_paints.proofs.pieces.paint_piece.Goals as goal

pub put-requires-clause-spellable : goal.put-requires-clause-spellable
put-requires-clause-spellable c =
    (piece_spelled c.args.frame.now.size c.args.piece (subst (λ (s : Size). IsTrue (is_size s)) c.size-size.ensures.value c.size-size.ensures.within) c.requires.piece, c.in-Some.ensures.spellable)

pub returns-in_err-pixels-clause-went : goal.returns-in_err-pixels-clause-went
returns-in_err-pixels-clause-went c = went_none c.args.shown.now c.args.script.now

pub put-requires-2-clause-spellable : goal.put-requires-2-clause-spellable
put-requires-2-clause-spellable c = (
  piece_spelled c.args.frame.now.size c.args.piece (subst (λ (s : Size). IsTrue (is_size s)) c.size-size.ensures.value c.size-size.ensures.within) c.requires.piece,
  record { count = pixel_count c.args.frame.now c.args.piece c.in_ok-pixels.pixels c.in_ok-pixels.ensures.pixels; few = c.requires.piece.few; colours = c.in_ok-pixels.ensures.colours },
)

pub returns-in-Some-clause-patched : goal.returns-in-Some-clause-patched
returns-in-Some-clause-patched c =
    on_ok_weaker c.put.result
    (λ stores. fill_patches c.args.shown.now c.args.frame.now c.put.new.shown c.args.piece c.in-Some.colour (subst (λ (s : Size). IsPiece s c.args.piece) c.requires.sizes c.requires.piece) c.in-Some.ensures.colour stores)
    c.put.ensures.drawn

pub returns-clause-patched : goal.returns-clause-patched
returns-clause-patched c =
    on_ok_weaker c.put-2.result
    (λ stores. blit_patches c.args.shown.now c.args.frame.now c.put-2.new.shown c.args.piece c.in_ok-pixels.pixels (subst (λ (s : Size). IsPiece s c.args.piece) c.requires.sizes c.requires.piece) c.in_ok-pixels.ensures.pixels stores)
    c.put-2.ensures.drawn
