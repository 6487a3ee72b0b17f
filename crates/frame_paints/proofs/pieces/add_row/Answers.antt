use Rattle.std.proofs.Common.{get_or, arith}
use Rattle.std.proofs.lemmas.List.Elements.{All-push}
use Rattle.paint_script.specs.Spellable.{IsSpellableColour}
use Rattle.frame_paints.proofs.Pixels.{pixel-more}
use Rattle.frame_paints.proofs.pieces.add_row.Goals as goal

pub loop-i-preserved : goal.loop-i-preserved
loop-i-preserved c =
    let i = c.loop-i.i in
    record {
      mixed = pixel-more c.args.pixels.now.items c.loop-i.pixels.items c.push.new.self.items c.args.r.now c.args.g.now c.args.b.now i (omega arith) c.requires.green c.requires.blue c.loop-i.invariant.mixed c.in_ok-push.ensures.items;
      colours = λ all. rw c.in_ok-push.ensures.items (All-push IsSpellableColour c.loop-i.pixels.items (record { r = get_or c.args.r.now i 0; g = get_or c.args.g.now i 0; b = get_or c.args.b.now i 0 }) (c.loop-i.invariant.colours all) (record { r = omega (arith, c.type_inv.r i); g = omega (arith, c.type_inv.g i); b = omega (arith, c.type_inv.b i) }));
    }
