use Rattle.std.proofs.Common.{◌≡◌, ◌++◌, take}
use Rattle.std.specs.List.{All}
use Rattle.paint_script.specs.Spellable.{IsSpellableColour}
use Rattle.frame_paints.specs.Pixels.{mixed}
use Rattle.frame_paints.proofs.pieces.add_row.Given as goal

abbrev pub invariant-loop-i : goal.invariant-loop-i
invariant-loop-i l = record {
  mixed : l.pixels.items ≡ l.fn.pixels.items ++ mixed (take l.i l.r) (take l.i l.g) (take l.i l.b);
  colours : All IsSpellableColour l.fn.pixels.items → All IsSpellableColour l.pixels.items;
}
