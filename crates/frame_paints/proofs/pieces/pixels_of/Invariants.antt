use Rattle.std.proofs.Common.{◌≡◌, ◌+◌}
use Rattle.std.specs.List.{All}
use Rattle.h265_model.specs.Plain.{place_values}
use Rattle.paint_script.specs.Spellable.{IsSpellableColour}
use Rattle.frame_paints.specs.Pixels.{colour_at}
use Rattle.frame_paints.proofs.pieces.pixels_of.Given as goal

abbrev pub invariant-loop-row : goal.invariant-loop-row
invariant-loop-row l = record {
  pixels : l.pixels.items ≡ place_values l.w l.row (λ x y. colour_at l.frame (l.x + x) (l.y + y));
  colours : All IsSpellableColour l.pixels.items;
}
