use Rattle.std.proofs.Common.{◌≡◌, ◌*◌, drop, vec_len}
use Rattle.std.specs.List.{All}
use Rattle.recorder_model.specs.Script.{colours}
use Rattle.paint_script.specs.Spellable.{IsSpellableColour}
use Rattle.paint_script.proofs.Colours.{onto_colours}
use Rattle.paint_script.proofs.line.pixels_of.Given as goal

abbrev pub invariant-loop-k : goal.invariant-loop-k
invariant-loop-k l = record {
  value : colours l.word ≡ onto_colours l.pixels.items (colours (drop (6 * l.k) l.word));
  count : vec_len l.pixels ≡ l.k;
  spellable : All IsSpellableColour l.pixels.items;
}
