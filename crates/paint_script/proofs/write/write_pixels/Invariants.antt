use Rattle.std.proofs.Common.{◌≡◌, ◌++◌, take}
use Rattle.std.specs.Prelude.{flat_map}
use Rattle.recorder_model.specs.Script.{colour_text}
use Rattle.paint_script.proofs.write.write_pixels.Given as goal

abbrev pub invariant-loop-pixel : goal.invariant-loop-pixel
invariant-loop-pixel l = l.text.items ≡ l.initial.text.items ++ flat_map colour_text (take l.pixel-index l.pixels)
