use Rattle.std.proofs.Common.{◌≡◌, take}
use Rattle.recorder_model.specs.Script.{script_text}
use Rattle.paint_script.proofs.write.write_script.Given as goal

abbrev pub invariant-loop-index : goal.invariant-loop-index
invariant-loop-index l = l.text.items ≡ script_text l.script.version (take l.index l.script.lines)
