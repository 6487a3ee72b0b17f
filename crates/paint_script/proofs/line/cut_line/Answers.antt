use Rattle.std.proofs.Common.{◌==◌, ap}
use Rattle.recorder_model.specs.Script.{cut_of}
use Rattle.paint_script.proofs.Splits.{HasFirst, split-first}
use Rattle.paint_script.proofs.line.cut_line.Goals as goal

-- what follows a space has at least one piece
pub returns-in-Some-clause-value : goal.returns-in-Some-clause-value
returns-in-Some-clause-value c =
    let more : HasFirst _ = split-first (λ b. b == 32) c.in-Some.field-0.now in
    rw c.in-Some.is (ap cut_of more.is)
