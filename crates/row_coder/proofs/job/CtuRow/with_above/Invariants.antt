use Rattle.std.proofs.Common.{◌≡◌, ◌++◌, take}
use Rattle.h265_model.specs.Plain.{joined}
use Rattle.row_coder.specs.Rows.{leaves_of}
use Rattle.row_coder.proofs.job.CtuRow.with_above.Given as goal

abbrev pub invariant-loop-leaves : goal.invariant-loop-leaves
invariant-loop-leaves l = l.row ≡ record l.initial.row { above = l.initial.row.above ++ joined (leaves_of (take l.leaves-index l.above)) }
