use Rattle.std.proofs.Common.{◌≡◌, length, take, map}
use Rattle.h265_model.specs.Plain.{joined}
use Rattle.h265_model.specs.NalUnits.{escape}
use Rattle.slice_assembly.proofs.assembly.escape_rows.Given as goal

abbrev pub invariant-loop-row : goal.invariant-loop-row
invariant-loop-row l =
    (l.bytes.items ≡ joined (map (λ row. escape row.items) (take l.row-index l.rows)))
    × (l.lengths.items ≡ map (λ row. length (escape row.items)) (take l.row-index l.rows))
