use Rattle.std.proofs.Common.{◌≡◌, ◌*◌, [], get_or, length, map}
use Rattle.std.specs.Prelude.{flat_map}
use Rattle.h265_model.specs.Plain.{below}
use Rattle.slice_assembly.specs.Segments.{segment_unit}
use Rattle.slice_assembly.proofs.segments.assemble_segments.Given as goal

abbrev pub invariant-loop-row : goal.invariant-loop-row
invariant-loop-row l =
    (l.address ≡ l.row-index * l.across)
    × (l.pieces.items ≡ flat_map (λ row. segment_unit l.idr l.poc (row * l.across) (l.across * length l.rows) (get_or (map (λ r. r.items) l.rows) row [])) (below l.row-index))
