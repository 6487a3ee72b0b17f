use Rattle.std.proofs.Common.{◌≡◌, [], length, map, sym, ◌∙◌, ap, arith}
use Rattle.std.proofs.lemmas.List.{length-map, get_or-map}
use Rattle.slice_assembly.proofs.SegmentUnits.{next_address, one_row, all_rows}
use Rattle.slice_assembly.proofs.segments.assemble_segments.Goals as goal

pub loop-row-preserved : goal.loop-row-preserved
loop-row-preserved c =
    let i = c.loop-row.row-index in
    let rows = c.args.rows.now in
    let inv = c.loop-row.invariant in
    let here = c.deref.ensures.value ∙ ap (λ r. r.items) c.row-item.is ∙ sym (get_or-map (λ r. r.items) rows i c.row-item.result [] c.loop-row-test.true) in (
      next_address i c.args.across c.loop-row.address inv.0,
      one_row c.args.idr c.args.poc c.args.across (length rows) (map (λ r. r.items) rows) i c.loop-row.address c.loop-row.pieces.items c.append_segment.new.pieces.items c.deref.result.now
          c.in_ok-append_segment.ensures inv.1 inv.0 here,
    )

pub returns : goal.returns
returns c = λ size code wide are.
    let rows = c.args.rows.now in
    let done : c.loop-row.row-index ≡ length rows = omega (arith, c.loop-row-test.false, c.loop-row.auto.row-index-end) in
    all_rows size code c.args.idr c.args.poc c.args.across (length rows) c.loop-row.row-index (map (λ r. r.items) rows) c.loop-row.pieces.items wide are (length-map rows (λ r. r.items)) done c.loop-row.invariant.1
