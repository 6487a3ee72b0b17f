use Rattle.std.proofs.Common.{length, ◌∙◌, ap, arith}
use Rattle.h265_model.specs.NalUnits.{escape}
use Rattle.slice_assembly.proofs.EscapeLengths.{fits}
use Rattle.slice_assembly.proofs.assembly.escape_rows.Goals as goal

pub overflow_cast-len : goal.overflow_cast-len
overflow_cast-len c =
    let row = c.row-item.result in
    let whole = c.requires c.loop-row.row-index row c.loop-row-test.true in
    let small = fits _ whole in
    let long = ap length c.in_ok-escaped.ensures ∙ ap (λ l. length (escape l)) (c.deref.ensures.value ∙ ap (λ r. r.items) c.row-item.is) in
    omega (arith, small, long, c.len.ensures, c.in_ok-escaped.escaped.ok)
