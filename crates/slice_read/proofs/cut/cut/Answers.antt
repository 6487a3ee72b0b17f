use Rattle.std.proofs.Common.{refl, ◌<◌, length, arith}
use Rattle.std.specs.Prelude.{slice_index_or}
use Rattle.slice_read.proofs.CutReads.{bytes_end, byte_past, byte_cut, all_cut, kept_three, kept_last}
use Rattle.slice_read.proofs.cut.cut.Goals.{then-takes-eq2, else-takes-eq2}
use Rattle.slice_read.proofs.cut.cut.Goals as goal

pub returns-then-at-bytes : goal.returns-then-at-bytes
returns-then-at-bytes c =
    let l = c.loop-left in
    bytes_end c.args.n c.args.bytes.now l.p l.q l.left l.at l.invariant c.if-at-bytes.true c.loop-left-test.true

pub returns-then-takes-left : goal.returns-then-takes-left
returns-then-takes-left c =
    let l = c.loop-left in
    let less : l.at < length c.args.bytes.now = omega (arith, l.invariant.within, c.if-at-bytes.false) in
    byte_past c.args.n c.args.bytes.now l.p l.q l.left l.at (slice_index_or c.args.bytes.now l.at 0) l.invariant less refl (omega (arith, c.if-takes-left.true, c.cost-takes.ensures)) c.loop-left-test.true

pub loop-left-preserved : goal.loop-left-preserved
loop-left-preserved c =
    let l = c.loop-left in
    let less : l.at < length c.args.bytes.now = omega (arith, l.invariant.within, c.if-at-bytes.false) in
    byte_cut c.args.n c.args.bytes.now l.p l.q l.left l.at (slice_index_or c.args.bytes.now l.at 0) c.cost-takes.result c.if-takes-eq2.p l.invariant less refl c.cost-takes.ensures c.if-takes-left.false c.loop-left-test.true
    (elim c.if-takes-eq2.branch [ then-takes-eq2 w ↦ kept_three c.cost-takes.result l.q c.if-takes-eq2.p w.if-takes-eq2.true w.p-is | else-takes-eq2 w ↦ kept_last c.cost-takes.result l.q c.if-takes-eq2.p w.if-takes-eq2.false w.p-is ])

pub returns : goal.returns
returns c =
    let l = c.loop-left in
    (l.invariant.within, all_cut c.args.n c.args.bytes.now l.p l.q l.left l.at l.invariant (omega (arith, c.loop-left-test.false)))
