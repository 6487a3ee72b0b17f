use Rattle.std.proofs.Common.{ap, get_or, arith}
use Rattle.scan_orders.proofs.ScanPlaces.{place_low}
use Rattle.residual_read.proofs.Laying.{inside, side_low}
use Rattle.residual_read.proofs.lay.put.Goals as goal

pub overflow_add-sub : goal.overflow_add-sub
overflow_add-sub c =
    let p = place_low c.args.scan c.args.number _ c.requires.number (ap (λ l. get_or l c.args.number (0, 0)) c.places.ensures.value) in
    let q = p.0 in
    let i = inside c.args.out.now.log2 c.args.sub.x c.from.result c.log2-side.ensures.from c.requires.x (rw c.from.ensures q) in
    let s = side_low c.args.out.now.log2 c.log2-side.ensures.to in
    omega arith

pub overflow_add-sub-2 : goal.overflow_add-sub-2
overflow_add-sub-2 c =
    let p = place_low c.args.scan c.args.number _ c.requires.number (ap (λ l. get_or l c.args.number (0, 0)) c.places.ensures.value) in
    let q = p.1 in
    let i = inside c.args.out.now.log2 c.args.sub.y c.from-2.result c.log2-side.ensures.from c.requires.y (rw c.from-2.ensures q) in
    let s = side_low c.args.out.now.log2 c.log2-side.ensures.to in
    omega arith

pub set-requires-clause-column : goal.set-requires-clause-column
set-requires-clause-column c =
    let p = place_low c.args.scan c.args.number _ c.requires.number (ap (λ l. get_or l c.args.number (0, 0)) c.places.ensures.value) in
    inside c.args.out.now.log2 c.args.sub.x c.from.result c.log2-side.ensures.from c.requires.x (rw c.from.ensures p.0)

pub set-requires-clause-row : goal.set-requires-clause-row
set-requires-clause-row c =
    let p = place_low c.args.scan c.args.number _ c.requires.number (ap (λ l. get_or l c.args.number (0, 0)) c.places.ensures.value) in
    inside c.args.out.now.log2 c.args.sub.y c.from-2.result c.log2-side.ensures.from c.requires.y (rw c.from-2.ensures p.1)
