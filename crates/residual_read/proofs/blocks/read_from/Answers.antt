use Rattle.std.proofs.Common.{◌≡◌, ap, length, ◌+◌, ◌-◌, true, false, [], ◌∷◌, replicate, arith, rules}
use Rattle.bin_items.specs.Square.{Square}
use Rattle.residual_read.specs.Parts.{shape_of}
use Rattle.scan_orders.proofs.MarkLaws.{is_sub, marks_none, marks_more}
use Rattle.residual_read.proofs.Shapes.{place_is}
use Rattle.residual_read.proofs.Starts.{is_start, index_below, room, from_none, from_all}
use Rattle.residual_read.proofs.blocks.read_from.Goals as goal

pub bounds-numbers-place : goal.bounds-numbers-place
bounds-numbers-place c = rw c.numbers.ensures.long (index_below c.args.shape c.args.place c.requires.shape c.requires.x c.requires.y)

pub sub_block-sub-requires-clause-number : goal.sub_block-sub-requires-clause-number
sub_block-sub-requires-clause-number c =
    (is_start c.args.shape c.args.place c.numbers.result.now c.numbers-2.result.now c.from-number.result c.from-top.result c.requires.shape c.requires.x c.requires.y c.numbers.ensures.value c.from-number.ensures c.numbers-2.ensures.value c.from-top.ensures).few

pub read_levels_of-requires-clause-few : goal.read_levels_of-requires-clause-few
read_levels_of-requires-clause-few c =
    let low = (is_start c.args.shape c.args.place c.numbers.result.now c.numbers-2.result.now c.from-number.result c.from-top.result c.requires.shape c.requires.x c.requires.y c.numbers.ensures.value c.from-number.ensures c.numbers-2.ensures.value c.from-top.ensures).low in omega arith

pub read_levels_of-requires-clause-room : goal.read_levels_of-requires-clause-room
read_levels_of-requires-clause-room c =
    room c.from-top.result (is_start c.args.shape c.args.place c.numbers.result.now c.numbers-2.result.now c.from-number.result c.from-top.result c.requires.shape c.requires.x c.requires.y c.numbers.ensures.value c.from-number.ensures c.numbers-2.ensures.value c.from-top.ensures).low

pub returns-in_err-ended-clause-value : goal.returns-in_err-ended-clause-value
returns-in_err-ended-clause-value c =
    let start = is_start c.args.shape c.args.place c.numbers.result.now c.numbers-2.result.now c.from-number.result c.from-top.result c.requires.shape c.requires.x c.requires.y c.numbers.ensures.value c.from-number.ensures c.numbers-2.ensures.value c.from-top.ensures in
    let p = place_is c.args.shape c.sub_block-sub.result c.from-number.result c.sub_block-sub.ensures.place c.sub_block-sub.ensures.number in
    rw c.from_residual.ensures (from_none c.args.shape c.args.place c.sub_block-sub.result c.from-number.result c.from-top.result c.args.out.now.levels c.args.decoder.now c.requires.shape
    (record { start = start; sub = c.sub_block-sub.ensures.known [] (marks_none (shape_of c.args.shape) (c.from-number.result + 1)); x = p.0; y = p.1; zeros = ap (λ (b : Square). b.levels) c.requires.zeros })
    c.in_err-ended.ensures.value)

pub mark_of-requires-clause-x : goal.mark_of-requires-clause-x
mark_of-requires-clause-x c =
    let few = (is_start c.args.shape c.args.place c.numbers.result.now c.numbers-2.result.now c.from-number.result c.from-top.result c.requires.shape c.requires.x c.requires.y c.numbers.ensures.value c.from-number.ensures c.numbers-2.ensures.value c.from-top.ensures).few in
    let p = place_is c.args.shape c.sub_block-sub.result c.from-number.result c.sub_block-sub.ensures.place c.sub_block-sub.ensures.number in
    let at = (is_sub (shape_of c.args.shape) c.from-number.result c.sub_block-sub.result.x c.sub_block-sub.result.y c.requires.shape.low c.requires.shape.high few p.0 p.1).wide in omega arith

pub mark_of-requires-clause-y : goal.mark_of-requires-clause-y
mark_of-requires-clause-y c =
    let few = (is_start c.args.shape c.args.place c.numbers.result.now c.numbers-2.result.now c.from-number.result c.from-top.result c.requires.shape c.requires.x c.requires.y c.numbers.ensures.value c.from-number.ensures c.numbers-2.ensures.value c.from-top.ensures).few in
    let p = place_is c.args.shape c.sub_block-sub.result c.from-number.result c.sub_block-sub.ensures.place c.sub_block-sub.ensures.number in
    let at = (is_sub (shape_of c.args.shape) c.from-number.result c.sub_block-sub.result.x c.sub_block-sub.result.y c.requires.shape.low c.requires.shape.high few p.0 p.1).tall in omega arith

pub bounds-marks-mark_of : goal.bounds-marks-mark_of
bounds-marks-mark_of c =
    let few = (is_start c.args.shape c.args.place c.numbers.result.now c.numbers-2.result.now c.from-number.result c.from-top.result c.requires.shape c.requires.x c.requires.y c.numbers.ensures.value c.from-number.ensures c.numbers-2.ensures.value c.from-top.ensures).few in
    let p = place_is c.args.shape c.sub_block-sub.result c.from-number.result c.sub_block-sub.ensures.place c.sub_block-sub.ensures.number in
    let s = is_sub (shape_of c.args.shape) c.from-number.result c.sub_block-sub.result.x c.sub_block-sub.result.y c.requires.shape.low c.requires.shape.high few p.0 p.1 in
    let w = s.wide in let t = s.tall in rw c.mark_of.ensures (omega arith)

pub returns-clause-value : goal.returns-clause-value
returns-clause-value c =
    let start = is_start c.args.shape c.args.place c.numbers.result.now c.numbers-2.result.now c.from-number.result c.from-top.result c.requires.shape c.requires.x c.requires.y c.numbers.ensures.value c.from-number.ensures c.numbers-2.ensures.value c.from-top.ensures in
    let p = place_is c.args.shape c.sub_block-sub.result c.from-number.result c.sub_block-sub.ensures.place c.sub_block-sub.ensures.number in
    let s = is_sub (shape_of c.args.shape) c.from-number.result c.sub_block-sub.result.x c.sub_block-sub.result.y c.requires.shape.low c.requires.shape.high start.few p.0 p.1 in
    let long : length (replicate 81 false) ≡ 81 = search rules in
    from_all c.args.shape c.args.place c.sub_block-sub.result c.from-number.result c.from-top.result c.args.out.now.levels c.read_levels_of.new.out.levels c.read_subs.new.out.levels c.in_ok-ended.ended c.args.decoder.now c.read_levels_of.new.decoder c.read_subs.new.decoder c.read_subs.result c.requires.shape
    (record { start = start; sub = c.sub_block-sub.ensures.known [] (marks_none (shape_of c.args.shape) (c.from-number.result + 1)); x = p.0; y = p.1; zeros = ap (λ (b : Square). b.levels) c.requires.zeros })
    c.in_ok-ended.ensures.value
    (c.read_subs.ensures.value (true ∷ []) (rw c.mark_of.ensures (marks_more (shape_of c.args.shape) c.from-number.result c.sub_block-sub.result.x c.sub_block-sub.result.y [] (replicate 81 false) true c.requires.shape.low c.requires.shape.high start.few s p.0 p.1 long (marks_none (shape_of c.args.shape) (c.from-number.result + 1)))))
