use Rattle.std.proofs.Common.{◌≡◌, length, arith, rules}
use Rattle.residual_read.specs.Parts.{shape_of, sub_of}
use Rattle.scan_orders.proofs.MarkLaws.{is_sub, marks_more}
use Rattle.residual_read.proofs.Shapes.{place_is}
use Rattle.residual_read.proofs.SubSteps.{step_none, step_by}
use Rattle.residual_read.proofs.subs.read_sub.Goals as goal

pub mark_of-requires-clause-x : goal.mark_of-requires-clause-x
mark_of-requires-clause-x c =
    let p = place_is c.args.shape c.sub_block-sub.result c.args.number c.sub_block-sub.ensures.place c.sub_block-sub.ensures.number in
    let at = (is_sub (shape_of c.args.shape) c.args.number c.sub_block-sub.result.x c.sub_block-sub.result.y c.requires.shape.low c.requires.shape.high c.requires.number p.0 p.1).wide in omega arith

pub mark_of-requires-clause-y : goal.mark_of-requires-clause-y
mark_of-requires-clause-y c =
    let p = place_is c.args.shape c.sub_block-sub.result c.args.number c.sub_block-sub.ensures.place c.sub_block-sub.ensures.number in
    let at = (is_sub (shape_of c.args.shape) c.args.number c.sub_block-sub.result.x c.sub_block-sub.result.y c.requires.shape.low c.requires.shape.high c.requires.number p.0 p.1).tall in omega arith

pub bounds-marks-mark_of : goal.bounds-marks-mark_of
bounds-marks-mark_of c =
    let p = place_is c.args.shape c.sub_block-sub.result c.args.number c.sub_block-sub.ensures.place c.sub_block-sub.ensures.number in
    let s = is_sub (shape_of c.args.shape) c.args.number c.sub_block-sub.result.x c.sub_block-sub.result.y c.requires.shape.low c.requires.shape.high c.requires.number p.0 p.1 in
    let w = s.wide in let t = s.tall in rw c.mark_of.ensures (omega arith)

pub returns-in_err-coded-clause-value : goal.returns-in_err-coded-clause-value
returns-in_err-coded-clause-value c = λ flags are. rw c.from_residual.ensures (step_none (shape_of c.args.shape) flags c.args.ended c.args.number c.args.out.now.levels c.args.decoder.now (sub_of c.sub_block-sub.result) (c.sub_block-sub.ensures.known flags are) c.in_err-coded.ensures.value)

pub returns-clause-value : goal.returns-clause-value
returns-clause-value c = λ flags are.
    let long : length c.args.marks.now ≡ 81 = search rules in
    let p = place_is c.args.shape c.sub_block-sub.result c.args.number c.sub_block-sub.ensures.place c.sub_block-sub.ensures.number in
    let s = is_sub (shape_of c.args.shape) c.args.number c.sub_block-sub.result.x c.sub_block-sub.result.y c.requires.shape.low c.requires.shape.high c.requires.number p.0 p.1 in
    step_by (shape_of c.args.shape) flags c.args.ended c.args.number c.args.out.now.levels c.read_inner.new.out.levels _ c.args.decoder.now c.read_coded.new.decoder c.read_inner.new.decoder (sub_of c.sub_block-sub.result) c.in_ok-coded.coded c.read_inner.result c.sub_block-sub.result.x c.sub_block-sub.result.y
    (c.sub_block-sub.ensures.known flags are) p.0 p.1 c.in_ok-coded.ensures.value c.read_inner.ensures.value
    (rw c.mark_of.ensures (marks_more (shape_of c.args.shape) c.args.number c.sub_block-sub.result.x c.sub_block-sub.result.y flags c.args.marks.now c.in_ok-coded.coded c.requires.shape.low c.requires.shape.high c.requires.number s p.0 p.1 long are))
