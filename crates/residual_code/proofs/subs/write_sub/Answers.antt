use Rattle.std.proofs.Common.{◌≡◌, ◌∙◌, ap, length, arith, rules}
use Rattle.std.proofs.lemmas.Result.{on_ok_weaker}
use Rattle.bin_items.proofs.Growing.{writes_at_err, front_first, front_as, writes_then, writes_as}
use Rattle.h265_model.specs.Residual.{sub_at}
use Rattle.residual_code.specs.Parts.{shape_of, sub_of, sub_levels, tile_levels, coded_at}
use Rattle.residual_code.proofs.LevelLaws.{tile_high, on_ok}
use Rattle.scan_orders.proofs.MarkLaws.{is_sub, marks_more}
use Rattle.residual_code.proofs.StepLaws.{x_at, y_at, scan_low, levels_are, part_as, ended_is}
use Rattle.residual_code.proofs.subs.write_sub.Goals as goal

pub load-tile-requires-clause-x : goal.load-tile-requires-clause-x
load-tile-requires-clause-x g c = (scan_low c.args.shape c.args.number c.sub_block-sub.result.x c.sub_block-sub.result.y c.requires.shape c.requires.number (x_at c.args.shape c.sub_block-sub.result c.args.number c.sub_block-sub.ensures.place c.sub_block-sub.ensures.number) (y_at c.args.shape c.sub_block-sub.result c.args.number c.sub_block-sub.ensures.place c.sub_block-sub.ensures.number)).0

pub load-tile-requires-clause-y : goal.load-tile-requires-clause-y
load-tile-requires-clause-y g c = (scan_low c.args.shape c.args.number c.sub_block-sub.result.x c.sub_block-sub.result.y c.requires.shape c.requires.number (x_at c.args.shape c.sub_block-sub.result c.args.number c.sub_block-sub.ensures.place c.sub_block-sub.ensures.number) (y_at c.args.shape c.sub_block-sub.result c.args.number c.sub_block-sub.ensures.place c.sub_block-sub.ensures.number)).1

pub mark_of-requires-clause-x : goal.mark_of-requires-clause-x
mark_of-requires-clause-x g c = let at = (is_sub (shape_of c.args.shape) c.args.number c.sub_block-sub.result.x c.sub_block-sub.result.y c.requires.shape.low c.requires.shape.high c.requires.number (x_at c.args.shape c.sub_block-sub.result c.args.number c.sub_block-sub.ensures.place c.sub_block-sub.ensures.number) (y_at c.args.shape c.sub_block-sub.result c.args.number c.sub_block-sub.ensures.place c.sub_block-sub.ensures.number)).wide in omega arith

pub mark_of-requires-clause-y : goal.mark_of-requires-clause-y
mark_of-requires-clause-y g c = let at = (is_sub (shape_of c.args.shape) c.args.number c.sub_block-sub.result.x c.sub_block-sub.result.y c.requires.shape.low c.requires.shape.high c.requires.number (x_at c.args.shape c.sub_block-sub.result c.args.number c.sub_block-sub.ensures.place c.sub_block-sub.ensures.number) (y_at c.args.shape c.sub_block-sub.result c.args.number c.sub_block-sub.ensures.place c.sub_block-sub.ensures.number)).tall in omega arith

pub bounds-marks-mark_of : goal.bounds-marks-mark_of
bounds-marks-mark_of g c = let at = (is_sub (shape_of c.args.shape) c.args.number c.sub_block-sub.result.x c.sub_block-sub.result.y c.requires.shape.low c.requires.shape.high c.requires.number (x_at c.args.shape c.sub_block-sub.result c.args.number c.sub_block-sub.ensures.place c.sub_block-sub.ensures.number) (y_at c.args.shape c.sub_block-sub.result c.args.number c.sub_block-sub.ensures.place c.sub_block-sub.ensures.number)).wide in let to = (is_sub (shape_of c.args.shape) c.args.number c.sub_block-sub.result.x c.sub_block-sub.result.y c.requires.shape.low c.requires.shape.high c.requires.number (x_at c.args.shape c.sub_block-sub.result c.args.number c.sub_block-sub.ensures.place c.sub_block-sub.ensures.number) (y_at c.args.shape c.sub_block-sub.result c.args.number c.sub_block-sub.ensures.place c.sub_block-sub.ensures.number)).tall in rw c.mark_of.ensures (omega arith)

pub write_inner-requires-clause-bounds : goal.write_inner-requires-clause-bounds
write_inner-requires-clause-bounds g c = rw c.load-tile.ensures (tile_high (shape_of c.args.shape) c.args.levels.now (c.sub_block-sub.result.x, c.sub_block-sub.result.y) c.requires.bounds)

pub returns-in_err-write_coded-clause-taken : goal.returns-in_err-write_coded-clause-taken
returns-in_err-write_coded-clause-taken g c = λ flags are. writes_at_err _ _ _ _ _ c.from_residual.ensures.1 (front_as _ _ _ _ (part_as (shape_of c.args.shape) (sub_of c.sub_block-sub.result) (sub_at (shape_of c.args.shape) c.args.number flags) c.is_coded-coded.result c.args.ended.now (tile_levels c.args.shape.scan c.load-tile.result 16) (sub_levels (shape_of c.args.shape) c.args.levels.now c.args.number) (c.sub_block-sub.ensures.known flags are) (levels_are c.args.shape c.args.number c.sub_block-sub.result.x c.sub_block-sub.result.y c.args.levels.now c.load-tile.result (x_at c.args.shape c.sub_block-sub.result c.args.number c.sub_block-sub.ensures.place c.sub_block-sub.ensures.number) (y_at c.args.shape c.sub_block-sub.result c.args.number c.sub_block-sub.ensures.place c.sub_block-sub.ensures.number) c.load-tile.ensures) (c.is_coded-coded.ensures c.args.shape.scan)) (front_first _ _ _ _ c.in_err-write_coded.ensures.taken))

pub returns-clause-taken : goal.returns-clause-taken
returns-clause-taken g c = λ flags are. writes_as _ _ _ _ _ (part_as (shape_of c.args.shape) (sub_of c.sub_block-sub.result) (sub_at (shape_of c.args.shape) c.args.number flags) c.is_coded-coded.result c.args.ended.now (tile_levels c.args.shape.scan c.load-tile.result 16) (sub_levels (shape_of c.args.shape) c.args.levels.now c.args.number) (c.sub_block-sub.ensures.known flags are) (levels_are c.args.shape c.args.number c.sub_block-sub.result.x c.sub_block-sub.result.y c.args.levels.now c.load-tile.result (x_at c.args.shape c.sub_block-sub.result c.args.number c.sub_block-sub.ensures.place c.sub_block-sub.ensures.number) (y_at c.args.shape c.sub_block-sub.result c.args.number c.sub_block-sub.ensures.place c.sub_block-sub.ensures.number) c.load-tile.ensures) (c.is_coded-coded.ensures c.args.shape.scan)) (writes_then _ _ _ _ _ _ c.in_ok-write_coded.ensures.taken c.write_inner.ensures.taken)

pub returns-clause-marks : goal.returns-clause-marks
returns-clause-marks g c = λ flags are.
    let long : length c.args.marks.now ≡ 81 = search rules in
    on_ok c.write_inner.result (rw (c.mark_of.ensures, (c.is_coded-coded.ensures c.args.shape.scan ∙ ap (coded_at c.args.number) (levels_are c.args.shape c.args.number c.sub_block-sub.result.x c.sub_block-sub.result.y c.args.levels.now c.load-tile.result (x_at c.args.shape c.sub_block-sub.result c.args.number c.sub_block-sub.ensures.place c.sub_block-sub.ensures.number) (y_at c.args.shape c.sub_block-sub.result c.args.number c.sub_block-sub.ensures.place c.sub_block-sub.ensures.number) c.load-tile.ensures))) (marks_more (shape_of c.args.shape) c.args.number c.sub_block-sub.result.x c.sub_block-sub.result.y flags c.args.marks.now (coded_at c.args.number (sub_levels (shape_of c.args.shape) c.args.levels.now c.args.number)) c.requires.shape.low c.requires.shape.high c.requires.number (is_sub (shape_of c.args.shape) c.args.number c.sub_block-sub.result.x c.sub_block-sub.result.y c.requires.shape.low c.requires.shape.high c.requires.number (x_at c.args.shape c.sub_block-sub.result c.args.number c.sub_block-sub.ensures.place c.sub_block-sub.ensures.number) (y_at c.args.shape c.sub_block-sub.result c.args.number c.sub_block-sub.ensures.place c.sub_block-sub.ensures.number)) (x_at c.args.shape c.sub_block-sub.result c.args.number c.sub_block-sub.ensures.place c.sub_block-sub.ensures.number) (y_at c.args.shape c.sub_block-sub.result c.args.number c.sub_block-sub.ensures.place c.sub_block-sub.ensures.number) long are))

pub returns-clause-ended : goal.returns-clause-ended
returns-clause-ended g c = on_ok_weaker c.write_inner.result (λ h. ended_is c.args.number c.is_coded-coded.result c.args.ended.now c.write_inner.new.ended (tile_levels c.args.shape.scan c.load-tile.result 16) (sub_levels (shape_of c.args.shape) c.args.levels.now c.args.number) (c.is_coded-coded.ensures c.args.shape.scan) (levels_are c.args.shape c.args.number c.sub_block-sub.result.x c.sub_block-sub.result.y c.args.levels.now c.load-tile.result (x_at c.args.shape c.sub_block-sub.result c.args.number c.sub_block-sub.ensures.place c.sub_block-sub.ensures.number) (y_at c.args.shape c.sub_block-sub.result c.args.number c.sub_block-sub.ensures.place c.sub_block-sub.ensures.number) c.load-tile.ensures) h) c.write_inner.ensures.ended
