use Rattle.bin_items.proofs.Growing.{writes_at_err, front_first, front_then, writes_then, writes_as, front_as}
use Rattle.residual_code.specs.Parts.{shape_of}
use Rattle.residual_code.proofs.LastLaws.{x_split, y_split, last_is}
use Rattle.residual_code.proofs.last.write_last.Goals as goal

pub write_prefix-requires-clause-prefix : goal.write_prefix-requires-clause-prefix
write_prefix-requires-clause-prefix g c = rw c.prefix_of-x_prefix.ensures (x_split c.args.shape.log2 c.args.shape.scan c.args.place c.swapped-x.result c.requires.shape.low c.requires.shape.high c.requires.x c.requires.y c.swapped-x.ensures).within

pub write_prefix-requires-2-clause-prefix : goal.write_prefix-requires-2-clause-prefix
write_prefix-requires-2-clause-prefix g c = rw c.prefix_of-y_prefix.ensures (y_split c.args.shape.log2 c.args.shape.scan c.args.place c.swapped-x.result c.requires.shape.low c.requires.shape.high c.requires.x c.requires.y c.swapped-x.ensures).within

pub write_suffix-requires-clause-prefix : goal.write_suffix-requires-clause-prefix
write_suffix-requires-clause-prefix g c = rw c.prefix_of-x_prefix.ensures (x_split c.args.shape.log2 c.args.shape.scan c.args.place c.swapped-x.result c.requires.shape.low c.requires.shape.high c.requires.x c.requires.y c.swapped-x.ensures).low

pub write_suffix-requires-clause-value : goal.write_suffix-requires-clause-value
write_suffix-requires-clause-value g c = rw c.prefix_of-x_prefix.ensures (x_split c.args.shape.log2 c.args.shape.scan c.args.place c.swapped-x.result c.requires.shape.low c.requires.shape.high c.requires.x c.requires.y c.swapped-x.ensures).base

pub write_suffix-requires-2-clause-prefix : goal.write_suffix-requires-2-clause-prefix
write_suffix-requires-2-clause-prefix g c = rw c.prefix_of-y_prefix.ensures (y_split c.args.shape.log2 c.args.shape.scan c.args.place c.swapped-x.result c.requires.shape.low c.requires.shape.high c.requires.x c.requires.y c.swapped-x.ensures).low

pub write_suffix-requires-2-clause-value : goal.write_suffix-requires-2-clause-value
write_suffix-requires-2-clause-value g c = rw c.prefix_of-y_prefix.ensures (y_split c.args.shape.log2 c.args.shape.scan c.args.place c.swapped-x.result c.requires.shape.low c.requires.shape.high c.requires.x c.requires.y c.swapped-x.ensures).base

pub returns-in_err-write_prefix-clause-taken : goal.returns-in_err-write_prefix-clause-taken
returns-in_err-write_prefix-clause-taken g c = writes_at_err _ _ _ _ _ c.from_residual.ensures.1 (front_as _ _ _ _ (last_is (shape_of c.args.shape) c.args.place c.swapped-x.result c.prefix_of-x_prefix.result c.prefix_of-y_prefix.result c.swapped-x.ensures c.prefix_of-x_prefix.ensures c.prefix_of-y_prefix.ensures) (front_first _ _ _ _ c.in_err-write_prefix.ensures.taken))

pub returns-in_err-write_prefix-2-clause-taken : goal.returns-in_err-write_prefix-2-clause-taken
returns-in_err-write_prefix-2-clause-taken g c = writes_at_err _ _ _ _ _ c.from_residual-in_err-write_prefix-2.ensures.1 (front_as _ _ _ _ (last_is (shape_of c.args.shape) c.args.place c.swapped-x.result c.prefix_of-x_prefix.result c.prefix_of-y_prefix.result c.swapped-x.ensures c.prefix_of-x_prefix.ensures c.prefix_of-y_prefix.ensures)
    (front_then _ _ _ _ _ c.in_ok-write_prefix.ensures.taken (front_first _ _ _ _ c.in_err-write_prefix-2.ensures.taken)))

pub returns-in_err-write_suffix-clause-taken : goal.returns-in_err-write_suffix-clause-taken
returns-in_err-write_suffix-clause-taken g c = writes_at_err _ _ _ _ _ c.from_residual-in_err-write_suffix.ensures.1 (front_as _ _ _ _ (last_is (shape_of c.args.shape) c.args.place c.swapped-x.result c.prefix_of-x_prefix.result c.prefix_of-y_prefix.result c.swapped-x.ensures c.prefix_of-x_prefix.ensures c.prefix_of-y_prefix.ensures)
    (front_then _ _ _ _ _ c.in_ok-write_prefix.ensures.taken (front_then _ _ _ _ _ c.in_ok-write_prefix-2.ensures.taken (front_first _ _ _ _ c.in_err-write_suffix.ensures.taken))))

pub returns-clause-taken : goal.returns-clause-taken
returns-clause-taken g c = writes_as _ _ _ _ _ (last_is (shape_of c.args.shape) c.args.place c.swapped-x.result c.prefix_of-x_prefix.result c.prefix_of-y_prefix.result c.swapped-x.ensures c.prefix_of-x_prefix.ensures c.prefix_of-y_prefix.ensures)
    (writes_then _ _ _ _ _ _ c.in_ok-write_prefix.ensures.taken (writes_then _ _ _ _ _ _ c.in_ok-write_prefix-2.ensures.taken
    (writes_then _ _ _ _ _ _ c.in_ok-write_suffix.ensures.taken c.write_suffix-2.ensures.taken)))
