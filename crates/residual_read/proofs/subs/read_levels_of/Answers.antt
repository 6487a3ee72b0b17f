use Rattle.std.proofs.Common.{ap, ◌∙◌}
use Rattle.residual_read.specs.Parts.{shape_of, sub_of, laid}
use Rattle.residual_read.proofs.Shapes.{sub_low}
use Rattle.residual_read.proofs.Laying.{sub_none1, sub_none2, sub_all}
use Rattle.residual_read.proofs.subs.read_levels_of.Goals as goal

pub returns-in_err-mask-clause-value : goal.returns-in_err-mask-clause-value
returns-in_err-mask-clause-value c = rw c.from_residual.ensures (sub_none1 (shape_of c.args.shape) (sub_of c.args.sub) (c.args.sub.x, c.args.sub.y) c.args.inner c.args.ended c.args.mask c.args.top c.args.out.now.levels c.args.decoder.now c.in_err-mask.ensures.value)

pub returns-in_err-ones-clause-value : goal.returns-in_err-ones-clause-value
returns-in_err-ones-clause-value c = rw c.from_residual-in_err-ones.ensures (sub_none2 (shape_of c.args.shape) (sub_of c.args.sub) (c.args.sub.x, c.args.sub.y) c.args.inner c.args.ended c.args.mask c.args.top c.in_ok-mask.mask c.set_of-set.result c.min-many.result c.args.out.now.levels c.args.decoder.now c.read_flags.new.decoder
    c.in_ok-mask.ensures.value c.set_of-set.ensures.value c.min-many.ensures c.in_err-ones.ensures.value)

pub lay-requires-clause-x : goal.lay-requires-clause-x
lay-requires-clause-x c = rw c.requires.side (sub_low c.args.shape c.args.sub c.requires.shape c.requires.sub).0

pub lay-requires-clause-y : goal.lay-requires-clause-y
lay-requires-clause-y c = rw c.requires.side (sub_low c.args.shape c.args.sub c.requires.shape c.requires.sub).1

pub returns-clause-value : goal.returns-clause-value
returns-clause-value c = sub_all (shape_of c.args.shape) (sub_of c.args.sub) (c.args.sub.x, c.args.sub.y) c.args.inner c.args.ended c.ended_after.result c.args.mask c.args.top c.in_ok-mask.mask c.set_of-set.result c.min-many.result c.in_ok-ones.ones c.read_values.new.values.items
    c.args.out.now.levels c.lay.new.out.levels c.args.decoder.now c.read_flags.new.decoder c.read_values.new.decoder
    c.in_ok-mask.ensures.value c.set_of-set.ensures.value c.min-many.ensures c.in_ok-ones.ensures.value c.ended_after.ensures
    (c.lay.ensures.levels ∙ ap (λ v. laid c.args.shape.scan c.args.out.now.log2 (c.args.sub.x, c.args.sub.y) c.in_ok-mask.mask v 0 16 c.args.out.now.levels) c.as_slice.ensures.value
    ∙ ap (λ n. laid c.args.shape.scan n (c.args.sub.x, c.args.sub.y) c.in_ok-mask.mask c.read_values.new.values.items 0 16 c.args.out.now.levels) c.requires.side)
