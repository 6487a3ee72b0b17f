use Rattle.std.proofs.Common.{◌-◌, arith}
use Rattle.std.specs.Int.Count.{count_leading_zeros}
use Rattle.h265_model.proofs.Doublings.{doubled}
use Rattle.cabac_enc.proofs.Steps.{renormal, renormalised}
use Rattle.cabac_enc.proofs.coder.Coder.renormalise.Goals as goal

pub overflow_sub-doublings : goal.overflow_sub-doublings
overflow_sub-doublings c = (doubled c.args.range c.requires.some (omega arith)).enough

pub shift-requires-clause-few : goal.shift-requires-clause-few
shift-requires-clause-few c = (renormal c.args.low c.args.range c.requires.fits c.requires.some c.requires.less).few

pub shift-requires-clause-least : goal.shift-requires-clause-least
shift-requires-clause-least c = (renormal c.args.low c.args.range c.requires.fits c.requires.some c.requires.less).least

pub shift-requires-clause-most : goal.shift-requires-clause-most
shift-requires-clause-most c = (renormal c.args.low c.args.range c.requires.fits c.requires.some c.requires.less).most

pub returns-clause-ok : goal.returns-clause-ok
returns-clause-ok c =
    let n = renormal c.args.low c.args.range c.requires.fits c.requires.some c.requires.less in
    renormalised c.shift.result c.args.self.now c.shift.new.self c.args.low c.args.range (count_leading_zeros 32 c.args.range - 23) n c.shift.ensures.ok
