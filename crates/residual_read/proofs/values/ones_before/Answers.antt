use Rattle.residual_read.proofs.CodeReads.{front_is}
use Rattle.residual_read.proofs.values.ones_before.Goals as goal

pub overflow_sub-result-2 : goal.overflow_sub-result-2
overflow_sub-result-2 c = (front_is c.args.digits c.requires).enough

pub returns-clause-most : goal.returns-clause-most
returns-clause-most c = (front_is c.args.digits c.requires).most

pub returns-clause-front : goal.returns-clause-front
returns-clause-front c = (front_is c.args.digits c.requires).front
