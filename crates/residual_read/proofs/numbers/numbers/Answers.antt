use Rattle.std.proofs.Common.{arith}
use Rattle.residual_read.specs.declared.numbers.TheConstants.{DIAGONAL_4, DIAGONAL_8, HORIZONTAL_4, HORIZONTAL_8, VERTICAL_4, VERTICAL_8}
use Rattle.residual_read.proofs.Tables.{diagonal_4, diagonal_8, horizontal_4, horizontal_8, vertical_4, vertical_8, numbers_as}
use Rattle.residual_read.proofs.numbers.numbers.Goals as goal

pub returns-in-0-eq2-clause-value : goal.returns-in-0-eq2-clause-value
returns-in-0-eq2-clause-value c = numbers_as c.args.kind c.args.log2 0 2 DIAGONAL_4 (omega arith) (omega arith) diagonal_4

pub returns-in-0-default-clause-value : goal.returns-in-0-default-clause-value
returns-in-0-default-clause-value c = numbers_as c.args.kind c.args.log2 0 3 DIAGONAL_8 (omega arith) (omega arith) diagonal_8

pub returns-in-1-eq2-clause-value : goal.returns-in-1-eq2-clause-value
returns-in-1-eq2-clause-value c = numbers_as c.args.kind c.args.log2 1 2 HORIZONTAL_4 (omega arith) (omega arith) horizontal_4

pub returns-in-1-default-clause-value : goal.returns-in-1-default-clause-value
returns-in-1-default-clause-value c = numbers_as c.args.kind c.args.log2 1 3 HORIZONTAL_8 (omega arith) (omega arith) horizontal_8

pub returns-in_default-eq2-clause-value : goal.returns-in_default-eq2-clause-value
returns-in_default-eq2-clause-value c = numbers_as c.args.kind c.args.log2 2 2 VERTICAL_4 (omega arith) (omega arith) vertical_4

pub returns-in_default-clause-value : goal.returns-in_default-clause-value
returns-in_default-clause-value c = numbers_as c.args.kind c.args.log2 2 3 VERTICAL_8 (omega arith) (omega arith) vertical_8
