use Rattle.std.proofs.Common.{sym}
use Rattle.screenrec.proofs.TogetherLaws.{line_takes, take_takes}
use Rattle.screenrec.proofs.together.taken.Goals as goal

pub returns-in-Line-clause-takes : goal.returns-in-Line-clause-takes
returns-in-Line-clause-takes c = rw c.in-Line.is (sym (line_takes c.in-Line.client c.in-Line.index))

pub returns-in-Take-clause-takes : goal.returns-in-Take-clause-takes
returns-in-Take-clause-takes c = rw c.in-Take.is (sym (take_takes c.in-Take.number))
