use Rattle.annexb.proofs.Walks.{walked-start, from-start}
use Rattle.annexb.proofs.walk.Walk.new.Goals as goal

pub invariant_of-result : goal.invariant_of-result
invariant_of-result c = let read = c.in_ok-check.ensures.read in walked-start c.args.bytes.now read.0 read.1

pub returns-clause-read : goal.returns-clause-read
returns-clause-read c = let read = c.in_ok-check.ensures.read in from-start c.args.bytes.now read.0 read.1
