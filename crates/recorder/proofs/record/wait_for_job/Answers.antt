use Rattle.recorder.proofs.Seen.{looked, as_far, took, next_job, after_waiting, waiting}
use Rattle.recorder.proofs.record.wait_for_job.Goals as goal

pub returns-in-Job-clause-pass : goal.returns-in-Job-clause-pass
returns-in-Job-clause-pass g c = took c.args.pass.now c.loop.pass c.take.new.pass c.in-Job.job c.loop.invariant.recorded c.in-Job.ensures

pub returns-in-Job-clause-job : goal.returns-in-Job-clause-job
returns-in-Job-clause-job g c =
    after_waiting c.args.pass.now.knows c.loop.pass.knows c.take.new.pass.knows c.in-Job.job c.loop.invariant.far
    (next_job c.args.pass.now c.loop.pass c.take.new.pass c.in-Job.job c.loop.invariant.recorded c.in-Job.ensures)

pub loop-preserved : goal.loop-preserved
loop-preserved g c = record {
  can_next = tt;
  is_finite = tt;
  recorded = looked c.args.pass.now c.loop.pass c.take.new.pass _ _ c.loop.invariant.recorded c.in-NotYet.ensures;
  far = waiting c.args.pass.now.knows c.loop.pass.knows c.take.new.pass.knows c.loop.invariant.far (as_far c.args.pass.now c.loop.pass c.take.new.pass _ _ c.loop.invariant.recorded c.in-NotYet.ensures);
}

pub returns-in-Ended-clause-none : goal.returns-in-Ended-clause-none
returns-in-Ended-clause-none g c = record {
  far = waiting c.args.pass.now.knows c.loop.pass.knows c.take.new.pass.knows c.loop.invariant.far (as_far c.args.pass.now c.loop.pass c.take.new.pass _ _ c.loop.invariant.recorded c.in-Ended.ensures);
  saw = c.in-Ended.ensures.marked;
}
