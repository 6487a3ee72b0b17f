use Rattle.recorder.specs.Ends.{HasRecorded}
use Rattle.recorder.specs.Jobs.{IsAsFar}
use Rattle.recorder.proofs.record.wait_for_job.Given as goal

abbrev pub invariant-loop : goal.invariant-loop
invariant-loop g l = record {
  can_next : (goal.iterator-loop g).can_next l.iterator';
  is_finite : (goal.iterator-loop g).is_finite l.iterator';
  recorded : HasRecorded l.initial.pass l.pass;
  far : IsAsFar l.initial.pass.knows l.pass.knows;
}
