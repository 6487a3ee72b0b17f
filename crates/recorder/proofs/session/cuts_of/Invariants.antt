use Rattle.std.proofs.Common.{◌≡◌, take}
use Rattle.recorder.specs.Sessions.{all_cuts}
use Rattle.recorder.proofs.session.cuts_of.Given as goal

abbrev pub invariant-loop-client : goal.invariant-loop-client
invariant-loop-client l = l.cuts ≡ all_cuts (take l.client l.scripts)
