use Rattle.std.proofs.Common.{arith}
use Rattle.live_desk.proofs.Trial.{few_more}
use Rattle.recorder.proofs.tests.many.all_scripts.Goals as goal

pub loop-client-preserved : goal.loop-client-preserved
loop-client-preserved c = few_more c.loop-client.scripts c.add_script.new.scripts c.in_ok-script.script.lines c.loop-client.client c.in_ok-add_script.ensures (omega (arith, c.in_ok-script.ensures)) c.loop-client.invariant
