use Rattle.std.proofs.Common.{◌+◌, ◌∷◌, [], ap, ◌∙◌, length, length-append, arith}
use Rattle.live_desk.proofs.Trial.{few_more}
use Rattle.live_desk.proofs.tests.scripts_of.Goals as goal

pub loop-client-preserved : goal.loop-client-preserved
loop-client-preserved c = record {
  few = few_more c.loop-client.scripts c.add_script.new.scripts c.in_ok-script.script.lines c.loop-client.client c.in_ok-add_script.ensures (omega (arith, c.in_ok-script.ensures, c.requires.2)) c.loop-client.invariant.few;
  many = ap length c.in_ok-add_script.ensures ∙ length-append c.loop-client.scripts (c.in_ok-script.script.lines ∷ []) ∙ ap (λ n. n + 1) c.loop-client.invariant.many;
}
