use Rattle.std.proofs.Common.{ap, ◌∙◌, arith}
use Rattle.std.proofs.lemmas.List.{take_all}
use Rattle.desk_state.proofs.Lookups.{lines_read}
use Rattle.recorder.specs.Sessions.{all_cuts}
use Rattle.recorder.proofs.Orders.{cuts_more, cuts_within, few_cuts}
use Rattle.recorder.proofs.session.cuts_of.Goals as goal

pub overflow_add-cuts : goal.overflow_add-cuts
overflow_add-cuts c =
    let at = lines_read c.script.result c.unwrap.result c.args.scripts.now c.loop-client.client c.script.ensures c.unwrap.ensures in
    let less = c.loop-client-test.true in
    omega (arith, cuts_within c.args.scripts.now c.loop-client.client c.unwrap.result.now.lines (omega arith) at, c.cuts-cuts.ensures, c.loop-client.invariant, few_cuts c.args.scripts.now, c.requires)

pub loop-client-preserved : goal.loop-client-preserved
loop-client-preserved c =
    let at = lines_read c.script.result c.unwrap.result c.args.scripts.now c.loop-client.client c.script.ensures c.unwrap.ensures in
    omega (arith, cuts_more c.args.scripts.now c.loop-client.client c.unwrap.result.now.lines (omega arith) at, c.cuts-cuts.ensures, c.loop-client.invariant)

pub returns : goal.returns
returns c = c.loop-client.invariant ∙ ap all_cuts (take_all c.loop-client.client c.args.scripts.now (omega (arith, c.loop-client-test.false)))
