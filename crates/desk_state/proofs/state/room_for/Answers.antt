use Rattle.std.proofs.Common.{ap, ◌∙◌, arith}
use Rattle.std.proofs.lemmas.List.{take_all}
use Rattle.desk_state.specs.Standing.{most_entries}
use Rattle.desk_state.proofs.Lookups.{lines_read}
use Rattle.desk_state.proofs.Totals.{most_more, most_within}
use Rattle.desk_state.proofs.state.room_for.Goals as goal

pub overflow_add-entries : goal.overflow_add-entries
overflow_add-entries c =
    let at = lines_read c.script.result c.unwrap-script.result c.args.scripts.now c.loop-client.client c.script.ensures c.unwrap-script.ensures in
    let less = c.loop-client-test.true in
    omega (arith, most_within c.args.scripts.now c.loop-client.client c.unwrap-script.result.now.lines (omega arith) at, c.lines.ensures.value, c.cuts.ensures, c.requires)

pub overflow_add-entries-in-loop-client : goal.overflow_add-entries-in-loop-client
overflow_add-entries-in-loop-client c =
    let at = lines_read c.script.result c.unwrap-script.result c.args.scripts.now c.loop-client.client c.script.ensures c.unwrap-script.ensures in
    omega (arith, most_within c.args.scripts.now c.loop-client.client c.unwrap-script.result.now.lines (omega arith) at, c.lines.ensures.value, c.cuts.ensures, c.requires, c.loop-client.invariant)

pub loop-client-preserved : goal.loop-client-preserved
loop-client-preserved c =
    let at = lines_read c.script.result c.unwrap-script.result c.args.scripts.now c.loop-client.client c.script.ensures c.unwrap-script.ensures in
    omega (arith, most_more c.args.scripts.now c.loop-client.client c.unwrap-script.result.now.lines (omega arith) at, c.lines.ensures.value, c.cuts.ensures, c.loop-client.invariant)

pub returns : goal.returns
returns c = c.loop-client.invariant ∙ ap most_entries (take_all c.loop-client.client c.args.scripts.now (omega (arith, c.loop-client-test.false)))
