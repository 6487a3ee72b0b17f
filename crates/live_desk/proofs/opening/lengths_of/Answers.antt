use Rattle.std.proofs.Common.{◌∷◌, ◌++◌, [], ap, ◌∙◌, length, map, arith}
use Rattle.std.proofs.lemmas.List.{take_all}
use Rattle.desk_state.proofs.Lookups.{lines_read}
use Rattle.live_desk.proofs.Fresh.{lengths_more}
use Rattle.live_desk.proofs.opening.lengths_of.Goals as goal

pub loop-client-init : goal.loop-client-init
loop-client-init c = c.new-lengths.ensures.items

pub loop-client-preserved : goal.loop-client-preserved
loop-client-preserved c =
    let less = c.loop-client-test.true in
    c.in_ok-push.ensures.items ∙ ap (λ l. l ++ c.lines.result ∷ []) c.loop-client.invariant
    ∙ lengths_more c.args.scripts.now c.loop-client.client c.lines.result c.unwrap.result.now.lines (omega (arith, less, c.count-client-end.ensures.value)) (lines_read c.script.result c.unwrap.result c.args.scripts.now c.loop-client.client c.script.ensures c.unwrap.ensures) c.lines.ensures.value

pub returns : goal.returns
returns c = c.loop-client.invariant ∙ ap (map length) (take_all c.loop-client.client c.args.scripts.now (omega (arith, c.loop-client-test.false, c.count-client-end.ensures.value)))
