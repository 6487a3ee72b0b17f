use Rattle.std.proofs.Common.{◌≡◌, sym, ◌∙◌, ap, ℕ, ◌+◌, ◌-◌, ◌++◌, ◌∷◌, [], length, arith, length-append}
use Rattle.screen_gen.specs.Generated.{lines_from, client_script}
use Rattle.paint_script.specs.Scripts.{Script}
use Rattle.screen_gen.proofs.NextLines.{one_line, no_more}
use Rattle.screen_gen.proofs.scripts.client_script.Goals as goal

pub loop-index-preserved : goal.loop-index-preserved
loop-index-preserved c =
    let client = c.args.client in
    let index = c.loop-index.index in
    let next = c.next_line.new.random in
    let line = c.in_ok-line.line in
    let front = c.loop-index.script.lines in
    let before = c.loop-index.invariant in
    let added = ap (λ (s : Script). s.lines) c.in_ok-add.ensures.added in
    let longer = ap length added ∙ length-append front (line ∷ []) in (
      ap (λ l. l ++ lines_from client next (index + 1) (60 - (index + 1))) added
          ∙ one_line client index c.loop-index.random next line front c.loop-index-test.true c.in_ok-line.ensures.line
          ∙ before.0,
      omega (arith, longer, before.1),
      ap (λ (s : Script). s.version) c.in_ok-add.ensures.added ∙ before.2,
    )

pub returns : goal.returns
returns c =
    let client = c.args.client in
    let lines : c.loop-index.script.lines ≡ client_script c.args.number client =
    sym (no_more client c.loop-index.random c.loop-index.index c.loop-index.script.lines (omega (arith, c.loop-index-test.false)))
    ∙ c.loop-index.invariant.0
    ∙ ap (λ (s : ℕ). lines_from client s 0 60) c.seed_from_u64-random.ensures.same in
    λ i. record { version = c.loop-index.invariant.2 i; lines = lines i }
