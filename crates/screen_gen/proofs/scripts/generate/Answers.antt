use Rattle.std.proofs.Common.{◌≡◌, sym, ◌∙◌, ap, ℕ, ◌∷◌, [], ◌++◌, map, arith}
use Rattle.std.proofs.lemmas.List.FromFn.{map-range_with_len_more}
use Rattle.h265_model.specs.Plain.{below}
use Rattle.screen_gen.specs.Generated.{client_script}
use Rattle.screen_gen.proofs.scripts.generate.Goals as goal

pub loop-client-preserved : goal.loop-client-preserved
loop-client-preserved c =
    let scripts = client_script c.args.number in
    let n = c.loop-client.client in
    let added = rw c.in-Ok.is at c.add.ensures.added in
    added
    ∙ ap (λ l. l ++ c.in_ok-script.script.lines ∷ []) c.loop-client.invariant
    ∙ ap (λ s. map scripts (below n) ++ s.lines ∷ []) c.in_ok-script.ensures
    ∙ sym (map-range_with_len_more scripts 0 n n (omega arith))

pub returns : goal.returns
returns c =
    let all : c.loop-client.client ≡ 4 = omega (arith, c.loop-client-test.false, c.loop-client.auto.client-end (omega arith)) in
    c.loop-client.invariant ∙ ap (λ (n : ℕ). map (client_script c.args.number) (below n)) all
