use Rattle.std.proofs.Common.{◌≡◌, ◌<◌, ◌+◌, length, take, get_or, ap, ◌∙◌, sym, arith, List, ℤ, ◌++◌, ◌∷◌, [], set, rules, w16, to_z, of_z}
use Rattle.std.proofs.lemmas.List.{take_more_set}
use Rattle.std.proofs.lemmas.Int.{to_z-of_z}
use Rattle.h265_model.specs.Tree.{differences}
use Rattle.leaf_cost.proofs.Levels.{differences-more}
use Rattle.row_coder.proofs.Differences.{bytes_are}
use Rattle.row_coder.proofs.predicted.subtract_row.Goals as goal

pub loop-i-preserved : goal.loop-i-preserved
loop-i-preserved c =
    let long : length c.loop-i.out ≡ length c.args.samples.now = c.loop-i.auto.out ∙ sym c.requires.out in
    let less : c.loop-i.i < length c.args.samples.now = c.loop-i-test.true in
    let back : to_z w16 (of_z w16 c.difference.result) ≡ c.difference.result = to_z-of_z w16 c.difference.result (search rules) in
    ap (λ (v : ℤ). take (c.loop-i.i + 1) (set c.loop-i.out c.loop-i.i v)) back
    ∙ (take_more_set c.loop-i.out c.loop-i.i c.difference.result (omega arith)
    ∙ (ap (λ (l : List ℤ). l ++ c.difference.result ∷ []) c.loop-i.invariant
    ∙ (ap (λ (v : ℤ). differences (take c.loop-i.i c.args.samples.now) (take c.loop-i.i c.args.guess.now) ++ v ∷ []) c.difference.ensures
    ∙ sym (differences-more c.args.samples.now c.args.guess.now c.loop-i.i less (omega arith)))))

pub returns-clause-bytes : goal.returns-clause-bytes
returns-clause-bytes c = bytes_are c.args.samples.now (λ k h. let known = c.type_inv.samples k in let fits : get_or c.args.samples.now k 0 < 256 = omega arith in fits)
