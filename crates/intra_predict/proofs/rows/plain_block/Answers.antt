use Rattle.std.proofs.Common.{◌≡◌, ◌≤◌, ℕ, ◌+◌, ◌*◌, length, map, arith, rules, refl, ◌∙◌}
use Rattle.h265_model.specs.Plain.{below}
use Rattle.std.proofs.lemmas.List.{places}
use Rattle.std.proofs.lemmas.Nat.{mul-le}
use Rattle.h265_model.specs.Predict as model
use Rattle.h265_model.specs.Predict.{predict}
use Rattle.intra_predict.specs.Modes.{mode_of}
use Rattle.intra_predict.proofs.Squares.{rows_more, square_is}
use Rattle.intra_predict.proofs.rows.plain_block.Goals as goal

pub loop-y-preserved : goal.loop-y-preserved
loop-y-preserved c =
    let n : ℕ = c.side-n.result in
    let f : ℕ → ℕ → ℕ = model.predicted (mode_of c.args.mode) c.args.component c.args.log2 c.args.refs.now in
    let block : length c.loop-y.out ≡ n * n = c.loop-y.auto.out ∙ rw c.side-n.ensures.value c.requires.block in
    let part : (c.loop-y.y + 1) * n ≤ n * n = mul-le (c.loop-y.y + 1) n n n (omega arith) (omega arith) in
    let row : c.plain_row.new.row ≡ map (λ x. f x c.loop-y.y) (below n) = rw c.side-n.ensures.value c.plain_row.ensures in
    rows_more c.loop-y.out c.plain_row.new.row f n c.loop-y.y (c.loop-y.y * n) ((c.loop-y.y + 1) * n) refl refl (omega arith) (c.plain_row.auto.row ∙ search (places, rules)) c.loop-y.invariant row

pub returns : goal.returns
unfolding predict
returns c =
    let n : ℕ = c.side-n.result in
    let f : ℕ → ℕ → ℕ = model.predicted (mode_of c.args.mode) c.args.component c.args.log2 c.args.refs.now in
    let block : length c.loop-y.out ≡ n * n = c.loop-y.auto.out ∙ rw c.side-n.ensures.value c.requires.block in
    rw (← c.side-n.ensures.value) (square_is c.loop-y.out f n c.loop-y.y (omega arith) block c.loop-y.invariant)
