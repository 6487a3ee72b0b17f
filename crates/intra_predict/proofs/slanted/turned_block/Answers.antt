use Rattle.std.proofs.Common.{◌≡◌, ◌≤◌, ℕ, ◌+◌, ◌*◌, length, map, true, false, arith, rules, refl, ◌∙◌}
use Rattle.h265_model.specs.Plain.{below}
use Rattle.std.proofs.lemmas.List.{places}
use Rattle.std.proofs.lemmas.Nat.{mul-le}
use Rattle.h265_model.proofs.Squares.{same_below, at_places}
use Rattle.h265_model.specs.Predict.{directed, square}
use Rattle.intra_predict.specs.Sides.{side_of}
use Rattle.intra_predict.proofs.Squares.{rows_more, square_is}
use Rattle.intra_predict.proofs.slanted.turned_block.Goals as goal

pub loop-y-preserved : goal.loop-y-preserved
loop-y-preserved c =
    let n : ℕ = c.side-n.result in
    let y : ℕ = c.loop-y.y in
    let g : ℕ → ℕ → ℕ = directed (side_of false c.args.refs.now n) (side_of true c.args.refs.now n) c.args.mode in
    let f : ℕ → ℕ → ℕ = λ x y. g y x in
    let block : length c.loop-y.out ≡ n * n = c.loop-y.auto.out ∙ rw c.side-n.ensures.value c.requires.block in
    let part : (y + 1) * n ≤ n * n = mul-le (y + 1) n n n (omega arith) (omega arith) in
    let long : length c.turn_row.new.row ≡ n = c.turn_row.auto.row ∙ search (places, rules) in
    let turned : c.slanted_block.new.out ≡ square n g = rw c.side-n.ensures.value c.slanted_block.ensures in
    let row : c.turn_row.new.row ≡ map (λ x. f x y) (below n) =
    rw turned at c.turn_row.ensures ∙ same_below n _ (λ x. f x y) (λ x h. at_places n n y x g 0 (omega arith) h) in
    rows_more c.loop-y.out c.turn_row.new.row f n y (y * n) ((y + 1) * n) refl refl (omega arith) long c.loop-y.invariant row

pub returns : goal.returns
returns c =
    let n : ℕ = c.side-n.result in
    let block : length c.loop-y.out ≡ n * n = c.loop-y.auto.out ∙ rw c.side-n.ensures.value c.requires.block in
    rw (← c.side-n.ensures.value) (square_is c.loop-y.out (λ x y. directed (side_of false c.args.refs.now n) (side_of true c.args.refs.now n) c.args.mode y x) n c.loop-y.y (omega arith) block c.loop-y.invariant)
