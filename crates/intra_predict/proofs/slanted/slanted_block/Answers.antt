use Rattle.std.proofs.Common.{◌≡◌, ◌≤◌, ℕ, ◌+◌, ◌*◌, length, map, not, arith, rules, refl, ◌∙◌}
use Rattle.h265_model.specs.Plain.{below}
use Rattle.std.proofs.lemmas.List.{places}
use Rattle.std.proofs.lemmas.Nat.{mul-le}
use Rattle.h265_model.proofs.Squares.{same_below}
use Rattle.h265_model.specs.Predict.{directed}
use Rattle.intra_predict.specs.Sides.{side_of}
use Rattle.intra_predict.proofs.Squares.{rows_more, square_is}
use Rattle.intra_predict.proofs.Leaning.{slanted_at}
use Rattle.intra_predict.proofs.slanted.slanted_block.Goals as goal

pub loop-away-preserved : goal.loop-away-preserved
loop-away-preserved c =
    let n : ℕ = c.side-n.result in
    let away : ℕ = c.loop-away.away in
    let main : ℕ → ℕ = side_of c.args.above c.args.refs.now n in
    let other : ℕ → ℕ = side_of (not c.args.above) c.args.refs.now n in
    let f : ℕ → ℕ → ℕ = directed main other c.args.mode in
    let block : length c.loop-away.out ≡ n * n = c.loop-away.auto.out ∙ rw c.side-n.ensures.value c.requires.block in
    let part : (away + 1) * n ≤ n * n = mul-le (away + 1) n n n (omega arith) (omega arith) in
    let long : length c.blend_row.new.row ≡ n = c.blend_row.auto.row ∙ search (places, rules) in
    let start = rw c.leads_back-back.ensures at c.start_of.ensures.value in
    let between_is = rw c.leads_back-back.ensures at c.part_of.ensures.value in
    let row : c.blend_row.new.row ≡ map (λ x. f x away) (below n) =
    rw long at c.blend_row.ensures
    ∙ same_below n _ (λ x. f x away)
    (λ x h. slanted_at c.line_of-line.result main other c.args.mode n x away c.lean_of-lean.result c.start_of.result c.part_of.result c.line_of-line.ensures
    c.lean_of-lean.ensures.value c.lean_of-lean.ensures.most h (omega arith) start between_is) in
    rows_more c.loop-away.out c.blend_row.new.row f n away (away * n) ((away + 1) * n) refl refl (omega arith) long c.loop-away.invariant row

pub returns : goal.returns
returns c =
    let n : ℕ = c.side-n.result in
    let block : length c.loop-away.out ≡ n * n = c.loop-away.auto.out ∙ rw c.side-n.ensures.value c.requires.block in
    rw (← c.side-n.ensures.value) (square_is c.loop-away.out (directed (side_of c.args.above c.args.refs.now n) (side_of (not c.args.above) c.args.refs.now n) c.args.mode) n c.loop-away.away (omega arith) block c.loop-away.invariant)
