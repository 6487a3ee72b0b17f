use Rattle.std.proofs.Common.{◌≡◌, ◌≤◌, ℕ, ◌+◌, ◌*◌, length, arith, rules, refl, ◌∙◌}
use Rattle.std.proofs.lemmas.List.{places}
use Rattle.std.proofs.lemmas.Nat.{mul-le}
use Rattle.px_plane.specs.Planes.{picture_of}
use Rattle.intra_predict.proofs.Squares.{rows_more, square_is}
use Rattle.leaf_cost.proofs.plane.copy_block.Goals as goal

pub loop-j-preserved : goal.loop-j-preserved
loop-j-preserved c =
    let n : ℕ = c.args.n in
    let f : ℕ → ℕ → ℕ = λ i j. picture_of c.args.picture.now c.args.component (c.args.x + i) (c.args.y + j) in
    let block : length c.loop-j.out ≡ n * n = c.loop-j.auto.out ∙ c.requires.block in
    let part : (c.loop-j.j + 1) * n ≤ n * n = mul-le (c.loop-j.j + 1) n n n (omega arith) (omega arith) in
    let long : length c.copy_from_slice.new.self ≡ n = c.copy_from_slice.auto.self ∙ search (places, rules) in
    rows_more c.loop-j.out c.copy_from_slice.new.self f n c.loop-j.j (c.loop-j.j * n) ((c.loop-j.j + 1) * n) refl refl (omega arith) long c.loop-j.invariant
    (c.copy_from_slice.ensures.after ∙ c.row.ensures.samples)

pub returns : goal.returns
returns c =
    let f : ℕ → ℕ → ℕ = λ i j. picture_of c.args.picture.now c.args.component (c.args.x + i) (c.args.y + j) in
    square_is c.loop-j.out f c.args.n c.loop-j.j (omega arith) (c.loop-j.auto.out ∙ c.requires.block) c.loop-j.invariant
