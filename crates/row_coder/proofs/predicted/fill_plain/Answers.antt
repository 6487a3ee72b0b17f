use Rattle.std.proofs.Common.{◌≡◌, ◌≤◌, ℕ, ◌*◌, ◌^◌, ap, ◌∙◌, sym, arith, length}
use Rattle.std.proofs.lemmas.Nat.{mul-le}
use Rattle.h265_model.specs.Tree.{samples_in}
use Rattle.h265_model.proofs.Squares.{length_places}
use Rattle.px_plane.specs.Planes.{picture_of}
use Rattle.row_coder.proofs.Differences.{less_nothing}
use Rattle.row_coder.proofs.predicted.fill_plain.Goals as goal

pub returns-clause-samples : goal.returns-clause-samples
returns-clause-samples c =
    let n : ℕ = c.side-n.result in
    let few : n * n ≤ 32 * 32 = mul-le n n 32 32 c.side-n.ensures.most c.side-n.ensures.most in
    let long : length (samples_in (picture_of c.args.picture.now) c.args.leaf c.args.component) ≡ n * n =
    length_places (2 ^ c.args.leaf.block.log2) (2 ^ c.args.leaf.block.log2) _ ∙ ap (λ (k : ℕ). k * k) (sym c.side-n.ensures.value) in
    c.subtract_block.ensures.levels ∙ less_nothing (samples_in (picture_of c.args.picture.now) c.args.leaf c.args.component) (n * n) (omega arith) long
