use Rattle.std.proofs.Common.{◌≡◌, ℕ, ◌+◌, ◌-◌, ◌*◌, ◌<◌, ◌^◌, length, take, drop, get_or, ap, ◌∙◌, sym, arith, rules}
use Rattle.std.proofs.lemmas.List.{places}
use Rattle.bin_items.specs.Square.{Square}
use Rattle.px_plane.specs.Planes.{picture_of}
use Rattle.row_coder.proofs.Differences.{rows_more, rows_all, are_levels}
use Rattle.row_coder.proofs.predicted.subtract_block.Goals as goal

pub loop-y-preserved : goal.loop-y-preserved
loop-y-preserved c =
    let n : ℕ = c.side-n.result in
    let y : ℕ = c.loop-y.y in
    let f : ℕ → ℕ → ℕ = λ i j. picture_of c.args.picture.now c.args.component (c.args.leaf.block.x + i) (c.args.leaf.block.y + j) in
    let size : y * n + n - y * n ≡ n = omega arith in
    let e : n ≡ 2 ^ c.loop-y.out.log2 = c.side-n.ensures.value ∙ ap (λ (k : ℕ). 2 ^ k) (sym c.loop-y.invariant.side) in
    let wide : length c.args.guess.now ≡ n * n = c.requires.block ∙ ap (λ (k : ℕ). k * k) (sym c.side-n.ensures.value) in
    let long : length c.subtract_row.new.out ≡ n = c.subtract_row.auto.out ∙ search (places, rules) in
    let set = c.set_row.ensures in
    record {
      side = ap (λ (b : Square). b.log2) set ∙ c.loop-y.invariant.side;
      rows = rw (ap (λ (b : Square). b.levels) set) (rows_more c.loop-y.out.log2 n y f c.args.guess.now (take (y * n + n - y * n) (drop (y * n) c.args.guess.now)) c.row-samples.result.now c.loop-y.out.levels c.subtract_row.new.out
          e wide c.loop-y-test.true long c.loop-y.invariant.rows c.row-samples.ensures.samples c.subtract_row.ensures.bytes (ap (λ (k : ℕ). take k (drop (y * n) c.args.guess.now)) size) c.subtract_row.ensures.levels);
    }

pub returns-clause-levels : goal.returns-clause-levels
returns-clause-levels c =
    let n : ℕ = c.side-n.result in
    let f : ℕ → ℕ → ℕ = λ i j. picture_of c.args.picture.now c.args.component (c.args.leaf.block.x + i) (c.args.leaf.block.y + j) in
    let e : n ≡ 2 ^ c.args.leaf.block.log2 = c.side-n.ensures.value in
    let wide : length c.args.guess.now ≡ n * n = c.requires.block ∙ ap (λ (k : ℕ). k * k) (sym e) in
    let long : length c.loop-y.out.levels ≡ n * n = c.log2-log2.ensures.whole ∙ ap (λ (k : ℕ). k * k) (ap (λ (k : ℕ). 2 ^ k) c.loop-y.invariant.side ∙ sym e) in
    rw (← e) (rows_all n c.loop-y.y f c.args.guess.now c.loop-y.out.levels (omega arith) long wide c.loop-y.invariant.rows).0

pub returns-clause-bytes : goal.returns-clause-bytes
returns-clause-bytes c =
    let n : ℕ = c.side-n.result in
    let f : ℕ → ℕ → ℕ = λ i j. picture_of c.args.picture.now c.args.component (c.args.leaf.block.x + i) (c.args.leaf.block.y + j) in
    let e : n ≡ 2 ^ c.args.leaf.block.log2 = c.side-n.ensures.value in
    let wide : length c.args.guess.now ≡ n * n = c.requires.block ∙ ap (λ (k : ℕ). k * k) (sym e) in
    let long : length c.loop-y.out.levels ≡ n * n = c.log2-log2.ensures.whole ∙ ap (λ (k : ℕ). k * k) (ap (λ (k : ℕ). 2 ^ k) c.loop-y.invariant.side ∙ sym e) in
    rw (← e) (rows_all n c.loop-y.y f c.args.guess.now c.loop-y.out.levels (omega arith) long wide c.loop-y.invariant.rows).1

pub returns-clause-fit : goal.returns-clause-fit
returns-clause-fit c =
    let n : ℕ = c.side-n.result in
    let f : ℕ → ℕ → ℕ = λ i j. picture_of c.args.picture.now c.args.component (c.args.leaf.block.x + i) (c.args.leaf.block.y + j) in
    let e : n ≡ 2 ^ c.args.leaf.block.log2 = c.side-n.ensures.value in
    let wide : length c.args.guess.now ≡ n * n = c.requires.block ∙ ap (λ (k : ℕ). k * k) (sym e) in
    let long : length c.loop-y.out.levels ≡ n * n = c.log2-log2.ensures.whole ∙ ap (λ (k : ℕ). k * k) (ap (λ (k : ℕ). 2 ^ k) c.loop-y.invariant.side ∙ sym e) in
    let all = rows_all n c.loop-y.y f c.args.guess.now c.loop-y.out.levels (omega arith) long wide c.loop-y.invariant.rows in
    rw all.0 (are_levels _ c.args.guess.now all.1 (λ k h. let known = c.type_inv.guess k in let fits : get_or c.args.guess.now k 0 < 256 = omega arith in fits))
