use Rattle.std.proofs.Common.{◌≡◌, ℕ, ◌^◌, get_or, arith, sym, ◌∙◌, ap, refl}
use Rattle.h265_model.specs.Predict as model
use Rattle.intra_predict.proofs.Upright.{dc_row_top}
use Rattle.intra_predict.proofs.plain.dc_row.Goals as goal

pub returns-after-loop-x : goal.returns-after-loop-x
returns-after-loop-x c =
    let n : ℕ = c.side-n.result in
    let same : n ≡ 2 ^ c.args.log2 = c.side-n.ensures.value in
    let left : c.from-left.result ≡ model.down c.args.refs.now (2 ^ c.args.log2) 1 = c.from-left.ensures ∙ ap (λ (i : ℕ). get_or c.args.refs.now i 0) (omega arith) in
    let top : c.from-then-y-eq0.result ≡ model.across c.args.refs.now (2 ^ c.args.log2) 1 = c.from-then-y-eq0.ensures ∙ ap (λ (i : ℕ). get_or c.args.refs.now i 0) (omega arith) in
    dc_row_top c.loop-x.row c.args.refs.now c.args.component c.args.log2 c.args.mean _ c.args.y (omega arith) (omega arith) (omega arith)
    (λ k a b. rw (← same) (c.loop-x.invariant k a (omega arith))) (sym c.requires.edges ∙ c.if-edges.true) c.requires.mean (rw (left, top) refl)
