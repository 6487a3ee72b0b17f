use Rattle.std.proofs.Common.{◌≡◌, ℕ, ◌<◌, ◌+◌, ◌-◌, ◌*◌, ◌⊎◌, get_or, replicate, arith, sym, ◌∙◌, ap, inl, inr, false, refl}
use Rattle.intra_predict.proofs.Upright.{level_row_plain, level_row_edge}
use Rattle.intra_predict.proofs.straight.level_row.Goals as goal
use Rattle.intra_predict.proofs.straight.level_row.Goals.{else-edges-via-then-edges+else-y-eq0, else-edges-via-else-edges}

pub returns-after-loop-x : goal.returns-after-loop-x
returns-after-loop-x c =
    level_row_edge c.loop-x.row c.args.refs.now c.args.component c.args.log2 c.args.y c.loop-x.x (omega arith) (omega arith) (omega arith)
    (rw (← c.side-n.ensures.value) c.loop-x.invariant) (sym c.requires.edges ∙ c.if-edges.true)

pub returns-else-edges : goal.returns-else-edges
returns-else-edges c =
    let which : (c.args.edges ≡ false) ⊎ (0 < c.args.y) =
    elim c.else-edges.branch [ else-edges-via-then-edges+else-y-eq0 w ↦ inr (omega arith) | else-edges-via-else-edges w ↦ inl w.if-edges.false ] in
    let v : ℕ = get_or c.args.refs.now (2 * c.side-n.result - (c.args.y + 1)) 0 in
    level_row_plain c.fill.new.self c.args.refs.now c.args.component c.args.log2 c.args.y v c.args.edges c.requires.edges which
    (c.fill.ensures.after (λ y h. h) ∙ ap (λ (k : ℕ). replicate k v) c.requires.row) (rw (← c.side-n.ensures.value) refl)
