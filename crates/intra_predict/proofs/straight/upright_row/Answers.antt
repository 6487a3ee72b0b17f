use Rattle.std.proofs.Common.{◌≡◌, ℕ, ◌^◌, ◌+◌, ◌*◌, length, arith, sym, ◌∙◌, add-zero}
use Rattle.intra_predict.proofs.Upright.{upright_row_plain, upright_row_edge, part_read}
use Rattle.intra_predict.proofs.straight.upright_row.Goals as goal

pub returns-then-edges : goal.returns-then-edges
returns-then-edges c =
    let n : ℕ = c.side-n.result in
    let long : length c.copy_from_slice.new.self ≡ 2 ^ c.args.log2 = omega arith in
    upright_row_edge c.copy_from_slice.new.self c.args.refs.now c.args.component c.args.log2 c.args.y c.edge.result long (omega arith)
    (λ k h. part_read c.args.refs.now c.copy_from_slice.new.self (2 * n + 1) (3 * n + 1) k _ c.copy_from_slice.ensures.after (omega arith) (omega arith))
    (sym c.requires.edges ∙ c.if-edges.true) (rw (← c.side-n.ensures.value, add-zero) c.edge.ensures)

pub returns-else-edges : goal.returns-else-edges
returns-else-edges c =
    let n : ℕ = c.side-n.result in
    let long : length c.copy_from_slice.new.self ≡ 2 ^ c.args.log2 = omega arith in
    upright_row_plain c.copy_from_slice.new.self c.args.refs.now c.args.component c.args.log2 c.args.y long
    (λ k h. part_read c.args.refs.now c.copy_from_slice.new.self (2 * n + 1) (3 * n + 1) k _ c.copy_from_slice.ensures.after (omega arith) (omega arith))
    (sym c.requires.edges ∙ c.if-edges.false)
