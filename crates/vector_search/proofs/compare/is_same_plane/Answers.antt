use Rattle.std.proofs.Common.{◌≡◌, sym, ◌∙◌, ℕ, length, arith}
use Rattle.std.proofs.lemmas.Bool.{false≢true}
use Rattle.px_plane.specs.Planes.{picture_of}
use Rattle.vector_search.proofs.Rows.{rows_more, row_of}
use Rattle.vector_search.proofs.compare.is_same_plane.Goals as goal

pub returns-then-not-is_same_row : goal.returns-then-not-is_same_row
returns-then-not-is_same_row c =
    let n : ℕ = c.args.n in
    let long : length c.row-before.result.now ≡ n = c.row-before.ensures.count in
    let row = row_of (picture_of c.args.last.now) (picture_of c.args.current.now) c.args.component c.args.from.0 c.args.from.1 c.args.to.0 c.args.to.1 n c.loop-j.j
    c.row-before.result.now c.row-now.result.now (omega arith) c.row-before.ensures.samples c.row-now.ensures.samples in
    (λ h. absurd (false≢true h), λ all. absurd (false≢true (sym c.if-not-is_same_row.true ∙ c.is_same_row.ensures.1 (λ i h. row all i (omega arith)))))

pub loop-j-preserved : goal.loop-j-preserved
loop-j-preserved c =
    let n : ℕ = c.args.n in
    let long : length c.row-before.result.now ≡ n = c.row-before.ensures.count in
    rows_more (picture_of c.args.last.now) (picture_of c.args.current.now) c.args.component c.args.from.0 c.args.from.1 c.args.to.0 c.args.to.1 n c.loop-j.j
    c.row-before.result.now c.row-now.result.now c.row-before.ensures.samples c.row-now.ensures.samples
    (λ i h. c.is_same_row.ensures.0 c.if-not-is_same_row.false i (omega arith)) c.loop-j.invariant
