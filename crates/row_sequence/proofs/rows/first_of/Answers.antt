use Rattle.std.proofs.Common.{ℕ, ap, sym, ◌∙◌, arith}
use Rattle.h265_model.specs.Contexts.{row_start}
use Rattle.row_sequence.proofs.Sequences.{starts_first, starts_narrow, starts_handed}
use Rattle.row_sequence.proofs.rows.first_of.Goals as goal
use Rattle.row_sequence.proofs.rows.first_of.Goals.{then-row-eq0-via-then-row-eq0, then-row-eq0-via-else-row-eq0+then-across-lt2}

pub returns-then-row-eq0 : goal.returns-then-row-eq0
returns-then-row-eq0 c = λ other same.
    elim c.then-row-eq0.branch [
      | then-row-eq0-via-then-row-eq0 w ↦ c.start.ensures ∙ (starts_first c.args.kind c.args.across other ∙ ap (λ (n : ℕ). row_start c.args.kind c.args.across n other) (sym w.if-row-eq0.true))
      | then-row-eq0-via-else-row-eq0+then-across-lt2 w ↦ c.start.ensures ∙ starts_narrow c.args.kind c.args.across c.args.row other w.if-across-lt2.true
    ]

pub returns : goal.returns
returns c = λ other same.
    let zero = c.if-row-eq0.false in
    let wide = c.if-across-lt2.false in
    starts_handed c.args.kind c.args.across c.args.row c.args.handed other (omega arith) (omega arith) (same (omega arith))
