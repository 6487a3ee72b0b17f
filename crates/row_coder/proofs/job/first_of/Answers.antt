use Rattle.std.proofs.Common.{ℕ, ap, sym, ◌∙◌, arith}
use Rattle.row_coder.specs.Rows.{first_contexts}
use Rattle.row_coder.proofs.Starts.{starts_first, starts_narrow, starts_inherited}
use Rattle.row_coder.proofs.job.first_of.Goals as goal
use Rattle.row_coder.proofs.job.first_of.Goals.{then-number-eq0-via-then-number-eq0, then-number-eq0-via-else-number-eq0+then-across-lt2}

pub returns-then-number-eq0 : goal.returns-then-number-eq0
returns-then-number-eq0 c =
    elim c.then-number-eq0.branch [
      | then-number-eq0-via-then-number-eq0 w ↦ c.start.ensures ∙ (starts_first c.args.kind c.args.across c.args.inherited.now ∙ ap (λ (n : ℕ). first_contexts c.args.kind c.args.across n c.args.inherited.now) (sym w.if-number-eq0.true))
      | then-number-eq0-via-else-number-eq0+then-across-lt2 w ↦ c.start.ensures ∙ starts_narrow c.args.kind c.args.across c.args.number c.args.inherited.now w.if-across-lt2.true
    ]

pub returns-in-Some : goal.returns-in-Some
returns-in-Some c =
    let zero = c.if-number-eq0.false in
    let wide = c.if-across-lt2.false in
    rw c.in-Some.is (starts_inherited c.args.kind c.args.across c.args.number c.in-Some.contexts (omega arith) (omega arith))
