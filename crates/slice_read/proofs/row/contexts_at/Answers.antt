use Rattle.std.proofs.Common.{◌≡◌, ap, subst, ℕ, ◌+◌, ◌/◌, ◌<◌, ◌≤◌}
use Rattle.h265_model.specs.Plain.{ctus}
use Rattle.slice_read.proofs.RowBytes.{starts_first, starts_narrow, starts_after}
use Rattle.slice_read.proofs.row.contexts_at.Goals as goal

pub returns-then-row-eq0 : goal.returns-then-row-eq0
returns-then-row-eq0 c = λ above handed. starts_first c.args.kind (ctus c.args.size.w) c.args.row c.start.result above c.start.ensures c.if-row-eq0.true

pub returns-then-across-lt2 : goal.returns-then-across-lt2
returns-then-across-lt2 c = λ above handed.
    let across : (c.w.result + 31) / 32 ≡ ctus c.args.size.w = ap (λ w. (w + 31) / 32) c.w.ensures.value in
    starts_narrow c.args.kind (ctus c.args.size.w) c.args.row c.start-then-across-lt2.result above c.start-then-across-lt2.ensures (subst (λ (n : ℕ). n < 2) across c.if-across-lt2.true)

pub returns-in-Some : goal.returns-in-Some
returns-in-Some c = λ above handed.
    let across : (c.w.result + 31) / 32 ≡ ctus c.args.size.w = ap (λ w. (w + 31) / 32) c.w.ensures.value in
    starts_after c.args.kind c.args.size c.args.row c.args.handed c.in-Some.contexts above c.in-Some.is handed c.if-row-eq0.false (subst (λ (n : ℕ). 2 ≤ n) across c.if-across-lt2.false)
