use Rattle.std.proofs.Common.{◌≡◌, ℕ, Result, Ok, Err, sym, subst}
use Rattle.std.specs.Prelude.{MatchResult}
use Rattle.std.proofs.lemmas.Result.{err_from_is_err_and}
use Rattle.slice_head.proofs.SegmentLaws.{first_is, later_found, later_differs}
use Rattle.slice_head.proofs.segment.read_segment.Goals as goal

pub returns-then-address-eq0-clause-found : goal.returns-then-address-eq0-clause-found
returns-then-address-eq0-clause-found c =
    let P : Result (ℕ × ℕ) ℕ → Type 0 = λ r. MatchResult c.read_first.result (λ found. r ≡ Ok found) (λ field. r ≡ Err field) in
    subst P (sym (first_is c.args.rbsp.now c.args.idr c.args.address c.args.ctus c.if-address-eq0.true)) c.read_first.ensures.found

pub returns-in_err-length-clause-found : goal.returns-in_err-length-clause-found
returns-in_err-length-clause-found c =
    let p = err_from_is_err_and c.from_residual.result c.from_residual.ensures.1 in
    rw (p.1, p.2) (later_differs c.args.rbsp.now c.args.idr c.args.address c.args.ctus c.in_err-length.field-0.0 c.if-address-eq0.false c.in_err-length.ensures.found)

pub returns-clause-found : goal.returns-clause-found
returns-clause-found c = later_found c.args.rbsp.now c.args.idr c.args.address c.args.ctus c.in_ok-length.length c.if-address-eq0.false c.in_ok-length.ensures.found
