use Rattle.std.proofs.Common.{sym, ◌∙◌, ap}
use Rattle.std.proofs.lemmas.Result.{err_from_is_err_and}
use Rattle.bit_string.specs.Parts.{Cursor}
use Rattle.slice_head.specs.Answers.{front_of}
use Rattle.slice_head.proofs.SegmentLaws.{first_front_differs, first_not_aligned, first_found}
use Rattle.slice_head.proofs.segment.read_first.Goals as goal

pub returns-in_err-poc-clause-found : goal.returns-in_err-poc-clause-found
returns-in_err-poc-clause-found c =
    let p = err_from_is_err_and c.from_residual.result c.from_residual.ensures.1 in
    let front = ap (λ (k : Cursor). front_of c.args.idr 0 k.left) (sym c.new-from.ensures.whole) ∙ c.in_err-poc.ensures.read in
    rw (p.1, p.2) (first_front_differs c.args.rbsp.now c.args.idr c.in_err-poc.field-0.0 front)

pub returns-in_err-length-clause-found : goal.returns-in_err-length-clause-found
returns-in_err-length-clause-found c =
    let p = err_from_is_err_and c.from_residual-in_err-length.result c.from_residual-in_err-length.ensures.1 in
    let front = ap (λ (k : Cursor). front_of c.args.idr 0 k.left) (sym c.new-from.ensures.whole) ∙ c.in_ok-poc.ensures.read in
    rw (p.1, p.2) (first_not_aligned c.args.rbsp.now c.args.idr c.in_ok-poc.poc c.in_err-length.field-0.0 c.read_front.new.from.left front c.in_err-length.ensures.found)

pub returns-clause-found : goal.returns-clause-found
returns-clause-found c =
    let front = ap (λ (k : Cursor). front_of c.args.idr 0 k.left) (sym c.new-from.ensures.whole) ∙ c.in_ok-poc.ensures.read in
    first_found c.args.rbsp.now c.args.idr c.in_ok-poc.poc c.in_ok-length.length c.read_front.new.from.left front c.in_ok-length.ensures.found
