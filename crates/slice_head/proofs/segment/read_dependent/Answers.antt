use Rattle.std.proofs.Common.{◌≡◌, List, Bool, ℕ, Result, Ok, Err, sym, ◌∙◌, ap, subst}
use Rattle.std.specs.Prelude.{MatchResult}
use Rattle.std.proofs.lemmas.Result.{err_from_is_err_and}
use Rattle.h265_model.specs.Fields.{read_fields}
use Rattle.bit_string.proofs.ReadLaws.{read_fields-then, read_fields-err}
use Rattle.slice_head.specs.Answers.{dependent_front, address_fields}
use Rattle.slice_head.proofs.SegmentLaws.{in_parts}
use Rattle.slice_head.proofs.segment.read_dependent.Goals as goal

pub returns-in_err-read_fields : goal.returns-in_err-read_fields
returns-in_err-read_fields c =
    let p = err_from_is_err_and c.from_residual.result c.from_residual.ensures.1 in
    let x = c.args.from.now.left in
    let front = dependent_front c.args.idr in
    let last = address_fields c.args.address c.args.ctus in
    let n = c.in_err-read_fields.field-0.0 in
    let differs : read_fields front x ≡ Err n = ap (λ fs. read_fields fs x) (sym c.dependent_front.ensures.fields) ∙ c.in_err-read_fields.ensures in
    rw (p.1, p.2) (ap (λ fs. read_fields fs x) (in_parts c.args.idr c.args.address c.args.ctus) ∙ read_fields-err front last x n differs)

pub returns : goal.returns
returns c =
    let x = c.args.from.now.left in
    let y = c.read_fields.new.from.left in
    let front = dependent_front c.args.idr in
    let last = address_fields c.args.address c.args.ctus in
    let same : read_fields front x ≡ Ok y = ap (λ fs. read_fields fs x) (sym c.dependent_front.ensures.fields) ∙ c.in_ok-read_fields.ensures in
    let P : Result (List Bool) ℕ → Type 0 = λ r. MatchResult c.read_address.result (λ _. r ≡ Ok c.read_address.new.from.left) (λ field. r ≡ Err field) in
    subst P (sym (ap (λ fs. read_fields fs x) (in_parts c.args.idr c.args.address c.args.ctus) ∙ read_fields-then front last x y same)) c.read_address.ensures
