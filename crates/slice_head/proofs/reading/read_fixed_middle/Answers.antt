use Rattle.std.proofs.Common.{◌≡◌, ◌∷◌, [], List, Bool, ℕ, Result, Ok, Err, sym, ◌∙◌, ap, subst}
use Rattle.std.specs.Prelude.{MatchResult}
use Rattle.std.proofs.lemmas.Result.{err_from_is_err_and}
use Rattle.h265_model.specs.Fields.{golomb, read_fields}
use Rattle.h265_model.specs.SliceHead.{head_middle}
use Rattle.bit_string.proofs.ReadLaws.{read_fields-then, read_fields-err}
use Rattle.slice_head.proofs.reading.read_fixed_middle.Goals as goal

pub returns-in_err-read_fields : goal.returns-in_err-read_fields
returns-in_err-read_fields c =
    let p = err_from_is_err_and c.from_residual.result c.from_residual.ensures.1 in
    let x = c.args.from.now.left in
    let fields = head_middle c.args.idr in
    let n = c.in_err-read_fields.field-0.0 in
    let differs : read_fields fields x ≡ Err n = ap (λ fs. read_fields fs x) (sym c.middle.ensures.fields) ∙ c.in_err-read_fields.ensures in
    rw (p.1, p.2) (read_fields-err fields (golomb 10 c.args.count ∷ []) x n differs)

pub returns : goal.returns
returns c =
    let x = c.args.from.now.left in
    let y = c.read_fields.new.from.left in
    let fields = head_middle c.args.idr in
    let last = golomb 10 c.args.count ∷ [] in
    let same : read_fields fields x ≡ Ok y = ap (λ fs. read_fields fs x) (sym c.middle.ensures.fields) ∙ c.in_ok-read_fields.ensures in
    let P : Result (List Bool) ℕ → Type 0 = λ r. MatchResult c.read_known.result (λ _. r ≡ Ok c.read_known.new.from.left) (λ field. r ≡ Err field) in
    subst P (sym (read_fields-then fields last x y same)) c.read_known.ensures
