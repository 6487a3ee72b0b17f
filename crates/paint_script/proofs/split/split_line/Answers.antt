use Rattle.std.proofs.Common.{◌≡◌, ◌+◌, ◌∙◌, ◌∷◌, ◌==◌, [], ap, take, arith, sym, subst, get_or}
use Rattle.std.proofs.lemmas.Bool.{eqb-true, eq-eqb}
use Rattle.std.proofs.lemmas.List.{take_rest}
use Rattle.std.specs.List.{slice_split}
use Rattle.std.specs.Option.{MatchOption}
use Rattle.paint_script.proofs.Splits.{split-at, split-none}
use Rattle.paint_script.proofs.split.split_line.Goals as goal

pub returns-in_err-at-clause-pieces : goal.returns-in_err-at-clause-pieces
returns-in_err-at-clause-pieces c =
    let text = c.args.text.now in
    let whole = split-none 10 text (λ k h e. c.in_err-at.ensures k (omega arith) h (eq-eqb (get_or text k 0) 10 e)) in
    subst (λ r. MatchOption r (slice_split (λ b. b == 10) text ≡ text ∷ []) (λ p. slice_split (λ b. b == 10) text ≡ p.0.now ∷ slice_split (λ b. b == 10) p.1.now)) (sym c.from_residual.ensures) whole

pub returns-clause-pieces : goal.returns-clause-pieces
returns-clause-pieces c =
    let text = c.args.text.now in
    let at = c.in_ok-at.at in
    let found = c.in_ok-at.ensures in
    split-at 10 text at found.0.high (λ k h e. found.0.before k (omega arith) h (eq-eqb (get_or text k 0) 10 e)) (eqb-true (get_or text at 0) 10 found.1)
    ∙ ap (λ rest. take at text ∷ slice_split (λ b. b == 10) rest) (sym (take_rest text (at + 1)))
