use Rattle.std.proofs.Common.{◌≡◌, ℕ, List, sym, ap, ◌∙◌}
use Rattle.std.proofs.lemmas.Bool.{cond-true, cond-false}
use Rattle.h265_model.specs.Predict as model
use Rattle.h265_model.specs.Predict.{references}
use Rattle.canvas.proofs.predicted.predict_block.Goals as goal

-- what is predicted from these samples
from : (mode component log2 side : ℕ) (samples line out : List ℕ) → side ≡ log2 → samples ≡ line → out ≡ model.predict mode component side samples → out ≡ model.predict mode component log2 line
from mode component log2 side samples line out e f is =
    is ∙ (ap (λ (k : ℕ). model.predict mode component k samples) e ∙ ap (λ (l : List ℕ). model.predict mode component log2 l) f)

pub returns-then-filtered : goal.returns-then-filtered
unfolding references
returns-then-filtered c =
    from c.args.mode c.args.component c.args.block.log2 _ _ _ _ (c.filter.ensures.side ∙ c.refs-line.ensures.side)
    (c.filter.ensures.samples ∙ (ap (λ (l : List ℕ). model.smoothed l) c.refs-line.ensures.samples ∙ sym (cond-true (model.is_filtered c.args.mode c.args.block.log2) _ _ (sym c.filtered.ensures ∙ c.if-filtered.true)))) c.predict.ensures

pub returns-else-filtered : goal.returns-else-filtered
unfolding references
returns-else-filtered c =
    from c.args.mode c.args.component c.args.block.log2 _ _ _ _ c.refs-line.ensures.side
    (c.refs-line.ensures.samples ∙ sym (cond-false (model.is_filtered c.args.mode c.args.block.log2) _ _ (sym c.filtered.ensures ∙ c.if-filtered.false))) c.predict-else-filtered.ensures
