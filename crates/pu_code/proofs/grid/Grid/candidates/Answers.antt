use Rattle.std.proofs.Common.{ap, sym, ◌∙◌, subst}
use Rattle.h265_model.specs.Tree as tree
use Rattle.h265_model.specs.Modes.{AreThree}
use Rattle.pu_code.specs.Cells.{mode_kept}
use Rattle.h265_model.proofs.Candidates.{candidates_are}
use Rattle.pu_code.proofs.Neighbours.{mode_is, candidates_are_at}
use Rattle.pu_code.proofs.grid.Grid.candidates.Goals as goal

pub returns-clause-value : goal.returns-clause-value
returns-clause-value c = λ leaves stands.
    c.candidates_of.ensures ∙ candidates_are_at leaves c.args.x c.args.y c.candidate-left.result c.candidate_above.result
    (c.candidate-left.ensures.mode ∙ (ap mode_kept (c.left_of.ensures.value leaves stands) ∙ mode_is (tree.left_of leaves c.args.x c.args.y))) (c.candidate_above.ensures.value leaves stands)

pub returns-clause-three : goal.returns-clause-three
returns-clause-three c = subst AreThree (sym c.candidates_of.ensures) (candidates_are _ _ (rw c.candidate-left.ensures.mode c.left_of.ensures.mode) c.candidate_above.ensures.mode)
