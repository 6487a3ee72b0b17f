use Rattle.std.proofs.Common.{refl, ◌∙◌}
use Rattle.h265_model.specs.Engine.{give}
use Rattle.h265_model.specs.Motion.{predictors, vector_read}
use Rattle.h265_model.specs.Tree.{Moved}
use Rattle.residual_read.proofs.Steps.{then_some, then_none}
use Rattle.unit_read.proofs.UnitReads.{move_open, merge_then, vector_then, end_then}
use Rattle.unit_read.proofs.copies.read_move.Goals as goal
use Rattle.h265_model.specs.Plain.{block_at}

pub returns-in_err-expect-clause-value : goal.returns-in_err-expect-clause-value
returns-in_err-expect-clause-value c = λ before has. rw c.from_residual.ensures (move_open before c.args.block.x c.args.block.y c.args.block.log2 (predictors before c.args.block) c.args.decoder.now refl ∙ c.in_err-expect.ensures.value (merge_then (predictors before c.args.block)))

pub returns-in_err-expect-2-clause-value : goal.returns-in_err-expect-2-clause-value
returns-in_err-expect-2-clause-value c = λ before has. rw c.from_residual-in_err-expect-2.ensures (move_open before c.args.block.x c.args.block.y c.args.block.log2 (predictors before c.args.block) c.args.decoder.now refl ∙ c.in_ok-expect.ensures.value (merge_then (predictors before c.args.block))
    ∙ c.in_err-expect-2.ensures.value (vector_then (predictors before c.args.block)))

pub returns-in_err-vector-clause-value : goal.returns-in_err-vector-clause-value
returns-in_err-vector-clause-value c = λ before has. rw c.from_residual-in_err-vector.ensures (move_open before c.args.block.x c.args.block.y c.args.block.log2 c.predictors.result c.args.decoder.now (c.predictors.ensures before has) ∙ c.in_ok-expect.ensures.value (merge_then c.predictors.result)
    ∙ c.in_ok-expect-2.ensures.value (vector_then c.predictors.result) ∙ then_none (vector_read c.predictors.result c.expect-2.new.decoder) end_then c.in_err-vector.ensures.value)

pub returns-in_err-expect-3-clause-value : goal.returns-in_err-expect-3-clause-value
returns-in_err-expect-3-clause-value c = λ before has. rw c.from_residual-in_err-expect-3.ensures (move_open before c.args.block.x c.args.block.y c.args.block.log2 c.predictors.result c.args.decoder.now (c.predictors.ensures before has) ∙ c.in_ok-expect.ensures.value (merge_then c.predictors.result)
    ∙ c.in_ok-expect-2.ensures.value (vector_then c.predictors.result) ∙ then_some (vector_read c.predictors.result c.expect-2.new.decoder) (c.in_ok-vector.vector, c.read_vector.new.decoder) end_then c.in_ok-vector.ensures.value
    ∙ c.in_err-expect-3.ensures.value (give (Moved c.in_ok-vector.vector)))

pub returns-clause-value : goal.returns-clause-value
returns-clause-value c = λ before has. move_open before c.args.block.x c.args.block.y c.args.block.log2 c.predictors.result c.args.decoder.now (c.predictors.ensures before has) ∙ c.in_ok-expect.ensures.value (merge_then c.predictors.result)
    ∙ c.in_ok-expect-2.ensures.value (vector_then c.predictors.result) ∙ then_some (vector_read c.predictors.result c.expect-2.new.decoder) (c.in_ok-vector.vector, c.read_vector.new.decoder) end_then c.in_ok-vector.ensures.value
    ∙ c.in_ok-expect-3.ensures.value (give (Moved c.in_ok-vector.vector))
