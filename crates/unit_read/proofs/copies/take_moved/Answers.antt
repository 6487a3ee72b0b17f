use Rattle.std.proofs.Common.{refl, sym, ◌∙◌, subst}
use Rattle.h265_model.specs.Plain.{Size}
use Rattle.h265_model.specs.Tree.{Moved}
use Rattle.leaf_sink.specs.Units.{HasAvailable}
use Rattle.unit_read.proofs.UnitReads.{placed_there}
use Rattle.unit_read.proofs.copies.take_moved.Goals as goal

pub returns-clause-value : goal.returns-clause-value
returns-clause-value g c = λ e. (
  Moved c.args.vector,
  refl,
  placed_there c.args.size c.args.block.x c.args.block.y c.args.block.log2 (Moved c.args.vector) c.args.vector e refl (sym c.has_source.ensures ∙ c.if-not-has_source.false),
  λ units stood has. c.moved.ensures.taken units stood (subst (λ (s : Size). HasAvailable s units c.args.block.x c.args.block.y) (sym c.requires.size) has),
)
