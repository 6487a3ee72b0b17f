use Rattle.std.proofs.Common.{ℕ, ap, sym, subst, ◌∙◌}
use Rattle.h265_model.specs.Residual as residual
use Rattle.residual_read.specs.Parts.{Gives}
use Rattle.residual_read.proofs.Starts.{whole_none, whole_is}
use Rattle.residual_read.proofs.blocks.read_residual.Goals as goal

pub returns-in_err-place-clause-value : goal.returns-in_err-place-clause-value
returns-in_err-place-clause-value c =
    rw c.from_residual.ensures (whole_none (residual.shape c.args.component c.args.out.now.log2 c.args.scan) c.args.decoder.now
    (ap (λ n. residual.last_read (residual.shape c.args.component n c.args.scan) c.args.decoder.now) (sym c.log2.ensures.value) ∙ c.in_err-place.ensures.value))

pub returns-clause-value : goal.returns-clause-value
returns-clause-value c =
    subst (λ (n : ℕ). Gives c.read_from.result c.read_from.new.out.levels (residual.residual_read (residual.shape c.args.component n c.args.scan) c.args.decoder.now) c.read_from.new.decoder) c.log2.ensures.value
    (whole_is (residual.shape c.args.component c.log2.result c.args.scan) c.in_ok-place.place c.read_from.new.out.levels c.args.decoder.now c.read_last.new.decoder c.read_from.new.decoder c.read_from.result c.in_ok-place.ensures.value c.read_from.ensures.value)
