use Rattle.std.proofs.Common.{◌∙◌, ap, sym, ◌^◌}
use Rattle.std.specs.Option.{option_copied}
use Rattle.h265_model.specs.Rebuild.{sums}
use Rattle.leaf_sink.specs.Units.{levels_or}
use Rattle.canvas.proofs.Sums.{sums_zeros}
use Rattle.canvas.proofs.predicted.add_residual.Goals as goal

pub returns-in-None : goal.returns-in-None
returns-in-None c =
    sums_zeros c.args.samples.now (2 ^ c.args.log2) c.bytes_fit.ensures c.requires.samples
    ∙ ap (λ o. sums c.args.samples.now (levels_or c.args.log2 (option_copied o))) (sym c.in-None.is)
