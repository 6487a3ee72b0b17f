use Rattle.std.proofs.Common.{◌∙◌, ap}
use Rattle.std.specs.Prelude.{pos, replicate}
use Rattle.bin_items.specs.Square.{Square, area}
use Rattle.unit_read.proofs.ComponentReads.{none_read, scan_low}
use Rattle.unit_read.proofs.component.read_component.Goals as goal

pub returns-then-not-flag-clause-value : goal.returns-then-not-flag-clause-value
returns-then-not-flag-clause-value c =
    none_read c.args.out.now.log2 c.args.mode c.args.component c.args.flag c.zero.result.levels c.args.decoder.now c.if-not-flag.true
    (ap (λ (b : Square). b.levels) c.zero.ensures ∙ ap (λ n. replicate (area n) (pos 0)) c.log2-log2.ensures.value)

pub read_residual-requires-clause-scan : goal.read_residual-requires-clause-scan
read_residual-requires-clause-scan c = rw c.scan_kind.ensures (scan_low c.args.mode c.log2-log2.result)
