use Rattle.std.proofs.Common.{Some, [], ◌∷◌}
use Rattle.unit_read.proofs.IntraReads.{mode_ends, flags_end, planes_end, intra_all, as_unit}
use Rattle.unit_read.proofs.intra.read_intra.Goals as goal

pub returns-in_err-mode-clause-value : goal.returns-in_err-mode-clause-value
returns-in_err-mode-clause-value c = rw c.from_residual.ensures (mode_ends c.args.candidates.now.items c.args.first.now.log2 c.args.decoder.now c.in_err-mode.ensures.value)

pub returns-in_err-flags-clause-value : goal.returns-in_err-flags-clause-value
returns-in_err-flags-clause-value c = rw c.from_residual-in_err-flags.ensures (flags_end c.args.candidates.now.items c.args.first.now.log2 c.in_ok-mode.mode c.args.decoder.now c.read_mode.new.decoder c.in_ok-mode.ensures.value c.in_err-flags.ensures.value)

pub returns-in_err-read_planes-clause-value : goal.returns-in_err-read_planes-clause-value
returns-in_err-read_planes-clause-value c = rw c.from_residual-in_err-read_planes.ensures (planes_end c.args.candidates.now.items c.args.first.now.log2 c.in_ok-mode.mode c.in_ok-flags.flags c.args.decoder.now c.read_mode.new.decoder c.read_flags.new.decoder c.in_ok-mode.ensures.value c.in_ok-flags.ensures.value c.in_err-read_planes.ensures.value)

pub returns-clause-value : goal.returns-clause-value
returns-clause-value c = intra_all c.args.candidates.now.items c.args.first.now.log2 c.in_ok-mode.mode c.in_ok-flags.flags (c.read_planes.new.first.levels ∷ c.read_planes.new.second.levels ∷ c.read_planes.new.third.levels ∷ []) c.args.decoder.now c.read_mode.new.decoder c.read_flags.new.decoder c.read_planes.new.decoder
    c.in_ok-mode.ensures.value c.in_ok-flags.ensures.value c.in_ok-read_planes.ensures.value

pub returns-in_err-mode-clause-unit : goal.returns-in_err-mode-clause-unit
returns-in_err-mode-clause-unit c = as_unit c.from_residual.result c.args.first.now.levels c.args.second.now.levels c.args.third.now.levels c.args.candidates.now.items c.args.first.now.log2 c.args.decoder.now c.read_mode.new.decoder (returns-in_err-mode-clause-value c)

pub returns-in_err-flags-clause-unit : goal.returns-in_err-flags-clause-unit
returns-in_err-flags-clause-unit c = as_unit c.from_residual-in_err-flags.result c.args.first.now.levels c.args.second.now.levels c.args.third.now.levels c.args.candidates.now.items c.args.first.now.log2 c.args.decoder.now c.read_flags.new.decoder (returns-in_err-flags-clause-value c)

pub returns-in_err-read_planes-clause-unit : goal.returns-in_err-read_planes-clause-unit
returns-in_err-read_planes-clause-unit c = as_unit c.from_residual-in_err-read_planes.result c.read_planes.new.first.levels c.read_planes.new.second.levels c.read_planes.new.third.levels c.args.candidates.now.items c.args.first.now.log2 c.args.decoder.now c.read_planes.new.decoder (returns-in_err-read_planes-clause-value c)

pub returns-clause-unit : goal.returns-clause-unit
returns-clause-unit c = as_unit (Some c.in_ok-mode.mode) c.read_planes.new.first.levels c.read_planes.new.second.levels c.read_planes.new.third.levels c.args.candidates.now.items c.args.first.now.log2 c.args.decoder.now c.read_planes.new.decoder (returns-clause-value c)
