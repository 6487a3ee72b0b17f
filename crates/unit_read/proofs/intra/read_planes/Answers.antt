use Rattle.std.proofs.Common.{◌∙◌, ap, sym}
use Rattle.h265_model.specs.Tree.{component_read}
use Rattle.unit_read.proofs.IntraReads.{first_none, second_none, third_none, planes_all}
use Rattle.unit_read.proofs.intra.read_planes.Goals as goal

pub returns-in_err-read_component-clause-value : goal.returns-in_err-read_component-clause-value
returns-in_err-read_component-clause-value c = rw c.from_residual.ensures (first_none c.args.first.now.log2 c.args.mode c.args.flags c.args.decoder.now c.in_err-read_component.ensures.value)

pub returns-in_err-read_component-2-clause-value : goal.returns-in_err-read_component-2-clause-value
returns-in_err-read_component-2-clause-value c = rw c.from_residual-in_err-read_component-2.ensures (second_none c.args.first.now.log2 c.args.mode c.args.flags c.read_component.new.out.levels c.args.decoder.now c.read_component.new.decoder c.in_ok-read_component.ensures.value (ap (λ n. component_read n c.args.mode 1 c.args.flags.cb c.read_component.new.decoder) (sym c.requires.second) ∙ c.in_err-read_component-2.ensures.value))

pub returns-in_err-read_component-3-clause-value : goal.returns-in_err-read_component-3-clause-value
returns-in_err-read_component-3-clause-value c = rw c.from_residual-in_err-read_component-3.ensures (third_none c.args.first.now.log2 c.args.mode c.args.flags c.read_component.new.out.levels c.read_component-2.new.out.levels c.args.decoder.now c.read_component.new.decoder c.read_component-2.new.decoder c.in_ok-read_component.ensures.value (ap (λ n. component_read n c.args.mode 1 c.args.flags.cb c.read_component.new.decoder) (sym c.requires.second) ∙ c.in_ok-read_component-2.ensures.value) (ap (λ n. component_read n c.args.mode 2 c.args.flags.cr c.read_component-2.new.decoder) (sym c.requires.third) ∙ c.in_err-read_component-3.ensures.value))

pub returns-clause-value : goal.returns-clause-value
returns-clause-value c = planes_all c.args.first.now.log2 c.args.mode c.args.flags c.read_component.new.out.levels c.read_component-2.new.out.levels c.read_component-3.new.out.levels c.args.decoder.now c.read_component.new.decoder c.read_component-2.new.decoder c.read_component-3.new.decoder c.in_ok-read_component.ensures.value (ap (λ n. component_read n c.args.mode 1 c.args.flags.cb c.read_component.new.decoder) (sym c.requires.second) ∙ c.in_ok-read_component-2.ensures.value) (ap (λ n. component_read n c.args.mode 2 c.args.flags.cr c.read_component-2.new.decoder) (sym c.requires.third) ∙ c.in_ok-read_component-3.ensures.value)
