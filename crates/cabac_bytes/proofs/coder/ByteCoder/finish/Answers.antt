use Rattle.std.proofs.Common.{◌∙◌, ap}
use Rattle.cabac_bytes.specs.State.{State}
use Rattle.cabac_bytes.proofs.Grown.{bytes_of_all}
use Rattle.cabac_bytes.proofs.coder.ByteCoder.finish.Goals as goal

pub returns : goal.returns
returns c = λ list contexts h. c.into_bytes.ensures ∙ ap (λ (s : State). s.pending.out) c.self.view_is ∙ bytes_of_all c.args.self list contexts c.requires h
