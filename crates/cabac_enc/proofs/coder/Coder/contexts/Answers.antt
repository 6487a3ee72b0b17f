use Rattle.std.proofs.Common.{◌∙◌, ap}
use Rattle.cabac_enc.specs.State.{State}
use Rattle.cabac_enc.proofs.Grown.{contexts_of}
use Rattle.cabac_enc.proofs.coder.Coder.contexts.Goals as goal

pub returns : goal.returns
returns c = λ list contexts h. ap (λ (s : State). s.contexts) c.self.view_is ∙ contexts_of c.args.self.now list contexts h
