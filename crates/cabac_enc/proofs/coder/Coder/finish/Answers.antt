use Rattle.std.proofs.Common.{◌∙◌, ap}
use Rattle.std.proofs.lemmas.Result.{IfOk-weaker}
use Rattle.h265_model.specs.Bits.{bytes}
use Rattle.cabac_enc.specs.State.{State}
use Rattle.cabac_enc.proofs.Grown.{bytes_of_all}
use Rattle.cabac_enc.proofs.coder.Coder.finish.Goals as goal

pub returns : goal.returns
returns c =
    IfOk-weaker c.to_bytes.result _ _
    (λ found is list contexts h. is ∙ ap bytes (c.deref.ensures.value ∙ ap (λ (s : State). s.bits) c.self.view_is) ∙ bytes_of_all c.args.self list contexts c.requires h)
    c.to_bytes.ensures
