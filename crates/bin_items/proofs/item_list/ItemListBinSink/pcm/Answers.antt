use Rattle.std.proofs.Common.{◌≡◌, ◌++◌, ◌∙◌, ap}
use Rattle.std.proofs.lemmas.Result.{on_ok_weaker}
use Rattle.h265_model.specs.Code.{Plain}
use Rattle.bin_items.specs.Growth.{phase_then, sample_items}
use Rattle.bin_items.proofs.Growing.{phase_then-samples}
use Rattle.bin_items.proofs.item_list.ItemListBinSink.pcm.Goals as goal

pub returns-clause-phase : goal.returns-clause-phase
returns-clause-phase c =
    let old = c.self.inside.vec.items in
    let samples = c.args.samples.now in
    let filled = λ (is : c.append_samples.new.list.items ≡ old ++ sample_items samples). ap (phase_then Plain) is ∙ phase_then-samples Plain old samples c.requires.some in
    on_ok_weaker c.append_samples.result filled c.append_samples.ensures.ok
