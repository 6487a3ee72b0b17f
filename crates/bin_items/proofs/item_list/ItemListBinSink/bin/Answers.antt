use Rattle.std.proofs.Common.{◌∷◌, [], ◌∙◌, ap}
use Rattle.h265_model.specs.Code.{Plain}
use Rattle.h265_model.specs.declared.Item.TheVariants as items
use Rattle.bin_items.specs.Growth.{phase_then}
use Rattle.bin_items.proofs.Growing.{phase_then-append}
use Rattle.bin_items.proofs.item_list.ItemListBinSink.bin.Goals as goal

pub returns-clause-phase : goal.returns-clause-phase
returns-clause-phase c = ap (phase_then Plain) c.in_ok-push.ensures.items ∙ phase_then-append Plain c.self.inside.vec.items (items.Bin c.args.bin ∷ [])
