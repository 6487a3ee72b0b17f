use Rattle.std.proofs.Common.{refl, sym, subst, rules, ◌*◌, ◌^◌}
use Rattle.h265_model.specs.Tree.{Samples, thirds}
use Rattle.h265_model.specs.Plain.{Size}
use Rattle.leaf_sink.specs.Units.{HasAvailable}
use Rattle.unit_read.proofs.ContentReads.{pcm_some}
use Rattle.unit_read.proofs.content.read_samples.Goals as goal

pub returns-clause-value : goal.returns-clause-value
returns-clause-value g c =
    (Samples (thirds (2 ^ c.args.block.log2 * 2 ^ c.args.block.log2) c.pcm.new.out), refl, pcm_some (2 ^ c.args.block.log2 * 2 ^ c.args.block.log2) _ c.pcm.new.out c.args.decoder.now c.pcm.new.self (search rules) c.in_ok-pcm.ensures.value, λ units stood has. c.samples.ensures.taken units stood (subst (λ (s : Size). HasAvailable s units c.args.block.x c.args.block.y) (sym c.requires.size) has))
