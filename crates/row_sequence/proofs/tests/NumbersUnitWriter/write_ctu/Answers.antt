use Rattle.std.proofs.Common.{◌∷◌, [], ◌==◌, ◌%◌, true}
use Rattle.h265_model.specs.Plain.{context_bin}
use Rattle.h265_model.specs.Binarise.{bypass_bins, fl}
use Rattle.bin_items.proofs.Growing.{grew_then}
use Rattle.row_sequence.proofs.tests.NumbersUnitWriter.write_ctu.Goals as goal

pub returns-clause-taken : goal.returns-clause-taken
returns-clause-taken c =
    grew_then (context_bin (c.args.ctu % 3 == 0) (c.args.ctu % 130) ∷ []) _ _ _ _ c.in_ok-bin.ensures.taken
    (grew_then (context_bin true 5 ∷ []) _ _ _ _ c.in_ok-bin-2.ensures.taken
    (grew_then (context_bin true 5 ∷ []) (bypass_bins (fl 8 (c.args.ctu % 256))) _ _ _ c.in_ok-bin-3.ensures.taken c.in_ok-bypass.ensures.taken))
