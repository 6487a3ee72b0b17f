use Rattle.std.proofs.Common.{◌∙◌, sym, ap, ◌++◌, ◌∷◌, [], List, ℕ, zero-add}
use Rattle.std.proofs.lemmas.List.FromFn.{map-range_with_len_more}
use Rattle.recorder_model.specs.declared.entry.Entry.{Entry}
use Rattle.recorder_model.specs.declared.entry.Entry.TheVariants as entry
use Rattle.screenrec.proofs.alone.entries.Goals as goal

pub loop-index-preserved : goal.loop-index-preserved
loop-index-preserved c =
    c.in_ok-push.ensures.items
    ∙ ap (λ (l : List Entry). l ++ entry.Line 0 c.loop-index.index ∷ []) c.loop-index.invariant
    ∙ sym (map-range_with_len_more (λ (index : ℕ). entry.Line 0 index) 0 c.loop-index.index c.loop-index.index (zero-add c.loop-index.index))
