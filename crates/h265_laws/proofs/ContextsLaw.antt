-- Contexts stay contexts, and those after two lists of items are those after the second from those after the first.
use Rattle.std.proofs.Common.{◌≡◌, refl, sym, ◌∙◌, ap, subst, ℕ, zero, suc, List, [], ◌∷◌, ◌++◌, Bool, true, false, cond}
use Rattle.std.specs.Prelude.{nat_le}
use Rattle.h265_model.specs.declared.Place.{Place}
use Rattle.h265_model.specs.declared.Item.{Item}
use Rattle.h265_model.specs.declared.Place.TheVariants.{Context, Bypass, Terminate}
use Rattle.h265_model.specs.declared.Item.TheVariants as items
use Rattle.h265_model.specs.declared.leaf.SliceKind.{SliceKind}
use Rattle.h265_model.specs.declared.leaf.Leaf.{Leaf}
use Rattle.h265_model.specs.Plain.{Size, ctus}
use Rattle.h265_model.specs.Contexts.{start, row_start, AreContexts}
use Rattle.h265_model.specs.Code.{Coding, fresh, put, coding, contexts_after}
use Rattle.h265_model.specs.Tree.{is_last, leaf_units, Source, ctus_items}
use Rattle.h265_model.specs.Slice.{contexts_at}
use Rattle.h265_model.proofs.ContextLaws.{start_is, step_is}
use Rattle.h265_laws.proofs.Parts.{put_contexts, stepped, coding_contexts}

-- ---- one step, and many

stepped_is : (place : Place) (bin : Bool) (contexts : List ℕ) → AreContexts contexts → AreContexts (stepped place bin contexts)
stepped_is (Context n) bin contexts are = step_is contexts n bin are
stepped_is Bypass bin contexts are = are
stepped_is Terminate bin contexts are = are

put_is : (item : Item) (c : Coding) → AreContexts c.contexts → AreContexts (put item c).contexts
put_is (items.Bin b) c are = subst AreContexts (sym (put_contexts b.place b.value c)) (stepped_is b.place b.value c.contexts are)
put_is (items.Sample x) c are = are

coding_is : (list : List Item) (c : Coding) → AreContexts c.contexts → AreContexts (coding list c).contexts
coding_is [] c are = are
coding_is (item ∷ list) c are = coding_is list (put item c) (put_is item c are)

pub after_is : (list : List Item) (contexts : List ℕ) → AreContexts contexts → AreContexts (contexts_after list contexts)
unfolding contexts_after
after_is list contexts are = coding_is list (fresh [] contexts) are

-- ---- two lists

coding_both : (a b : List Item) (c : Coding) → coding (a ++ b) c ≡ coding b (coding a c)
coding_both [] b c = refl
coding_both (item ∷ a) b c = coding_both a b (put item c)

coding_after : (list : List Item) (c : Coding) → (coding list c).contexts ≡ contexts_after list c.contexts
unfolding contexts_after
coding_after list c = coding_contexts list c ∙ sym (coding_contexts list (fresh [] c.contexts))

pub after_both : (a b : List Item) (contexts : List ℕ) → contexts_after (a ++ b) contexts ≡ contexts_after b (contexts_after a contexts)
unfolding contexts_after
after_both a b contexts = ap (λ (c : Coding). c.contexts) (coding_both a b (fresh [] contexts)) ∙ coding_after b (coding a (fresh [] contexts))

-- ---- the contexts of each row

pub row_start_is : (kind : SliceKind) (width row : ℕ) (above : List ℕ) → AreContexts above → AreContexts (row_start kind width row above)
unfolding row_start
row_start_is kind width zero above are = start_is kind
row_start_is kind width (suc row) above are = go (nat_le 2 width)
  where
    go : (b : Bool) → AreContexts (cond b above (start kind))
    go true = are
    go false = start_is kind

pub contexts_at_is : (kind : SliceKind) (size : Size) (source : Source) (leaves : List (List Leaf)) (row : ℕ) → AreContexts (contexts_at kind (leaf_units kind source) size leaves row)
unfolding contexts_at row_start
contexts_at_is kind size source leaves zero = start_is kind
contexts_at_is kind size source leaves (suc row) =
    row_start_is kind (ctus size.w) (suc row) _ (after_is (ctus_items (leaf_units kind source) size (is_last size) leaves row 2) (contexts_at kind (leaf_units kind source) size leaves row) (contexts_at_is kind size source leaves row))
