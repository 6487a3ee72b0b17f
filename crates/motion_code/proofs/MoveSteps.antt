-- What is written of some units of a list, and what is left.
use Rattle.std.proofs.Common.{◌≡◌, sym, ◌∙◌, ap, subst, ℕ, zero, suc, ◌+◌, ◌<◌, ◌≤◌, List, [], ◌∷◌, ◌++◌, length, take, drop, get_or, arith}
use Rattle.std.proofs.Math.ListN.{drop_of_length-le}
use Rattle.std.proofs.lemmas.List.{take_all, drop_more}
use Rattle.std.specs.List.{AllByRecursion}
use Rattle.h265_model.specs.declared.Item.{Item}
use Rattle.h265_model.specs.declared.leaf.SliceKind.{SliceKind}
use Rattle.h265_model.specs.declared.leaf.Leaf.{Leaf}
use Rattle.h265_model.specs.declared.moves.MoveLeaf.{MoveLeaf}
use Rattle.h265_model.specs.Plain.{Size}
use Rattle.h265_model.specs.Motion.{Moving, leaf_as_coded, as_coded, coded_after}
use Rattle.h265_model.specs.Tree.{Source, move_unit}
use Rattle.h265_model.proofs.ListParts.{take_more}
use Rattle.bin_items.specs.Growth.{Meaning, Grew, TookAllBut, TookFront}
use Rattle.bin_items.proofs.Growing.{nothing_taken, took_more, took_as, took_all, stopped}
use Rattle.pu_code.specs.Cells as modes
use Rattle.motion_grid.specs.Cells as motions
use Rattle.motion_code.specs.Moves.{AreKept, coded_leaves, flagged_items}
use Rattle.motion_code.proofs.MoveWalks.{coded-append, units_items}

-- the first n of a list, coded, and the next one
one_more : (before : List Moving) (us : List MoveLeaf) (n : ℕ) (d : MoveLeaf) → n < length us
    → coded_after before (take n us) ++ as_coded (coded_after before (take n us)) (get_or us n d) ∷ [] ≡ coded_after before (take (n + 1) us)
one_more before us n d h =
    let k : suc n ≡ n + 1 = omega arith in
    sym (coded-append before (take n us) (get_or us n d ∷ [])) ∙ ap (coded_after before) (sym (take_more us n d h) ∙ ap (λ m. take m us) k)

-- the units of these, after those before
abbrev pub all_items : SliceKind → Size → Source → List Moving → List MoveLeaf → List Item
all_items kind size source before us = units_items (move_unit kind source) size before us

-- of these units, which come after those before, the first n are written
pub record Written (kind : SliceKind) (size : Size) (source : Source) (before : List Moving) (us : List MoveLeaf) (n : ℕ) (start now : Meaning) : Type 0 where
  pub taken : TookAllBut (all_items kind size source (coded_after before (take n us)) (drop n us)) (all_items kind size source before us) start now

pub written_none : (kind : SliceKind) (size : Size) (source : Source) (before : List Moving) (us : List MoveLeaf) (meaning : Meaning) → Written kind size source before us 0 meaning meaning
written_none kind size source before us meaning = record { taken = nothing_taken _ meaning }

-- the rest begins with the next unit
next_unit : (kind : SliceKind) (size : Size) (source : Source) (before : List Moving) (us : List MoveLeaf) (n : ℕ) (d : MoveLeaf) → n < length us
    → all_items kind size source (coded_after before (take n us)) (drop n us)
    ≡ flagged_items kind size source (coded_after before (take n us)) (get_or us n d) ++ all_items kind size source (coded_after before (take (n + 1) us)) (drop (n + 1) us)
unfolding units_items flagged_items
next_unit kind size source before us n d h =
    ap (all_items kind size source (coded_after before (take n us))) (drop_more us n d h)
    ∙ ap (λ (l : List Moving). flagged_items kind size source (coded_after before (take n us)) (get_or us n d) ++ all_items kind size source l (drop (n + 1) us)) (one_more before us n d h)

pub written_more : (kind : SliceKind) (size : Size) (source given : Source) (before : List Moving) (us : List MoveLeaf) (n : ℕ) (d : MoveLeaf) (start now next : Meaning) → n < length us
    → given ≡ source → Grew (flagged_items kind size given (coded_after before (take n us)) (get_or us n d)) now next
    → Written kind size source before us n start now → Written kind size source before us (n + 1) start next
written_more kind size source given before us n d start now next h e g w = record {
  taken = took_more _ _ _ _ _ _ (took_as _ _ _ _ _ (next_unit kind size source before us n d h) w.taken)
      (subst (λ (s : Source). Grew (flagged_items kind size s (coded_after before (take n us)) (get_or us n d)) now next) e g);
}

pub written_stopped : (kind : SliceKind) (size : Size) (source given : Source) (before : List Moving) (us : List MoveLeaf) (n : ℕ) (d : MoveLeaf) (start now next : Meaning) → n < length us
    → given ≡ source → TookFront (flagged_items kind size given (coded_after before (take n us)) (get_or us n d)) now next
    → Written kind size source before us n start now → TookFront (all_items kind size source before us) start next
written_stopped kind size source given before us n d start now next h e f w =
    stopped _ _ _ _ _ _ (took_as _ _ _ _ _ (next_unit kind size source before us n d h) w.taken)
    (subst (λ (s : Source). TookFront (flagged_items kind size s (coded_after before (take n us)) (get_or us n d)) now next) e f)

pub written_all : (kind : SliceKind) (size : Size) (source : Source) (before : List Moving) (us : List MoveLeaf) (n : ℕ) (start now : Meaning) → length us ≤ n
    → Written kind size source before us n start now → Grew (all_items kind size source before us) start now
unfolding units_items
written_all kind size source before us n start now h w =
    took_all _ _ _ (took_as _ _ _ _ _ (ap (all_items kind size source (coded_after before (take n us))) (drop_of_length-le us h)) w.taken)

-- the grids have the units that are written
pub record HasSet (modes modes2 : modes.Cells) (motions motions2 : motions.Cells) (us : List MoveLeaf) (n : ℕ) : Type 0 where
  pub set : (before : List Moving) → AreKept modes motions before → AreKept modes2 motions2 (coded_after before (take n us))

pub has_set_none : (modes : modes.Cells) (motions : motions.Cells) (us : List MoveLeaf) → HasSet modes modes motions motions us 0
has_set_none modes motions us = record { set = λ before at. at }

pub has_set_more : (modes modes2 modes3 : modes.Cells) (motions motions2 motions3 : motions.Cells) (us : List MoveLeaf) (n : ℕ) (d : MoveLeaf) → n < length us
    → ((before : List Moving) → AreKept modes2 motions2 before → AreKept modes3 motions3 (before ++ as_coded before (get_or us n d) ∷ []))
    → HasSet modes modes2 motions motions2 us n → HasSet modes modes3 motions motions3 us (n + 1)
has_set_more modes modes2 modes3 motions motions2 motions3 us n d h f s =
    record { set = λ before at. subst (AreKept modes3 motions3) (one_more before us n d h) (f (coded_after before (take n us)) (s.set before at)) }

pub has_set_all : (modes modes2 : modes.Cells) (motions motions2 : motions.Cells) (us : List MoveLeaf) (n : ℕ) → length us ≤ n → HasSet modes modes2 motions motions2 us n
    → (before : List Moving) → AreKept modes motions before → AreKept modes2 motions2 (coded_after before us)
has_set_all modes modes2 motions motions2 us n h s before at = subst (λ (l : List MoveLeaf). AreKept modes2 motions2 (coded_after before l)) (take_all n us h) (s.set before at)

-- one of the leaves
pub leaf_at : (T : Leaf → Type 0) (us : List MoveLeaf) (n : ℕ) (d : MoveLeaf) → n < length us → AllByRecursion T (coded_leaves us) → T (leaf_as_coded (get_or us n d))
leaf_at T [] n d h all = absurd (omega arith)
leaf_at T (u ∷ us) zero d h all = all.0
leaf_at T (u ∷ us) (suc n) d h all = leaf_at T us n d (omega arith) all.1
