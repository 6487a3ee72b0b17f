-- The leaves of all coding tree units cover the picture, and have sides of 8, 16 or 32.
use Rattle.std.proofs.Common.{◌≡◌, sym, subst, ℕ, zero, suc, ◌+◌, ◌*◌, ◌<◌, ◌≤◌, List, [], ◌∷◌, ◌++◌, ⊎_elim, length, take, get_or, arith}
use Rattle.std.specs.List.{AllByRecursion}
use Rattle.std.proofs.lemmas.Bool.{cases_lt}
use Rattle.std.proofs.lemmas.List.{get_or_past}
use Rattle.h265_model.specs.declared.leaf.SliceKind.{SliceKind}
use Rattle.h265_model.specs.declared.leaf.Leaf.{Leaf}
use Rattle.h265_model.specs.Plain.{Size, ctus, joined}
use Rattle.h265_model.specs.Residual.{IsSide}
use Rattle.h265_model.specs.Tree.{AreLawfulTrees, Source}
use Rattle.h265_model.specs.Slice.{IsSlice}
use Rattle.h265_laws.proofs.Coverage.{Covers, ArePlaced, CoversBlock, ctu_covers, placed-append}
use Rattle.h265_laws.proofs.RowLaw.{joined_take}

-- leaves with sides of 8, 16 or 32
abbrev pub HaveSides : List Leaf → Type 0
HaveSides leaves = AllByRecursion (λ leaf. IsSide leaf.block.log2) leaves

-- the leaves of each coding tree unit have sides of 8, 16 or 32
abbrev pub AllHaveSides : List (List Leaf) → Type 0
AllHaveSides leaves = (ctu : ℕ) → HaveSides (get_or leaves ctu [])

-- the leaves of the first coding tree units cover them
pub joined_cover : (kind : SliceKind) (size : Size) (leaves : List (List Leaf)) (total n : ℕ) → 0 < ctus size.w → AreLawfulTrees kind size leaves total → n ≤ total
    → CoversBlock size [] (joined (take n leaves)) 0 (n * 1024)
joined_cover kind size leaves total zero some are few = record { placed = tt; covers = record { each = λ x y inside lower. absurd (omega arith) } }
joined_cover kind size leaves total (suc n) some are few =
    let before : List Leaf = joined (take n leaves) in
    let here : List Leaf = get_or leaves n [] in
    let earlier : CoversBlock size [] before 0 (n * 1024) = joined_cover kind size leaves total n some are (omega arith) in
    let start : 0 + n * 1024 ≡ n * 1024 = omega arith in
    let end : n * 1024 + 1024 ≡ 0 + suc n * 1024 = omega arith in
    let later : CoversBlock size before here (n * 1024) 1024 = ctu_covers size n before here some (are.tree n (omega arith)) (subst (λ (k : ℕ). Covers size before k) start earlier.covers) in
    subst (λ (l : List Leaf). CoversBlock size [] l 0 (suc n * 1024)) (sym (joined_take leaves n))
    (record { placed = placed-append size [] before here earlier.placed later.placed; covers = subst (λ (k : ℕ). Covers size (before ++ here) k) end later.covers })

placed_sides : (size : Size) (before leaves : List Leaf) → ArePlaced size before leaves → HaveSides leaves
placed_sides size before [] h = tt
placed_sides size before (leaf ∷ leaves) h = (h.0.side, placed_sides size (before ++ leaf ∷ []) leaves h.1)

-- each coding tree unit's leaves have sides of 8, 16 or 32
lawful_sides : (kind : SliceKind) (size : Size) (leaves : List (List Leaf)) (total ctu : ℕ) → 0 < ctus size.w → AreLawfulTrees kind size leaves total → ctu < total → HaveSides (get_or leaves ctu [])
lawful_sides kind size leaves total ctu some are few =
    let earlier : CoversBlock size [] (joined (take ctu leaves)) 0 (ctu * 1024) = joined_cover kind size leaves total ctu some are (omega arith) in
    let start : 0 + ctu * 1024 ≡ ctu * 1024 = omega arith in
    placed_sides size (joined (take ctu leaves)) (get_or leaves ctu [])
    (ctu_covers size ctu (joined (take ctu leaves)) (get_or leaves ctu []) some (are.tree ctu few) (subst (λ (k : ℕ). Covers size (joined (take ctu leaves)) k) start earlier.covers)).placed

pub all_sides : (kind : SliceKind) (size : Size) (leaves : List (List Leaf)) → 0 < ctus size.w → length leaves ≡ ctus size.w * ctus size.h → AreLawfulTrees kind size leaves (ctus size.w * ctus size.h) → AllHaveSides leaves
all_sides kind size leaves some long are ctu =
    ⊎_elim
    (λ few. lawful_sides kind size leaves (ctus size.w * ctus size.h) ctu some are few)
    (λ many. subst HaveSides (sym (get_or_past leaves ctu [] (omega arith))) tt)
    (cases_lt ctu (ctus size.w * ctus size.h))

pub sides_of : (kind : SliceKind) (size : Size) (source : Source) (leaves : List (List Leaf)) → IsSlice kind size source leaves → AllHaveSides leaves
sides_of kind size source leaves is = all_sides kind size leaves is.wide is.many is.lawful
