-- What the parts of a coding unit make together.
use Rattle.std.proofs.Common.{◌≡◌, refl, sym, ◌∙◌, subst, ℕ, ◌<◌, Bool, true, false, cond, List, [], ◌∷◌, ◌++◌, arith}
use Rattle.std.specs.Prelude.{nat_le, ◌==◌, ◌&&◌}
use Rattle.std.proofs.lemmas.Bool.{cond-true, cond-false, eq-eqb, ne_eqb}
use Rattle.h265_model.specs.declared.Item.{Item}
use Rattle.h265_model.specs.declared.leaf.Kind.TheVariants.{Intra}
use Rattle.h265_model.specs.declared.leaf.SliceKind.{SliceKind}
use Rattle.h265_model.specs.declared.leaf.Leaf.{Leaf}
use Rattle.h265_model.specs.Plain.{context_bin, terminate_bin}
use Rattle.h265_model.specs.SyntaxElements.{cu_transquant_bypass_flag, part_mode}
use Rattle.h265_model.specs.Modes.{mode_items}
use Rattle.h265_model.specs.Residual.{cbf, scan_kind}
use Rattle.h265_model.specs.Tree.{Source, candidates_at, coding_unit_items, content_items, in_P, is_skipped, residual_if, skip_context}
use Rattle.bin_items.specs.Square.{Square}
use Rattle.coding_tree.specs.Filled.{HasLevels}
use Rattle.coding_tree.specs.Units.{block_items, coded_flags, part_items, rest_items}

-- ---- part_mode

pub part_some : (log2 : ℕ) → log2 ≡ 3 → context_bin true part_mode ∷ [] ≡ part_items log2
part_some log2 e = sym (cond-true _ _ _ (eq-eqb _ _ e))

pub part_none : (log2 : ℕ) → (log2 ≡ 3 → ⊥) → [] ≡ part_items log2
part_none log2 n = sym (cond-false _ _ _ (ne_eqb _ _ n))

-- ---- units with a mode

pub scan_small : (mode log2 scan : ℕ) → scan ≡ scan_kind mode log2 → scan < 3
unfolding scan_kind
scan_small mode log2 scan e = rw e (go (log2 == 3 && nat_le 6 mode && nat_le mode 14) (log2 == 3 && nat_le 22 mode && nat_le mode 30))
  where
    go : (a b : Bool) → cond a 2 (cond b 1 0) < 3
    go true b = omega arith
    go false true = omega arith
    go false false = omega arith

block_is : (source : Source) (leaf : Leaf) (mode component scan : ℕ) (block : Square) → HasLevels source leaf component block → scan ≡ scan_kind mode leaf.block.log2
    → block_items scan component block ≡ residual_if leaf.block.log2 mode component (source.levels leaf component)
block_is source leaf mode component scan block h e = rw (e, h.side, h.levels) refl

flags_are : (source : Source) (leaf : Leaf) (a b c : Square) (luma cb cr : Bool) → HasLevels source leaf 0 a → HasLevels source leaf 1 b → HasLevels source leaf 2 c
    → luma ≡ cbf a.levels → cb ≡ cbf b.levels → cr ≡ cbf c.levels
    → coded_flags luma cb cr ≡ coded_flags (cbf (source.levels leaf 0)) (cbf (source.levels leaf 1)) (cbf (source.levels leaf 2))
flags_are source leaf a b c luma cb cr h k m e f g = rw (e, f, g, h.levels, k.levels, m.levels) refl

parts_are : (front a a2 b b2 c c2 d d2 : List Item) → a ≡ a2 → b ≡ b2 → c ≡ c2 → d ≡ d2 → front ++ (a ++ (b ++ (c ++ d))) ≡ front ++ (a2 ++ (b2 ++ (c2 ++ d2)))
parts_are front a a2 b b2 c c2 d d2 e f g h = rw (e, f, g, h) refl

-- the parts of a unit with a mode, of the levels that a source gave one after another
pub intra_is : (source second third : Source) (before : List Leaf) (leaf : Leaf) (mode scan : ℕ) (a b c : Square) (luma cb cr : Bool)
    → HasLevels source leaf 0 a → second ≡ source → HasLevels second leaf 1 b → third ≡ second → HasLevels third leaf 2 c
    → luma ≡ cbf a.levels → cb ≡ cbf b.levels → cr ≡ cbf c.levels → scan ≡ scan_kind mode leaf.block.log2
    → (terminate_bin false ∷ mode_items mode (candidates_at before leaf.block.x leaf.block.y))
    ++ (coded_flags luma cb cr ++ (block_items scan 0 a ++ (block_items scan 1 b ++ block_items scan 2 c)))
    ≡ content_items source before leaf (Intra mode)
intra_is source second third before leaf mode scan a b c luma cb cr h s k t m e f g i =
    let k2 : HasLevels source leaf 1 b = subst (λ x. HasLevels x leaf 1 b) s k in
    let m2 : HasLevels source leaf 2 c = subst (λ x. HasLevels x leaf 2 c) (t ∙ s) m in
    parts_are (terminate_bin false ∷ mode_items mode (candidates_at before leaf.block.x leaf.block.y)) _ _ _ _ _ _ _ _ (flags_are source leaf a b c luma cb cr h k2 m2 e f g) (block_is source leaf mode 0 scan a h i) (block_is source leaf mode 1 scan b k2 i) (block_is source leaf mode 2 scan c m2 i)

-- ---- whole units

pub unit_is : (kind : SliceKind) (source : Source) (before : List Leaf) (leaf : Leaf)
    → context_bin true cu_transquant_bypass_flag ∷ (in_P kind (context_bin (is_skipped leaf.kind) (skip_context before leaf.block.x leaf.block.y) ∷ []) ++ rest_items kind source before leaf) ≡ coding_unit_items kind source before leaf
unfolding coding_unit_items
unit_is kind source before leaf = refl
