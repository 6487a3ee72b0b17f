-- What is kept of neighbours tells what the neighbours do.
use Rattle.std.proofs.Common.{◌≡◌, refl, sym, ◌∙◌, ap, subst, ℕ, ◌+◌, ◌*◌, ◌/◌, ◌%◌, ◌<◌, ◌≤◌, List, Bool, true, false, length, arith, Option, Some, None}
use Rattle.std.specs.Prelude.{get_or, nat_lt, ◌==◌, if◌then◌else◌}
use Rattle.std.proofs.lemmas.List.{get_or_default}
use Rattle.std.proofs.lemmas.Nat.{mul-le}
use mir.Val.{bool_byte}
use Rattle.h265_model.specs.declared.block.CodingBlock.{CodingBlock}
use Rattle.h265_model.specs.declared.leaf.Leaf.{Leaf}
use Rattle.h265_model.specs.SyntaxElements.{cu_skip_flag, split_cu_flag}
use Rattle.h265_model.specs.Bits.{digit}
use Rattle.h265_model.specs.Modes.{candidates}
use Rattle.h265_model.specs.Tree.{passes, candidate, candidates_at, skip_context, split_context, is_skipped, left_of, above}
use Rattle.h265_model.specs.Plain.{coded}
use Rattle.pu_code.specs.declared.cell.Cell.{Cell}
use Rattle.pu_code.specs.Cells.{Cells, AreCells, blocks, kept_of, is_smaller, is_copy, mode_kept}

pub smaller_is : (log2 : ℕ) (leaf : Option Leaf) → is_smaller log2 (kept_of leaf) ≡ passes (λ l. nat_lt l.block.log2 log2) leaf
smaller_is log2 None = refl
smaller_is log2 (Some leaf) = refl

pub copy_is : (leaf : Option Leaf) → is_copy (kept_of leaf) ≡ passes (λ l. is_skipped l.kind) leaf
copy_is None = refl
copy_is (Some leaf) = refl

pub mode_is : (leaf : Option Leaf) → mode_kept (kept_of leaf) ≡ candidate leaf
mode_is None = refl
mode_is (Some leaf) = refl

-- ---- contexts

pub byte_is : (b : Bool) → bool_byte b ≡ digit b
byte_is true = refl
byte_is false = refl

pub skip_is : (leaves : List Leaf) (x y : ℕ) (p q : Bool) (a b : ℕ) → p ≡ passes (λ l. is_skipped l.kind) (left_of leaves x y) → q ≡ passes (λ l. is_skipped l.kind) (above leaves x y)
    → a ≡ digit p → b ≡ digit q → cu_skip_flag + a + b ≡ skip_context leaves x y
unfolding skip_context
skip_is leaves x y p q a b e f g h = rw (g, h, e, f) (omega arith)

pub split_is : (leaves : List Leaf) (block : CodingBlock) (p q : Bool) (a b : ℕ) → p ≡ passes (λ l. nat_lt l.block.log2 block.log2) (left_of leaves block.x block.y) → q ≡ passes (λ l. nat_lt l.block.log2 block.log2) (above leaves block.x block.y)
    → a ≡ digit p → b ≡ digit q → split_cu_flag + a + b ≡ split_context leaves block
unfolding split_context
split_is leaves block p q a b e f g h = rw (g, h, e, f) (omega arith)

-- ---- candidates

pub candidates_are_at : (leaves : List Leaf) (x y a b : ℕ) → a ≡ candidate (left_of leaves x y) → b ≡ (if y % 32 == 0 then 1 else candidate (above leaves x y)) → candidates a b ≡ candidates_at leaves x y
unfolding candidates_at
candidates_are_at leaves x y a b e f = rw (e, f) refl

-- ---- modes that are kept

-- a place of the coded picture is one of the cells
place_within : (a b columns rows : ℕ) → a < columns → b < rows → b * columns + a < columns * rows
place_within a b columns rows h k = let m : (b + 1) * columns ≤ rows * columns = mul-le (b + 1) columns rows columns (omega arith) (omega arith) in omega arith

pub kept_bound : (g : Cells) (x y columns : ℕ) (cell : Option Cell) → AreCells g → columns ≡ blocks g.size.w → x < coded g.size.w → y < coded g.size.h
    → cell ≡ get_or g.cells (y / 8 * columns + x / 8) cell → mode_kept cell < 35
kept_bound g x y columns cell are e across down is =
    let n : ℕ = y / 8 * blocks g.size.w + x / 8 in
    let here : cell ≡ get_or g.cells n cell = is ∙ ap (λ c. get_or g.cells (y / 8 * c + x / 8) cell) e in
    let within : n < length g.cells = rw are.long (place_within (x / 8) (y / 8) (blocks g.size.w) (blocks g.size.h) (omega arith) (omega arith)) in
    subst (λ c. mode_kept c < 35) (sym (here ∙ get_or_default g.cells n cell None within)) (are.modes (x / 8) (y / 8) (omega arith))
