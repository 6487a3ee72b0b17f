-- The last sub-block with a level, and those before it.
use Rattle.std.proofs.Common.{◌≡◌, refl, sym, ℕ, zero, suc, ◌+◌, ◌-◌, ◌*◌, ◌^◌, ◌<◌, ◌≤◌, Bool, true, false, List, [], ◌∷◌, ◌++◌, set, replicate, arith}
use Rattle.std.specs.Prelude.{ℤ}
use Rattle.h265_model.specs.Residual as residual
use Rattle.h265_model.specs.Residual.{Sub, scan, place_at, sub_at, from_last, last_items, place_of, sig_items, value_items, set_of, nonzero, ended_at_zero, sub_items}
use Rattle.residual_code.specs.declared.shape.Shape.{Shape}
use Rattle.residual_code.specs.declared.shape.SubBlock.{SubBlock}
use Rattle.residual_code.specs.Parts.{IsShape, IsSubBlock, shape_of, tile_at, tile_levels, has_members, down}
use Rattle.scan_orders.specs.Marks.{AreMarks, mark_place}
use Rattle.residual_code.proofs.SubLaws.{from_is}
use Rattle.scan_orders.proofs.MarkLaws.{is_sub, marks_none, marks_more}

pub from_written : (s : residual.Shape) (F : ℕ → List ℤ) (sub : Sub) (place : ℕ × ℕ) (number k : ℕ) (v : ℤ) (tile whole first : List ℤ) (ended : Bool)
    → whole ≡ v ∷ tile_levels s.scan tile k → first ≡ v ∷ [] → sub ≡ sub_at s number [] → place ≡ place_of s number k
    → ended ≡ ended_at_zero false (first ++ nonzero (tile_levels s.scan tile k)) →
    last_items s place ++ ((sig_items s sub false (has_members first) (tile_levels s.scan tile k) ++ value_items s.component (set_of s number false) (first ++ nonzero (tile_levels s.scan tile k)))
    ++ sub_items s (true ∷ []) ended (down F number))
    ≡ from_last s whole (down F number)
from_written s F sub place number k v tile whole first ended w f b p e =
    rw (w, e, f, b, p) (sym (from_is s F (λ i. tile_at tile (place_at (scan s.scan 2) i)) number k v))

four_times : (log2 : ℕ) → 3 ≤ log2 → log2 ≤ 5 → 2 ^ log2 ≡ 4 * 2 ^ (log2 - 2)
four_times zero h k = absurd (omega arith)
four_times (suc zero) h k = absurd (omega arith)
four_times (suc (suc zero)) h k = absurd (omega arith)
four_times (suc (suc (suc zero))) h k = refl
four_times (suc (suc (suc (suc zero)))) h k = refl
four_times (suc (suc (suc (suc (suc zero))))) h k = refl
four_times (suc (suc (suc (suc (suc (suc n)))))) h k = absurd (omega arith)

pub inside : (log2 x p : ℕ) → 3 ≤ log2 → log2 ≤ 5 → x < 2 ^ (log2 - 2) → p < 4 → 4 * x + p < 2 ^ log2
inside log2 x p low high h k = let e : 2 ^ log2 ≡ 4 * 2 ^ (log2 - 2) = four_times log2 low high in rw e (omega arith)

pub side_low : (log2 : ℕ) → 3 ≤ log2 → log2 ≤ 5 → 2 ^ log2 ≤ 32
side_low zero h k = absurd (omega arith)
side_low (suc zero) h k = absurd (omega arith)
side_low (suc (suc zero)) h k = absurd (omega arith)
side_low (suc (suc (suc zero))) h k = omega arith
side_low (suc (suc (suc (suc zero)))) h k = omega arith
side_low (suc (suc (suc (suc (suc zero))))) h k = omega arith
side_low (suc (suc (suc (suc (suc (suc n)))))) h k = absurd (omega arith)

pub place_is : (s : Shape) (b : SubBlock) (k x y : ℕ) → IsSubBlock s b → x ≡ (place_at (scan s.scan 2) k).0 → y ≡ (place_at (scan s.scan 2) k).1
    → (4 * b.x + x, 4 * b.y + y) ≡ place_of (shape_of s) b.number k
place_is s b k x y at e f = rw (e, f, at.x, at.y) refl

pub first_mark : (s : Shape) (b : SubBlock) → IsShape s → IsSubBlock s b → AreMarks (shape_of s) b.number (true ∷ []) (set (replicate 81 false) (mark_place b.x b.y) true)
first_mark s b is at =
    marks_more (shape_of s) b.number b.x b.y [] (replicate 81 false) true is.low is.high at.number (is_sub (shape_of s) b.number b.x b.y is.low is.high at.number at.x at.y) at.x at.y refl (marks_none (shape_of s) (b.number + 1))
