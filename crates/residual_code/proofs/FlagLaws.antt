-- Flags of the levels of a sub-block, one after another.
use Rattle.std.proofs.Common.{◌≡◌, refl, sym, ◌∙◌, ap, ℕ, zero, suc, ◌+◌, ◌-◌, ◌^◌, ◌<◌, ◌≤◌, Bool, false, cond, not, ◌||◌, List, [], ◌∷◌, ◌++◌, length, append_assoc, arith}
use Rattle.std.specs.Prelude.{ℤ, pos, negsuc, ◌==◌}
use Rattle.std.proofs.lemmas.List.{append-nil, length_push}
use Rattle.std.proofs.lemmas.Bool.Decides.{nat_tests}
use Rattle.h265_model.specs.Plain.{context_bin}
use Rattle.h265_model.specs.Residual as residual
use Rattle.h265_model.specs.Residual.{Sub, sig_items, sig_at, is_implied, is_zero, nonzero, place_at, scan}
use Rattle.residual_code.specs.declared.shape.Shape.{Shape}
use Rattle.residual_code.specs.declared.shape.SubBlock.{SubBlock}
use Rattle.residual_code.specs.Parts.{shape_of, sub_of, IsShape, IsSubBlock, tile_at, tile_levels, has_members, sig_part, down}
use Rattle.residual_code.proofs.Down.{length-down, down_first, down_none}
use Rattle.scan_orders.proofs.ScanPlaces.{IsPlaced, placed}

pub sub_low : (s : Shape) (b : SubBlock) → IsShape s → IsSubBlock s b → (b.x < 2 ^ (s.log2 - 2)) × (b.y < 2 ^ (s.log2 - 2))
sub_low s b is at =
    let low : 3 ≤ s.log2 = is.low in
    let high : s.log2 ≤ 5 = is.high in
    let p : IsPlaced s.scan (s.log2 - 2) b.number = placed s.scan (s.log2 - 2) b.number (omega arith) (omega arith) at.number in
    (rw at.x p.x, rw at.y p.y)

pub nonzero-append : (a b : List ℤ) → nonzero (a ++ b) ≡ nonzero a ++ nonzero b
nonzero-append [] b = refl
nonzero-append (pos zero ∷ a) b = nonzero-append a b
nonzero-append (pos (suc n) ∷ a) b = ap (λ l. pos (suc n) ∷ l) (nonzero-append a b)
nonzero-append (negsuc n ∷ a) b = ap (λ l. negsuc n ∷ l) (nonzero-append a b)

pub nonzero-length : (a : List ℤ) → length (nonzero a) ≤ length a
nonzero-length [] = omega arith
nonzero-length (pos zero ∷ a) = let h = nonzero-length a in omega arith
nonzero-length (pos (suc n) ∷ a) = let h = nonzero-length a in omega arith
nonzero-length (negsuc n ∷ a) = let h = nonzero-length a in omega arith

has_after : (values : List ℤ) (v : ℤ) → has_members (values ++ nonzero (v ∷ [])) ≡ (has_members values || not (is_zero v))
has_after [] (pos zero) = refl
has_after [] (pos (suc n)) = refl
has_after [] (negsuc n) = refl
has_after (w ∷ values) v = refl

-- one more level
pub flag_more : (s : residual.Shape) (sub : Sub) (inner : Bool) (tile before after : List ℤ) (left : ℕ) → 0 < left
    → after ≡ before ++ nonzero (tile_at tile (place_at (scan s.scan 2) (left - 1)) ∷ []) →
    sig_items s sub inner (has_members before) (tile_levels s.scan tile left)
    ≡ sig_part s sub inner (has_members before) (left - 1) (tile_at tile (place_at (scan s.scan 2) (left - 1)))
    ++ sig_items s sub inner (has_members after) (tile_levels s.scan tile (left - 1))
flag_more s sub inner tile before after left some e =
    let f : ℕ → ℤ = λ i. tile_at tile (place_at (scan s.scan 2) i) in
    let n : length (down f (left - 1)) ≡ left - 1 = length-down f (left - 1) in
    rw (e, has_after before (f (left - 1)))
    (ap (sig_items s sub inner (has_members before)) (down_first f left some)
    ∙ ap (λ k. cond (is_implied inner (has_members before) k) [] (context_bin (not (is_zero (f (left - 1)))) (sig_at s sub k) ∷ []) ++ sig_items s sub inner (has_members before || not (is_zero (f (left - 1)))) (down f (left - 1))) n)

pub values_more : (kind : ℕ) (tile before after whole : List ℤ) (left : ℕ) → 0 < left
    → after ≡ before ++ nonzero (tile_at tile (place_at (scan kind 2) (left - 1)) ∷ [])
    → before ++ nonzero (tile_levels kind tile left) ≡ whole → after ++ nonzero (tile_levels kind tile (left - 1)) ≡ whole
values_more kind tile before after whole left some e h =
    let f : ℕ → ℤ = λ i. tile_at tile (place_at (scan kind 2) i) in
    rw e (append_assoc before (nonzero (f (left - 1) ∷ [])) (nonzero (down f (left - 1)))
    ∙ (ap (λ l. before ++ l) (sym (nonzero-append (f (left - 1) ∷ []) (down f (left - 1))) ∙ ap nonzero (sym (down_first f left some))) ∙ h))

pub room_more : (v : ℤ) (before after : List ℤ) (left : ℕ) → 0 < left → after ≡ before ++ nonzero (v ∷ []) → length before + left ≤ 16 → length after + (left - 1) ≤ 16
room_more v before after left some e h = rw e (go v)
  where
    go : (w : ℤ) → length (before ++ nonzero (w ∷ [])) + (left - 1) ≤ 16
    go (pos zero) = let k : length (before ++ []) ≡ length before = ap length (append-nil before) in omega arith
    go (pos (suc n)) = let k : length (before ++ pos (suc n) ∷ []) ≡ length before + 1 = length_push before (pos (suc n)) in omega arith
    go (negsuc n) = let k : length (before ++ negsuc n ∷ []) ≡ length before + 1 = length_push before (negsuc n) in omega arith

pub no_members : (values : List ℤ) → not (length values == 0) ≡ has_members values
no_members [] = refl
no_members (v ∷ values) = let e : (suc (length values) == 0) ≡ false = grind (arith, nat_tests) in rw e refl

pub part_is : (s : Shape) (b : SubBlock) (k : ℕ) (p : ℕ × ℕ) (inner implied empty flag : Bool) (values tile : List ℤ) (level : ℤ) → IsSubBlock s b
    → p ≡ place_at (scan s.scan 2) k → level ≡ tile_at tile p → flag ≡ not (is_zero level) → implied ≡ is_implied inner (not empty) k → empty ≡ (length values == 0) →
    cond implied [] (context_bin flag (residual.sig_context s.component s.log2 s.scan b.x b.y p.0 p.1 b.right b.below) ∷ [])
    ≡ sig_part (shape_of s) (sub_of b) inner (has_members values) k (tile_at tile (place_at (scan s.scan 2) k))
part_is s b k p inner implied empty flag values tile level at e l f i m =
    rw (f, i, l, m, no_members values, at.x, at.y) (rw e refl)

pub no_flags : (s : residual.Shape) (sub : Sub) (inner found : Bool) (tile : List ℤ) (left : ℕ) → left ≤ 0 → sig_items s sub inner found (tile_levels s.scan tile left) ≡ []
no_flags s sub inner found tile left h = let z : left ≡ 0 = omega arith in rw (z, down_none (λ i. tile_at tile (place_at (scan s.scan 2) i))) refl

pub values_done : (kind : ℕ) (tile values whole : List ℤ) (left : ℕ) → left ≤ 0 → values ++ nonzero (tile_levels kind tile left) ≡ whole → values ≡ whole
values_done kind tile values whole left h e =
    let z : left ≡ 0 = omega arith in
    let n : nonzero (tile_levels kind tile left) ≡ [] = rw (z, down_none (λ i. tile_at tile (place_at (scan kind 2) i))) refl in
    sym (append-nil values) ∙ (ap (λ l. values ++ l) (sym n) ∙ e)
