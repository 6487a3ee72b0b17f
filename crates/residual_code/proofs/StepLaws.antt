-- One sub-block before the last one.
use Rattle.std.proofs.Common.{◌≡◌, refl, sym, ◌∙◌, ap, ℕ, zero, suc, ◌-◌, ◌^◌, ◌<◌, ◌≤◌, Bool, true, false, cond, not, ◌||◌, List, [], ◌∷◌, ◌++◌, arith}
use Rattle.std.specs.Prelude.{ℤ, pos, negsuc}
use Rattle.h265_model.specs.Residual as residual
use Rattle.h265_model.specs.Residual.{Sub, sub_scan, place_at, nonzero, ended_at_zero, cbf}
use Rattle.residual_code.specs.declared.shape.Shape.{Shape}
use Rattle.residual_code.specs.declared.shape.SubBlock.{SubBlock}
use Rattle.residual_code.specs.Parts.{IsShape, IsSubBlock, shape_of, sub_count, sub_tile, sub_levels, tile_levels, flag_part, level_part, sub_part, coded_at}
use Rattle.residual_code.proofs.Zeros.{any_level}
use Rattle.scan_orders.proofs.ScanPlaces.{IsPlaced, placed}

pub x_at : (s : Shape) (b : SubBlock) (number : ℕ) → IsSubBlock s b → b.number ≡ number → b.x ≡ (place_at (sub_scan (shape_of s)) number).0
x_at s b number at e = at.x ∙ ap (λ n. (place_at (sub_scan (shape_of s)) n).0) e

pub y_at : (s : Shape) (b : SubBlock) (number : ℕ) → IsSubBlock s b → b.number ≡ number → b.y ≡ (place_at (sub_scan (shape_of s)) number).1
y_at s b number at e = at.y ∙ ap (λ n. (place_at (sub_scan (shape_of s)) n).1) e

pub scan_low : (s : Shape) (n x y : ℕ) → IsShape s → n < sub_count s → x ≡ (place_at (sub_scan (shape_of s)) n).0 → y ≡ (place_at (sub_scan (shape_of s)) n).1 → (x < 2 ^ (s.log2 - 2)) × (y < 2 ^ (s.log2 - 2))
scan_low s n x y is h e f =
    let low : 3 ≤ s.log2 = is.low in
    let high : s.log2 ≤ 5 = is.high in
    let p : IsPlaced s.scan (s.log2 - 2) n = placed s.scan (s.log2 - 2) n (omega arith) (omega arith) h in
    (rw e p.x, rw f p.y)

count_low : (n : ℕ) → n ≤ 3 → 4 ^ n ≤ 64
count_low zero h = omega arith
count_low (suc zero) h = omega arith
count_low (suc (suc zero)) h = omega arith
count_low (suc (suc (suc zero))) h = omega arith
count_low (suc (suc (suc (suc n)))) h = absurd (omega arith)

pub sub_count_low : (s : Shape) → IsShape s → sub_count s ≤ 64
sub_count_low s is = let high : s.log2 ≤ 5 = is.high in count_low (s.log2 - 2) (omega arith)

pub levels_are : (s : Shape) (number x y : ℕ) (levels tile : List ℤ) → x ≡ (place_at (sub_scan (shape_of s)) number).0 → y ≡ (place_at (sub_scan (shape_of s)) number).1
    → tile ≡ sub_tile (shape_of s) levels (x, y) → tile_levels s.scan tile 16 ≡ sub_levels (shape_of s) levels number
levels_are s number x y levels tile e f t =
    ap (λ l. tile_levels s.scan l 16) (t ∙ (ap (λ a. sub_tile (shape_of s) levels (a, y)) e ∙ ap (λ a. sub_tile (shape_of s) levels ((place_at (sub_scan (shape_of s)) number).0, a)) f))

pub part_as : (s : residual.Shape) (sub known : Sub) (coded ended : Bool) (levels other : List ℤ) → sub ≡ known → levels ≡ other → coded ≡ coded_at known.number levels →
    flag_part s sub coded ++ level_part s sub coded ended levels ≡ sub_part s known ended other
part_as s sub known coded ended levels other k l e =
    ap (λ (x : Sub). flag_part s x coded ++ level_part s x coded ended levels) k
    ∙ (ap (λ (c : Bool). flag_part s known c ++ level_part s known c ended levels) e
    ∙ ap (λ (m : List ℤ). flag_part s known (coded_at known.number m) ++ level_part s known (coded_at known.number m) ended m) l)

none_nonzero : (levels : List ℤ) → any_level levels ≡ false → nonzero levels ≡ []
none_nonzero [] h = refl
none_nonzero (pos zero ∷ levels) h = none_nonzero levels h
none_nonzero (pos (suc n) ∷ levels) h = absurd (cc)
none_nonzero (negsuc n ∷ levels) h = absurd (cc)

not_coded : (a b : Bool) → (a || b) ≡ false → b ≡ false
not_coded true b h = absurd (cc)
not_coded false b h = h

pub ended_is : (number : ℕ) (coded before after : Bool) (levels other : List ℤ) → coded ≡ coded_at number levels → levels ≡ other
    → after ≡ cond coded (ended_at_zero before (nonzero levels)) before → after ≡ ended_at_zero before (nonzero other)
unfolding cbf
ended_is number coded before after levels other e l h = go coded refl h ∙ ap (λ m. ended_at_zero before (nonzero m)) l
  where
    go : (c : Bool) → coded ≡ c → after ≡ cond coded (ended_at_zero before (nonzero levels)) before → after ≡ ended_at_zero before (nonzero levels)
    go true k f = f ∙ ap (λ b. cond b (ended_at_zero before (nonzero levels)) before) k
    go false k f =
        let none : any_level levels ≡ false = not_coded _ _ (sym e ∙ k) in
        f ∙ (ap (λ b. cond b (ended_at_zero before (nonzero levels)) before) k ∙ ap (ended_at_zero before) (sym (none_nonzero levels none)))

pub coded_from : (empty some : Bool) → empty ≡ not some → empty ≡ false → some ≡ true
coded_from empty true e h = refl
coded_from empty false e h = absurd (cc)

pub empty_from : (empty some : Bool) → empty ≡ not some → empty ≡ true → some ≡ false
empty_from empty true e h = absurd (cc)
empty_from empty false e h = refl
