-- Where a block begins to be read.
use Rattle.std.proofs.Common.{◌≡◌, refl, sym, ◌∙◌, ap, subst, ℕ, zero, suc, ◌+◌, ◌-◌, ◌*◌, ◌/◌, ◌%◌, ◌^◌, ◌<◌, ◌≤◌, Bool, true, false, Some, None, Option, List, [], ◌∷◌, get_or, replicate, pow_mono, arith}
use Rattle.std.specs.Prelude.{ℤ, pos}
use Rattle.h265_model.specs.Bits.{◌>>=◌ as and_then}
use Rattle.h265_model.specs.Engine.{Engine}
use Rattle.h265_model.specs.Residual as residual
use Rattle.h265_model.specs.Residual.{Sub, place_at, number_of, scan, sub_scan, sub_at, residual_from, residual_read, last_read}
use Rattle.bin_items.specs.Square.{area}
use Rattle.residual_read.specs.declared.shape.Shape.{Shape}
use Rattle.residual_read.specs.declared.shape.SubBlock.{SubBlock}
use Rattle.residual_read.specs.Parts.{IsShape, shape_of, sub_of, sub_count, sub_with, subs_with, Gives}
use Rattle.residual_read.specs.Whole.{numbers_of}
use Rattle.scan_orders.proofs.Backwards.{there}
use Rattle.residual_read.proofs.Tables.{number_at}
use Rattle.residual_read.proofs.RowLaws.{IsWhole, quarter}
use Rattle.residual_read.proofs.WholeLaws.{from_is, later_then}
use Rattle.residual_read.proofs.Steps.{then_some, then_none}

record IsIndex (n x y : ℕ) : Type 0 where
  same : y * 2 ^ n % 4294967296 + x ≡ y * 2 ^ n + x
  below : y * 2 ^ n % 4294967296 + x < 4 ^ n

is_index : (n x y : ℕ) → n ≤ 3 → x < 2 ^ n → y < 2 ^ n → IsIndex n x y
is_index zero x y h a b = record { same = omega arith; below = omega arith }
is_index (suc zero) x y h a b = record { same = omega arith; below = omega arith }
is_index (suc (suc zero)) x y h a b = record { same = omega arith; below = omega arith }
is_index (suc (suc (suc zero))) x y h a b = record { same = omega arith; below = omega arith }
is_index (suc (suc (suc (suc n)))) x y h a b = absurd (omega arith)

-- the number of the sub-block of a place, and that of the place in it
pub record IsStart (s : Shape) (place : ℕ × ℕ) (number top : ℕ) : Type 0 where
  pub at : number ≡ number_of (place.0 / 4) (place.1 / 4) (sub_scan (shape_of s))
  pub few : number < sub_count s
  pub inner : top ≡ number_of (place.0 % 4) (place.1 % 4) (scan s.scan 2)
  pub low : top ≤ 15

pub index_below : (s : Shape) (place : ℕ × ℕ) → IsShape s → place.0 < 2 ^ s.log2 → place.1 < 2 ^ s.log2 → place.1 / 4 * 2 ^ (s.log2 - 2) % 4294967296 + place.0 / 4 < 4 ^ (s.log2 - 2)
index_below s place is wide tall =
    let l : 3 ≤ s.log2 = is.low in
    let h : s.log2 ≤ 5 = is.high in
    (is_index (s.log2 - 2) (place.0 / 4) (place.1 / 4) (omega arith) (quarter s.log2 place.0 l wide) (quarter s.log2 place.1 l tall)).below

low_place : (n : ℕ) → n % 4 < 2 ^ 2
low_place n = go n
  where
    go : (n : ℕ) → n % 4 < 4
    go n = omega arith

pub is_start : (s : Shape) (place : ℕ × ℕ) (a b : List ℕ) (number top : ℕ) → IsShape s → place.0 < 2 ^ s.log2 → place.1 < 2 ^ s.log2 → a ≡ numbers_of s.scan (s.log2 - 2)
    → number ≡ get_or a (place.1 / 4 * 2 ^ (s.log2 - 2) % 4294967296 + place.0 / 4) 0 → b ≡ numbers_of s.scan 2 → top ≡ get_or b (4 * (place.1 % 4) + place.0 % 4) 0 → IsStart s place number top
is_start s place a b number top is wide tall ae ne be te =
    let l : 3 ≤ s.log2 = is.low in
    let h : s.log2 ≤ 5 = is.high in
    let x = quarter s.log2 place.0 l wide in
    let y = quarter s.log2 place.1 l tall in
    let i : IsIndex (s.log2 - 2) (place.0 / 4) (place.1 / 4) = is_index (s.log2 - 2) (place.0 / 4) (place.1 / 4) (omega arith) x y in
    let n : number ≡ number_of (place.0 / 4) (place.1 / 4) (sub_scan (shape_of s)) =
    ne ∙ ap (λ (t : List ℕ). get_or t (place.1 / 4 * 2 ^ (s.log2 - 2) % 4294967296 + place.0 / 4) 0) ae
    ∙ ap (λ k. get_or (numbers_of s.scan (s.log2 - 2)) k 0) i.same ∙ number_at s.scan (s.log2 - 2) (place.0 / 4) (place.1 / 4) (omega arith) (omega arith) x y in
    let j : 4 * (place.1 % 4) + place.0 % 4 ≡ place.1 % 4 * 2 ^ 2 + place.0 % 4 = four (place.1 % 4) (place.0 % 4) in
    let t : top ≡ number_of (place.0 % 4) (place.1 % 4) (scan s.scan 2) =
    te ∙ ap (λ (t : List ℕ). get_or t (4 * (place.1 % 4) + place.0 % 4) 0) be
    ∙ ap (λ k. get_or (numbers_of s.scan 2) k 0) j ∙ number_at s.scan 2 (place.0 % 4) (place.1 % 4) (omega arith) (omega arith) (low_place place.0) (low_place place.1) in
    let f : number_of (place.0 / 4) (place.1 / 4) (sub_scan (shape_of s)) < 4 ^ (s.log2 - 2) = there s.scan (s.log2 - 2) (place.0 / 4) (place.1 / 4) (omega arith) (omega arith) x y in
    let g : number_of (place.0 % 4) (place.1 % 4) (scan s.scan 2) < 16 = there s.scan 2 (place.0 % 4) (place.1 % 4) (omega arith) (omega arith) (low_place place.0) (low_place place.1) in
    record { at = n; few = rw n f; inner = t; low = omega arith }
  where
    four : (a b : ℕ) → 4 * a + b ≡ a * 4 + b
    four a b = omega arith

pub room : (top : ℕ) → top ≤ 15 → 2 * 2 ^ top ≤ 65536
room top h = low (pow_mono {i = top} {j = 15} h)
  where
    low : 2 ^ top ≤ 2 ^ 15 → 2 * 2 ^ top ≤ 65536
    low k = let m : 2 ^ top ≤ 32768 = k in omega arith

is_whole : (s : Shape) → IsShape s → IsWhole (shape_of s)
is_whole s is = record { low = is.low; high = is.high }

-- the last sub-block as it was read
pub record IsLast (s : Shape) (place : ℕ × ℕ) (b : SubBlock) (number top : ℕ) (levels : List ℤ) : Type 0 where
  pub start : IsStart s place number top
  pub sub : sub_of b ≡ sub_at (shape_of s) number []
  pub x : b.x ≡ (place_at (sub_scan (shape_of s)) number).0
  pub y : b.y ≡ (place_at (sub_scan (shape_of s)) number).1
  pub zeros : levels ≡ replicate (area s.log2) (pos 0)

moved : (s : residual.Shape) (b sub : Sub) (x y : ℕ) (p : ℕ × ℕ) (k : ℕ) (levels zeros : List ℤ) (e : Engine) → sub ≡ b → x ≡ p.0 → y ≡ p.1 → levels ≡ zeros
    → sub_with s b p false false 1 k zeros e ≡ sub_with s sub (x, y) false false 1 k levels e
moved s b sub x y p k levels zeros e is ex ey z =
    let q : (x, y) ≡ p = ap (λ (a : ℕ). (a, y)) ex ∙ ap (λ (c : ℕ). (p.0, c)) ey in
    ap (λ (r : ℕ × ℕ). sub_with s b r false false 1 k zeros e) (sym q) ∙ ap (λ (t : Sub). sub_with s t (x, y) false false 1 k zeros e) (sym is) ∙ ap (λ (l : List ℤ). sub_with s sub (x, y) false false 1 k l e) (sym z)

from_sub : (s : Shape) (place : ℕ × ℕ) (b : SubBlock) (number top : ℕ) (levels : List ℤ) (e : Engine) → IsShape s → IsLast s place b number top levels
    → residual_from (shape_of s) place e ≡ and_then (sub_with (shape_of s) (sub_of b) (b.x, b.y) false false 1 top levels e) (later_then (shape_of s) number)
from_sub s place b number top levels e is last =
    sym (from_is (shape_of s) place number top e (is_whole s is) last.start.at last.start.few last.start.inner last.start.low)
    ∙ ap (λ o. and_then o (later_then (shape_of s) number))
    (moved (shape_of s) (sub_at (shape_of s) number []) (sub_of b) b.x b.y (place_at (sub_scan (shape_of s)) number) top levels (replicate (area s.log2) (pos 0)) e last.sub last.x last.y last.zeros)

pub from_none : (s : Shape) (place : ℕ × ℕ) (b : SubBlock) (number top : ℕ) (levels : List ℤ) (e : Engine) → IsShape s → IsLast s place b number top levels
    → sub_with (shape_of s) (sub_of b) (b.x, b.y) false false 1 top levels e ≡ None → residual_from (shape_of s) place e ≡ None
from_none s place b number top levels e is last h = from_sub s place b number top levels e is last ∙ then_none _ (later_then (shape_of s) number) h

pub from_all : (s : Shape) (place : ℕ × ℕ) (b : SubBlock) (number top : ℕ) (levels levels' out : List ℤ) (ended : Bool) (e d f : Engine) (result : Option (Unit {0})) → IsShape s → IsLast s place b number top levels
    → sub_with (shape_of s) (sub_of b) (b.x, b.y) false false 1 top levels e ≡ Some ((ended, levels'), d) → Gives result out (subs_with (shape_of s) (true ∷ []) ended number levels' d) f
    → Gives result out (residual_from (shape_of s) place e) f
from_all s place b number top levels levels' out ended e d f result is last h given =
    let same : residual_from (shape_of s) place e ≡ subs_with (shape_of s) (true ∷ []) ended number levels' d =
    from_sub s place b number top levels e is last ∙ then_some _ ((ended, levels'), d) (later_then (shape_of s) number) h in
    subst (λ (r : Option (List ℤ × Engine)). Gives result out r f) (sym same) given

-- ---- the whole block

whole_open : (s : residual.Shape) (e : Engine) → residual_read s e ≡ and_then (last_read s e) (λ found. residual_from s found.0 found.1)
unfolding residual_read
whole_open s e = refl

pub whole_none : (s : residual.Shape) (e : Engine) → last_read s e ≡ None → residual_read s e ≡ None
whole_none s e h = whole_open s e ∙ then_none _ (λ found. residual_from s found.0 found.1) h

pub whole_is : (s : residual.Shape) (place : ℕ × ℕ) (out : List ℤ) (e d f : Engine) (result : Option (Unit {0})) → last_read s e ≡ Some (place, d) → Gives result out (residual_from s place d) f → Gives result out (residual_read s e) f
whole_is s place out e d f result h given =
    let same : residual_read s e ≡ residual_from s place d = whole_open s e ∙ then_some _ (place, d) (λ found. residual_from s found.0 found.1) h in
    subst (λ (r : Option (List ℤ × Engine)). Gives result out r f) (sym same) given
