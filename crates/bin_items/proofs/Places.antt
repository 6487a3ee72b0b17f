-- Places in a square block.
use Rattle.std.proofs.Common.{◌≡◌, refl, sym, ◌∙◌, ap, ℕ, zero, suc, ◌+◌, ◌-◌, ◌*◌, ◌%◌, ◌^◌, ◌<◌, ◌≤◌, arith, mod-eq_of_lt, List, ◌++◌, length, take, drop, get_or, set, replicate, length-take, ℤ, pos}
use Rattle.std.proofs.lemmas.List.{get_or-take, take-replicate, take-take, drop-take, drop-drop}
use Rattle.std.proofs.Math.Seq.{take-set-lt, take-append-add}
use borrow.Rule.Slice.PartMut.{put_mid, post_of}
use Rattle.h265_model.specs.Residual.{IsSide, eight, sixteen, thirty_two}
use Rattle.bin_items.specs.Square.{area, place, with_row}

pub side_of : (n : ℕ) → 3 ≤ n → n ≤ 5 → IsSide n
side_of zero h k = absurd (omega arith)
side_of (suc zero) h k = absurd (omega arith)
side_of (suc (suc zero)) h k = absurd (omega arith)
side_of (suc (suc (suc zero))) h k = eight
side_of (suc (suc (suc (suc zero)))) h k = sixteen
side_of (suc (suc (suc (suc (suc zero))))) h k = thirty_two
side_of (suc (suc (suc (suc (suc (suc n)))))) h k = absurd (omega arith)

inside : (log2 x y : ℕ) → IsSide log2 → x < 2 ^ log2 → y < 2 ^ log2 → place log2 x y < area log2
inside log2 x y eight h k = omega arith
inside log2 x y sixteen h k = omega arith
inside log2 x y thirty_two h k = omega arith

small : (log2 : ℕ) → IsSide log2 → area log2 ≤ 1024
small log2 eight = omega arith
small log2 sixteen = omega arith
small log2 thirty_two = omega arith

shifted : (log2 y : ℕ) → IsSide log2 → y < 2 ^ log2 → y * 2 ^ log2 % 2 ^ 32 ≡ y * 2 ^ log2
shifted log2 y eight h = mod-eq_of_lt (omega arith)
shifted log2 y sixteen h = mod-eq_of_lt (omega arith)
shifted log2 y thirty_two h = mod-eq_of_lt (omega arith)

-- where the code finds a place
pub record Found (log2 x y index : ℕ) : Type 0 where
  pub is_place : index ≡ place log2 x y
  pub within : place log2 x y < area log2
  pub small : area log2 ≤ 1024

pub found : (log2 x y : ℕ) → 3 ≤ log2 → log2 ≤ 5 → x < 2 ^ log2 → y < 2 ^ log2 → Found log2 x y (y * 2 ^ log2 % 2 ^ 32 + x)
found log2 x y low high h k = let side = side_of log2 low high in record {
  is_place = ap (λ n. n + x) (shifted log2 y side k);
  within = inside log2 x y side h k;
  small = small log2 side;
}

many : (log2 : ℕ) → IsSide log2 → 1 * 2 ^ (2 * log2) % 2 ^ 64 ≡ area log2
many log2 eight = refl
many log2 sixteen = refl
many log2 thirty_two = refl

pub record Whole (log2 count : ℕ) : Type 0 where
  pub is_area : count ≡ area log2
  pub small : count ≤ 1024

pub whole : (log2 : ℕ) → 3 ≤ log2 → log2 ≤ 5 → Whole log2 (1 * 2 ^ (2 * log2) % 2 ^ 64)
whole log2 low high = let side = side_of log2 low high in let e = many log2 side in record { is_area = e; small = rw e (small log2 side) }

-- ---- what stands there

pub level : (log2 x y index : ℕ) (values levels : List ℤ) → Found log2 x y index → take (area log2) values ≡ levels →
    get_or values index (pos 0) ≡ get_or levels (place log2 x y) (pos 0)
level log2 x y index values levels f e =
    rw (f.is_place, ← e) (sym (get_or-take (area log2) values (place log2 x y) (pos 0) f.within))

pub put : (log2 x y index : ℕ) (values levels : List ℤ) (v : ℤ) → Found log2 x y index → take (area log2) values ≡ levels →
    take (area log2) (set values index v) ≡ set levels (place log2 x y) v
put log2 x y index values levels v f e =
    rw (f.is_place, ← e) (take-set-lt (area log2) values (place log2 x y) v f.within)

pub zeros : (log2 : ℕ) → 3 ≤ log2 → log2 ≤ 5 → take (area log2) (replicate 1024 (pos 0)) ≡ replicate (area log2) (pos 0)
zeros log2 low high = take-replicate (area log2) 1024 (pos 0) (small log2 (side_of log2 low high))

pub all : (log2 : ℕ) (values : List ℤ) → 3 ≤ log2 → log2 ≤ 5 → length values ≡ 1024 → length (take (area log2) values) ≡ area log2
all log2 values low high e = let h = small log2 (side_of log2 low high) in omega (arith, length-take (area log2) values)

-- ---- rows

pub record Row (log2 y at side : ℕ) : Type 0 where
  pub begins : at ≡ place log2 0 y
  pub ends : at + side ≡ place log2 0 (y + 1)
  pub within : at + side ≤ area log2
  pub small : area log2 ≤ 1024

row_ends : (log2 y : ℕ) → IsSide log2 → y < 2 ^ log2 → (y * 2 ^ log2 + 2 ^ log2 ≡ place log2 0 (y + 1)) × (y * 2 ^ log2 + 2 ^ log2 ≤ area log2)
row_ends log2 y eight h = (omega arith, omega arith)
row_ends log2 y sixteen h = (omega arith, omega arith)
row_ends log2 y thirty_two h = (omega arith, omega arith)

pub row_at : (log2 y side : ℕ) → 3 ≤ log2 → log2 ≤ 5 → y < 2 ^ log2 → side ≡ 2 ^ log2 → Row log2 y (y * 2 ^ log2 % 2 ^ 32) side
row_at log2 y side low high h e =
    let s = side_of log2 low high in
    let r = row_ends log2 y s h in
    let f = shifted log2 y s h in
    rw (e, f) (record { begins = omega arith; ends = r.0; within = r.1; small = small log2 s })

split : (n b : ℕ) → b ≤ n → n ≡ b + (n - b)
split n b h = omega arith

front : (n a : ℕ) (xs : List ℤ) → a ≤ n → take a (take n xs) ≡ take a xs
front n a xs h = take-take a n xs h

pub put_row : (log2 y at side : ℕ) (values levels row : List ℤ) → Row log2 y at side → length values ≡ 1024 → length row ≡ side → take (area log2) values ≡ levels →
    take (area log2) (put_mid at side values row) ≡ with_row log2 y row levels
put_row log2 y at side values levels row r long same e =
    let n = area log2 in
    let w = r.within in
    let s = r.small in
    let left : n ≡ length (take at values) + (side + (n - (at + side))) = omega (arith, length-take at values) in
    let right : side + (n - (at + side)) ≡ length row + (n - (at + side)) = omega arith in
    let rest : drop (at + side) (take n values) ≡ take (n - (at + side)) (drop (at + side) values) =
    ap (λ m. drop (at + side) (take m values)) (split n (at + side) w) ∙ drop-take (at + side) (n - (at + side)) values in
    let behind : post_of at side values ≡ drop (at + side) values = drop-drop side at values in
    ap (λ l. take n (take at values ++ (row ++ l))) behind
    ∙ ap (λ m. take m (take at values ++ (row ++ drop (at + side) values))) left
    ∙ take-append-add (take at values) (row ++ drop (at + side) values) (side + (n - (at + side)))
    ∙ ap (λ m. take at values ++ take m (row ++ drop (at + side) values)) right
    ∙ ap (λ l. take at values ++ l) (take-append-add row (drop (at + side) values) (n - (at + side)))
    ∙ ap (λ l. take at values ++ (row ++ l)) (sym rest)
    ∙ ap (λ l. l ++ (row ++ drop (at + side) (take n values))) (sym (front n at values (omega arith)))
    ∙ ap (λ l. take at l ++ (row ++ drop (at + side) l)) e ∙ ap (λ m. take m levels ++ (row ++ drop (at + side) levels)) r.begins ∙ ap (λ m. take (place log2 0 y) levels ++ (row ++ drop m levels)) r.ends
