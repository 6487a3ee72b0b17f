-- A block in rows, with the levels of one more sub-block.
use Rattle.std.proofs.Common.{◌≡◌, ◌≢◌, refl, sym, ◌∙◌, ap, ℕ, zero, suc, ◌+◌, ◌-◌, ◌*◌, ◌/◌, ◌%◌, ◌^◌, ◌<◌, ◌≤◌, Bool, true, false, List, [], ◌∷◌, ◌++◌, length, get_or, replicate, reverse, arith, pow-suc}
use Rattle.std.proofs.Math.Nat.{mul-le-mul_right}
use Rattle.std.proofs.Math.Seq.{get_or-append_seam}
use Rattle.std.proofs.lemmas.Bool.Decides.{nat_tests}
use Rattle.std.proofs.lemmas.Bool.{eqb-true}
use Rattle.std.proofs.lemmas.List.{length-replicate, get_or_past}
use Rattle.std.proofs.lemmas.Nat.{mod-mul-add, div-mul-add}
use Rattle.std.specs.Prelude.{◌==◌, ℤ, pos}
use Rattle.h265_model.specs.Bits.{u, value_after}
use Rattle.h265_model.specs.Residual as residual
use Rattle.h265_model.specs.Residual.{place_at, number_of, scan, sub_scan, side, in_rows, spread, zeros}
use Rattle.h265_model.proofs.ByteLaws.{u-value}
use Rattle.h265_model.proofs.Squares.{at_places, length_places, places_are, same_places}
use Rattle.bin_items.specs.Square.{area}
use Rattle.residual_read.specs.Parts.{laid}
use Rattle.scan_orders.proofs.ScanPlaces.{IsPlaced, placed, number_found, scan_long}
use Rattle.scan_orders.proofs.Backwards.{backwards}
use Rattle.residual_read.proofs.Laying.{inside}
use Rattle.residual_read.proofs.LaidLaws.{at_place, laid_long, laid_other, laid_here, AreApart}

-- a side of 8, 16 or 32
pub record IsWhole (s : residual.Shape) : Type 0 where
  pub low : 3 ≤ s.log2
  pub high : s.log2 ≤ 5

-- how many sub-blocks there are
abbrev pub many_subs : residual.Shape → ℕ
many_subs s = 4 ^ (s.log2 - 2)

pub subs_long : (s : residual.Shape) → IsWhole s → length (sub_scan s) ≡ many_subs s
subs_long s is = let l : 3 ≤ s.log2 = is.low in let h : s.log2 ≤ 5 = is.high in scan_long s.scan (s.log2 - 2) (omega arith) (omega arith)

-- the level at a place, of these sub-blocks, the one with the greatest number first
abbrev level_of : residual.Shape → List (List ℤ) → ℕ → ℕ → ℤ
level_of s subs x y = get_or (get_or subs (number_of (x / 4) (y / 4) (reverse (sub_scan s))) []) (number_of (x % 4) (y % 4) (reverse (scan s.scan 2))) (pos 0)

rows_at : (s : residual.Shape) (subs : List (List ℤ)) (x y : ℕ) → x < side s → y < side s → get_or (in_rows s subs) (y * side s + x) (pos 0) ≡ level_of s subs x y
unfolding in_rows
rows_at s subs x y wide tall = at_places (side s) (side s) x y (λ x y. level_of s subs x y) (pos 0) wide tall

rows_long : (s : residual.Shape) (subs : List (List ℤ)) → length (in_rows s subs) ≡ side s * side s
unfolding in_rows
rows_long s subs = length_places (side s) (side s) (λ x y. level_of s subs x y)

rows_are : (s : residual.Shape) (list : List ℤ) (subs : List (List ℤ)) → 0 < side s → length list ≡ side s * side s → ((x y : ℕ) → x < side s → y < side s → get_or list (y * side s + x) (pos 0) ≡ level_of s subs x y)
    → list ≡ in_rows s subs
unfolding in_rows
rows_are s list subs some long each = places_are (side s) (side s) list (λ x y. level_of s subs x y) (pos 0) some long each

same_rows : (s : residual.Shape) (a b : List (List ℤ)) → ((x y : ℕ) → level_of s a x y ≡ level_of s b x y) → in_rows s a ≡ in_rows s b
unfolding in_rows
same_rows s a b each = same_places (side s) (side s) (λ x y. level_of s a x y) (λ x y. level_of s b x y) (λ x y k m. each x y)

-- ---- numbers of places

some_side : (s : residual.Shape) → 0 < side s
some_side s = pow_pos s.log2
  where
    pow_pos : (n : ℕ) → 0 < 2 ^ n
    pow_pos zero = omega arith
    pow_pos (suc n) = let h = pow_pos n in let e = pow-suc 2 n in omega arith

pub quarter : (log2 x : ℕ) → 3 ≤ log2 → x < 2 ^ log2 → x / 4 < 2 ^ (log2 - 2)
quarter log2 x low h =
    let n : log2 ≡ suc (suc (log2 - 2)) = omega arith in
    let s : 2 ^ log2 ≡ 2 ^ (log2 - 2) * 2 * 2 = ap (λ j. 2 ^ j) n ∙ pow-suc 2 (suc (log2 - 2)) ∙ ap (λ j. j * 2) (pow-suc 2 (log2 - 2)) in
    omega arith

sub_backwards : (s : residual.Shape) (x y : ℕ) → IsWhole s → x < 2 ^ (s.log2 - 2) → y < 2 ^ (s.log2 - 2) → number_of x y (reverse (sub_scan s)) + number_of x y (sub_scan s) + 1 ≡ many_subs s
sub_backwards s x y is wide tall = let l : 3 ≤ s.log2 = is.low in let h : s.log2 ≤ 5 = is.high in backwards s.scan (s.log2 - 2) x y (omega arith) (omega arith) wide tall

inner_backwards : (kind x y : ℕ) → number_of (x % 4) (y % 4) (reverse (scan kind 2)) + number_of (x % 4) (y % 4) (scan kind 2) + 1 ≡ 16
inner_backwards kind x y = go (backwards kind 2 (x % 4) (y % 4) (omega arith) (omega arith) (low x) (low y))
  where
    low : (n : ℕ) → n % 4 < 2 ^ 2
    low n = low4 n
      where
        low4 : (n : ℕ) → n % 4 < 4
        low4 n = omega arith

    go : number_of (x % 4) (y % 4) (reverse (scan kind 2)) + number_of (x % 4) (y % 4) (scan kind 2) + 1 ≡ 4 ^ 2 → number_of (x % 4) (y % 4) (reverse (scan kind 2)) + number_of (x % 4) (y % 4) (scan kind 2) + 1 ≡ 16
    go h = h

-- a place by its row and column
one_place : (w x y a b : ℕ) → x < w → a < w → y * w + x ≡ b * w + a → (x ≡ a) × (y ≡ b)
one_place w x y a b h k e =
    (sym (mod-mul-add y w x h) ∙ ap (λ n. n % w) e ∙ mod-mul-add b w a k, sym (div-mul-add y w x h) ∙ ap (λ n. n / w) e ∙ div-mul-add b w a k)

in_square : (w x y : ℕ) → x < w → y < w → y * w + x < w * w
in_square w x y h k =
    let n : suc y ≤ w = omega arith in
    let m : suc y * w ≤ w * w = mul-le-mul_right w n in
    let e : suc y * w ≡ y * w + w = omega arith in
    omega arith

differ : (a b : ℕ) → (a == b) ≡ false → a ≢ b
differ a b h e = grind (arith, nat_tests)

-- ---- where the places of a sub-block are

record IsInner (s : residual.Shape) (number i : ℕ) : Type 0 where
  x : ℕ
  y : ℕ
  wide : x < side s
  tall : y < side s
  column : x / 4 ≡ (place_at (sub_scan s) number).0
  row : y / 4 ≡ (place_at (sub_scan s) number).1
  inner_column : x % 4 ≡ (place_at (scan s.scan 2) i).0
  inner_row : y % 4 ≡ (place_at (scan s.scan 2) i).1
  at : at_place s.scan s.log2 (place_at (sub_scan s) number) i ≡ y * side s + x

low_four : (n : ℕ) → n < 2 ^ 2 → n < 4
low_four n h = h

is_inner : (s : residual.Shape) (number i : ℕ) → IsWhole s → number < many_subs s → i < 16 → IsInner s number i
is_inner s number i is few small =
    let l : 3 ≤ s.log2 = is.low in
    let h : s.log2 ≤ 5 = is.high in
    let p : IsPlaced s.scan (s.log2 - 2) number = placed s.scan (s.log2 - 2) number (omega arith) (omega arith) few in
    let q : IsPlaced s.scan 2 i = placed s.scan 2 i (omega arith) (omega arith) small in
    let qx = low_four _ q.x in
    let qy = low_four _ q.y in
    record {
      x = 4 * (place_at (sub_scan s) number).0 + (place_at (scan s.scan 2) i).0;
      y = 4 * (place_at (sub_scan s) number).1 + (place_at (scan s.scan 2) i).1;
      wide = inside s.log2 _ _ l p.x qx;
      tall = inside s.log2 _ _ l p.y qy;
      column = omega arith;
      row = omega arith;
      inner_column = omega arith;
      inner_row = omega arith;
      at = refl;
    }

are_apart : (s : residual.Shape) (number long : ℕ) → IsWhole s → number < many_subs s → long ≡ side s * side s → AreApart s.scan s.log2 (place_at (sub_scan s) number) long
are_apart s number long is few e = record {
  inside = λ i small. let a = is_inner s number i is few small in rw (a.at, e) (in_square (side s) a.x a.y a.wide a.tall);
  apart = λ i k small less ne same. ne (one i k small less same);
}
  where
    one : (i k : ℕ) → i < 16 → k < 16 → at_place s.scan s.log2 (place_at (sub_scan s) number) i ≡ at_place s.scan s.log2 (place_at (sub_scan s) number) k → i ≡ k
    one i k small less same =
        let a = is_inner s number i is few small in
        let b = is_inner s number k is few less in
        let p = one_place (side s) a.x a.y b.x b.y a.wide b.wide (sym a.at ∙ same ∙ b.at) in
        let q : IsPlaced s.scan 2 i = placed s.scan 2 i (omega arith) (omega arith) small in
        let r : IsPlaced s.scan 2 k = placed s.scan 2 k (omega arith) (omega arith) less in
        sym q.number
        ∙ ap (λ n. number_of n (place_at (scan s.scan 2) i).1 (scan s.scan 2)) (sym a.inner_column ∙ ap (λ n. n % 4) p.0 ∙ b.inner_column)
        ∙ ap (λ n. number_of (place_at (scan s.scan 2) k).0 n (scan s.scan 2)) (sym a.inner_row ∙ ap (λ n. n % 4) p.1 ∙ b.inner_row)
        ∙ r.number

-- ---- lists of sub-blocks

all_zero : (n i : ℕ) → get_or (replicate n (pos 0)) i (pos 0) ≡ pos 0
all_zero zero i = refl
all_zero (suc n) zero = refl
all_zero (suc n) (suc i) = all_zero n i

listed_other : (subs : List (List ℤ)) (levels : List ℤ) (i : ℕ) → i ≢ length subs → get_or (subs ++ levels ∷ []) i [] ≡ get_or subs i []
listed_other [] levels zero ne = absurd (ne refl)
listed_other [] levels (suc i) ne = refl
listed_other (first ∷ subs) levels zero ne = refl
listed_other (first ∷ subs) levels (suc i) ne = listed_other subs levels i (λ e. ne (ap suc e))

listed_zeros : (subs : List (List ℤ)) (i k : ℕ) → get_or (get_or subs i []) k (pos 0) ≡ get_or (get_or (subs ++ zeros ∷ []) i []) k (pos 0)
listed_zeros [] zero k = sym (all_zero 16 k)
listed_zeros [] (suc i) k = refl
listed_zeros (first ∷ subs) zero k = refl
listed_zeros (first ∷ subs) (suc i) k = listed_zeros subs i k

none_listed : (n i k : ℕ) → get_or (get_or (replicate n zeros) i []) k (pos 0) ≡ pos 0
none_listed zero i k = refl
none_listed (suc n) zero k = all_zero 16 k
none_listed (suc n) (suc i) k = none_listed n i k

-- a sub-block of zeros more
pub zeros_more : (s : residual.Shape) (subs : List (List ℤ)) → in_rows s subs ≡ in_rows s (subs ++ zeros ∷ [])
zeros_more s subs = same_rows s subs (subs ++ zeros ∷ []) (λ x y. listed_zeros subs (number_of (x / 4) (y / 4) (reverse (sub_scan s))) (number_of (x % 4) (y % 4) (reverse (scan s.scan 2))))

-- a block of zeros
pub zero_rows : (s : residual.Shape) (n : ℕ) → replicate (area s.log2) (pos 0) ≡ in_rows s (replicate n zeros)
zero_rows s n = rows_are s (replicate (area s.log2) (pos 0)) (replicate n zeros) (some_side s) (length-replicate (area s.log2) (pos 0)) (λ x y wide tall.
    all_zero (area s.log2) (y * side s + x) ∙ sym (none_listed n (number_of (x / 4) (y / 4) (reverse (sub_scan s))) (number_of (x % 4) (y % 4) (reverse (scan s.scan 2)))))

-- ---- the levels of a sub-block, laid

-- the sub-block after these is still zeros
still_zeros : (s : residual.Shape) (number i : ℕ) (subs : List (List ℤ)) → IsWhole s → number < many_subs s → length subs + number + 1 ≡ many_subs s → i < 16
    → get_or (in_rows s subs) (at_place s.scan s.log2 (place_at (sub_scan s) number) i) (pos 0) ≡ pos 0
still_zeros s number i subs is few long small =
    let l : 3 ≤ s.log2 = is.low in
    let h : s.log2 ≤ 5 = is.high in
    let p : IsPlaced s.scan (s.log2 - 2) number = placed s.scan (s.log2 - 2) number (omega arith) (omega arith) few in
    let a = is_inner s number i is few small in
    let b = sub_backwards s (place_at (sub_scan s) number).0 (place_at (sub_scan s) number).1 is p.x p.y in
    let n = p.number in
    let past : length subs ≤ number_of (place_at (sub_scan s) number).0 (place_at (sub_scan s) number).1 (reverse (sub_scan s)) = omega arith in
    ap (λ k. get_or (in_rows s subs) k (pos 0)) a.at
    ∙ rows_at s subs a.x a.y a.wide a.tall
    ∙ ap (λ k. get_or (get_or subs (number_of k (a.y / 4) (reverse (sub_scan s))) []) (number_of (a.x % 4) (a.y % 4) (reverse (scan s.scan 2))) (pos 0)) a.column
    ∙ ap (λ k. get_or (get_or subs (number_of (place_at (sub_scan s) number).0 k (reverse (sub_scan s))) []) (number_of (a.x % 4) (a.y % 4) (reverse (scan s.scan 2))) (pos 0)) a.row
    ∙ ap (λ (k : List ℤ). get_or k (number_of (a.x % 4) (a.y % 4) (reverse (scan s.scan 2))) (pos 0)) (get_or_past subs (number_of (place_at (sub_scan s) number).0 (place_at (sub_scan s) number).1 (reverse (sub_scan s))) [] past)

pub laid_more : (s : residual.Shape) (number : ℕ) (flags : List Bool) (values : List ℤ) (subs : List (List ℤ)) → IsWhole s → number < many_subs s → length subs + number + 1 ≡ many_subs s → length flags ≡ 16
    → laid s.scan s.log2 (place_at (sub_scan s) number) (value_after 0 flags) values 0 16 (in_rows s subs) ≡ in_rows s (subs ++ spread flags values ∷ [])
laid_more s number flags values subs is few long sixteen =
    rows_are s (laid s.scan s.log2 at mask values 0 16 (in_rows s subs)) (subs ++ spread flags values ∷ []) (some_side s)
    (laid_long s.scan s.log2 at mask values 0 16 (in_rows s subs) ∙ rows_long s subs)
    (λ x y wide tall. go x y wide tall (number_of (x / 4) (y / 4) (sub_scan s) == number) refl)
  where
    at : ℕ × ℕ
    at = place_at (sub_scan s) number

    mask : ℕ
    mask = value_after 0 flags

    digits : u 16 (value_after 0 flags) ≡ flags
    digits = ap (λ n. u n (value_after 0 flags)) (sym sixteen) ∙ u-value 0 flags

    back : (x y : ℕ) → x < side s → y < side s → number_of (x / 4) (y / 4) (reverse (sub_scan s)) + number_of (x / 4) (y / 4) (sub_scan s) + 1 ≡ many_subs s
    back x y wide tall = let l : 3 ≤ s.log2 = is.low in sub_backwards s (x / 4) (y / 4) is (quarter s.log2 x l wide) (quarter s.log2 y l tall)

    here : (x y : ℕ) → x < side s → y < side s → number_of (x / 4) (y / 4) (sub_scan s) ≡ number
        → get_or (laid s.scan s.log2 (place_at (sub_scan s) number) (value_after 0 flags) values 0 16 (in_rows s subs)) (y * side s + x) (pos 0) ≡ level_of s (subs ++ spread flags values ∷ []) x y
    here x y wide tall e =
        let many : length (sub_scan s) ≡ many_subs s = subs_long s is in
        let found : place_at (sub_scan s) (number_of (x / 4) (y / 4) (sub_scan s)) ≡ (x / 4, y / 4) = number_found (x / 4) (y / 4) (sub_scan s) (omega arith) in
        let place : place_at (sub_scan s) number ≡ (x / 4, y / 4) = ap (place_at (sub_scan s)) (sym e) ∙ found in
        let i : ℕ = number_of (x % 4) (y % 4) (scan s.scan 2) in
        let ib : number_of (x % 4) (y % 4) (reverse (scan s.scan 2)) + number_of (x % 4) (y % 4) (scan s.scan 2) + 1 ≡ 16 = inner_backwards s.scan x y in
        let small : number_of (x % 4) (y % 4) (scan s.scan 2) < 16 = omega arith in
        let sixteen_places : length (scan s.scan 2) ≡ 16 = scan_long s.scan 2 (omega arith) (omega arith) in
        let inner : place_at (scan s.scan 2) (number_of (x % 4) (y % 4) (scan s.scan 2)) ≡ (x % 4, y % 4) = number_found (x % 4) (y % 4) (scan s.scan 2) (omega arith) in
        let cx : 4 * (x / 4) + x % 4 ≡ x = omega arith in
        let cy : 4 * (y / 4) + y % 4 ≡ y = omega arith in
        let stands : at_place s.scan s.log2 (place_at (sub_scan s) number) (number_of (x % 4) (y % 4) (scan s.scan 2)) ≡ y * side s + x =
        ap (λ (p : ℕ × ℕ). (4 * p.1 + (place_at (scan s.scan 2) (number_of (x % 4) (y % 4) (scan s.scan 2))).1) * side s + (4 * p.0 + (place_at (scan s.scan 2) (number_of (x % 4) (y % 4) (scan s.scan 2))).0)) place
        ∙ ap (λ (p : ℕ × ℕ). (4 * (y / 4) + p.1) * side s + (4 * (x / 4) + p.0)) inner
        ∙ ap (λ n. n * side s + (4 * (x / 4) + x % 4)) cy ∙ ap (λ n. y * side s + n) cx in
        let index : 16 - 1 - number_of (x % 4) (y % 4) (scan s.scan 2) ≡ number_of (x % 4) (y % 4) (reverse (scan s.scan 2)) = omega arith in
        let b = back x y wide tall in
        let first : length subs ≡ number_of (x / 4) (y / 4) (reverse (sub_scan s)) = omega arith in
        ap (λ n. get_or (laid s.scan s.log2 (place_at (sub_scan s) number) (value_after 0 flags) values 0 16 (in_rows s subs)) n (pos 0)) (sym stands)
        ∙ laid_here s.scan s.log2 (place_at (sub_scan s) number) (value_after 0 flags) values 16 (omega arith) 0 (number_of (x % 4) (y % 4) (scan s.scan 2)) (in_rows s subs) small
        (are_apart s number (length (in_rows s subs)) is few (rows_long s subs)) (λ m lt. still_zeros s number m subs is few long lt)
        ∙ ap (λ (l : List Bool). get_or (spread l values) (16 - 1 - number_of (x % 4) (y % 4) (scan s.scan 2)) (pos 0)) digits
        ∙ ap (λ n. get_or (spread flags values) n (pos 0)) index
        ∙ ap (λ (l : List ℤ). get_or l (number_of (x % 4) (y % 4) (reverse (scan s.scan 2))) (pos 0)) (sym (get_or-append_seam subs (spread flags values) [] []))
        ∙ ap (λ n. get_or (get_or (subs ++ spread flags values ∷ []) n []) (number_of (x % 4) (y % 4) (reverse (scan s.scan 2))) (pos 0)) first

    elsewhere : (x y : ℕ) → x < side s → y < side s → number_of (x / 4) (y / 4) (sub_scan s) ≢ number → (i : ℕ) → i < 16 → y * side s + x ≢ at_place s.scan s.log2 (place_at (sub_scan s) number) i
    elsewhere x y wide tall ne i small same =
        let l : 3 ≤ s.log2 = is.low in
        let h : s.log2 ≤ 5 = is.high in
        let q : IsPlaced s.scan (s.log2 - 2) number = placed s.scan (s.log2 - 2) number (omega arith) (omega arith) few in
        let a = is_inner s number i is few small in
        let p = one_place (side s) x y a.x a.y wide a.wide (same ∙ a.at) in
        ne (ap (λ n. number_of (n / 4) (y / 4) (sub_scan s)) p.0 ∙ ap (λ n. number_of n (y / 4) (sub_scan s)) a.column
        ∙ ap (λ n. number_of (place_at (sub_scan s) number).0 (n / 4) (sub_scan s)) p.1 ∙ ap (λ n. number_of (place_at (sub_scan s) number).0 n (sub_scan s)) a.row ∙ q.number)

    there : (x y : ℕ) → x < side s → y < side s → number_of (x / 4) (y / 4) (sub_scan s) ≢ number
        → get_or (laid s.scan s.log2 (place_at (sub_scan s) number) (value_after 0 flags) values 0 16 (in_rows s subs)) (y * side s + x) (pos 0) ≡ level_of s (subs ++ spread flags values ∷ []) x y
    there x y wide tall ne =
        let b = back x y wide tall in
        let ni : number_of (x / 4) (y / 4) (reverse (sub_scan s)) ≢ length subs = λ e. ne (omega arith) in
        laid_other s.scan s.log2 (place_at (sub_scan s) number) (value_after 0 flags) values 0 16 (y * side s + x) (in_rows s subs) (elsewhere x y wide tall ne)
        ∙ rows_at s subs x y wide tall
        ∙ ap (λ (l : List ℤ). get_or l (number_of (x % 4) (y % 4) (reverse (scan s.scan 2))) (pos 0)) (sym (listed_other subs (spread flags values) (number_of (x / 4) (y / 4) (reverse (sub_scan s))) ni))

    go : (x y : ℕ) → x < side s → y < side s → (b : Bool) → (number_of (x / 4) (y / 4) (sub_scan s) == number) ≡ b
        → get_or (laid s.scan s.log2 (place_at (sub_scan s) number) (value_after 0 flags) values 0 16 (in_rows s subs)) (y * side s + x) (pos 0) ≡ level_of s (subs ++ spread flags values ∷ []) x y
    go x y wide tall true e = here x y wide tall (eqb-true _ _ e)
    go x y wide tall false e = there x y wide tall (differ _ _ e)
