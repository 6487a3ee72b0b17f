-- The tiles of a job, and their samples.
use Rattle.std.proofs.Common.{◌≡◌, ℕ, zero, suc, ◌*◌, ◌^◌, ◌<◌, ◌≤◌, Bool, true, false, if◌then◌else◌, List, [], ◌∷◌, ◌++◌, length, map, get_or, slice_index_or, refl, sym, ap, ◌∙◌, arith}
use Rattle.std.proofs.lemmas.Nat.{mul-le}
use Rattle.std.proofs.lemmas.List.FromFn.{get_or-map-range_with_len}
use Rattle.std.specs.Prelude.{filter}
use Rattle.std.specs.List.{AllByRecursion}
use Rattle.recorder_model.specs.declared.line.Line.{Line}
use Rattle.h265_model.specs.Plain.{Size, ctus, below}
use Rattle.recorder_model.specs.Desk.{is_touched, touched_by}
use Rattle.h265_model.specs.Tiles.{tile_count}
use Rattle.desk_surface.specs.Damage.{raised}
use Rattle.desk_surface.proofs.RowsMore.{range-more}

filter-append : (p : ℕ → Bool) (xs ys : List ℕ) → filter p (xs ++ ys) ≡ filter p xs ++ filter p ys
filter-append p [] ys = refl
filter-append p (x ∷ xs) ys = go (p x) (filter-append p xs ys)
  where
    go : (b : Bool) → filter p (xs ++ ys) ≡ filter p xs ++ filter p ys → (if b then x ∷ filter p (xs ++ ys) else filter p (xs ++ ys)) ≡ (if b then x ∷ filter p xs else filter p xs) ++ filter p ys
    go true e = ap (λ (l : List ℕ). x ∷ l) e
    go false e = e

-- the tiles with raised flags are those that pass the test that the flags stand for
pub raised_is : (p : ℕ → Bool) (flags : List Bool) (n : ℕ) → ((t : ℕ) → t < n → get_or flags t false ≡ p t) → raised flags n ≡ filter p (below n)
raised_is p flags zero each = refl
raised_is p flags (suc n) each =
    ap (λ (l : List ℕ). l ++ (if get_or flags n false then n ∷ [] else [])) (raised_is p flags n (λ t less. each t (omega arith)))
    ∙ (ap (λ b. filter p (below n) ++ (if b then n ∷ [] else [])) (each n (omega arith))
    ∙ (sym (filter-append p (below n) (n ∷ [])) ∙ ap (filter p) (sym (range-more 0 n ∙ ap (λ (k : ℕ). below n ++ k ∷ []) (omega arith)))))

pub raised_touched : (size : Size) (flags : List Bool) (since : List Line) → flags ≡ map (is_touched size since) (below (tile_count size)) → raised flags (tile_count size) ≡ touched_by size since
unfolding touched_by
raised_touched size flags since is = raised_is (is_touched size since) flags (tile_count size)
    (λ t less. ap (λ l. get_or l t false) is ∙ get_or-map-range_with_len (is_touched size since) 0 (tile_count size) t t false less (omega arith))

-- each of them is below the count
raised_each : (flags : List Bool) (n m : ℕ) → n ≤ m → AllByRecursion (λ t. t < m) (raised flags n)
raised_each flags zero m le = tt
raised_each flags (suc n) m le = both (raised flags n) (raised_each flags n m (omega arith)) (get_or flags n false)
  where
    all_append : (xs ys : List ℕ) → AllByRecursion (λ t. t < m) xs → AllByRecursion (λ t. t < m) ys → AllByRecursion (λ t. t < m) (xs ++ ys)
    all_append [] ys a b = b
    all_append (x ∷ xs) ys a b = (a.0, all_append xs ys a.1 b)

    both : (xs : List ℕ) → AllByRecursion (λ t. t < m) xs → (b : Bool) → AllByRecursion (λ t. t < m) (xs ++ (if b then n ∷ [] else []))
    both xs a true = all_append xs (n ∷ []) a (omega arith, tt)
    both xs a false = all_append xs [] a tt

pub all_at : (m : ℕ) (xs : List ℕ) → AllByRecursion (λ t. t < m) xs → (k d : ℕ) → k < length xs → slice_index_or xs k d < m
all_at m [] a k d less = absurd (omega arith)
all_at m (x ∷ xs) a zero d less = a.0
all_at m (x ∷ xs) a (suc k) d less = all_at m xs a.1 k d (omega arith)

pub raised_below : (flags : List Bool) (n : ℕ) (k d : ℕ) → k < length (raised flags n) → slice_index_or (raised flags n) k d < n
raised_below flags n = all_at n (raised flags n) (raised_each flags n n (omega arith))

-- a desktop has few tiles
pub few_tiles : (size : Size) → size.w ≤ 4096 → size.h ≤ 4096 → tile_count size < 2 ^ 32
few_tiles size w h = let m : ctus size.w * ctus size.h ≤ 128 * 128 = mul-le (ctus size.w) (ctus size.h) 128 128 (omega arith) (omega arith) in omega arith
