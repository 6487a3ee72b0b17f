-- Tiles: where they lie, which sample stands where, and what a job leaves.
use Rattle.std.proofs.Common.{◌≡◌, refl, sym, ◌∙◌, ap, ℕ, zero, suc, ◌+◌, ◌*◌, ◌-◌, ◌/◌, ◌%◌, ◌<◌, ◌≤◌, Bool, true, false, cond, eqb, min, List, [], ◌∷◌, ◌++◌, length, take, drop, get_or, length-append, get_or-append-add, inl, inr, ◌⊎◌, arith, mod-lt, le_refl}
use Rattle.std.specs.List.{flat_map}
use Rattle.std.proofs.lemmas.List.{get_or_append_left, get_or_default, get_or-take, get_or-drop}
use Rattle.std.proofs.lemmas.List.FromFn.{get_or-range_with_len}
use Rattle.std.proofs.lemmas.Bool.{eqb-true, eqb-false, eq-eqb, ne_eqb, cases_eq}
use Rattle.std.proofs.lemmas.Bool.Decides.{nat_tests}
use Rattle.std.proofs.lemmas.Nat.{div-add-mod', div_below, div-mul-add, mod-mul-add}
use Rattle.h265_model.specs.declared.job.Job.{Job}
use Rattle.h265_model.specs.Plain.{Size, Picture, coded, ctus, ctu_x, ctu_y, place_values, below}
use Rattle.h265_model.specs.Raster.{Raster, coded_picture}
use Rattle.h265_model.specs.Tiles.{tile_count, tile_samples, job_for}
use Rattle.px_plane.specs.declared.plane.Sides.{Sides}
use Rattle.px_plane.specs.Planes.{Planes, picture_of, IsPicture, Stores, Shows}
use Rattle.px_plane.specs.Rows.{IsPutInto, is_in, sample_at}
use Rattle.px_plane.specs.Tiles.{tile_of, in_tile, laid_first, laid, DiffersOnlyIn, IsTilePart, IsTileLaid}
use Rattle.h265_model.proofs.Squares.{length_places, at_places}
use Rattle.px_plane.proofs.Shown.{planes_from_stores}

-- ---- where a tile lies

-- the part of a tile has exactly the places of the tile
part_has : (part : Sides) (wide high tiles m q x y : ℕ)
    → part.left ≡ m * 32 → part.top ≡ q * 32 → part.right ≡ min (m * 32 + 32) wide → part.bottom ≡ min (q * 32 + 32) high
    → x < wide → y < high → m < tiles → x / 32 < tiles → is_in part x y ≡ eqb (q * tiles + m) (y / 32 * tiles + x / 32)
part_has part wide high tiles m q x y l t r b hx hy hm ht =
    elim (cases_eq m (x / 32)) [
      | inr other ↦ out (grind (arith, nat_tests)) (λ e. other (sym (mod-mul-add q tiles m hm) ∙ (ap (λ (n : ℕ). n % tiles) e ∙ mod-mul-add (y / 32) tiles (x / 32) ht)))
      | inl column ↦ elim (cases_eq q (y / 32)) [
        | inr other ↦ out (grind (arith, nat_tests)) (λ e. other (sym (div-mul-add q tiles m hm) ∙ (ap (λ (n : ℕ). n / tiles) e ∙ div-mul-add (y / 32) tiles (x / 32) ht)))
        | inl row ↦ let inside : is_in part x y ≡ true = grind (arith, nat_tests) in
            inside ∙ sym (eq-eqb (q * tiles + m) (y / 32 * tiles + x / 32) (ap (λ (n : ℕ). n * tiles + m) row ∙ ap (λ (n : ℕ). y / 32 * tiles + n) column))
      ]
    ]
  where
    out : is_in part x y ≡ false → (q * tiles + m ≡ y / 32 * tiles + x / 32 → ⊥) → is_in part x y ≡ eqb (q * tiles + m) (y / 32 * tiles + x / 32)
    out a b = a ∙ sym (ne_eqb (q * tiles + m) (y / 32 * tiles + x / 32) b)

positive : (a b t : ℕ) → t < a * b → 0 < a
positive zero b t h = absurd (omega arith)
positive (suc a) b t h = omega arith

pub tile_part_is : (size : Size) (tile : ℕ) (part : Sides) → tile < tile_count size
    → part.left ≡ ctu_x size tile → part.top ≡ ctu_y size tile → part.right ≡ min (part.left + 32) (coded size.w) → part.bottom ≡ min (part.top + 32) (coded size.h)
    → IsTilePart size tile part
tile_part_is size tile part within l t r b =
    let tiles : ℕ = ctus size.w in
    let some : 0 < tiles = positive tiles (ctus size.h) tile within in
    let m : ℕ = tile % tiles in
    let q : ℕ = tile / tiles in
    let hm : m < tiles = mod-lt tile some in
    let hq : q < ctus size.h = div_below tile tiles (ctus size.h) some (let turned : tiles * ctus size.h ≡ ctus size.h * tiles = omega arith in omega arith) in
    let whole : q * tiles + m ≡ tile = div-add-mod' tile tiles in
    record {
      within = record { across = omega arith; wide = omega arith; down = omega arith; tall = omega arith };
      left = l;
      right = omega arith;
      top = t;
      bottom = omega arith;
      has = λ x y hx hy.
          part_has part (coded size.w) (coded size.h) tiles m q x y l t (omega arith) (omega arith) hx hy hm (omega arith)
          ∙ ap (λ (n : ℕ). eqb n (tile_of size x y)) whole;
    }

-- ---- one tile

-- a place of the part, as its place in the tile
sample_is : (part : Sides) (samples : List ℕ) (m q c x y : ℕ) → part.left ≡ m * 32 → part.top ≡ q * 32 → part.right ≤ part.left + 32 → part.bottom ≤ part.top + 32
    → is_in part x y ≡ true → sample_at part samples c x y ≡ get_or samples (in_tile c x y) 0
sample_is part samples m q c x y l t r b inside =
    let a : (part.left ≤ x) × (x < part.right) × (part.top ≤ y) × (y < part.bottom) = (grind (arith, nat_tests), grind (arith, nat_tests), grind (arith, nat_tests), grind (arith, nat_tests)) in
    let column : x - part.left ≡ x % 32 = omega arith in
    let row : y - part.top ≡ y % 32 = omega arith in
    ap (λ (i : ℕ). get_or samples i 0) (rw (column, row))

pub tile_laid : (old new : Planes) (tile : ℕ) (part : Sides) (samples : List ℕ)
    → IsTilePart old.size tile part → IsPutInto old new part (sample_at part samples) → IsTileLaid old new tile samples
tile_laid old new tile part samples is put = record {
  size = put.size;
  whole = put.whole;
  each = λ c x y h hx hy. put.each c x y h hx hy ∙ go c x y (is_in part x y) refl (is.has x y hx hy);
}
  where
    go : (c x y : ℕ) (b : Bool) → is_in part x y ≡ b → is_in part x y ≡ eqb tile (tile_of old.size x y)
        → cond (is_in part x y) (sample_at part samples c x y) (picture_of old c x y)
        ≡ cond (eqb tile (tile_of old.size x y)) (get_or samples (in_tile c x y) 0) (picture_of old c x y)
    go c x y true e same =
        rw (← same, e) (sample_is part samples (tile % ctus old.size.w) (tile / ctus old.size.w) c x y is.left is.top is.right is.bottom e)
    go c x y false e same = rw (← same, e)

-- ---- a list of tiles

abbrev AreLaid : Planes → Planes → Job → ℕ → Type 0
AreLaid old new job n = (c x y : ℕ) → c < 3 → x < coded old.size.w → y < coded old.size.h → picture_of new c x y ≡ laid_first old job n c x y

-- one more tile of a job is laid
pub tiles_laid_more : (old was new : Planes) (job : Job) (n : ℕ) → was.size ≡ old.size → AreLaid old was job n
    → IsTileLaid was new (get_or job.tiles n 0) (take 3072 (drop (n * 3072) job.samples)) → AreLaid old new job (suc n)
tiles_laid_more old was new job n same known step = λ c x y h hx hy.
    let small : in_tile c x y < 3072 = omega arith in
    let read : get_or (take 3072 (drop (n * 3072) job.samples)) (in_tile c x y) 0 ≡ get_or job.samples (n * 3072 + in_tile c x y) 0 =
    get_or-take 3072 (drop (n * 3072) job.samples) (in_tile c x y) 0 small ∙ get_or-drop (n * 3072) job.samples (in_tile c x y) 0 in
    step.each c x y h (rw same hx) (rw same hy)
    ∙ (ap (λ (size : Size). cond (eqb (get_or job.tiles n 0) (tile_of size x y)) (get_or (take 3072 (drop (n * 3072) job.samples)) (in_tile c x y) 0) (picture_of was c x y)) same
    ∙ (ap (λ (s : ℕ). cond (eqb (get_or job.tiles n 0) (tile_of old.size x y)) s (picture_of was c x y)) read
    ∙ ap (λ (s : ℕ). cond (eqb (get_or job.tiles n 0) (tile_of old.size x y)) (get_or job.samples (n * 3072 + in_tile c x y) 0) s) (known c x y h hx hy)))

-- ---- the samples of a job

module _ {A B : Type 0} where
  -- parts of one length, one after another
  length_parts : (f : A → List B) (n : ℕ) → ((a : A) → length (f a) ≡ n) → (xs : List A) → length (flat_map f xs) ≡ length xs * n
  length_parts f n long [] = omega arith
  length_parts f n long (x ∷ xs) =
      length-append (f x) (flat_map f xs) ∙ (let one = long x in let rest = length_parts f n long xs in omega arith)

  at_part : (f : A → List B) (n : ℕ) → ((a : A) → length (f a) ≡ n) → (xs : List A) (i j : ℕ) (e : A) (d : B) → i < length xs → j < n
      → get_or (flat_map f xs) (i * n + j) d ≡ get_or (f (get_or xs i e)) j d
  at_part f n long [] i j e d hi hj = absurd (omega arith)
  at_part f n long (x ∷ xs) zero j e d hi hj =
      let first : 0 * n + j ≡ j = omega arith in
      ap (λ (k : ℕ). get_or (f x ++ flat_map f xs) k d) first ∙ get_or_append_left (f x) (flat_map f xs) d j (let one = long x in omega arith)
  at_part f n long (x ∷ xs) (suc i) j e d hi hj =
      let next : suc i * n + j ≡ length (f x) + (i * n + j) = let one = long x in omega arith in
      ap (λ (k : ℕ). get_or (f x ++ flat_map f xs) k d) next
      ∙ (get_or-append-add (f x) (flat_map f xs) (i * n + j) d ∙ at_part f n long xs i j e d (omega arith) hj)

-- the samples of one component of a tile
abbrev component_samples : Size → Picture → ℕ → ℕ → List ℕ
component_samples size p t c = place_values 32 32 (λ x y. p c (ctu_x size t + x) (ctu_y size t + y))

component_long : (size : Size) (p : Picture) (t c : ℕ) → length (component_samples size p t c) ≡ 1024
component_long size p t c = length_places 32 32 (λ x y. p c (ctu_x size t + x) (ctu_y size t + y))

tile_long : (size : Size) (p : Picture) (t : ℕ) → length (tile_samples size p t) ≡ 3072
tile_long size p t = length_parts (component_samples size p t) 1024 (component_long size p t) (below 3)

tile_sample_at : (size : Size) (p : Picture) (t c i j : ℕ) → c < 3 → i < 32 → j < 32
    → get_or (tile_samples size p t) (c * 1024 + (j * 32 + i)) 0 ≡ p c (ctu_x size t + i) (ctu_y size t + j)
tile_sample_at size p t c i j h hi hj =
    at_part (component_samples size p t) 1024 (component_long size p t) (below 3) c (j * 32 + i) 0 0 h (omega arith)
    ∙ (ap (λ (n : ℕ). get_or (component_samples size p t n) (j * 32 + i) 0) (get_or-range_with_len 0 3 c 0 h ∙ (let e : 0 + c ≡ c = omega arith in e))
    ∙ at_places 32 32 i j (λ x y. p c (ctu_x size t + x) (ctu_y size t + y)) 0 hi hj)

-- the sample that a job has of a place in a listed tile
job_sample_at : (size : Size) (p : Picture) (tiles : List ℕ) (n c x y : ℕ) → n < length tiles → get_or tiles n 0 ≡ tile_of size x y → c < 3 → x < coded size.w
    → get_or (flat_map (tile_samples size p) tiles) (n * 3072 + in_tile c x y) 0 ≡ p c x y
job_sample_at size p tiles n c x y hn same h hx =
    let column : x / 32 < ctus size.w = omega arith in
    let left : ctu_x size (tile_of size x y) + x % 32 ≡ x = let m : tile_of size x y % ctus size.w ≡ x / 32 = mod-mul-add (y / 32) (ctus size.w) (x / 32) column in omega arith in
    let top : ctu_y size (tile_of size x y) + y % 32 ≡ y = let q : tile_of size x y / ctus size.w ≡ y / 32 = div-mul-add (y / 32) (ctus size.w) (x / 32) column in omega arith in
    at_part (tile_samples size p) 3072 (tile_long size p) tiles n (in_tile c x y) 0 0 hn (omega arith)
    ∙ (ap (λ (t : ℕ). get_or (tile_samples size p t) (in_tile c x y) 0) same
    ∙ (tile_sample_at size p (tile_of size x y) c (x % 32) (y % 32) h (omega arith) (omega arith)
    ∙ (ap (λ (k : ℕ). p c k (ctu_y size (tile_of size x y) + y % 32)) left ∙ ap (λ (k : ℕ). p c x k) top)))

-- ---- a job of a raster

-- a place has the picture's sample after some tiles, or is as before and in none of them
abbrev Settled : Planes → Job → Picture → ℕ → ℕ → ℕ → ℕ → Type 0
Settled p job picture n c x y =
    (laid_first p job n c x y ≡ picture c x y) ⊎ ((laid_first p job n c x y ≡ picture_of p c x y) × ((k : ℕ) → k < n → get_or job.tiles k 0 ≡ tile_of p.size x y → ⊥))

settled : (p : Planes) (job : Job) (picture : Picture) → job.samples ≡ flat_map (tile_samples p.size picture) job.tiles
    → (n c x y : ℕ) → n ≤ length job.tiles → c < 3 → x < coded p.size.w → Settled p job picture n c x y
settled p job picture is zero c x y hn h hx = inr (refl, λ k less e. absurd (omega arith))
settled p job picture is (suc n) c x y hn h hx = go (eqb (get_or job.tiles n 0) (tile_of p.size x y)) refl (settled p job picture is n c x y (omega arith) h hx)
  where
    go : (b : Bool) → eqb (get_or job.tiles n 0) (tile_of p.size x y) ≡ b → Settled p job picture n c x y → Settled p job picture (suc n) c x y
    go true e before =
        let here : get_or job.samples (n * 3072 + in_tile c x y) 0 ≡ picture c x y =
        ap (λ (l : List ℕ). get_or l (n * 3072 + in_tile c x y) 0) is ∙ job_sample_at p.size picture job.tiles n c x y (omega arith) (eqb-true _ _ e) h hx in
        inl (rw e here)
    go false e (inl done) = inl (rw e done)
    go false e (inr free) =
        inr (
          rw e free.0,
          λ k less same. elim (cases_eq k n) [
            | inl last ↦ eqb-false _ _ e (ap (λ (i : ℕ). get_or job.tiles i 0) (sym last) ∙ same)
            | inr other ↦ free.1 k (omega arith) same
          ],
        )

-- a job that has all tiles in which a picture differs from a raster makes it show the raster
pub job_shows : (old new : Planes) (job : Job) (shown : Raster) → new.size ≡ old.size → IsPicture new → Stores new (laid old job)
    → job ≡ job_for old.size job.number job.tiles shown → DiffersOnlyIn job.tiles old (coded_picture old.size shown) → Shows new shown
job_shows old new job shown same is stores job_is differs = record {
  stored = planes_from_stores new (coded_picture new.size shown) is (record {
    each = λ c x y h hx hy.
        let hx' : x < coded old.size.w = rw (← same) hx in
        let hy' : y < coded old.size.h = rw (← same) hy in
        stores.each c x y h hx hy
        ∙ (elim (settled old job (coded_picture old.size shown) (ap (λ (j : Job). j.samples) job_is) (length job.tiles) c x y (le_refl (length job.tiles)) h hx') [
          | inl done ↦ done
          | inr free ↦ free.0 ∙ differs.same c x y h hx' hy' (λ listed. free.1 listed.0 listed.1 (get_or_default job.tiles listed.0 0 (tile_of old.size x y) listed.1 ∙ listed.2))
        ] ∙ ap (λ (size : Size). coded_picture size shown c x y) (sym same));
  });
}
