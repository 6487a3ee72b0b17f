-- Lines leave the places of the tiles that they don't paint in.
use Rattle.std.proofs.Common.{◌≡◌, ℕ, zero, suc, ◌+◌, ◌-◌, ◌*◌, ◌/◌, ◌<◌, ◌≤◌, ◌||◌, Bool, true, false, if◌then◌else◌, List, [], ◌∷◌, ◌++◌, length, refl, sym, ap, subst, ◌∙◌, arith, inl, inr}
use Rattle.std.specs.Prelude.{◌&&◌, nat_lt, filter, fold, slice_index_or}
use Rattle.std.specs.List.{AllByRecursion, Contains, range_with_len}
use Rattle.std.proofs.lemmas.Bool.{cases_eq}
use Rattle.std.proofs.lemmas.Bool.Decides.{nat_tests}
use Rattle.std.proofs.lemmas.Nat.{mod-mul-add, div-mul-add, mul-le}
use Rattle.std.proofs.lemmas.List.Sums.{fold-append}
use Rattle.recorder_model.specs.declared.line.Line.{Line}
use Rattle.recorder_model.specs.declared.line.Line.TheVariants.{Fill, Blit, Copy, Cut}
use Rattle.h265_model.specs.declared.rect.Rect.{Rect}
use Rattle.h265_model.specs.Raster.{black}
use Rattle.h265_model.specs.Plain.{Size, ctus, ctu_x, ctu_y}
use Rattle.h265_model.specs.Raster.{paints, target, source_x, source_y}
use Rattle.recorder_model.specs.Painting.{Shown, painted, unpainted}
use Rattle.recorder_model.specs.Painting.{colour}
use Rattle.recorder_model.specs.Desk.{meets_tile, touches, is_touched, touched_by}
use Rattle.h265_model.specs.Tiles.{tile_count}
use Rattle.px_plane.specs.Tiles.{tile_of}
use Rattle.desk_surface.proofs.Jobs.{all_at}

-- where the tile of a place begins
tile_x : (size : Size) (x y : ℕ) → x < size.w → ctu_x size (tile_of size x y) ≡ x / 32 * 32
tile_x size x y less = ap (λ (n : ℕ). n * 32) (mod-mul-add (y / 32) (ctus size.w) (x / 32) (omega arith))

tile_y : (size : Size) (x y : ℕ) → x < size.w → ctu_y size (tile_of size x y) ≡ y / 32 * 32
tile_y size x y less = ap (λ (n : ℕ). n * 32) (div-mul-add (y / 32) (ctus size.w) (x / 32) (omega arith))

pub tile_within : (size : Size) (x y : ℕ) → x < size.w → y < size.h → tile_of size x y < tile_count size
tile_within size x y across down =
    let column : x / 32 < ctus size.w = omega arith in
    let rows : (y / 32 + 1) * ctus size.w ≤ ctus size.h * ctus size.w = mul-le (y / 32 + 1) (ctus size.w) (ctus size.h) (ctus size.w) (omega arith) (omega arith) in
    omega arith

-- a rectangle that paints a place of the desktop meets its tile
meets : (size : Size) (r : Rect) (x y : ℕ) → x < size.w → y < size.h → paints r x y ≡ true → meets_tile size (tile_of size x y) r ≡ true
meets size r x y across down is =
    let column = tile_x size x y across in
    let row = tile_y size x y across in
    rw (column, row) (grind (arith, nat_tests))

not_painted : (size : Size) (r : Rect) (x y : ℕ) → x < size.w → y < size.h → meets_tile size (tile_of size x y) r ≡ false → paints r x y ≡ false
not_painted size r x y across down off = go (paints r x y) refl
  where
    go : (b : Bool) → paints r x y ≡ b → paints r x y ≡ false
    go true e = absurd (let on = meets size r x y across down e in cc)
    go false e = e

kept : (size : Size) (x y : ℕ) (shown : Shown) (line : Line) → x < size.w → y < size.h → touches size (tile_of size x y) line ≡ false → painted size shown line x y ≡ shown x y
kept size x y shown (Fill r c) across down off = ap (λ b. if b then c else shown x y) (not_painted size r x y across down off)
kept size x y shown (Blit r pixels) across down off = ap (λ b. if b then slice_index_or pixels ((y - r.y) * r.w + (x - r.x)) black else shown x y) (not_painted size r x y across down off)
kept size x y shown (Copy r to_x to_y) across down off =
    ap (λ b. if b && nat_lt (source_x r to_x x) size.w && nat_lt (source_y r to_y y) size.h then shown (source_x r to_x x) (source_y r to_y y) else shown x y)
    (not_painted size (target r to_x to_y) x y across down off)
kept size x y shown Cut across down off = refl

all_kept : (size : Size) (x y : ℕ) (shown : Shown) (lines : List Line) → x < size.w → y < size.h → is_touched size lines (tile_of size x y) ≡ false → fold (painted size) shown lines x y ≡ shown x y
all_kept size x y shown [] across down off = refl
all_kept size x y shown (line ∷ lines) across down off =
    let both = neither (touches size (tile_of size x y) line) (is_touched size lines (tile_of size x y)) off in
    all_kept size x y (painted size shown line) lines across down both.1 ∙ kept size x y shown line across down both.0
  where
    neither : (a b : Bool) → (a || b) ≡ false → (a ≡ false) × (b ≡ false)
    neither true b e = absurd cc
    neither false b e = (refl, e)

-- the colour of a place after lines that don't paint in its tile
pub colour_kept : (size : Size) (x y : ℕ) (front lines : List Line) → x < size.w → y < size.h → is_touched size lines (tile_of size x y) ≡ false → colour size (front ++ lines) x y ≡ colour size front x y
unfolding colour
colour_kept size x y front lines across down off =
    ap (λ (shown : Shown). shown x y) (fold-append (painted size) unpainted front lines) ∙ all_kept size x y (fold (painted size) unpainted front) lines across down off

contains_later : (x y : ℕ) (xs : List ℕ) → Contains xs x → Contains (y ∷ xs) x
contains_later x y xs is = (suc is.0, omega (arith, is.1), is.2)

listed : (p : ℕ → Bool) (a n t : ℕ) → a ≤ t → t < a + n → p t ≡ true → Contains (filter p (range_with_len a n)) t
listed p a zero t low high is = absurd (omega arith)
listed p a (suc n) t low high is = elim (cases_eq a t) [
  | inl same ↦
      let on : p a ≡ true = ap p same ∙ is in
      subst (λ b. Contains (if b then a ∷ filter p (range_with_len (a + 1) n) else filter p (range_with_len (a + 1) n)) t) (sym on) (0, omega arith, same)
  | inr other ↦
      go (p a) (listed p (a + 1) n t (omega arith) (omega arith) is)
]
  where
    go : (b : Bool) → Contains (filter p (range_with_len (a + 1) n)) t → Contains (if b then a ∷ filter p (range_with_len (a + 1) n) else filter p (range_with_len (a + 1) n)) t
    go true rest = contains_later t a (filter p (range_with_len (a + 1) n)) rest
    go false rest = rest

-- a tile that isn't listed isn't painted in
pub not_listed : (size : Size) (lines : List Line) (t : ℕ) → t < tile_count size → (Contains (touched_by size lines) t → ⊥) → is_touched size lines t ≡ false
unfolding touched_by
not_listed size lines t less off = go (is_touched size lines t) refl
  where
    go : (b : Bool) → is_touched size lines t ≡ b → is_touched size lines t ≡ false
    go true e = absurd (off (listed (is_touched size lines) 0 (tile_count size) t (omega arith) (omega arith) e))
    go false e = e

filter_below : (p : ℕ → Bool) (a n m : ℕ) → a + n ≤ m → AllByRecursion (λ t. t < m) (filter p (range_with_len a n))
filter_below p a zero m le = tt
filter_below p a (suc n) m le = go (p a) (filter_below p (a + 1) n m (omega arith))
  where
    go : (b : Bool) → AllByRecursion (λ t. t < m) (filter p (range_with_len (a + 1) n)) → AllByRecursion (λ t. t < m) (if b then a ∷ filter p (range_with_len (a + 1) n) else filter p (range_with_len (a + 1) n))
    go true rest = (omega arith, rest)
    go false rest = rest

pub touched_within : (size : Size) (lines : List Line) (k d : ℕ) → k < length (touched_by size lines) → slice_index_or (touched_by size lines) k d < tile_count size
unfolding touched_by
touched_within size lines = all_at (tile_count size) (touched_by size lines) (filter_below (is_touched size lines) 0 (tile_count size) (tile_count size) (omega arith))
