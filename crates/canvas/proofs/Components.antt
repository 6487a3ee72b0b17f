-- The three components of a unit, drawn one after another.
use Rattle.std.proofs.Common.{◌≡◌, refl, sym, ◌∙◌, ap, subst, ℕ, zero, suc, ◌+◌, ◌*◌, ◌-◌, ◌^◌, ◌<◌, List, [], ◌∷◌, Bool, true, cond, get_or, take, drop, arith}
use Rattle.std.specs.Prelude.{Option, ℤ}
use Rattle.h265_model.specs.Plain.{block_at, Size, Picture, coded}
use Rattle.h265_model.specs.Predict.{is_inside, is_available, prediction}
use Rattle.h265_model.specs.Raster.{blank}
use Rattle.h265_model.specs.Rebuild.{sums, block_of, with_units}
use Rattle.h265_model.specs.Tree.{thirds, ReadUnit, Samples, Levels, leaf_of}
use Rattle.h265_laws.proofs.Coverage.{inside_parts}
use Rattle.h265_laws.proofs.RebuildLaw.{prediction_same}
use Rattle.std.proofs.lemmas.Bool.{and_parts}
use Rattle.px_plane.specs.Planes.{Planes, Stores, picture_of}
use Rattle.px_plane.specs.Rows.{is_in_square, with_square}
use Rattle.leaf_sink.specs.Units.{unit, HasAvailable, levels_or}
use Rattle.canvas.specs.Drawing.{Pictures, Draws, drawn_block}
use Rattle.canvas.proofs.Units.{IsUnitDrawn, in_block}

-- three components of a square were put into a picture
pub record AreDrawn (d0 d1 d2 d3 : Planes) (x y n : ℕ) (b0 b1 b2 : List ℕ) : Type 0 where
  pub size1 : d1.size ≡ d0.size
  pub size2 : d2.size ≡ d0.size
  pub size3 : d3.size ≡ d0.size
  pub first : Stores d1 (with_square (picture_of d0) 0 x y n b0)
  pub second : Stores d2 (with_square (picture_of d1) 1 x y n b1)
  pub third : Stores d3 (with_square (picture_of d2) 2 x y n b2)

sample : List ℕ → ℕ → ℕ → ℕ → ℕ → ℕ → ℕ
sample block left top n x y = get_or block ((y - top) * n + (x - left)) 0

module _ (d0 d1 d2 d3 : Planes) (left top n : ℕ) (b0 b1 b2 : List ℕ) (are : AreDrawn d0 d1 d2 d3 left top n b0 b1 b2) where
  step1 : (c x y : ℕ) → c < 3 → x < coded d0.size.w → y < coded d0.size.h → picture_of d1 c x y ≡ with_square (picture_of d0) 0 left top n b0 c x y
  step1 c x y h hx hy = are.first.each c x y h (subst (λ (s : Size). x < coded s.w) (sym are.size1) hx) (subst (λ (s : Size). y < coded s.h) (sym are.size1) hy)

  step2 : (c x y : ℕ) → c < 3 → x < coded d0.size.w → y < coded d0.size.h → picture_of d2 c x y ≡ with_square (picture_of d1) 1 left top n b1 c x y
  step2 c x y h hx hy = are.second.each c x y h (subst (λ (s : Size). x < coded s.w) (sym are.size2) hx) (subst (λ (s : Size). y < coded s.h) (sym are.size2) hy)

  step3 : (c x y : ℕ) → c < 3 → x < coded d0.size.w → y < coded d0.size.h → picture_of d3 c x y ≡ with_square (picture_of d2) 2 left top n b2 c x y
  step3 c x y h hx hy = are.third.each c x y h (subst (λ (s : Size). x < coded s.w) (sym are.size3) hx) (subst (λ (s : Size). y < coded s.h) (sym are.size3) hy)

  -- a component is as it was until it is drawn
  pub until1 : (x y : ℕ) → x < coded d0.size.w → y < coded d0.size.h → picture_of d1 1 x y ≡ picture_of d0 1 x y
  until1 x y hx hy = step1 1 x y (omega arith) hx hy

  pub until2 : (x y : ℕ) → x < coded d0.size.w → y < coded d0.size.h → picture_of d2 2 x y ≡ picture_of d0 2 x y
  until2 x y hx hy = step2 2 x y (omega arith) hx hy ∙ step1 2 x y (omega arith) hx hy

  -- in the end each place of the square has its sample
  pub all_drawn : (c x y : ℕ) → c < 3 → x < coded d0.size.w → y < coded d0.size.h
      → picture_of d3 c x y ≡ cond (is_in_square left top n x y) (get_or (get_or (b0 ∷ b1 ∷ b2 ∷ []) c []) ((y - top) * n + (x - left)) 0) (picture_of d0 c x y)
  all_drawn zero x y h hx hy = step3 0 x y h hx hy ∙ (step2 0 x y h hx hy ∙ step1 0 x y h hx hy)
  all_drawn (suc zero) x y h hx hy =
      step3 1 x y h hx hy ∙ (step2 1 x y h hx hy
      ∙ ap (λ (s : ℕ). cond (is_in_square left top n x y) (get_or b1 ((y - top) * n + (x - left)) 0) s) (step1 1 x y h hx hy))
  all_drawn (suc (suc zero)) x y h hx hy =
      step3 2 x y h hx hy ∙ ap (λ (s : ℕ). cond (is_in_square left top n x y) (get_or b2 ((y - top) * n + (x - left)) 0) s) (until2 x y hx hy)
  all_drawn (suc (suc (suc c))) x y h hx hy = absurd (omega arith)

-- a unit is drawn if its three blocks are
pub three_drawn : (old new : Pictures) (units : List ReadUnit) (u : ReadUnit) (d1 d2 : Planes) (b0 b1 b2 : List ℕ) → new.last ≡ old.last → old.drawn.size ≡ old.last.size
    → AreDrawn old.drawn d1 d2 new.drawn u.block.x u.block.y (2 ^ u.block.log2) b0 b1 b2
    → ((before : Picture) → Stores old.last before → (c : ℕ) → c < 3
    → get_or (b0 ∷ b1 ∷ b2 ∷ []) c [] ≡ block_of old.last.size before (with_units old.last.size before blank units) (leaf_of u) u.content c)
    → IsUnitDrawn old new units u
three_drawn old new units u d1 d2 b0 b1 b2 same sizes are blocks = record {
  last = same;
  block = λ before stores c x y small inside at.
      let p = inside_parts old.last.size x y inside in
      all_drawn old.drawn d1 d2 new.drawn u.block.x u.block.y (2 ^ u.block.log2) b0 b1 b2 are c x y small (subst (λ (s : Size). x < coded s.w) (sym sizes) p.0) (subst (λ (s : Size). y < coded s.h) (sym sizes) p.1)
      ∙ (ap (λ (t : Bool). cond t (in_block u (get_or (b0 ∷ b1 ∷ b2 ∷ []) c []) x y) (picture_of old.drawn c x y)) at
      ∙ ap (λ (l : List ℕ). in_block u l x y) (blocks before stores c small));
  others = λ c x y small inside at.
      let p = inside_parts old.last.size x y inside in
      all_drawn old.drawn d1 d2 new.drawn u.block.x u.block.y (2 ^ u.block.log2) b0 b1 b2 are c x y small (subst (λ (s : Size). x < coded s.w) (sym sizes) p.0) (subst (λ (s : Size). y < coded s.h) (sym sizes) p.1)
      ∙ ap (λ (t : Bool). cond t (in_block u (get_or (b0 ∷ b1 ∷ b2 ∷ []) c []) x y) (picture_of old.drawn c x y)) at;
}

-- the same by equal sides and samples
pub square_as : (new old : Planes) (component x y n m : ℕ) (a b : List ℕ) → n ≡ m → a ≡ b → Stores new (with_square (picture_of old) component x y n a) → Stores new (with_square (picture_of old) component x y m b)
square_as new old component x y n m a b e f h =
    subst (λ (k : ℕ). Stores new (with_square (picture_of old) component x y k b)) e (subst (λ (l : List ℕ). Stores new (with_square (picture_of old) component x y n l)) f h)

-- ---- samples

pub samples_block : (size : Size) (before now : Picture) (x y log2 : ℕ) (samples b0 b1 b2 : List ℕ)
    → b0 ≡ take (2 ^ log2 * 2 ^ log2) samples → b1 ≡ take (2 ^ log2 * 2 ^ log2) (drop (2 ^ log2 * 2 ^ log2) samples)
    → b2 ≡ take (2 ^ log2 * 2 ^ log2) (drop (2 ^ log2 * 2 ^ log2 + 2 ^ log2 * 2 ^ log2) samples)
    → (c : ℕ) → c < 3
    → get_or (b0 ∷ b1 ∷ b2 ∷ []) c [] ≡ block_of size before now (leaf_of (unit (block_at x y log2) (Samples (thirds (2 ^ log2 * 2 ^ log2) samples)))) (Samples (thirds (2 ^ log2 * 2 ^ log2) samples)) c
unfolding block_of
samples_block size before now x y log2 samples b0 b1 b2 e0 e1 e2 c small = rw (e0, e1, e2) refl

-- ---- predictions and levels

-- the pictures from which the components were predicted
pub record ArePredicted (size : Size) (d0 d1 d2 : Planes) (mode x y log2 : ℕ) (l0 l1 l2 : Option (List ℤ)) (b0 b1 b2 : List ℕ) : Type 0 where
  pub first : b0 ≡ drawn_block size (picture_of d0) mode 0 (block_at x y log2) l0
  pub second : b1 ≡ drawn_block size (picture_of d1) mode 1 (block_at x y log2) l1
  pub third : b2 ≡ drawn_block size (picture_of d2) mode 2 (block_at x y log2) l2

available_inside : (size : Size) (x y px py : ℕ) → is_available size x y px py ≡ true → is_inside size px py ≡ true
available_inside size x y px py h = (and_parts _ _ h).0

block_is : (size : Size) (a b : Picture) (mode component x y log2 : ℕ) (l : Option (List ℤ)) → ((qx qy : ℕ) → is_available size x y qx qy ≡ true → a component qx qy ≡ b component qx qy)
    → drawn_block size a mode component (block_at x y log2) l ≡ sums (prediction size b mode component (block_at x y log2)) (levels_or log2 l)
block_is size a b mode component x y log2 l h = ap (λ (p : List ℕ). sums p (levels_or log2 l)) (prediction_same size a b mode component x y log2 h)

pub levels_block : (old : Pictures) (units : List ReadUnit) (d1 d2 d3 : Planes) (mode x y log2 : ℕ) (l0 l1 l2 : Option (List ℤ)) (b0 b1 b2 : List ℕ)
    → old.drawn.size ≡ old.last.size → Draws old units → HasAvailable old.last.size units x y
    → AreDrawn old.drawn d1 d2 d3 x y (2 ^ log2) b0 b1 b2 → ArePredicted old.last.size old.drawn d1 d2 mode x y log2 l0 l1 l2 b0 b1 b2
    → (before : Picture) → Stores old.last before → (c : ℕ) → c < 3
    → get_or (b0 ∷ b1 ∷ b2 ∷ []) c [] ≡ block_of old.last.size before (with_units old.last.size before blank units)
    (leaf_of (unit (block_at x y log2) (Levels mode (levels_or log2 l0 ∷ levels_or log2 l1 ∷ levels_or log2 l2 ∷ [])))) (Levels mode (levels_or log2 l0 ∷ levels_or log2 l1 ∷ levels_or log2 l2 ∷ [])) c
unfolding block_of
levels_block old units d1 d2 d3 mode x y log2 l0 l1 l2 b0 b1 b2 sizes draws has are is before stores c small = go c small
  where
    size : Size
    size = old.last.size

    now : Picture
    now = with_units size before blank units

    near : (c qx qy : ℕ) → c < 3 → is_available size x y qx qy ≡ true → picture_of old.drawn c qx qy ≡ now c qx qy
    near c qx qy small h = draws.each before stores c qx qy small (available_inside size x y qx qy h) (has.each qx qy h)

    wide : (qx qy : ℕ) → is_available size x y qx qy ≡ true → qx < coded old.drawn.size.w
    wide qx qy h = subst (λ (s : Size). qx < coded s.w) (sym sizes) (inside_parts size qx qy (available_inside size x y qx qy h)).0

    tall : (qx qy : ℕ) → is_available size x y qx qy ≡ true → qy < coded old.drawn.size.h
    tall qx qy h = subst (λ (s : Size). qy < coded s.h) (sym sizes) (inside_parts size qx qy (available_inside size x y qx qy h)).1

    go : (c : ℕ) → c < 3 → get_or (b0 ∷ b1 ∷ b2 ∷ []) c [] ≡ sums (prediction size now mode c (block_at x y log2)) (get_or (levels_or log2 l0 ∷ levels_or log2 l1 ∷ levels_or log2 l2 ∷ []) c [])
    go zero h = is.first ∙ block_is size (picture_of old.drawn) now mode 0 x y log2 l0 (λ qx qy k. near 0 qx qy (omega arith) k)
    go (suc zero) h =
        is.second ∙ block_is size (picture_of d1) now mode 1 x y log2 l1
        (λ qx qy k. until1 old.drawn d1 d2 d3 x y (2 ^ log2) b0 b1 b2 are qx qy (wide qx qy k) (tall qx qy k) ∙ near 1 qx qy (omega arith) k)
    go (suc (suc zero)) h =
        is.third ∙ block_is size (picture_of d2) now mode 2 x y log2 l2
        (λ qx qy k. until2 old.drawn d1 d2 d3 x y (2 ^ log2) b0 b1 b2 are qx qy (wide qx qy k) (tall qx qy k) ∙ near 2 qx qy (omega arith) k)
    go (suc (suc (suc c))) h = absurd (omega arith)
