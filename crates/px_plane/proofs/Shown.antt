-- What a picture shows, and the samples that it stores.
use Rattle.std.proofs.Common.{◌≡◌, refl, sym, ◌∙◌, ap, ℕ, zero, suc, ◌+◌, ◌*◌, ◌<◌, ◌≤◌, Bool, true, false, List, get_or, cond, replicate, arith}
use Rattle.std.specs.Prelude.{◌&&◌, nat_lt, IsTrue}
use Rattle.std.proofs.lemmas.Bool.{ltb-true, lt-ltb, and_parts, and_from, both_ways, cond-true, cond-false}
use Rattle.std.proofs.lemmas.Bool.Decides.{nat_tests}
use Rattle.std.proofs.lemmas.List.{length-replicate}
use Rattle.h265_model.specs.Plain.{Size, Picture, coded, place_values}
use Rattle.h265_model.specs.Settings.{is_size}
use Rattle.h265_model.specs.declared.rgb.Rgb.{Rgb}
use Rattle.h265_model.specs.Raster.{Raster, black as unpainted, black_raster, component, coded_picture, plane, planes, stored_picture}
use Rattle.px_plane.specs.Planes.{Planes, plane_of, planes_of, picture_of, IsPicture, Stores, Shows, black}
use Rattle.h265_model.proofs.Squares.{at_places, places_are}

-- ---- sizes

-- the limits of a size as numbers
pub record InLimits (size : Size) : Type 0 where
  pub w_low : 1 ≤ size.w
  pub w_high : size.w ≤ 4096
  pub h_low : 1 ≤ size.h
  pub h_high : size.h ≤ 4096

pub in_limits : (size : Size) → IsTrue (is_size size) → InLimits size
in_limits size h = record {
  w_low = grind (arith, nat_tests);
  w_high = grind (arith, nat_tests);
  h_low = grind (arith, nat_tests);
  h_high = grind (arith, nat_tests);
}

-- ---- the samples of the planes

-- the sample of a place of the coded size
pub picture_at : (p : Planes) (c x y : ℕ) → x < coded p.size.w → y < coded p.size.h → picture_of p c x y ≡ get_or (plane_of p c) (y * coded p.size.w + x) 0
unfolding picture_of
picture_at p c x y hx hy =
    cond-true (nat_lt x (coded p.size.w) && nat_lt y (coded p.size.h)) _ 0 (and_from _ _ (lt-ltb x (coded p.size.w) hx) (lt-ltb y (coded p.size.h) hy))

-- it is the one that the planes store
pub stored_at : (p : Planes) (c x y : ℕ) → c < 3 → x < coded p.size.w → y < coded p.size.h → picture_of p c x y ≡ stored_picture p.size (planes_of p) c x y
unfolding stored_picture
stored_at p zero x y h hx hy = picture_at p 0 x y hx hy
stored_at p (suc zero) x y h hx hy = picture_at p 1 x y hx hy
stored_at p (suc (suc zero)) x y h hx hy = picture_at p 2 x y hx hy
stored_at p (suc (suc (suc c))) x y h hx hy = absurd (omega arith)

plane_stored : (p : Planes) (picture : Picture) (c : ℕ) → plane_of p c ≡ plane p.size picture c → (x y : ℕ) → x < coded p.size.w → y < coded p.size.h → picture_of p c x y ≡ picture c x y
plane_stored p picture c same x y hx hy =
    picture_at p c x y hx hy
    ∙ (ap (λ (l : List ℕ). get_or l (y * coded p.size.w + x) 0) same ∙ at_places (coded p.size.w) (coded p.size.h) x y (picture c) 0 hx hy)

-- planes of a picture store its samples
pub stores_from_planes : (p : Planes) (picture : Picture) → planes_of p ≡ planes p.size picture → Stores p picture
stores_from_planes p picture same = record { each = λ c x y h hx hy. go c x y h hx hy }
  where
    g : p.g ≡ plane p.size picture 0
    g = cc

    b : p.b ≡ plane p.size picture 1
    b = cc

    r : p.r ≡ plane p.size picture 2
    r = cc

    go : (c x y : ℕ) → c < 3 → x < coded p.size.w → y < coded p.size.h → picture_of p c x y ≡ picture c x y
    go zero x y h hx hy = plane_stored p picture 0 g x y hx hy
    go (suc zero) x y h hx hy = plane_stored p picture 1 b x y hx hy
    go (suc (suc zero)) x y h hx hy = plane_stored p picture 2 r x y hx hy
    go (suc (suc (suc c))) x y h hx hy = absurd (omega arith)

-- what stores the samples of a picture has its planes
pub planes_from_stores : (p : Planes) (picture : Picture) → IsPicture p → Stores p picture → planes_of p ≡ planes p.size picture
planes_from_stores p picture is s =
    let limits : InLimits p.size = in_limits p.size is.sized in
    let some : 0 < coded p.size.w = let low : 1 ≤ p.size.w = limits.w_low in omega arith in
    let w : ℕ = coded p.size.w in
    let h : ℕ = coded p.size.h in
    let g : p.g ≡ place_values w h (picture 0) = places_are w h p.g (picture 0) 0 some is.g_long (λ x y hx hy. sym (picture_at p 0 x y hx hy) ∙ s.each 0 x y (omega arith) hx hy) in
    let b : p.b ≡ place_values w h (picture 1) = places_are w h p.b (picture 1) 0 some is.b_long (λ x y hx hy. sym (picture_at p 1 x y hx hy) ∙ s.each 1 x y (omega arith) hx hy) in
    let r : p.r ≡ place_values w h (picture 2) = places_are w h p.r (picture 2) 0 some is.r_long (λ x y hx hy. sym (picture_at p 2 x y hx hy) ∙ s.each 2 x y (omega arith) hx hy) in
    cc

-- ---- rasters

-- the samples of the raster of some colours
pub coded_at : (size : Size) (colours : ℕ → ℕ → Rgb) (c x y : ℕ)
    → coded_picture size (place_values size.w size.h colours) c x y ≡ cond (nat_lt x size.w && nat_lt y size.h) (component c (colours x y)) 0
unfolding coded_picture
coded_at size colours c x y = go (nat_lt x size.w && nat_lt y size.h) refl
  where
    go : (b : Bool) → (nat_lt x size.w && nat_lt y size.h) ≡ b
        → cond b (component c (get_or (place_values size.w size.h colours) (y * size.w + x) unpainted)) 0 ≡ cond b (component c (colours x y)) 0
    go true e =
        let t = and_parts (nat_lt x size.w) (nat_lt y size.h) e in
        ap (component c) (at_places size.w size.h x y colours unpainted (ltb-true x size.w t.0) (ltb-true y size.h t.1))
    go false e = refl

-- a picture that shows a raster has the samples of the raster's coded picture, everywhere
outside : (size : Size) (shown : Raster) (c x y : ℕ) → (nat_lt x (coded size.w) && nat_lt y (coded size.h)) ≡ false → coded_picture size shown c x y ≡ 0
unfolding coded_picture
outside size shown c x y out = go (nat_lt x size.w && nat_lt y size.h) refl
  where
    go : (b : Bool) → (nat_lt x size.w && nat_lt y size.h) ≡ b → cond b (component c (get_or shown (y * size.w + x) unpainted)) 0 ≡ 0
    go false e = refl
    go true e =
        let t = and_parts (nat_lt x size.w) (nat_lt y size.h) e in
        let hx : x < size.w = ltb-true x size.w t.0 in
        let hy : y < size.h = ltb-true y size.h t.1 in
        absurd (both_ways (nat_lt x (coded size.w) && nat_lt y (coded size.h)) out (and_from _ _ (lt-ltb x (coded size.w) (omega arith)) (lt-ltb y (coded size.h) (omega arith))))

-- components beyond the third are the third
last_coded : (size : Size) (shown : Raster) (c x y : ℕ) → coded_picture size shown (suc (suc c)) x y ≡ coded_picture size shown 2 x y
unfolding coded_picture
last_coded size shown c x y = refl

last_stored : (p : Planes) (c x y : ℕ) → picture_of p (suc (suc c)) x y ≡ picture_of p 2 x y
unfolding picture_of
last_stored p c x y = refl

nothing_outside : (p : Planes) (c x y : ℕ) → (nat_lt x (coded p.size.w) && nat_lt y (coded p.size.h)) ≡ false → picture_of p c x y ≡ 0
unfolding picture_of
nothing_outside p c x y out = cond-false (nat_lt x (coded p.size.w) && nat_lt y (coded p.size.h)) _ 0 out

shown_at : (p : Planes) (shown : Raster) → Shows p shown → (c x y : ℕ) → c < 3 → picture_of p c x y ≡ coded_picture p.size shown c x y
shown_at p shown is c x y h = go (nat_lt x (coded p.size.w) && nat_lt y (coded p.size.h)) refl
  where
    go : (b : Bool) → (nat_lt x (coded p.size.w) && nat_lt y (coded p.size.h)) ≡ b → picture_of p c x y ≡ coded_picture p.size shown c x y
    go true e =
        let t = and_parts (nat_lt x (coded p.size.w)) (nat_lt y (coded p.size.h)) e in
        (stores_from_planes p (coded_picture p.size shown) is.stored).each c x y h (ltb-true x (coded p.size.w) t.0) (ltb-true y (coded p.size.h) t.1)
    go false e = nothing_outside p c x y e ∙ sym (outside p.size shown c x y e)

shown_each : (p : Planes) (shown : Raster) → Shows p shown → (c x y : ℕ) → picture_of p c x y ≡ coded_picture p.size shown c x y
shown_each p shown is zero x y = shown_at p shown is 0 x y (omega arith)
shown_each p shown is (suc zero) x y = shown_at p shown is 1 x y (omega arith)
shown_each p shown is (suc (suc c)) x y = last_stored p c x y ∙ (shown_at p shown is 2 x y (omega arith) ∙ sym (last_coded p.size shown c x y))

pub shown_is_coded : (p : Planes) (shown : Raster) → Shows p shown → picture_of p ≡ coded_picture p.size shown
shown_is_coded p shown is = λ i. λ c x y. shown_each p shown is c x y i

-- ---- a black picture

zero_in : (n i : ℕ) → let zero_sample : ℕ = 0 in get_or (replicate n zero_sample) i 0 ≡ 0
zero_in zero i = refl
zero_in (suc n) zero = refl
zero_in (suc n) (suc i) = zero_in n i

zeros_at : (size : Size) (c x y : ℕ) → x < coded size.w → y < coded size.h → picture_of (black size) c x y ≡ 0
zeros_at size zero x y hx hy = picture_at (black size) 0 x y hx hy ∙ zero_in (coded size.w * coded size.h) (y * coded size.w + x)
zeros_at size (suc zero) x y hx hy = picture_at (black size) 1 x y hx hy ∙ zero_in (coded size.w * coded size.h) (y * coded size.w + x)
zeros_at size (suc (suc c)) x y hx hy = picture_at (black size) (suc (suc c)) x y hx hy ∙ zero_in (coded size.w * coded size.h) (y * coded size.w + x)

pub black_whole : (size : Size) → IsTrue (is_size size) → IsPicture (black size)
black_whole size sized =
    let zero_sample : ℕ = 0 in
    let area : ℕ = coded size.w * coded size.h in
    record { sized = sized; g_long = length-replicate area zero_sample; b_long = length-replicate area zero_sample; r_long = length-replicate area zero_sample }

black_coded : (size : Size) (c x y : ℕ) → coded_picture size (black_raster size) c x y ≡ 0
black_coded size c x y = coded_at size (λ x y. unpainted) c x y ∙ go c (nat_lt x size.w && nat_lt y size.h)
  where
    go : (c : ℕ) (b : Bool) → cond b (component c unpainted) 0 ≡ 0
    go zero true = refl
    go (suc zero) true = refl
    go (suc (suc c)) true = refl
    go c false = refl

pub black_shows : (size : Size) → IsTrue (is_size size) → Shows (black size) (black_raster size)
black_shows size sized = record {
  stored = planes_from_stores (black size) (coded_picture size (black_raster size)) (black_whole size sized)
      (record { each = λ c x y h hx hy. zeros_at size c x y hx hy ∙ sym (black_coded size c x y) });
}
