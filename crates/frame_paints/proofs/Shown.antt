-- The raster in a picture that shows some colours.
use Rattle.std.proofs.Common.{◌≡◌, refl, sym, ◌∙◌, ap, subst, ℕ, ◌+◌, ◌<◌, true, arith}
use Rattle.std.specs.Prelude.{◌&&◌, nat_lt}
use Rattle.std.proofs.lemmas.Bool.{lt-ltb, le-leb, and_from, cond-true}
use Rattle.h265_model.specs.Plain.{Size, Picture, place_values}
use Rattle.h265_model.specs.declared.rgb.Rgb.{Rgb}
use Rattle.h265_model.specs.Raster.{Raster, black, black_raster, component, coded_picture, crop, paints}
use Rattle.h265_model.proofs.Squares.{same_places}
use Rattle.recorder_model.specs.Painting.{Shown}
use Rattle.px_plane.specs.Planes.{Planes, picture_of, Shows, ShowsColours, repainted}
use Rattle.px_plane.proofs.Shown.{shown_is_coded, coded_at}
use Rattle.frame_paints.specs.Desktop.{Desktop, raster_of}

-- a component of a place of a coded picture
sample_in : (size : Size) (colours : Shown) (c x y : ℕ) → x < size.w → y < size.h → coded_picture size (place_values size.w size.h colours) c x y ≡ component c (colours x y)
sample_in size colours c x y hx hy =
    coded_at size colours c x y ∙ cond-true (nat_lt x size.w && nat_lt y size.h) _ 0 (and_from _ _ (lt-ltb x size.w hx) (lt-ltb y size.h hy))

colour_in : (size : Size) (colours : Shown) (x y : ℕ) → x < size.w → y < size.h
    → (let p : Picture = coded_picture size (place_values size.w size.h colours) in let c : Rgb = record { r = p 2 x y; g = p 0 x y; b = p 1 x y } in c) ≡ colours x y
colour_in size colours x y hx hy =
    let r = sample_in size colours 2 x y hx hy in
    let g = sample_in size colours 0 x y hx hy in
    let b = sample_in size colours 1 x y hx hy in
    rw (r, g, b) refl

pub crop_is : (size : Size) (colours : Shown) → crop size (coded_picture size (place_values size.w size.h colours)) ≡ place_values size.w size.h colours
unfolding crop
crop_is size colours =
    let p : Picture = coded_picture size (place_values size.w size.h colours) in
    same_places size.w size.h (λ x y. let c : Rgb = record { r = p 2 x y; g = p 0 x y; b = p 1 x y } in c) colours (λ x y hx hy. colour_in size colours x y hx hy)

-- the raster in a picture that shows colours has these
pub raster_shown : (p : Planes) (colours : Shown) → ShowsColours p colours → raster_of p ≡ place_values p.size.w p.size.h colours
raster_shown p colours shown = ap (crop p.size) (shown_is_coded p _ shown) ∙ crop_is p.size colours

-- a picture that shows colours shows the raster in it
pub shows_itself : (p : Planes) (colours : Shown) → ShowsColours p colours → Shows p (raster_of p)
shows_itself p colours shown = subst (Shows p) (sym (raster_shown p colours shown)) shown

-- the colours that a picture has
abbrev pub own_colours : Planes → Shown
own_colours p x y = record { r = picture_of p 2 x y; g = picture_of p 0 x y; b = picture_of p 1 x y }

pub own_shown : (p : Planes) → Shows p (raster_of p) → ShowsColours p (own_colours p)
unfolding crop
own_shown p shown = shown

-- ---- black

whole_paints : (size : Size) (x y : ℕ) → x < size.w → y < size.h → paints (record { x = 0; y = 0; w = size.w; h = size.h }) x y ≡ true
whole_paints size x y hx hy =
    and_from _ _ (and_from _ _ (and_from _ _ (le-leb 0 x (omega arith)) (lt-ltb x (0 + size.w) (omega arith))) (le-leb 0 y (omega arith))) (lt-ltb y (0 + size.h) (omega arith))

pub all_black : (p : Planes) (size : Size) (before : Shown) → p.size ≡ size
    → ShowsColours p (repainted (record { x = 0; y = 0; w = size.w; h = size.h }) (λ x y. black) before) → raster_of p ≡ black_raster size
all_black p size before same shown =
    raster_shown p (repainted (record { x = 0; y = 0; w = size.w; h = size.h }) (λ x y. black) before) shown
    ∙ (ap (λ (s : Size). place_values s.w s.h (repainted (record { x = 0; y = 0; w = size.w; h = size.h }) (λ x y. black) before)) same
    ∙ same_places size.w size.h (repainted (record { x = 0; y = 0; w = size.w; h = size.h }) (λ x y. black) before) (λ x y. black)
    (λ x y hx hy. cond-true (paints (record { x = 0; y = 0; w = size.w; h = size.h }) x y) black (before x y) (whole_paints size x y hx hy)))

-- ---- a desktop

pub desktop_is : (p : Planes) (size : Size) (raster : Raster) → p.size ≡ size → raster_of p ≡ raster → (let d : Desktop = record { size = p.size; shown = raster_of p } in d) ≡ record { size = size; shown = raster }
desktop_is p size raster same shown = cc
