-- Painting, as the raster of one more line.
use Rattle.std.proofs.Common.{◌≡◌, refl, sym, ◌∙◌, ap, ℕ, zero, suc, ◌+◌, ◌*◌, ◌<◌, Bool, true, false, List, cond, length, get_or, arith}
use Rattle.std.specs.Prelude.{◌&&◌, nat_lt}
use Rattle.h265_model.specs.Plain.{Size, Picture, coded, place_values}
use Rattle.h265_model.specs.declared.rect.Rect.{Rect}
use Rattle.h265_model.specs.declared.rgb.Rgb.{Rgb}
use Rattle.h265_model.specs.Raster.{component, coded_picture, paints}
use Rattle.px_plane.specs.Planes.{Planes, plane_of, picture_of, IsPicture, Stores, ShowsColours, covers, repainted}
use Rattle.px_plane.specs.declared.plane.Sides.{Sides}
use Rattle.px_plane.specs.Rows.{IsPut, IsPartOf, IsPutInto, is_in}
use Rattle.px_plane.proofs.Shown.{picture_at, coded_at, stores_from_planes, planes_from_stores}

-- ---- planes

pub plane_put : (old new : Planes) (stride : ℕ) (part : Sides) (f : ℕ → ℕ → ℕ) (c : ℕ)
    → new.size ≡ old.size → stride ≡ coded old.size.w → IsPut (plane_of old c) (plane_of new c) stride part f
    → (x y : ℕ) → x < coded old.size.w → y < coded old.size.h → picture_of new c x y ≡ cond (is_in part x y) (f x y) (picture_of old c x y)
plane_put old new stride part f c same wide put x y hx hy =
    picture_at new c x y (rw same hx) (rw same hy)
    ∙ (ap (λ (w : ℕ). get_or (plane_of new c) (y * w + x) 0) (ap (λ (s : Size). coded s.w) same ∙ sym wide)
    ∙ (put x y (rw wide hx)
    ∙ ap (λ (s : ℕ). cond (is_in part x y) (f x y) s) (ap (λ (w : ℕ). get_or (plane_of old c) (y * w + x) 0) wide ∙ sym (picture_at old c x y hx hy))))

-- what is put into each plane is put into the picture
pub picture_put : (old new : Planes) (stride : ℕ) (part : Sides) (f : Picture)
    → new.size ≡ old.size → stride ≡ coded old.size.w
    → IsPut old.g new.g stride part (f 0) → IsPut old.b new.b stride part (f 1) → IsPut old.r new.r stride part (f 2)
    → (c x y : ℕ) → c < 3 → x < coded old.size.w → y < coded old.size.h → picture_of new c x y ≡ cond (is_in part x y) (f c x y) (picture_of old c x y)
picture_put old new stride part f same wide g b r zero x y h hx hy = plane_put old new stride part (f 0) 0 same wide g x y hx hy
picture_put old new stride part f same wide g b r (suc zero) x y h hx hy = plane_put old new stride part (f 1) 1 same wide b x y hx hy
picture_put old new stride part f same wide g b r (suc (suc zero)) x y h hx hy = plane_put old new stride part (f 2) 2 same wide r x y hx hy
picture_put old new stride part f same wide g b r (suc (suc (suc c))) x y h hx hy = absurd (omega arith)

-- the same, of a picture within its limits whose planes keep their lengths
pub planes_put : (old : Planes) (g b r : List ℕ) (stride : ℕ) (part : Sides) (f : Picture)
    → IsPicture old → stride ≡ coded old.size.w → length g ≡ length old.g → length b ≡ length old.b → length r ≡ length old.r
    → IsPut old.g g stride part (f 0) → IsPut old.b b stride part (f 1) → IsPut old.r r stride part (f 2)
    → IsPutInto old (record { size = old.size; g = g; b = b; r = r }) part f
planes_put old g b r stride part f is wide lg lb lr pg pb pr = record {
  size = refl;
  whole = record { sized = is.sized; g_long = lg ∙ is.g_long; b_long = lb ∙ is.b_long; r_long = lr ∙ is.r_long };
  each = picture_put old (record { size = old.size; g = g; b = b; r = r }) stride part f refl wide pg pb pr;
}

-- the samples after a rectangle is painted, the colour of each place by this function
abbrev pub inked : Planes → Rect → (ℕ → ℕ → Rgb) → Picture
inked p r ink c x y = cond (covers p.size r x y) (component c (ink x y)) (picture_of p c x y)

-- new samples where a rectangle covers the desktop
pub part_painted : (old new : Planes) (r : Rect) (part : Sides) (ink : ℕ → ℕ → Rgb)
    → IsPartOf old.size r part → IsPutInto old new part (λ c x y. component c (ink x y)) → Stores new (inked old r ink)
part_painted old new r part ink is put = record {
  each = λ c x y h hx hy.
      put.each c x y h (let same : new.size ≡ old.size = put.size in rw (← same) hx) (let same : new.size ≡ old.size = put.size in rw (← same) hy)
      ∙ ap (λ (t : Bool). cond t (component c (ink x y)) (picture_of old c x y)) (sym (is.covered x y));
}

-- nothing is painted where the rectangle covers nothing
pub nothing_painted : (p : Planes) (r : Rect) (ink : ℕ → ℕ → Rgb) → ((x y : ℕ) → covers p.size r x y ≡ false) → Stores p (inked p r ink)
nothing_painted p r ink none = record {
  each = λ c x y h hx hy. ap (λ (t : Bool). cond t (component c (ink x y)) (picture_of p c x y)) (sym (none x y));
}

-- ---- colours

-- the sample of a place of a desktop with these colours
abbrev pub sample_in : Size → (ℕ → ℕ → Rgb) → Picture
sample_in size shown c x y = cond (nat_lt x size.w && nat_lt y size.h) (component c (shown x y)) 0

-- a picture that shows some colours has their samples
pub colours_at : (p : Planes) (before : ℕ → ℕ → Rgb) → ShowsColours p before → (c x y : ℕ) → c < 3 → x < coded p.size.w → y < coded p.size.h → picture_of p c x y ≡ sample_in p.size before c x y
colours_at p before shown c x y h hx hy =
    (stores_from_planes p (coded_picture p.size (place_values p.size.w p.size.h before)) shown.stored).each c x y h hx hy ∙ coded_at p.size before c x y

-- a picture with the samples of some colours shows these
pub colours_show : (old new : Planes) (after : ℕ → ℕ → Rgb) → new.size ≡ old.size → IsPicture new
    → ((c x y : ℕ) → c < 3 → x < coded old.size.w → y < coded old.size.h → picture_of new c x y ≡ sample_in old.size after c x y)
    → ShowsColours new after
colours_show old new after same is each = record {
  stored = planes_from_stores new (coded_picture new.size (place_values new.size.w new.size.h after)) is (record {
    each = λ c x y h hx hy.
        each c x y h (rw (← same) hx) (rw (← same) hy)
        ∙ sym (ap (λ (size : Size). coded_picture size (place_values size.w size.h after) c x y) same ∙ coded_at old.size after c x y);
  });
}

inked_is : (within paint : Bool) (c : ℕ) (ink before : Rgb)
    → cond (within && paint) (component c ink) (cond within (component c before) 0) ≡ cond within (component c (cond paint ink before)) 0
inked_is true true c ink before = refl
inked_is true false c ink before = refl
inked_is false paint c ink before = refl

-- a picture that is painted shows the colours after that
pub inked_shows : (old new : Planes) (r : Rect) (ink before : ℕ → ℕ → Rgb)
    → new.size ≡ old.size → IsPicture new
    → Stores new (inked old r ink) → ShowsColours old before → ShowsColours new (repainted r ink before)
inked_shows old new r ink before same is painted shown =
    let was : Stores old (coded_picture old.size (place_values old.size.w old.size.h before)) = stores_from_planes old (coded_picture old.size (place_values old.size.w old.size.h before)) shown.stored in
    let after : ℕ → ℕ → Rgb = repainted r ink before in
    record {
      stored = planes_from_stores new (coded_picture new.size (place_values new.size.w new.size.h after)) is (record {
        each = λ c x y h hx hy.
            let within : Bool = nat_lt x old.size.w && nat_lt y old.size.h in
            painted.each c x y h hx hy
            ∙ (ap (λ (s : ℕ). cond (covers old.size r x y) (component c (ink x y)) s) (was.each c x y h (rw (← same) hx) (rw (← same) hy) ∙ coded_at old.size before c x y)
            ∙ (inked_is within (paints r x y) c (ink x y) (before x y)
            ∙ sym (ap (λ (size : Size). coded_picture size (place_values size.w size.h after) c x y) same ∙ coded_at old.size after c x y)));
      });
    }
