-- What lines paint, one after another.
use Rattle.std.proofs.Common.{◌≡◌, refl, sym, ◌∙◌, ap, subst, ℕ, Bool, List, [], ◌∷◌, ◌++◌, cond}
use Rattle.std.specs.Prelude.{◌&&◌, nat_lt}
use Rattle.std.proofs.lemmas.List.Sums.{fold-append}
use Rattle.h265_model.specs.Plain.{Size}
use Rattle.h265_model.specs.declared.rect.Rect.{Rect}
use Rattle.h265_model.specs.declared.rgb.Rgb.{Rgb}
use Rattle.h265_model.specs.Raster.{black_raster, component, coded_picture}
use Rattle.recorder_model.specs.declared.line.Line.{Line}
use Rattle.recorder_model.specs.declared.line.Line.TheVariants.{Fill, Blit, Copy}
use Rattle.recorder_model.specs.Painting.{Shown, painted, unpainted, colour, raster}
use Rattle.px_plane.specs.Planes.{Planes, Shows, ShowsColours, pixel_at, repainted, recopied}
use Rattle.px_plane.proofs.Shown.{coded_at}
use Rattle.desk_surface.specs.Shown.{ShowsLines}

-- the samples of the raster of some lines
pub coded_lines : (size : Size) (lines : List Line) (c x y : ℕ)
    → coded_picture size (raster size lines) c x y ≡ cond (nat_lt x size.w && nat_lt y size.h) (component c (colour size lines x y)) 0
unfolding raster
coded_lines size lines c x y = coded_at size (colour size lines) c x y

-- ---- no line

none_painted : (size : Size) → black_raster size ≡ raster size []
unfolding raster colour
none_painted size = refl

pub none_shows : (p : Planes) → Shows p (black_raster p.size) → ShowsLines p []
none_shows p shown = subst (Shows p) (none_painted p.size) shown

-- ---- one line more

colour_more : (size : Size) (lines : List Line) (line : Line) → colour size (lines ++ line ∷ []) ≡ painted size (colour size lines) line
unfolding colour
colour_more size lines line = fold-append (painted size) unpainted lines (line ∷ [])

-- what shows the colours after one line more shows what the lines paint
line_shows : (p : Planes) (size : Size) → p.size ≡ size → (lines : List Line) (line : Line) (after : Shown)
    → ((x y : ℕ) → painted size (colour size lines) line x y ≡ after x y) → ShowsColours p after → ShowsLines p (lines ++ line ∷ [])
unfolding raster
line_shows p size of_size lines line after same shown =
    let are : after ≡ colour p.size (lines ++ line ∷ []) =
    λ i. λ x y. (sym (ap (λ (s : Size). colour s (lines ++ line ∷ []) x y) of_size ∙ (ap (λ (f : Shown). f x y) (colour_more size lines line) ∙ same x y))) i in
    subst (ShowsColours p) are shown

pub fill_shows : (old new : Planes) (r : Rect) (ink : Rgb) (lines : List Line) → new.size ≡ old.size
    → ((before : Shown) → ShowsColours old before → ShowsColours new (repainted r (λ x y. ink) before)) → ShowsLines old lines → ShowsLines new (lines ++ Fill r ink ∷ [])
unfolding raster
fill_shows old new r ink lines same after shown =
    line_shows new old.size same lines (Fill r ink) (repainted r (λ x y. ink) (colour old.size lines)) (λ x y. refl) (after (colour old.size lines) shown)

pub blit_shows : (old new : Planes) (r : Rect) (pixels : List Rgb) (lines : List Line) → new.size ≡ old.size
    → ((before : Shown) → ShowsColours old before → ShowsColours new (repainted r (pixel_at r pixels) before)) → ShowsLines old lines → ShowsLines new (lines ++ Blit r pixels ∷ [])
unfolding raster
blit_shows old new r pixels lines same after shown =
    line_shows new old.size same lines (Blit r pixels) (repainted r (pixel_at r pixels) (colour old.size lines)) (λ x y. refl) (after (colour old.size lines) shown)

pub copy_shows : (old new : Planes) (r : Rect) (to_x to_y : ℕ) (lines : List Line) → new.size ≡ old.size
    → ((before : Shown) → ShowsColours old before → ShowsColours new (recopied old.size r to_x to_y before)) → ShowsLines old lines → ShowsLines new (lines ++ Copy r to_x to_y ∷ [])
unfolding raster
copy_shows old new r to_x to_y lines same after shown =
    line_shows new old.size same lines (Copy r to_x to_y) (recopied old.size r to_x to_y (colour old.size lines)) (λ x y. refl) (after (colour old.size lines) shown)
