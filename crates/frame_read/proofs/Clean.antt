-- Pictures that show what they have of the desktop.
use Rattle.std.proofs.Common.{◌≡◌, ℕ, ◌<◌, Bool, true, cond, refl, sym, ap, subst, ◌∙◌}
use Rattle.std.specs.Prelude.{nat_lt, ◌&&◌}
use Rattle.std.proofs.lemmas.Bool.{cond-true, lt-ltb, and_from}
use Rattle.h265_model.specs.Plain.{Size, Picture, place_values}
use Rattle.h265_model.specs.Raster.{Raster, component, crop, coded_picture, black_raster}
use Rattle.h265_model.specs.declared.rgb.Rgb.{Rgb}
use Rattle.h265_model.proofs.Squares.{same_places}
use Rattle.px_plane.specs.Planes.{Planes, picture_of, Shows, ShowsColours}
use Rattle.px_plane.proofs.Shown.{shown_is_coded, coded_at}
use Rattle.frame_read.specs.Pixels.{IsClean}

-- the colours that a picture shows are those that it has
seen_colour : (p : Planes) (colours : ℕ → ℕ → Rgb) → ShowsColours p colours → (c x y : ℕ) → x < p.size.w → y < p.size.h → picture_of p c x y ≡ component c (colours x y)
seen_colour p colours shows c x y column row =
    let here : (nat_lt x p.size.w && nat_lt y p.size.h) ≡ true = and_from (nat_lt x p.size.w) (nat_lt y p.size.h) (lt-ltb x p.size.w column) (lt-ltb y p.size.h row) in
    ap (λ (picture : Picture). picture c x y) (shown_is_coded p (place_values p.size.w p.size.h colours) shows)
    ∙ (coded_at p.size colours c x y ∙ cond-true (nat_lt x p.size.w && nat_lt y p.size.h) _ 0 here)

crop_shown : (p : Planes) (colours : ℕ → ℕ → Rgb) → ShowsColours p colours → crop p.size (picture_of p) ≡ place_values p.size.w p.size.h colours
unfolding crop
crop_shown p colours shows =
    same_places p.size.w p.size.h (λ x y. let c : Rgb = record { r = picture_of p 2 x y; g = picture_of p 0 x y; b = picture_of p 1 x y } in c) colours (λ x y column row.
    let at = λ (c : ℕ). seen_colour p colours shows c x y column row in
    ap (λ (v : ℕ). let c : Rgb = record { r = v; g = picture_of p 0 x y; b = picture_of p 1 x y } in c) (at 2)
    ∙ (ap (λ (v : ℕ). let c : Rgb = record { r = (colours x y).r; g = v; b = picture_of p 1 x y } in c) (at 0)
    ∙ ap (λ (v : ℕ). let c : Rgb = record { r = (colours x y).r; g = (colours x y).g; b = v } in c) (at 1)))

pub black_clean : (p : Planes) → Shows p (black_raster p.size) → IsClean p
black_clean p shows =
    let dark : ℕ → ℕ → Rgb = λ x y. record { r = 0; g = 0; b = 0 } in
    subst (λ (r : Raster). Shows p r) (sym (crop_shown p dark shows)) shows
