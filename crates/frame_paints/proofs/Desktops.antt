-- What a desktop shows after the lines that a script got.
use Rattle.std.proofs.Common.{◌≡◌, refl, sym, ◌∙◌, ap, subst, ℕ, ◌+◌, ◌*◌, ◌<◌, Bool, true, false, List, [], ◌∷◌, ◌++◌, length, drop, cond, get_or, append_assoc, arith}
use Rattle.std.specs.Prelude.{◌&&◌, nat_lt, nat_le, fold}
use Rattle.std.specs.List.{AllByRecursion}
use Rattle.std.proofs.lemmas.List.Sums.{fold-append}
use Rattle.std.proofs.lemmas.List.{append-nil}
use Rattle.std.proofs.lemmas.Bool.{ltb-true, leb-true, and_parts, and_from, lt-ltb, le-leb, both_ways}
use Rattle.h265_model.specs.Plain.{Size, place_values}
use Rattle.h265_model.specs.Raster.{Raster, black, crop}
use Rattle.h265_model.proofs.Squares.{same_places, at_places}
use Rattle.h265_model.proofs.ListParts.{drop_front}
use Rattle.recorder_model.specs.declared.line.Line.{Line}
use Rattle.recorder_model.specs.declared.line.Line.TheVariants.{Fill, Blit, Copy, Cut}
use Rattle.recorder_model.specs.Script.{is_cut}
use Rattle.recorder_model.specs.Painting.{Shown, painted, colour, raster, rasters_after}
use Rattle.px_plane.specs.Planes.{Planes, picture_of, Shows, ShowsColours}
use Rattle.paint_script.specs.Scripts.{Script}
use Rattle.frame_paints.specs.Desktop.{raster_of, colours_in, painted_over, with_rows, added, IsLonger}
use Rattle.frame_paints.specs.Lines.{Went}
use Rattle.frame_paints.specs.Parts.{SameBetween, KeptBeside}
use Rattle.frame_paints.proofs.Shown.{raster_shown, shows_itself, own_colours, own_shown}

-- ---- the raster in a picture

raster_own : (p : Planes) → raster_of p ≡ place_values p.size.w p.size.h (own_colours p)
unfolding crop
raster_own p = refl

pub own_at : (p : Planes) (x y : ℕ) → x < p.size.w → y < p.size.h → colours_in p.size (raster_of p) x y ≡ own_colours p x y
own_at p x y hx hy =
    ap (λ (r : Raster). get_or r (y * p.size.w + x) black) (raster_own p) ∙ at_places p.size.w p.size.h x y (own_colours p) black hx hy

pub raster_again : (p : Planes) → place_values p.size.w p.size.h (colours_in p.size (raster_of p)) ≡ raster_of p
raster_again p = same_places p.size.w p.size.h (colours_in p.size (raster_of p)) (own_colours p) (own_at p) ∙ sym (raster_own p)

-- ---- lines that a script got

pub added_is : (s t : Script) (lines : List Line) → t.lines ≡ s.lines ++ lines → added s t ≡ lines
added_is s t lines is = ap (drop (length s.lines)) is ∙ drop_front s.lines lines

pub went_longer : (p q : Planes) (s t : Script) → Went p s q t → IsLonger s t
went_longer p q s t w = record { version = w.version; lines = w.added ∙ ap (λ (l : List Line). s.lines ++ l) (sym (added_is s t w.lines w.added)) }

after_lines : (p q : Planes) (s t : Script) (before : Shown) → Went p s q t → ShowsColours p before
    → raster_of q ≡ place_values p.size.w p.size.h (fold (painted p.size) before (added s t))
after_lines p q s t before w shown =
    raster_shown q (fold (painted p.size) before w.lines) (w.shows before shown)
    ∙ (ap (λ (size : Size). place_values size.w size.h (fold (painted p.size) before w.lines)) w.size
    ∙ ap (λ (l : List Line). place_values p.size.w p.size.h (fold (painted p.size) before l)) (sym (added_is s t w.lines w.added)))

pub went_shows : (p q : Planes) (s t : Script) → Shows p (raster_of p) → Went p s q t → Shows q (raster_of q)
went_shows p q s t shown w = shows_itself q (fold (painted p.size) (own_colours p) w.lines) (w.shows (own_colours p) (own_shown p shown))

pub went_painted : (p q : Planes) (s t : Script) → Shows p (raster_of p) → Went p s q t → raster_of q ≡ painted_over p.size (raster_of p) (added s t)
went_painted p q s t shown w = after_lines p q s t (colours_in p.size (raster_of p)) w (subst (Shows p) (sym (raster_again p)) shown)

raster_more : (size : Size) (before lines : List Line) → raster size (before ++ lines) ≡ place_values size.w size.h (fold (painted size) (colour size before) lines)
unfolding raster colour
raster_more size before lines = ap (place_values size.w size.h) (fold-append (painted size) (λ x y. black) before lines)

colours_shown : (p : Planes) (before : List Line) → Shows p (raster p.size before) → ShowsColours p (colour p.size before)
unfolding raster
colours_shown p before shown = shown

pub went_history : (p q : Planes) (s t : Script) → Shows p (raster_of p) → Went p s q t → (before : List Line) → raster p.size before ≡ raster_of p
    → raster p.size (before ++ added s t) ≡ raster_of q
went_history p q s t shown w before is =
    raster_more p.size before (added s t) ∙ sym (after_lines p q s t (colour p.size before) w (colours_shown p before (subst (Shows p) (sym is) shown)))

no_cuts : (size : Size) (before lines : List Line) → AllByRecursion (λ line. is_cut line ≡ false) lines → rasters_after size before lines ≡ []
unfolding rasters_after
no_cuts size before [] all = refl
no_cuts size before (Fill r c ∷ lines) all = no_cuts size (before ++ Fill r c ∷ []) lines all.1
no_cuts size before (Blit r pixels ∷ lines) all = no_cuts size (before ++ Blit r pixels ∷ []) lines all.1
no_cuts size before (Copy r x y ∷ lines) all = no_cuts size (before ++ Copy r x y ∷ []) lines all.1
no_cuts size before (Cut ∷ lines) all = let e : true ≡ false = all.0 in cc

pub went_uncut : (p q : Planes) (s t : Script) → Went p s q t → (size : Size) (before : List Line) → rasters_after size before (added s t) ≡ []
went_uncut p q s t w size before = ap (rasters_after size before) (added_is s t w.lines w.added) ∙ no_cuts size before w.lines w.paint

-- ---- rows

same_colour : (p q : Planes) (x y : ℕ) → ((c : ℕ) → c < 3 → picture_of p c x y ≡ picture_of q c x y) → own_colours p x y ≡ own_colours q x y
same_colour p q x y same =
    let g = same 0 (omega arith) in
    let b = same 1 (omega arith) in
    let r = same 2 (omega arith) in
    rw (g, b, r) refl

pub rows_shown : (old new frame : Planes) (top bottom : ℕ) → new.size ≡ old.size → frame.size ≡ old.size
    → SameBetween new frame 0 old.size.w top bottom → KeptBeside old new 0 old.size.w top bottom
    → raster_of new ≡ with_rows old.size (raster_of old) top bottom (raster_of frame)
rows_shown old new frame top bottom size of_frame same kept =
    raster_own new
    ∙ (ap (λ (s : Size). place_values s.w s.h (own_colours new)) size
    ∙ same_places old.size.w old.size.h (own_colours new) _ (λ x y hx hy. go x y hx hy (nat_le top y && nat_lt y bottom) refl))
  where
    frame_at : (x y : ℕ) → x < old.size.w → y < old.size.h → own_colours frame x y ≡ colours_in old.size (raster_of frame) x y
    frame_at x y hx hy =
        sym (own_at frame x y (rw of_frame hx) (rw of_frame hy)) ∙ ap (λ (s : Size). colours_in s (raster_of frame) x y) of_frame

    go : (x y : ℕ) → x < old.size.w → y < old.size.h → (t : Bool) → (nat_le top y && nat_lt y bottom) ≡ t
        → own_colours new x y ≡ cond (nat_le top y && nat_lt y bottom) (colours_in old.size (raster_of frame) x y) (colours_in old.size (raster_of old) x y)
    go x y hx hy true e =
        let t = and_parts _ _ e in
        rw e (same_colour new frame x y (λ c h. same.each c x y h (omega arith) hx (leb-true top y t.0) (ltb-true y bottom t.1)) ∙ frame_at x y hx hy)
    go x y hx hy false e =
        rw e (same_colour new old x y
        (λ c h. kept.each c x y h hx hy (λ a b d f. both_ways (nat_le top y && nat_lt y bottom) e (and_from _ _ (le-leb top y d) (lt-ltb y bottom f))))
        ∙ sym (own_at old x y hx hy))

-- ---- a cut

pub cut_added : (s t u : Script) → IsLonger s t → u ≡ record { version = t.version; lines = t.lines ++ Cut ∷ [] } → added s u ≡ added s t ++ Cut ∷ []
cut_added s t u longer is =
    added_is s u (added s t ++ Cut ∷ [])
    (ap (λ (v : Script). v.lines) is ∙ (ap (λ (l : List Line). l ++ Cut ∷ []) longer.lines ∙ append_assoc s.lines (added s t) (Cut ∷ [])))

pub cut_painted : (size : Size) (before : Raster) (lines : List Line) → painted_over size before (lines ++ Cut ∷ []) ≡ painted_over size before lines
cut_painted size before lines = ap (place_values size.w size.h) (fold-append (painted size) (colours_in size before) lines (Cut ∷ []))

pub cut_history : (size : Size) (before lines : List Line) → raster size (before ++ (lines ++ Cut ∷ [])) ≡ raster size (before ++ lines)
cut_history size before lines =
    raster_more size before (lines ++ Cut ∷ [])
    ∙ (ap (place_values size.w size.h) (fold-append (painted size) (colour size before) lines (Cut ∷ [])) ∙ sym (raster_more size before lines))

cut_rasters : (size : Size) (before lines : List Line) → rasters_after size before lines ≡ [] → rasters_after size before (lines ++ Cut ∷ []) ≡ raster size (before ++ lines) ∷ []
unfolding rasters_after
cut_rasters size before [] none = ap (λ (l : List Line). raster size l ∷ []) (sym (append-nil before))
cut_rasters size before (Fill r c ∷ lines) none =
    cut_rasters size (before ++ Fill r c ∷ []) lines none ∙ ap (λ (l : List Line). raster size l ∷ []) (append_assoc before (Fill r c ∷ []) lines)
cut_rasters size before (Blit r pixels ∷ lines) none =
    cut_rasters size (before ++ Blit r pixels ∷ []) lines none ∙ ap (λ (l : List Line). raster size l ∷ []) (append_assoc before (Blit r pixels ∷ []) lines)
cut_rasters size before (Copy r x y ∷ lines) none =
    cut_rasters size (before ++ Copy r x y ∷ []) lines none ∙ ap (λ (l : List Line). raster size l ∷ []) (append_assoc before (Copy r x y ∷ []) lines)
cut_rasters size before (Cut ∷ lines) none = cc

-- the one picture that the lines cut
pub cut_picture : (size : Size) (before lines : List Line) (shown frame : Raster) → rasters_after size before lines ≡ [] → raster size (before ++ lines) ≡ shown → shown ≡ frame
    → rasters_after size before (lines ++ Cut ∷ []) ≡ frame ∷ []
cut_picture size before lines shown frame none is same = cut_rasters size before lines none ∙ ap (λ (r : Raster). r ∷ []) (is ∙ same)

-- all rows of a frame are the frame
pub all_rows : (size : Size) (before : Raster) (frame : Planes) (bottom : ℕ) → frame.size ≡ size → bottom ≡ size.h → with_rows size before 0 bottom (raster_of frame) ≡ raster_of frame
all_rows size before frame bottom of_frame all =
    same_places size.w size.h _ (colours_in size (raster_of frame))
    (λ x y hx hy.
    let t : (nat_le 0 y && nat_lt y bottom) ≡ true = and_from _ _ (le-leb 0 y (omega arith)) (lt-ltb y bottom (omega arith)) in
    ap (λ (b : Bool). cond b (colours_in size (raster_of frame) x y) (colours_in size before x y)) t)
    ∙ (ap (λ (s : Size). place_values s.w s.h (colours_in s (raster_of frame))) (sym of_frame) ∙ raster_again frame)
