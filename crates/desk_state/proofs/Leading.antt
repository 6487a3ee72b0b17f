-- From the picture of one cut to that of the next.
use Rattle.std.proofs.Common.{◌≡◌, ℕ, zero, suc, ◌+◌, ◌*◌, ◌<◌, ◌&&◌, Bool, true, false, cond, if◌then◌else◌, List, [], ◌∷◌, ◌++◌, length, get_or, nat_lt, append_assoc, length-append, refl, sym, ap, subst, ◌∙◌, arith}
use Rattle.std.specs.Prelude.{count_by, flat_map}
use Rattle.std.specs.List.{Contains, slice_split, onto_first}
use Rattle.std.proofs.lemmas.Bool.Decides.{nat_tests}
use Rattle.std.proofs.lemmas.List.{append-nil}
use Rattle.std.proofs.lemmas.List.Sums.{sum_by-cons}
use Rattle.recorder_model.specs.declared.entry.Entry.{Entry}
use Rattle.recorder_model.specs.declared.line.Line.{Line}
use Rattle.recorder_model.specs.declared.line.Line.TheVariants.{Fill, Blit, Copy, Cut}
use Rattle.h265_model.specs.Plain.{Size, Picture, below, place_values, ctu_x, ctu_y}
use Rattle.recorder_model.specs.Script.{is_cut}
use Rattle.recorder_model.specs.Setting.{Setting}
use Rattle.h265_model.specs.Raster.{Raster, component, coded_picture}
use Rattle.recorder_model.specs.Painting.{raster, rasters_after, lines_of, colour}
use Rattle.recorder_model.specs.Histories.{cuts}
use Rattle.recorder_model.specs.Desk.{touched_by, touched, job_of}
use Rattle.h265_model.specs.Tiles.{tile_samples}
use Rattle.h265_model.proofs.Squares.{length_places}
use Rattle.px_plane.specs.Planes.{Planes, Shows, picture_of}
use Rattle.px_plane.specs.Tiles.{DiffersOnlyIn, tile_of}
use Rattle.px_plane.proofs.Shown.{shown_is_coded}
use Rattle.desk_surface.proofs.Painted.{coded_lines}
use Rattle.desk_state.specs.Laws.{EachJobLeadsOn, shown_at, shown_before}
use Rattle.desk_state.specs.Replays.{part_of}
use Rattle.desk_state.proofs.Jobs.{cut_raster}
use Rattle.desk_state.proofs.Untouched.{tile_within, colour_kept, not_listed, touched_within}

-- ---- the lines between two cuts

later_part : (line : Line) (lines : List Line) (n : ℕ) → is_cut line ≡ false → part_of (line ∷ lines) (suc n) ≡ part_of lines (suc n)
later_part line lines n paints = ap (λ b. get_or (cond b ([] ∷ slice_split is_cut lines) (onto_first line (slice_split is_cut lines))) (suc n) []) paints ∙ behind (slice_split is_cut lines)
  where
    behind : (parts : List (List Line)) → get_or (onto_first line parts) (suc n) [] ≡ get_or parts (suc n) []
    behind [] = refl
    behind (part ∷ parts) = refl

first_part : (line : Line) (lines : List Line) → is_cut line ≡ false → part_of (line ∷ lines) 0 ≡ line ∷ part_of lines 0
first_part line lines paints = ap (λ b. get_or (cond b ([] ∷ slice_split is_cut lines) (onto_first line (slice_split is_cut lines))) 0 []) paints ∙ front (slice_split is_cut lines)
  where
    front : (parts : List (List Line)) → get_or (onto_first line parts) 0 [] ≡ line ∷ get_or parts 0 []
    front [] = refl
    front (part ∷ parts) = refl

count-cons : (line : Line) (lines : List Line) → count_by is_cut (line ∷ lines) ≡ (if is_cut line then 1 else 0) + count_by is_cut lines
count-cons line lines = sum_by-cons (λ l. if is_cut l then 1 else 0) line lines

-- the first picture shows the lines before it and the first part
at_first_cut : (size : Size) (before lines : List Line) → 0 < count_by is_cut lines → get_or (rasters_after size before lines) 0 [] ≡ raster size (before ++ part_of lines 0)
unfolding rasters_after
at_first_cut size before [] some = absurd (omega arith)
at_first_cut size before (Fill r c ∷ lines) some =
    at_first_cut size (before ++ Fill r c ∷ []) lines (omega (arith, count-cons (Fill r c) lines))
    ∙ ap (raster size) (append_assoc before (Fill r c ∷ []) (part_of lines 0) ∙ ap (λ (l : List Line). before ++ l) (sym (first_part (Fill r c) lines refl)))
at_first_cut size before (Blit r pixels ∷ lines) some =
    at_first_cut size (before ++ Blit r pixels ∷ []) lines (omega (arith, count-cons (Blit r pixels) lines))
    ∙ ap (raster size) (append_assoc before (Blit r pixels ∷ []) (part_of lines 0) ∙ ap (λ (l : List Line). before ++ l) (sym (first_part (Blit r pixels) lines refl)))
at_first_cut size before (Copy r to_x to_y ∷ lines) some =
    at_first_cut size (before ++ Copy r to_x to_y ∷ []) lines (omega (arith, count-cons (Copy r to_x to_y) lines))
    ∙ ap (raster size) (append_assoc before (Copy r to_x to_y ∷ []) (part_of lines 0) ∙ ap (λ (l : List Line). before ++ l) (sym (first_part (Copy r to_x to_y) lines refl)))
at_first_cut size before (Cut ∷ lines) some = ap (raster size) (sym (append-nil before))

-- two pictures one after another: the second shows one part more
record AreNext (size : Size) (earlier later : Raster) (part : List Line) : Type 0 where
  front : List Line
  is_earlier : earlier ≡ raster size front
  is_later : later ≡ raster size (front ++ part)

at_next_cut : (size : Size) (before lines : List Line) (n : ℕ) → suc n < count_by is_cut lines → AreNext size (get_or (rasters_after size before lines) n []) (get_or (rasters_after size before lines) (suc n) []) (part_of lines (suc n))
unfolding rasters_after
at_next_cut size before [] n less = absurd (omega arith)
at_next_cut size before (Fill r c ∷ lines) n less =
    let k = at_next_cut size (before ++ Fill r c ∷ []) lines n (omega (arith, count-cons (Fill r c) lines)) in
    subst (AreNext size _ _) (sym (later_part (Fill r c) lines n refl)) k
at_next_cut size before (Blit r pixels ∷ lines) n less =
    let k = at_next_cut size (before ++ Blit r pixels ∷ []) lines n (omega (arith, count-cons (Blit r pixels) lines)) in
    subst (AreNext size _ _) (sym (later_part (Blit r pixels) lines n refl)) k
at_next_cut size before (Copy r to_x to_y ∷ lines) n less =
    let k = at_next_cut size (before ++ Copy r to_x to_y ∷ []) lines n (omega (arith, count-cons (Copy r to_x to_y) lines)) in
    subst (AreNext size _ _) (sym (later_part (Copy r to_x to_y) lines n refl)) k
at_next_cut size before (Cut ∷ lines) zero less = record {
  front = before ++ Cut ∷ [];
  is_earlier = sym (cut_raster size before);
  is_later = at_first_cut size (before ++ Cut ∷ []) lines (omega (arith, count-cons Cut lines));
}
at_next_cut size before (Cut ∷ lines) (suc n) less = at_next_cut size (before ++ Cut ∷ []) lines n (omega (arith, count-cons Cut lines))

are_next : (setting : Setting) (h : List Entry) (n : ℕ) → n < cuts setting.scripts h → AreNext setting.size (shown_before setting h n) (shown_at setting h n) (part_of (lines_of setting.scripts h) n)
are_next setting h zero less = record { front = []; is_earlier = refl; is_later = at_first_cut setting.size [] (lines_of setting.scripts h) less }
are_next setting h (suc n) less = at_next_cut setting.size [] (lines_of setting.scripts h) n less

-- ---- the samples outside the tiles of the part

same_sample : (size : Size) (front part : List Line) (c x y : ℕ) → (Contains (touched_by size part) (tile_of size x y) → ⊥) → coded_picture size (raster size front) c x y ≡ coded_picture size (raster size (front ++ part)) c x y
same_sample size front part c x y off =
    coded_lines size front c x y ∙ go (nat_lt x size.w && nat_lt y size.h) refl ∙ sym (coded_lines size (front ++ part) c x y)
  where
    go : (b : Bool) → (nat_lt x size.w && nat_lt y size.h) ≡ b → cond b (component c (colour size front x y)) 0 ≡ cond b (component c (colour size (front ++ part) x y)) 0
    go true e =
        let across : x < size.w = grind (arith, nat_tests) in
        let down : y < size.h = grind (arith, nat_tests) in
        ap (component c) (sym (colour_kept size x y front part across down (not_listed size part (tile_of size x y) (tile_within size x y across down) off)))
    go false e = refl

differs : (size : Size) (earlier later : Raster) (part : List Line) (p : Planes) → AreNext size earlier later part → p.size ≡ size → Shows p earlier → DiffersOnlyIn (touched_by size part) p (coded_picture size later)
differs size earlier later part p next same shows = record {
  same = λ c x y plane across down off.
      let here : picture_of p c x y ≡ coded_picture size earlier c x y = ap (λ (f : Picture). f c x y) (shown_is_coded p earlier shows) ∙ ap (λ (s : Size). coded_picture s earlier c x y) same in
      let away : Contains (touched_by size part) (tile_of size x y) → ⊥ = subst (λ (s : Size). Contains (touched_by size part) (tile_of s x y) → ⊥) same off in
      here ∙ ap (λ (r : Raster). coded_picture size r c x y) next.is_earlier ∙ same_sample size next.front part c x y away ∙ ap (λ (r : Raster). coded_picture size r c x y) (sym next.is_later);
}

-- ---- the job

length_parts : {A B : Type 0} (f : A → List B) (n : ℕ) → ((a : A) → length (f a) ≡ n) → (xs : List A) → length (flat_map f xs) ≡ length xs * n
length_parts f n long [] = omega arith
length_parts f n long (x ∷ xs) = length-append (f x) (flat_map f xs) ∙ (let one = long x in let rest = length_parts f n long xs in omega arith)

tile_long : (size : Size) (p : Picture) (t : ℕ) → length (tile_samples size p t) ≡ 3072
tile_long size p t = length_parts (λ c. place_values 32 32 (λ x y. p c (ctu_x size t + x) (ctu_y size t + y))) 1024 (λ c. length_places 32 32 (λ x y. p c (ctu_x size t + x) (ctu_y size t + y))) (below 3)

pub each_leads_on : EachJobLeadsOn
unfolding job_of
each_leads_on setting h n less = record {
  whole = record {
    tiles = touched_within setting.size (part_of (lines_of setting.scripts h) n);
    samples = length_parts (tile_samples setting.size (coded_picture setting.size (shown_at setting h n))) 3072 (tile_long setting.size (coded_picture setting.size (shown_at setting h n))) (touched setting h n);
  };
  made = refl;
  differs = λ p same shows. differs setting.size (shown_before setting h n) (shown_at setting h n) (part_of (lines_of setting.scripts h) n) p (are_next setting h n less) same shows;
}
