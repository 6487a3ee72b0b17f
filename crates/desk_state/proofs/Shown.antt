-- What a desktop shows at its cuts, when one line comes.
use Rattle.std.proofs.Common.{◌≡◌, ℕ, zero, suc, ◌<◌, false, if◌then◌else◌, List, [], ◌∷◌, ◌++◌, length, refl, sym, ap, ◌∙◌, arith, get_or, append_assoc}
use Rattle.std.specs.Prelude.{count_by}
use Rattle.std.proofs.lemmas.List.Sums.{sum_by-cons}
use Rattle.std.proofs.lemmas.List.{append-nil}
use Rattle.recorder_model.specs.declared.line.Line.{Line}
use Rattle.recorder_model.specs.declared.line.Line.TheVariants.{Fill, Blit, Copy, Cut}
use Rattle.h265_model.specs.Plain.{Size}
use Rattle.recorder_model.specs.Script.{is_cut}
use Rattle.h265_model.specs.Raster.{Raster}
use Rattle.recorder_model.specs.Painting.{raster, rasters_after}

-- a line that paints adds no picture
pub rasters_kept : (size : Size) (before xs : List Line) (line : Line) → is_cut line ≡ false → rasters_after size before (xs ++ line ∷ []) ≡ rasters_after size before xs
unfolding rasters_after
rasters_kept size before [] (Fill r c) paints = refl
rasters_kept size before [] (Blit r pixels) paints = refl
rasters_kept size before [] (Copy r to_x to_y) paints = refl
rasters_kept size before [] Cut paints = cc
rasters_kept size before (Fill r c ∷ xs) line paints = rasters_kept size (before ++ Fill r c ∷ []) xs line paints
rasters_kept size before (Blit r pixels ∷ xs) line paints = rasters_kept size (before ++ Blit r pixels ∷ []) xs line paints
rasters_kept size before (Copy r to_x to_y ∷ xs) line paints = rasters_kept size (before ++ Copy r to_x to_y ∷ []) xs line paints
rasters_kept size before (Cut ∷ xs) line paints = ap (λ (l : List Raster). raster size before ∷ l) (rasters_kept size (before ++ Cut ∷ []) xs line paints)

-- a cut adds what is shown
pub rasters_cut : (size : Size) (before xs : List Line) → rasters_after size before (xs ++ Cut ∷ []) ≡ rasters_after size before xs ++ raster size (before ++ xs) ∷ []
unfolding rasters_after
rasters_cut size before [] = ap (λ (l : List Line). raster size l ∷ []) (sym (append-nil before))
rasters_cut size before (Fill r c ∷ xs) = rasters_cut size (before ++ Fill r c ∷ []) xs ∙ ap (λ (l : List Line). rasters_after size (before ++ Fill r c ∷ []) xs ++ raster size l ∷ []) (append_assoc before (Fill r c ∷ []) xs)
rasters_cut size before (Blit r pixels ∷ xs) = rasters_cut size (before ++ Blit r pixels ∷ []) xs ∙ ap (λ (l : List Line). rasters_after size (before ++ Blit r pixels ∷ []) xs ++ raster size l ∷ []) (append_assoc before (Blit r pixels ∷ []) xs)
rasters_cut size before (Copy r to_x to_y ∷ xs) = rasters_cut size (before ++ Copy r to_x to_y ∷ []) xs ∙ ap (λ (l : List Line). rasters_after size (before ++ Copy r to_x to_y ∷ []) xs ++ raster size l ∷ []) (append_assoc before (Copy r to_x to_y ∷ []) xs)
rasters_cut size before (Cut ∷ xs) =
    ap (λ (l : List Raster). raster size before ∷ l)
    (rasters_cut size (before ++ Cut ∷ []) xs ∙ ap (λ (l : List Line). rasters_after size (before ++ Cut ∷ []) xs ++ raster size l ∷ []) (append_assoc before (Cut ∷ []) xs))

-- a picture for each cut
pub length-rasters_after : (size : Size) (before xs : List Line) → length (rasters_after size before xs) ≡ count_by is_cut xs
unfolding rasters_after
length-rasters_after size before [] = refl
length-rasters_after size before (Fill r c ∷ xs) = length-rasters_after size (before ++ Fill r c ∷ []) xs
length-rasters_after size before (Blit r pixels ∷ xs) = length-rasters_after size (before ++ Blit r pixels ∷ []) xs
length-rasters_after size before (Copy r to_x to_y ∷ xs) = length-rasters_after size (before ++ Copy r to_x to_y ∷ []) xs
length-rasters_after size before (Cut ∷ xs) =
    ap (λ (n : ℕ). suc n) (length-rasters_after size (before ++ Cut ∷ []) xs) ∙ (let e = sum_by-cons (λ line. if is_cut line then 1 else 0) Cut xs in omega arith)

pub at_front : {X : Type 0} (xs : List X) (y : X) (n : ℕ) (d : X) → n < length xs → get_or (xs ++ y ∷ []) n d ≡ get_or xs n d
at_front [] y n d less = absurd (omega arith)
at_front (x ∷ xs) y zero d less = refl
at_front (x ∷ xs) y (suc n) d less = at_front xs y n d (omega arith)

pub at_end : {X : Type 0} (xs : List X) (y : X) (n : ℕ) (d : X) → length xs ≡ n → get_or (xs ++ y ∷ []) n d ≡ y
at_end [] y zero d is = refl
at_end [] y (suc n) d is = absurd (omega arith)
at_end (x ∷ xs) y zero d is = absurd (omega arith)
at_end (x ∷ xs) y (suc n) d is = at_end xs y n d (omega arith)
