-- Rows of pixels.
use Rattle.std.proofs.Common.{◌≡◌, refl, sym, ◌∙◌, ap, ℕ, zero, suc, ◌+◌, ◌<◌, List, [], ◌∷◌, ◌++◌, length, take, get_or, map, flat_map, append_assoc, add-one, arith}
use Rattle.std.specs.List.{range_with_len}
use Rattle.std.proofs.lemmas.List.{flat_map_more}
use Rattle.h265_model.specs.Plain.{below, row_values, place_values}
use Rattle.h265_model.specs.declared.rgb.Rgb.{Rgb}
use Rattle.px_plane.specs.Planes.{Planes, picture_of}
use Rattle.frame_paints.specs.Pixels.{mixed, colour_at}

mixed-more : (r g b : List ℕ) (n : ℕ) → n < length r → length g ≡ length r → length b ≡ length r
    → mixed (take (n + 1) r) (take (n + 1) g) (take (n + 1) b) ≡ mixed (take n r) (take n g) (take n b) ++ record { r = get_or r n 0; g = get_or g n 0; b = get_or b n 0 } ∷ []
mixed-more [] g b n h i j = absurd (omega arith)
mixed-more (x ∷ r) [] b n h i j = absurd (omega arith)
mixed-more (x ∷ r) (y ∷ g) [] n h i j = absurd (omega arith)
mixed-more (x ∷ r) (y ∷ g) (z ∷ b) zero h i j = refl
mixed-more (x ∷ r) (y ∷ g) (z ∷ b) (suc n) h i j =
    rw add-one (rw add-one at (ap (λ (l : List Rgb). record { r = x; g = y; b = z } ∷ l) (mixed-more r g b n (omega arith) (omega arith) (omega arith))))

-- one pixel more
pub pixel-more : (front before after : List Rgb) (r g b : List ℕ) (n : ℕ) → n < length r → length g ≡ length r → length b ≡ length r
    → before ≡ front ++ mixed (take n r) (take n g) (take n b)
    → after ≡ before ++ record { r = get_or r n 0; g = get_or g n 0; b = get_or b n 0 } ∷ []
    → after ≡ front ++ mixed (take (n + 1) r) (take (n + 1) g) (take (n + 1) b)
pixel-more front before after r g b n h i j old new =
    let pixel : Rgb = record { r = get_or r n 0; g = get_or g n 0; b = get_or b n 0 } in
    new
    ∙ (ap (λ (l : List Rgb). l ++ pixel ∷ []) old
    ∙ (append_assoc front (mixed (take n r) (take n g) (take n b)) (pixel ∷ []) ∙ ap (λ (l : List Rgb). front ++ l) (sym (mixed-more r g b n h i j))))

mixed-map : (f g h : ℕ → ℕ) (l : List ℕ) → mixed (map f l) (map g l) (map h l) ≡ map (λ x. let c : Rgb = record { r = f x; g = g x; b = h x } in c) l
mixed-map f g h [] = refl
mixed-map f g h (x ∷ l) = ap (λ (t : List Rgb). record { r = f x; g = g x; b = h x } ∷ t) (mixed-map f g h l)

range-more : (a n : ℕ) → range_with_len a (n + 1) ≡ range_with_len a n ++ (a + n) ∷ []
range-more a zero = ap (λ (k : ℕ). k ∷ []) (omega arith)
range-more a (suc n) =
    let more : suc n + 1 ≡ suc (n + 1) = omega arith in
    ap (range_with_len a) more ∙ ap (λ (l : List ℕ). a ∷ l) (range-more (a + 1) n ∙ ap (λ (k : ℕ). range_with_len (a + 1) n ++ k ∷ []) (omega arith))

rows-more : (w n : ℕ) (f : ℕ → ℕ → Rgb) → place_values w (n + 1) f ≡ place_values w n f ++ row_values w (λ x. f x n)
rows-more w n f =
    let g : ℕ → List Rgb = λ y. row_values w (λ x. f x y) in
    ap (flat_map g) (range-more 0 n ∙ ap (λ (k : ℕ). below n ++ k ∷ []) (omega arith)) ∙ sym (flat_map_more g [] (below n) n)

-- one row more
pub row-more : (frame : Planes) (before after : List Rgb) (r g b : List ℕ) (x y w n : ℕ)
    → r ≡ map (λ i. picture_of frame 2 (x + i) (y + n)) (below w)
    → g ≡ map (λ i. picture_of frame 0 (x + i) (y + n)) (below w)
    → b ≡ map (λ i. picture_of frame 1 (x + i) (y + n)) (below w)
    → before ≡ place_values w n (λ i j. colour_at frame (x + i) (y + j)) → after ≡ before ++ mixed r g b
    → after ≡ place_values w (n + 1) (λ i j. colour_at frame (x + i) (y + j))
row-more frame before after r g b x y w n red green blue old new =
    let f : ℕ → ℕ → Rgb = λ i j. colour_at frame (x + i) (y + j) in
    let row : mixed r g b ≡ row_values w (λ i. f i n) =
    rw (red, green, blue) (mixed-map (λ i. picture_of frame 2 (x + i) (y + n)) (λ i. picture_of frame 0 (x + i) (y + n)) (λ i. picture_of frame 1 (x + i) (y + n)) (below w)) in
    new ∙ (ap (λ (l : List Rgb). l ++ mixed r g b) old ∙ (ap (λ (l : List Rgb). place_values w n f ++ l) row ∙ sym (rows-more w n f)))
