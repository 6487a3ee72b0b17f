-- Rows of pixels.
use Rattle.std.proofs.Common.{◌≡◌, ℕ, zero, suc, ◌+◌, ◌*◌, ◌-◌, ◌<◌, ◌≤◌, List, [], ◌∷◌, ◌++◌, length, take, drop, get_or, map, flat_map, refl, sym, ◌∙◌, ap, arith, append_assoc, add-one, slice_set, length-append}
use Rattle.std.proofs.lemmas.List.{flat_map_more, append-nil, length-drop, take-append-drop, take_all, nil_from_length, set-append_right}
use Rattle.std.proofs.lemmas.Grind.{flat_map-append}
use Rattle.std.specs.List.{range_with_len}
use Rattle.h265_model.specs.Plain.{Size, Picture, below, row_values, place_values}
use Rattle.h265_model.specs.Raster.{Raster, crop}
use Rattle.h265_model.specs.declared.rgb.Rgb.{Rgb}
use Rattle.recorder_model.specs.Frames.{pixel_bytes, frame_head, frame}
use Rattle.frames.specs.Rows.{mixed}

mixed-more : (r g b : List ℕ) (n : ℕ) → n < length r → length g ≡ length r → length b ≡ length r → mixed (take (n + 1) r) (take (n + 1) g) (take (n + 1) b) ≡ mixed (take n r) (take n g) (take n b) ++ get_or r n 0 ∷ get_or g n 0 ∷ get_or b n 0 ∷ []
mixed-more [] g b n h i j = absurd (omega arith)
mixed-more (x ∷ r) [] b n h i j = absurd (omega arith)
mixed-more (x ∷ r) (y ∷ g) [] n h i j = absurd (omega arith)
mixed-more (x ∷ r) (y ∷ g) (z ∷ b) zero h i j = refl
mixed-more (x ∷ r) (y ∷ g) (z ∷ b) (suc n) h i j = let P : ℕ → ℕ → Type 0 = λ m k. m ≡ k in rw add-one (rw add-one at (ap (λ l. x ∷ y ∷ z ∷ l) (mixed-more r g b n (omega arith) (omega arith) (omega arith))))

mixed-long : (r g b : List ℕ) (n : ℕ) → n ≤ length r → length g ≡ length r → length b ≡ length r → length (mixed (take n r) (take n g) (take n b)) ≡ 3 * n
mixed-long r g b zero inside green blue = refl
mixed-long r g b (suc n) inside green blue =
    let more : List ℕ = get_or r n 0 ∷ get_or g n 0 ∷ get_or b n 0 ∷ [] in
    let next : suc n ≡ n + 1 = omega arith in
    let before : length (mixed (take n r) (take n g) (take n b)) ≡ 3 * n = mixed-long r g b n (omega arith) green blue in
    let grown : length (mixed (take n r) (take n g) (take n b) ++ more) ≡ length (mixed (take n r) (take n g) (take n b)) + 3 = length-append (mixed (take n r) (take n g) (take n b)) more in
    ap (λ (k : ℕ). length (mixed (take k r) (take k g) (take k b))) next ∙ (ap length (mixed-more r g b n (omega arith) green blue) ∙ (grown ∙ omega arith))

-- after a front stand n pixels of a row, and room for the others
pub record IsLaid (front r g b : List ℕ) (n : ℕ) (all : List ℕ) : Type 0 where
  pub rest : List ℕ
  pub room : length rest + 3 * n ≡ 3 * length r
  pub laid : all ≡ front ++ (mixed (take n r) (take n g) (take n b) ++ rest)

pub none-laid : (all r g b : List ℕ) (at : ℕ) → length all ≡ at + 3 * length r → IsLaid (take at all) r g b 0 all
none-laid all r g b at long = record {
  rest = drop at all;
  room = (let left : length (drop at all) ≡ length all - at = length-drop at all in omega arith);
  laid = sym (take-append-drop at all);
}

pub all-laid : (front all r g b : List ℕ) (n : ℕ) → n ≡ length r → length g ≡ length r → length b ≡ length r → IsLaid front r g b n all → all ≡ front ++ mixed r g b
all-laid front all r g b n whole green blue is =
    let room : length is.rest + 3 * n ≡ 3 * length r = is.room in
    let none : is.rest ≡ [] = nil_from_length is.rest (omega arith) in
    is.laid
    ∙ (ap (λ (l : List ℕ). front ++ (mixed (take n r) (take n g) (take n b) ++ l)) none
    ∙ (ap (λ (l : List ℕ). front ++ l) (append-nil (mixed (take n r) (take n g) (take n b)))
    ∙ (ap (λ (l : List ℕ). front ++ mixed l (take n g) (take n b)) (take_all n r (omega arith))
    ∙ (ap (λ (l : List ℕ). front ++ mixed r l (take n b)) (take_all n g (omega arith)) ∙ ap (λ (l : List ℕ). front ++ mixed r g l) (take_all n b (omega arith))))))

set-at : (front list : List ℕ) (n i j v : ℕ) → length front ≡ n → n + i ≡ j → slice_set (front ++ list) j v ≡ front ++ slice_set list i v
set-at front list n i j v long at =
    let from : j - n ≡ i = omega arith in
    set-append_right front list n j v long (omega arith) ∙ ap (λ (k : ℕ). front ++ slice_set list k v) from

-- one pixel more
pub pixel-laid : (front all r g b : List ℕ) (at n : ℕ) → length front ≡ at → n < length r → length g ≡ length r → length b ≡ length r → IsLaid front r g b n all → IsLaid front r g b (n + 1) (slice_set (slice_set (slice_set all (at + 3 * n) (get_or r n 0)) (at + 3 * n + 1) (get_or g n 0)) (at + 3 * n + 2) (get_or b n 0))
pixel-laid front all r g b at n long inside green blue is = go is.rest is.room is.laid
  where
    go : (rest : List ℕ) → length rest + 3 * n ≡ 3 * length r → all ≡ front ++ (mixed (take n r) (take n g) (take n b) ++ rest) → IsLaid front r g b (n + 1) (slice_set (slice_set (slice_set all (at + 3 * n) (get_or r n 0)) (at + 3 * n + 1) (get_or g n 0)) (at + 3 * n + 2) (get_or b n 0))
    go [] room laid = (let h : n < length r = inside in absurd (omega arith))
    go (p ∷ []) room laid = (let h : n < length r = inside in absurd (omega arith))
    go (p ∷ q ∷ []) room laid = (let h : n < length r = inside in absurd (omega arith))
    go (p ∷ q ∷ s ∷ rest) room laid =
        let x : ℕ = get_or r n 0 in
        let y : ℕ = get_or g n 0 in
        let z : ℕ = get_or b n 0 in
        let done : List ℕ = mixed (take n r) (take n g) (take n b) in
        let start : List ℕ = front ++ done in
        let many : length done ≡ 3 * n = mixed-long r g b n (let h : n < length r = inside in omega arith) green blue in
        let far : length start ≡ at + 3 * n = length-append front done ∙ (ap (λ (m : ℕ). m + length done) long ∙ ap (λ (m : ℕ). at + m) many) in
        let whole : all ≡ start ++ p ∷ q ∷ s ∷ rest = laid ∙ sym (append_assoc front done (p ∷ q ∷ s ∷ rest)) in
        let one : slice_set all (at + 3 * n) x ≡ start ++ x ∷ q ∷ s ∷ rest = ap (λ (l : List ℕ). slice_set l (at + 3 * n) x) whole ∙ set-at start (p ∷ q ∷ s ∷ rest) (at + 3 * n) 0 (at + 3 * n) x far (omega arith) in
        let two : slice_set (slice_set all (at + 3 * n) x) (at + 3 * n + 1) y ≡ start ++ x ∷ y ∷ s ∷ rest = ap (λ (l : List ℕ). slice_set l (at + 3 * n + 1) y) one ∙ set-at start (x ∷ q ∷ s ∷ rest) (at + 3 * n) 1 (at + 3 * n + 1) y far refl in
        let three : slice_set (slice_set (slice_set all (at + 3 * n) x) (at + 3 * n + 1) y) (at + 3 * n + 2) z ≡ start ++ x ∷ y ∷ z ∷ rest = ap (λ (l : List ℕ). slice_set l (at + 3 * n + 2) z) two ∙ set-at start (x ∷ y ∷ s ∷ rest) (at + 3 * n) 2 (at + 3 * n + 2) z far refl in
        let grown : done ++ x ∷ y ∷ z ∷ rest ≡ mixed (take (n + 1) r) (take (n + 1) g) (take (n + 1) b) ++ rest = sym (append_assoc done (x ∷ y ∷ z ∷ []) rest) ∙ ap (λ (l : List ℕ). l ++ rest) (sym (mixed-more r g b n inside green blue)) in
        record { rest = rest; room = (let left : suc (suc (suc (length rest))) + 3 * n ≡ 3 * length r = room in omega arith); laid = three ∙ (append_assoc front done (x ∷ y ∷ z ∷ rest) ∙ ap (λ (l : List ℕ). front ++ l) grown) }

mixed-map : (f g h : ℕ → ℕ) (l : List ℕ) → mixed (map (λ x. f (0 + x)) l) (map (λ x. g (0 + x)) l) (map (λ x. h (0 + x)) l) ≡ flat_map pixel_bytes (map (λ x. let c : Rgb = record { r = f x; g = g x; b = h x } in c) l)
mixed-map f g h [] = refl
mixed-map f g h (x ∷ l) =
    let same : 0 + x ≡ x = omega arith in
    ap (λ (k : ℕ). f k ∷ g k ∷ h k ∷ mixed (map (λ x. f (0 + x)) l) (map (λ x. g (0 + x)) l) (map (λ x. h (0 + x)) l)) same ∙ ap (λ (t : List ℕ). f x ∷ g x ∷ h x ∷ t) (mixed-map f g h l)

range-more : (a n : ℕ) → range_with_len a (n + 1) ≡ range_with_len a n ++ (a + n) ∷ []
range-more a zero = ap (λ (k : ℕ). k ∷ []) (omega arith)
range-more a (suc n) =
    let more : suc n + 1 ≡ suc (n + 1) = omega arith in
    ap (range_with_len a) more ∙ ap (λ (l : List ℕ). a ∷ l) (range-more (a + 1) n ∙ ap (λ (k : ℕ). range_with_len (a + 1) n ++ k ∷ []) (omega arith))

-- the rows of a picture, and one row more
rows-more : (w n : ℕ) (f : ℕ → ℕ → Rgb) → flat_map pixel_bytes (place_values w (n + 1) f) ≡ flat_map pixel_bytes (place_values w n f) ++ flat_map pixel_bytes (row_values w (λ x. f x n))
rows-more w n f =
    let g : ℕ → List Rgb = λ y. row_values w (λ x. f x y) in
    ap (λ (l : List ℕ). flat_map pixel_bytes (flat_map g l)) (range-more 0 n ∙ ap (λ (k : ℕ). below n ++ k ∷ []) (omega arith))
    ∙ (ap (flat_map pixel_bytes) (sym (flat_map_more g [] (below n) n)) ∙ flat_map-append pixel_bytes (flat_map g (below n)) (g n))

-- one row more
pub row-more : (front before after r g b : List ℕ) (p : ℕ → ℕ → ℕ → ℕ) (w width n : ℕ) → width ≡ w → r ≡ map (λ x. p 2 (0 + x) n) (below width) → g ≡ map (λ x. p 0 (0 + x) n) (below width) → b ≡ map (λ x. p 1 (0 + x) n) (below width) → before ≡ front ++ flat_map pixel_bytes (place_values w n (λ x y. record { r = p 2 x y; g = p 0 x y; b = p 1 x y })) → after ≡ before ++ mixed r g b → after ≡ front ++ flat_map pixel_bytes (place_values w (n + 1) (λ x y. record { r = p 2 x y; g = p 0 x y; b = p 1 x y }))
row-more front before after r g b p w width n wide red green blue old new =
    let f : ℕ → ℕ → Rgb = λ x y. record { r = p 2 x y; g = p 0 x y; b = p 1 x y } in
    let start : List ℕ = flat_map pixel_bytes (place_values w n f) in
    let more : List ℕ = flat_map pixel_bytes (row_values w (λ x. f x n)) in
    let row : mixed r g b ≡ more = rw red (rw green (rw blue (rw wide (mixed-map (λ x. p 2 x n) (λ x. p 0 x n) (λ x. p 1 x n) (below w))))) in
    new
    ∙ (ap (λ (l : List ℕ). l ++ mixed r g b) old
    ∙ (ap (λ (l : List ℕ). (front ++ start) ++ l) row ∙ (append_assoc front start more ∙ ap (λ (l : List ℕ). front ++ l) (sym (rows-more w n f)))))

-- all rows
pub rows-all : (front before after : List ℕ) (size : Size) (p : Picture) (n : ℕ) → n ≡ size.h → before ≡ front → after ≡ before ++ flat_map pixel_bytes (place_values size.w n (λ x y. record { r = p 2 x y; g = p 0 x y; b = p 1 x y })) → after ≡ front ++ flat_map pixel_bytes (crop size p)
unfolding crop
rows-all front before after size p n high same new =
    let f : ℕ → ℕ → Rgb = λ x y. record { r = p 2 x y; g = p 0 x y; b = p 1 x y } in
    new ∙ (ap (λ (l : List ℕ). l ++ flat_map pixel_bytes (place_values size.w n f)) same ∙ ap (λ (k : ℕ). front ++ flat_map pixel_bytes (place_values size.w k f)) high)

-- a head and all rows are a frame
pub frame-is : (front middle after : List ℕ) (size : Size) (raster : Raster) (w h : ℕ) → w ≡ size.w → h ≡ size.h → middle ≡ front ++ frame_head (record { w = w; h = h }) → after ≡ middle ++ flat_map pixel_bytes raster → after ≡ front ++ frame size raster
unfolding frame
frame-is front middle after size raster w h wide high head new =
    let rows : List ℕ = flat_map pixel_bytes raster in
    let same : frame_head (record { w = w; h = h }) ≡ frame_head size = ap (λ (k : ℕ). frame_head (record { w = k; h = h })) wide ∙ ap (λ (k : ℕ). frame_head (record { w = size.w; h = k })) high in
    new ∙ (ap (λ (l : List ℕ). l ++ rows) (head ∙ ap (λ (l : List ℕ). front ++ l) same) ∙ append_assoc front (frame_head size) rows)
