-- What is written as a frame is read as that frame.
use Rattle.std.proofs.Common.{◌≡◌, ℕ, ◌+◌, ◌*◌, ◌/◌, ◌%◌, ◌^◌, ◌<◌, ◌≤◌, true, false, List, [], ◌∷◌, ◌++◌, length, Option, Some, None, Ok, Err, refl, ap, ◌∙◌, arith, append_assoc}
use Rattle.std.specs.Prelude.{IsTrue, codes, decimal, flat_map, ◌==◌, unwrap_or}
use Rattle.std.specs.List.{AllByRecursion}
use Rattle.std.proofs.lemmas.Fmt.{decimal_by_steps}
use Rattle.std.proofs.lemmas.Bool.Decides.{nat_tests}
use Rattle.std.proofs.lemmas.Bool.{eq-eqb, and_from}
use Rattle.h265_model.specs.Bits.{◌>>-◌}
use Rattle.h265_model.specs.Plain.{Size}
use Rattle.h265_model.specs.Settings.{is_size}
use Rattle.h265_model.specs.Raster.{Raster}
use Rattle.h265_model.specs.declared.rgb.Rgb.{Rgb}
use Rattle.px_plane.proofs.Shown.{InLimits, in_limits}
use Rattle.recorder_model.specs.Frames.{frame, frames, frame_head, pixel_bytes}
use Rattle.frame_read.specs.declared.error.Flaw.TheVariants.{NoNumber}
use Rattle.frame_read.specs.declared.error.HeadNumber.{HeadNumber}
use Rattle.frame_read.specs.declared.error.HeadNumber.TheVariants.{Width, Height, Maximum}
use Rattle.frame_read.specs.declared.number.Stand.{Stand}
use Rattle.frame_read.specs.declared.number.Step.TheVariants.{On, End}
use Rattle.frame_read.specs.Numbers.{is_white, opens_comment, is_digit, with_digit, step, stepped, number_from, before_number}
use Rattle.frame_read.specs.Heads.{size_of, is_like, head_of, next_head}
use Rattle.frame_read.specs.Pixels.{colours, pixels_of}
use Rattle.frame_read.specs.Listed.{next_frame, with_pixels, FramesThen}
use Rattle.frame_read.specs.Laws.{HasPlaces}
use Rattle.frame_read.proofs.NumberSteps.{next_is}
use Rattle.frame_read.proofs.WholeFrames.{pixels_at}
use Rattle.frame_read.proofs.HeadParts.{from_height, from_maximum, judged}

-- ---- numbers

abbrev with_value : ℕ → Stand
with_value n = record { in_comment = false; value = Some n }

-- a digit
digit_is : (value : Option ℕ) (c : ℕ) → 48 ≤ c → c ≤ 57 → step (record { in_comment = false; value = value }) c ≡ On (with_value (with_digit (unwrap_or value 0) c))
digit_is value c low high =
    let no_comment : opens_comment c ≡ false = grind (arith, nat_tests) in
    let no_white : is_white c ≡ false = grind (arith, nat_tests) in
    let digit : is_digit c ≡ true = grind (arith, nat_tests) in
    rw (no_comment, no_white, digit) refl

digit_read : (which : HeadNumber) (value : Option ℕ) (c n : ℕ) (rest : List ℕ) → 48 ≤ c → c ≤ 57 → with_digit (unwrap_or value 0) c ≡ n
    → number_from which (record { in_comment = false; value = value }) (c ∷ rest) ≡ number_from which (with_value n) rest
digit_read which value c n rest low high same =
    next_is which (record { in_comment = false; value = value }) c rest
    ∙ (ap (λ s. stepped s (λ next. number_from which next rest) (λ n. Ok (n, rest)) (Err (NoNumber which))) (digit_is value c low high)
    ∙ ap (λ (k : ℕ). number_from which (with_value k) rest) same)

abbrev IsReadAs : ℕ → List ℕ → Type 0
IsReadAs n ds = n < 2 ^ 32 → (which : HeadNumber) (rest : List ℕ) → number_from which (before_number false) (ds ++ rest) ≡ number_from which (with_value n) rest

decimal_read : (n : ℕ) → n < 2 ^ 64 → IsReadAs n (decimal n)
decimal_read = decimal_by_steps IsReadAs
    (λ n small fits which rest. digit_read which None (48 + n) n rest (omega arith) (omega arith) (omega arith))
    (λ n ds large known fits which rest.
    ap (number_from which (before_number false)) (append_assoc ds ((48 + n % 10) ∷ []) rest)
    ∙ (known (omega arith) which ((48 + n % 10) ∷ rest)
    ∙ digit_read which (Some (n / 10)) (48 + n % 10) n rest (omega arith) (omega arith) (omega arith)))

-- white space behind the digits
white_ends : (which : HeadNumber) (n c : ℕ) (rest : List ℕ) → is_white c ≡ true → opens_comment c ≡ false → number_from which (with_value n) (c ∷ rest) ≡ Ok (n, rest)
white_ends which n c rest white comment =
    let last : step (with_value n) c ≡ End n = rw (comment, white) refl in
    next_is which (with_value n) c rest ∙ ap (λ s. stepped s (λ next. number_from which next rest) (λ n. Ok (n, rest)) (Err (NoNumber which))) last

number_read : (which : HeadNumber) (n c : ℕ) (rest : List ℕ) → n < 2 ^ 32 → is_white c ≡ true → opens_comment c ≡ false
    → number_from which (before_number false) (decimal n ++ c ∷ rest) ≡ Ok (n, rest)
number_read which n c rest fits white comment = decimal_read n (omega arith) fits which (c ∷ rest) ∙ white_ends which n c rest white comment

-- ---- heads

-- the head's parts, one after another
head_parts : (size : Size) (rest : List ℕ) → frame_head size ++ rest ≡ 80 ∷ 54 ∷ 10 ∷ (decimal size.w ++ 32 ∷ (decimal size.h ++ 10 ∷ (codes "255" ++ 10 ∷ rest)))
head_parts size rest =
    let w : List ℕ = decimal size.w in
    let h : List ℕ = decimal size.h in
    let m : List ℕ = codes "255" in
    ap (λ (l : List ℕ). 80 ∷ 54 ∷ 10 ∷ l)
    (append_assoc ((w ++ 32 ∷ h) ++ 10 ∷ m) (10 ∷ []) rest ∙ (append_assoc (w ++ 32 ∷ h) (10 ∷ m) (10 ∷ rest) ∙ append_assoc w (32 ∷ h) (10 ∷ (m ++ 10 ∷ rest))))

maximum_read : (rest : List ℕ) → number_from Maximum (before_number false) (codes "255" ++ 10 ∷ rest) ≡ Ok (255, rest)
unfolding number_from
maximum_read rest = refl

size_read : (like : Option Size) (size : Size) → IsTrue (is_size size) → IsTrue (is_like like size.w size.h) → size_of like size.w size.h 255 ≡ Ok size
size_read like size sized same = rw (sized, same) refl

head_read : (like : Option Size) (size : Size) (rest : List ℕ) → IsTrue (is_size size) → IsTrue (is_like like size.w size.h) → head_of like (frame_head size ++ rest) ≡ Ok (size, rest)
unfolding head_of
head_read like size rest sized same =
    let limits : InLimits size = in_limits size sized in
    let wide : size.w ≤ 4096 = limits.w_high in
    let high : size.h ≤ 4096 = limits.h_high in
    let behind : List ℕ = codes "255" ++ 10 ∷ rest in
    let from_h : List ℕ = decimal size.h ++ 10 ∷ behind in
    ap (head_of like) (head_parts size rest)
    ∙ (ap (λ r. r >>- λ w. from_height like w.0 w.1) (number_read Width size.w 32 from_h (omega arith) refl refl)
    ∙ (ap (λ r. r >>- λ h. from_maximum like size.w h.0 h.1) (number_read Height size.h 10 behind (omega arith) refl refl)
    ∙ (ap (λ r. r >>- λ maximum. judged like size.w size.h maximum.0 maximum.1) (maximum_read rest)
    ∙ ap (λ r. r >>- λ size. Ok (size, rest)) (size_read like size sized same))))

next_head_read : (like : Option Size) (size : Size) (rest : List ℕ) → IsTrue (is_size size) → IsTrue (is_like like size.w size.h) → next_head like (frame_head size ++ rest) ≡ Ok (Some size, rest)
next_head_read like size rest sized same =
    ap (λ r. r >>- λ head. Ok (Some head.0, head.1)) (head_read like size rest sized same)

-- ---- pixels

colours-pixels : (raster : Raster) → colours (flat_map pixel_bytes raster) ≡ raster
unfolding colours
colours-pixels [] = refl
colours-pixels (c ∷ cs) = ap (λ (l : List Rgb). c ∷ l) (colours-pixels cs)

length-pixels : (raster : Raster) → length (flat_map pixel_bytes raster) ≡ 3 * length raster
length-pixels [] = refl
length-pixels (c ∷ cs) = let more : length (flat_map pixel_bytes cs) ≡ 3 * length cs = length-pixels cs in omega arith

pixels_read : (size : Size) (raster : Raster) (rest : List ℕ) → HasPlaces size raster → pixels_of size (flat_map pixel_bytes raster ++ rest) ≡ Ok (raster, rest)
pixels_read size raster rest places =
    pixels_at size (flat_map pixel_bytes raster) rest (length-pixels raster ∙ ap (λ (k : ℕ). 3 * k) places)
    ∙ ap (λ (r : Raster). Ok (r, rest)) (colours-pixels raster)

-- ---- frames

pub frame_read : (like : Option Size) (size : Size) (raster : Raster) (rest : List ℕ) → IsTrue (is_size size) → IsTrue (is_like like size.w size.h)
    → HasPlaces size raster → next_frame like (frame size raster ++ rest) ≡ Ok (Some (size, raster), rest)
unfolding frame next_frame
frame_read like size raster rest sized same places =
    let pixels : List ℕ = flat_map pixel_bytes raster in
    ap (λ (l : List ℕ). next_head like l >>- λ head. with_pixels head.0 head.1) (append_assoc (frame_head size) pixels rest)
    ∙ (ap (λ r. r >>- λ head. with_pixels head.0 head.1) (next_head_read like size (pixels ++ rest) sized same)
    ∙ ap (λ r. r >>- λ pixels. Ok (Some (size, pixels.0), pixels.1)) (pixels_read size raster rest places))

itself : (size : Size) → IsTrue (is_like (Some size) size.w size.h)
itself size = and_from (size.w == size.w) (size.h == size.h) (eq-eqb size.w size.w refl) (eq-eqb size.h size.h refl)

list_read : (like : Option Size) (size : Size) (rasters : List Raster) → IsTrue (is_size size) → IsTrue (is_like like size.w size.h)
    → AllByRecursion (HasPlaces size) rasters → FramesThen size like (frames size rasters) rasters []
unfolding frames
list_read like size [] sized same places = refl
list_read like size (raster ∷ rasters) sized same places =
    (frames size rasters, frame_read like size raster (frames size rasters) sized same places.0, list_read (Some size) size rasters sized (itself size) places.1)

pub all_read_back : (size : Size) (rasters : List Raster) → IsTrue (is_size size) → AllByRecursion (HasPlaces size) rasters → FramesThen size None (frames size rasters) rasters []
all_read_back size rasters sized places = list_read None size rasters sized refl places
