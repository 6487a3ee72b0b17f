-- All rows of a frame, or too few.
use Rattle.std.proofs.Common.{◌≡◌, ℕ, ◌+◌, ◌*◌, ◌<◌, ◌≤◌, true, false, List, ◌++◌, length, get_or, take, drop, Option, Result, Ok, Err, refl, sym, ap, subst, ◌∙◌, arith, length-append}
use Rattle.std.specs.Prelude.{nat_lt, ◌&&◌, IsTrue}
use Rattle.std.proofs.Math.Nat.{mul-le-mul_left}
use Rattle.std.specs.Result.{IsErrAnd}
use Rattle.std.proofs.lemmas.List.{take_at, drop_at, length-take-le}
use Rattle.std.proofs.lemmas.Bool.{cond-true, cond-false, lt-ltb, and_from}
use Rattle.std.proofs.lemmas.Bool.Decides.{nat_tests}
use Rattle.std.proofs.lemmas.Result.{err_from_is_err_and}
use Rattle.h265_model.specs.Plain.{Size, coded, place_values}
use Rattle.h265_model.specs.Settings.{is_size}
use Rattle.h265_model.specs.Raster.{Raster, component, black, crop}
use Rattle.h265_model.specs.declared.rgb.Rgb.{Rgb}
use Rattle.h265_model.proofs.Squares.{same_places, places_are}
use Rattle.px_plane.specs.Planes.{Planes, picture_of, Shows, ShowsColours}
use Rattle.px_plane.proofs.Shown.{InLimits, in_limits}
use Rattle.frame_read.specs.declared.error.Flaw.TheVariants.{Truncated}
use Rattle.frame_read.specs.declared.error.FrameError.{FrameError}
use Rattle.frame_read.specs.declared.error.FrameError.TheVariants.{Bad, Failed, NoMemory}
use Rattle.frame_read.specs.Answers.{ReadsBy}
use Rattle.frame_read.specs.Pixels.{colours, pixel_count, pixels_of, Fills, ReadsPixels, IsClean}
use Rattle.frame_read.proofs.Calls.{told_on, told_as}
use Rattle.frame_read.proofs.Colours.{length-colours}
use Rattle.frame_read.proofs.FrameRows.{AreRead, shown_to}

-- the pixels at the front of the bytes
pub pixels_at : (size : Size) (taken left : List ℕ) → length taken ≡ pixel_count size → pixels_of size (taken ++ left) ≡ Ok (colours taken, left)
unfolding pixels_of
pixels_at size taken left long =
    let all : length (taken ++ left) ≡ length taken + length left = length-append taken left in
    let enough : nat_lt (length (taken ++ left)) (pixel_count size) ≡ false = grind (arith, nat_tests) in
    cond-false (nat_lt (length (taken ++ left)) (pixel_count size)) _ _ enough
    ∙ (ap (λ (l : List ℕ). Ok (colours l, drop (pixel_count size) (taken ++ left))) (take_at taken left (pixel_count size) long)
    ∙ ap (λ (l : List ℕ). Ok (colours taken, l)) (drop_at taken left (pixel_count size) long))

pub pixels_cut : (size : Size) (bytes : List ℕ) → length bytes < pixel_count size → pixels_of size bytes ≡ Err Truncated
unfolding pixels_of
pixels_cut size bytes short = cond-true (nat_lt (length bytes) (pixel_count size)) _ _ (lt-ltb (length bytes) (pixel_count size) short)

-- what a picture has of the desktop
abbrev seen : Planes → ℕ → ℕ → Rgb
seen p x y = record { r = picture_of p 2 x y; g = picture_of p 0 x y; b = picture_of p 1 x y }

crop_is : (p : Planes) → crop p.size (picture_of p) ≡ place_values p.size.w p.size.h (seen p)
unfolding crop
crop_is p = refl

module _ (old picture : Planes) (y : ℕ) (a b : Option (List ℕ)) (faults_before faults : ℕ) (is : AreRead old y picture a b faults_before faults) where
  -- the place of each colour
  seen_is : y ≡ old.size.h → (i j : ℕ) → i < old.size.w → j < old.size.h → get_or (colours is.taken) (j * old.size.w + i) black ≡ seen picture i j
  seen_is whole i j column row =
      let wide : i < coded picture.size.w = subst (λ (s : Size). i < coded s.w) (sym is.same_size) (omega arith) in
      let high : j < coded picture.size.h = subst (λ (s : Size). j < coded s.h) (sym is.same_size) (omega arith) in
      let here : (nat_lt i old.size.w && nat_lt j y) ≡ true = and_from (nat_lt i old.size.w) (nat_lt j y) (lt-ltb i old.size.w column) (lt-ltb j y (omega arith)) in
      let colour : Rgb = get_or (colours is.taken) (j * old.size.w + i) black in
      let stored = λ (c : ℕ) (h : c < 3). is.stored.each c i j h wide high ∙ cond-true (nat_lt i old.size.w && nat_lt j y) (component c colour) (picture_of old c i j) here in
      ap (λ (v : ℕ). let c : Rgb = record { r = v; g = colour.g; b = colour.b } in c) (sym (stored 2 (omega arith)))
      ∙ (ap (λ (v : ℕ). let c : Rgb = record { r = picture_of picture 2 i j; g = v; b = colour.b } in c) (sym (stored 0 (omega arith)))
      ∙ ap (λ (v : ℕ). let c : Rgb = record { r = picture_of picture 2 i j; g = picture_of picture 0 i j; b = v } in c) (sym (stored 1 (omega arith))))

  taken_is : y ≡ old.size.h → IsTrue (is_size old.size) → colours is.taken ≡ crop picture.size (picture_of picture)
  taken_is whole sized =
      let limits : InLimits old.size = in_limits old.size sized in
      let some : 1 ≤ old.size.w = limits.w_low in
      let long : length is.taken ≡ 3 * (old.size.w * old.size.h) = is.long ∙ ap (λ (k : ℕ). 3 * (old.size.w * k)) whole in
      places_are old.size.w old.size.h (colours is.taken) (seen picture) black (omega arith) (length-colours is.taken (old.size.w * old.size.h) long) (seen_is whole)
      ∙ (ap (λ (s : Size). place_values s.w s.h (seen picture)) (sym is.same_size) ∙ sym (crop_is picture))

  pub all_read : y ≡ old.size.h → IsTrue (is_size old.size) → ReadsBy (pixels_of old.size) a b (Ok (crop picture.size (picture_of picture)))
  all_read whole sized =
      told_as a b _ (λ was now. pixels_of old.size was ≡ Ok (crop picture.size (picture_of picture), now)) is.told
      (λ x z p. ap (pixels_of old.size) p
      ∙ (pixels_at old.size is.taken z (is.long ∙ ap (λ (k : ℕ). 3 * (old.size.w * k)) whole)
      ∙ ap (λ (r : Raster). Ok (r, z)) (taken_is whole sized)))

  pub still_clean : y ≡ old.size.h → IsTrue (is_size old.size) → IsClean old → IsClean picture
  still_clean whole sized clean =
      let before : ShowsColours old (seen old) = subst (λ (r : Raster). Shows old r) (crop_is old) clean in
      let after : ShowsColours picture (shown_to old.size is.taken y (seen old)) = is.shows (seen old) before in
      let same : place_values picture.size.w picture.size.h (shown_to old.size is.taken y (seen old)) ≡ place_values picture.size.w picture.size.h (seen picture) =
      same_places picture.size.w picture.size.h _ (seen picture) (λ i j hi hj.
      let column : i < old.size.w = subst (λ (s : Size). i < s.w) is.same_size hi in
      let row : j < old.size.h = subst (λ (s : Size). j < s.h) is.same_size hj in
      let here : (nat_lt i old.size.w && nat_lt j y) ≡ true = and_from (nat_lt i old.size.w) (nat_lt j y) (lt-ltb i old.size.w column) (lt-ltb j y (omega arith)) in
      cond-true (nat_lt i old.size.w && nat_lt j y) (get_or (colours is.taken) (j * old.size.w + i) black) (seen old i j) here ∙ seen_is whole i j column row) in
      subst (λ (r : Raster). Shows picture r) (same ∙ sym (crop_is picture)) after

  -- too few bytes for the next rows
  pub rows_fail : (bytes : List ℕ) (n : ℕ) (c : Option (List ℕ)) (error : FrameError) → y + n ≤ old.size.h → length bytes ≡ 3 * (old.size.w * n)
      → Fills bytes b c (Err error) → ReadsBy {A = Raster} (pixels_of old.size) a c (Err error)
  rows_fail bytes n c error fits long h = go error h
    where
      go : (e : FrameError) → Fills bytes b c (Err e) → ReadsBy {A = Raster} (pixels_of old.size) a c (Err e)
      go (Bad flaw) h =
          told_on a b c _ _ (λ was now. pixels_of old.size was ≡ Err flaw) is.told h (λ x z v p q.
          ap (pixels_of old.size) p ∙ (pixels_cut old.size (is.taken ++ z) (too_short z q.1) ∙ ap Err (sym q.0)))
        where
          too_short : (z : List ℕ) → length z < length bytes → length (is.taken ++ z) < pixel_count old.size
          too_short z less =
              let all : length (is.taken ++ z) ≡ length is.taken + length z = length-append is.taken z in
              let front : length is.taken ≡ 3 * (old.size.w * y) = is.long in
              let product : old.size.w * (y + n) ≤ old.size.w * old.size.h = mul-le-mul_left old.size.w fits in
              omega arith
      go Failed h = told_on a b c _ _ (λ was now. Unit {0}) is.told h (λ x z v p q. tt)
      go NoMemory h = told_on a b c _ _ (λ was now. Unit {0}) is.told h (λ x z v p q. tt)

-- the exit of a `?`
pub pixels_at_err : (size : Size) (a b : Option (List ℕ)) (picture : Planes) (error : FrameError) (result : Result (Unit {0}) FrameError)
    → IsErrAnd result (λ e. e ≡ error) → ReadsBy {A = Raster} (pixels_of size) a b (Err error) → ReadsPixels size a b picture result
pixels_at_err size a b picture error result h is = let p = err_from_is_err_and result h in rw (p.1, p.2) is

-- the bytes of so many rows, of which there is room for some more
pub strip_long : (w width n rows : ℕ) (room bytes : List ℕ) → length room ≡ 3 * (width * rows) → w ≡ width → n ≤ rows
    → length bytes ≡ length (take (3 * (w * n)) room) → length bytes ≡ 3 * (width * n)
strip_long w width n rows room bytes long wide few taken =
    let product : width * n ≤ width * rows = mul-le-mul_left width few in
    let same : 3 * (w * n) ≡ 3 * (width * n) = ap (λ (k : ℕ). 3 * (k * n)) wide in
    let front : length (take (3 * (w * n)) room) ≡ 3 * (w * n) = length-take-le (3 * (w * n)) room (omega arith) in
    taken ∙ (front ∙ same)
