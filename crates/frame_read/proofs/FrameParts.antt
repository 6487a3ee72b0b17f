-- A head and its pixels are a frame.
use Rattle.std.proofs.Common.{◌≡◌, ℕ, Bool, List, Option, Some, None, Result, Ok, Err, refl, sym, ap, ◌∙◌}
use Rattle.std.specs.Result.{IsErrAnd}
use Rattle.std.proofs.lemmas.Result.{err_from_is_err_and}
use Rattle.h265_model.specs.Bits.{◌>>-◌}
use Rattle.h265_model.specs.Plain.{Size}
use Rattle.h265_model.specs.Raster.{Raster, crop}
use Rattle.px_plane.specs.Planes.{Planes, picture_of}
use Rattle.frame_read.specs.declared.error.Flaw.{Flaw}
use Rattle.frame_read.specs.declared.error.FrameError.{FrameError}
use Rattle.frame_read.specs.Answers.{ReadsBy}
use Rattle.frame_read.specs.Heads.{next_head}
use Rattle.frame_read.specs.Pixels.{pixels_of}
use Rattle.frame_read.specs.Listed.{Framed, with_pixels, next_frame, ReadsFirst, ReadsFrame}
use Rattle.frame_read.proofs.Calls.{reads_then, reads_not, told_same, told_as}

-- the pixels behind a head of this size
abbrev sized : Size → List ℕ → Result (Option Framed × List ℕ) Flaw
sized s rest = pixels_of s rest >>- λ pixels. Ok (Some (s, pixels.0), pixels.1)

module _ (like : Option Size) (s : Size) (a b : Option (List ℕ)) where
  pub no_frame : ReadsBy (next_head like) a b (Ok None) → ReadsBy {A = Option Framed} (next_frame like) a b (Ok None)
  unfolding next_frame
  no_frame h =
      reads_then (next_frame like) (next_head like) (λ rest. Ok (None, rest)) a b b None (Ok None) h (told_same b _ (λ x. refl))
      (λ was rest e. ap (λ r. r >>- λ head. with_pixels head.0 head.1) e)

  pub no_head : (error : FrameError) → ReadsBy {A = Option Size} (next_head like) a b (Err error) → ReadsBy {A = Option Framed} (next_frame like) a b (Err error)
  unfolding next_frame
  no_head error h = reads_not (next_frame like) (next_head like) a b error h (λ was flaw e. ap (λ r. r >>- λ head. with_pixels head.0 head.1) e)

  -- the size of a head is this one
  abbrev Tells : Size → Type 0
  Tells size = (was rest : List ℕ) → next_head like was ≡ Ok (Some size, rest) → size ≡ s

  headed : (size : Size) → Tells size → (was rest : List ℕ) → next_head like was ≡ Ok (Some size, rest) → next_frame like was ≡ sized s rest
  unfolding next_frame
  headed size tells was rest e =
      ap (λ r. r >>- λ head. with_pixels head.0 head.1) e ∙ ap (λ (t : Size). sized t rest) (tells was rest e)

  pub whole_frame : (size : Size) (picture : Planes) (c : Option (List ℕ)) → Tells size → ReadsBy (next_head like) a b (Ok (Some size)) → picture.size ≡ s
      → ReadsBy (pixels_of s) b c (Ok (crop picture.size (picture_of picture)))
      → ReadsBy {A = Option Framed} (next_frame like) a c (Ok (Some (picture.size, crop picture.size (picture_of picture))))
  whole_frame size picture c tells head same pixels =
      reads_then (next_frame like) (next_head like) (sized s) a b c (Some size) (Ok (Some (picture.size, crop picture.size (picture_of picture)))) head
      (told_as b c _ _ pixels (λ x y p. ap (λ r. r >>- λ pixels. Ok (Some (s, pixels.0), pixels.1)) p ∙ ap (λ (t : Size). Ok (Some (t, crop picture.size (picture_of picture)), y)) (sym same)))
      (headed size tells)

  pub no_pixels : (size : Size) (error : FrameError) (c : Option (List ℕ)) → Tells size → ReadsBy (next_head like) a b (Ok (Some size))
      → ReadsBy {A = Raster} (pixels_of s) b c (Err error) → ReadsBy {A = Option Framed} (next_frame like) a c (Err error)
  no_pixels size error c tells head pixels =
      reads_then (next_frame like) (next_head like) (sized s) a b c (Some size) (Err error) head
      (reads_not (sized s) (pixels_of s) b c error pixels (λ was flaw e. ap (λ r. r >>- λ pixels. Ok (Some (s, pixels.0), pixels.1)) e))
      (headed size tells)

-- the exit of a `?`
pub frame_at_err : (s : Size) (a b : Option (List ℕ)) (picture : Planes) (error : FrameError) (result : Result Bool FrameError)
    → IsErrAnd result (λ e. e ≡ error) → ReadsBy {A = Option Framed} (next_frame (Some s)) a b (Err error) → ReadsFrame (Some s) a b picture result
frame_at_err s a b picture error result h is = let p = err_from_is_err_and result h in rw (p.1, p.2) is

pub first_at_err : (a b : Option (List ℕ)) (error : FrameError) (result : Result (Option Planes) FrameError)
    → IsErrAnd result (λ e. e ≡ error) → ReadsBy {A = Option Framed} (next_frame None) a b (Err error) → ReadsFirst a b result
first_at_err a b error result h is = let p = err_from_is_err_and result h in rw (p.1, p.2) is
