-- The parts of a line, as the reader takes them.
use Rattle.std.specs.Prelude.{ℕ, Bool, true, false, not, ◌||◌, ◌==◌, List, [], ◌∷◌, Option, Some, None, Result, Ok, slice_index}
use Rattle.std.specs.Borrow.{Bor}
use Rattle.std.specs.List.{slice_split}
use Rattle.recorder_model.specs.declared.refusal.Cause.{Cause}
use Rattle.recorder_model.specs.declared.refusal.Cause.TheVariants.{BadNumber, ZeroSize}
use Rattle.h265_model.specs.declared.rect.Rect.{Rect}
use Rattle.h265_model.specs.Bits.{◌>>=◌}
use Rattle.recorder_model.specs.Script.{byte_at, rect_of, or_cause, check}
use Rattle.h265_model.specs.Bits.{◌>>-◌}
use Rattle.h265_model.specs.declared.rgb.Rgb.{Rgb}

-- the colour that the first six digits spell
abbrev pub colour_of : List ℕ → Option Rgb
colour_of digits = do
  r ← byte_at (slice_index digits 0) (slice_index digits 1)
  g ← byte_at (slice_index digits 2) (slice_index digits 3)
  b ← byte_at (slice_index digits 4) (slice_index digits 5)
  Some (record { r = r; g = g; b = b })

-- the rectangle of four words, with sides above 0
abbrev pub drawn_rect : List ℕ → List ℕ → List ℕ → List ℕ → Result Rect Cause
drawn_rect x y w h =
    or_cause BadNumber (rect_of x y w h) >>- λ r.
    check ZeroSize (not (r.w == 0 || r.h == 0)) >>- λ _.
    Ok r

-- just as many words as follow a command that paints
abbrev pub has_paint_words : List (List ℕ) → Bool
has_paint_words (x ∷ y ∷ w ∷ h ∷ last ∷ []) = true
has_paint_words _ = false

-- just as many words as follow `copy`
abbrev pub has_copy_words : List (List ℕ) → Bool
has_copy_words (x ∷ y ∷ w ∷ h ∷ to_x ∷ to_y ∷ []) = true
has_copy_words _ = false

-- the words of what follows a command's space
abbrev pub pieces_after : Option (Bor (List ℕ)) → List (List ℕ)
pieces_after None = []
pieces_after (Some text) = slice_split (λ c. c == 32) text.now
