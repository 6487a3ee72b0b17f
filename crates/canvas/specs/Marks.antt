-- Marks of the coding tree units in which two pictures may differ.
use Rattle.std.specs.Prelude.{◌≡◌, ◌<◌, ℕ, ◌+◌, ◌*◌, ◌/◌, ◌==◌, Bool, true, false, List, length, slice_index_or, if◌then◌else◌}
use Rattle.h265_model.specs.Plain.{Size, coded, ctus}
use Rattle.px_plane.specs.Planes.{picture_of}
use Rattle.canvas.specs.Drawing.{Pictures}

-- the number of the coding tree unit with a place, in rows from the top (6.5.1)
abbrev pub ctu_at : Size → ℕ → ℕ → ℕ
ctu_at size x y = y / 32 * ctus size.w + x / 32

-- one mark was set, and the others are as before
abbrev pub IsMarked : List Bool → List Bool → ℕ → Bool → Type 0
IsMarked before after ctu mark = (i : ℕ) → slice_index_or after i true ≡ (if i == ctu then mark else slice_index_or before i true)

-- a mark for each coding tree unit: two pictures are the same in those that have none
pub record AreMarked (p : Pictures) (marks : List Bool) : Type 0 where
  pub long : length marks ≡ ctus p.last.size.w * ctus p.last.size.h
  pub same : (c x y : ℕ) → c < 3 → x < coded p.last.size.w → y < coded p.last.size.h → slice_index_or marks (ctu_at p.last.size x y) true ≡ false
      → picture_of p.drawn c x y ≡ picture_of p.last c x y
