-- What the grammar of scripts can spell.
use Rattle.std.specs.Prelude.{◌≡◌, ℕ, ◌*◌, ◌<◌, ◌≤◌, List, length}
use Rattle.std.specs.List.{All}
use Rattle.recorder_model.specs.Script.{most_number, most_pixels}
use Rattle.h265_model.specs.declared.rect.Rect.{Rect}
use Rattle.h265_model.specs.declared.rgb.Rgb.{Rgb}
use Rattle.recorder_model.specs.declared.line.Line.{Line}
use Rattle.recorder_model.specs.declared.line.Line.TheVariants.{Fill, Blit, Copy, Cut}

-- numbers of at most 65535, and sides of at least 1
pub record IsSpellableRect (r : Rect) : Type 0 where
  pub x : r.x ≤ most_number
  pub y : r.y ≤ most_number
  pub w : r.w ≤ most_number
  pub h : r.h ≤ most_number
  pub wide : 1 ≤ r.w
  pub high : 1 ≤ r.h

-- 8 bits a component
pub record IsSpellableColour (c : Rgb) : Type 0 where
  pub r : c.r < 256
  pub g : c.g < 256
  pub b : c.b < 256

-- a colour for each place of the rectangle, of at most 4096
pub record AreSpellablePixels (r : Rect) (pixels : List Rgb) : Type 0 where
  pub count : length pixels ≡ r.w * r.h
  pub few : r.w * r.h ≤ most_pixels
  pub colours : All IsSpellableColour pixels

abbrev pub IsSpellable : Line → Type 0
IsSpellable (Fill r c) = IsSpellableRect r × IsSpellableColour c
IsSpellable (Blit r pixels) = IsSpellableRect r × AreSpellablePixels r pixels
IsSpellable (Copy r to_x to_y) = IsSpellableRect r × (to_x ≤ most_number) × (to_y ≤ most_number)
IsSpellable Cut = Unit {0}

abbrev pub AreSpellable : List Line → Type 0
AreSpellable lines = All IsSpellable lines

-- versions 1 and 2
pub record IsVersion (version : ℕ) : Type 0 where
  pub low : 1 ≤ version
  pub high : version ≤ 2

-- only version 2 has lines that copy
abbrev pub IsOfVersion : ℕ → Line → Type 0
IsOfVersion version (Fill r c) = Unit {0}
IsOfVersion version (Blit r pixels) = Unit {0}
IsOfVersion version (Copy r to_x to_y) = version ≡ 2
IsOfVersion version Cut = Unit {0}

abbrev pub AreOfVersion : ℕ → List Line → Type 0
AreOfVersion version lines = All (IsOfVersion version) lines
