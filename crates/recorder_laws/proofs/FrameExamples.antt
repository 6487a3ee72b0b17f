-- Frames, computed.
use Rattle.std.specs.Prelude.{◌≡◌, ℕ, [], ◌∷◌, flat_map, refl}
use Rattle.h265_model.specs.Plain.{Size}
use Rattle.h265_model.specs.declared.rgb.Rgb.{Rgb}
use Rattle.recorder_model.specs.Frames.{frames, pixel_bytes}

abbrev rgb : ℕ → ℕ → ℕ → Rgb
rgb r g b = record { r = r; g = g; b = b }

no_frames : frames (record { w = 2; h = 1 }) [] ≡ []
unfolding frames
no_frames = refl

-- the pixels of a frame
frame_pixels : flat_map pixel_bytes (rgb 255 128 64 ∷ rgb 0 1 2 ∷ []) ≡ 255 ∷ 128 ∷ 64 ∷ 0 ∷ 1 ∷ 2 ∷ []
frame_pixels = refl
