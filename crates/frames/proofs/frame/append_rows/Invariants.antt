use Rattle.std.proofs.Common.{◌≡◌, ◌++◌, flat_map}
use Rattle.h265_model.specs.Plain.{place_values}
use Rattle.h265_model.specs.declared.rgb.Rgb.{Rgb}
use Rattle.px_plane.specs.Planes.{picture_of}
use Rattle.recorder_model.specs.Frames.{pixel_bytes}
use Rattle.frames.proofs.frame.append_rows.Given as goal

-- the rows above y were appended
abbrev pub invariant-loop-y : goal.invariant-loop-y
invariant-loop-y l = l.out.items ≡ l.initial.out.items ++ flat_map pixel_bytes (place_values l.picture.size.w l.y (λ x y. let c : Rgb = record { r = picture_of l.picture 2 x y; g = picture_of l.picture 0 x y; b = picture_of l.picture 1 x y } in c))
