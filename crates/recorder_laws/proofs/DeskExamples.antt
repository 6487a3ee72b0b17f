-- The desk, the wave and the report, computed.
use Rattle.std.specs.Prelude.{◌≡◌, ℕ, false, List, [], ◌∷◌, ◌++◌, map, codes, Ok, Some, None, unwrap_or, refl}
use Rattle.std.specs.Fmt.{digits}
use Rattle.h265_model.specs.Plain.{below}
use Rattle.recorder_model.specs.declared.line.Line.{Line}
use Rattle.recorder_model.specs.declared.line.Line.TheVariants.{Fill, Blit, Copy, Cut}
use Rattle.recorder_model.specs.Script.{script_of, has_version_line, pieces_script, line_of, colours, number_up_to}
use Rattle.recorder_model.specs.Report.{report_text}
use Rattle.recorder_model.specs.Desk.{touched_by}
use Rattle.h265_model.specs.Wave.{Jobs, Event, Claim, Sync, Code, Publish, Finish, new_wave, allows_row, inherited, row_bytes, results}
use Rattle.recorder_model.specs.Headline.{scripts_after, scripts_of}
use Rattle.recorder_model.specs.Histories.{own_order}
use Rattle.recorder_model.specs.Painting.{pictures, colour, raster, lines_of, rasters_after}

report_1 : report_text 1 0 4693 ≡ codes "pictures 1" ++ 10 ∷ codes "paints 0" ++ 10 ∷ codes "bytes 4693" ++ 10 ∷ []
unfolding digits
report_1 = refl

-- a rectangle over a corner of four tiles, one at the desktop's edge, and one outside
corner : touched_by (record { w = 64; h = 64 }) (Fill (record { x = 31; y = 31; w = 2; h = 2 }) (record { r = 0; g = 0; b = 0 }) ∷ []) ≡ 0 ∷ 1 ∷ 2 ∷ 3 ∷ []
unfolding touched_by
corner = refl

edge : touched_by (record { w = 33; h = 32 }) (Fill (record { x = 32; y = 0; w = 900; h = 1 }) (record { r = 0; g = 0; b = 0 }) ∷ []) ≡ 1 ∷ []
unfolding touched_by
edge = refl

outside : touched_by (record { w = 33; h = 32 }) (Fill (record { x = 33; y = 0; w = 9; h = 1 }) (record { r = 0; g = 0; b = 0 }) ∷ Fill (record { x = 0; y = 32; w = 9; h = 1 }) (record { r = 0; g = 0; b = 0 }) ∷ []) ≡ []
unfolding touched_by
outside = refl

-- two rows of two units, whose bytes tell what they inherited
abbrev jobs : Jobs
jobs = record { width = 2; second = λ r o. r ∷ unwrap_or o []; bytes = λ r o. 100 ∷ r ∷ unwrap_or o [] }

abbrev schedule : List Event
schedule = Claim 0 ∷ Claim 1 ∷ Code 0 ∷ Code 0 ∷ Publish 0 ∷ Sync 1 ∷ Finish 0 ∷ Code 1 ∷ Code 1 ∷ Publish 1 ∷ Finish 1 ∷ []

scheduled : (results jobs 2 schedule).finished ≡ map (λ r. Some (row_bytes jobs r)) (below 2)
unfolding inherited
scheduled = refl

too_early : allows_row (new_wave 2 2) (Sync 1) ≡ false
too_early = refl

-- a script, its order and its pictures
abbrev text : List ℕ
text = codes "fill 0 0 1 1 0a0b0c" ++ 10 ∷ codes "cut" ++ 10 ∷ codes "blit 1 0 1 2 010203040506" ++ 10 ∷ codes "cut" ++ 10 ∷ []

abbrev script : List Line
script = Fill (record { x = 0; y = 0; w = 1; h = 1 }) (record { r = 10; g = 11; b = 12 }) ∷ Cut
    ∷ Blit (record { x = 1; y = 0; w = 1; h = 2 }) (record { r = 1; g = 2; b = 3 } ∷ record { r = 4; g = 5; b = 6 } ∷ []) ∷ Cut ∷ []

accepted : scripts_of (text ∷ []) ≡ Ok (script ∷ [])
unfolding scripts_after script_of has_version_line pieces_script line_of colours number_up_to
accepted = refl

shown : pictures (record { w = 2; h = 1 }) (script ∷ []) (own_order (script ∷ [])) ≡ (record { r = 10; g = 11; b = 12 } ∷ record { r = 0; g = 0; b = 0 } ∷ []) ∷ (record { r = 10; g = 11; b = 12 } ∷ record { r = 1; g = 2; b = 3 } ∷ []) ∷ []
unfolding raster colour lines_of rasters_after
shown = refl

-- ---- copies

-- a copy over its own source: all of it is read first
abbrev overlapping : List Line
overlapping = Fill (record { x = 0; y = 0; w = 1; h = 1 }) (record { r = 255; g = 0; b = 0 })
    ∷ Fill (record { x = 1; y = 0; w = 1; h = 1 }) (record { r = 0; g = 255; b = 0 }) ∷ Copy (record { x = 0; y = 0; w = 2; h = 1 }) 1 0 ∷ []

abbrev laid_out : List Line
laid_out = Fill (record { x = 0; y = 0; w = 2; h = 1 }) (record { r = 255; g = 0; b = 0 }) ∷ Fill (record { x = 2; y = 0; w = 1; h = 1 }) (record { r = 0; g = 255; b = 0 }) ∷ []

read_first : raster (record { w = 8; h = 2 }) overlapping ≡ raster (record { w = 8; h = 2 }) laid_out
unfolding raster colour
read_first = refl

-- a place whose source lies outside the desktop isn't painted
abbrev at_the_side : List Line
at_the_side = Fill (record { x = 31; y = 0; w = 1; h = 1 }) (record { r = 255; g = 255; b = 255 }) ∷ Copy (record { x = 31; y = 0; w = 2; h = 1 }) 0 0 ∷ []

from_the_side : colour (record { w = 32; h = 32 }) at_the_side 0 0 ≡ record { r = 255; g = 255; b = 255 }
unfolding colour
from_the_side = refl

beyond_the_side : colour (record { w = 32; h = 32 }) at_the_side 1 0 ≡ record { r = 0; g = 0; b = 0 }
unfolding colour
beyond_the_side = refl

kept_at_the_side : colour (record { w = 32; h = 32 }) at_the_side 31 0 ≡ record { r = 255; g = 255; b = 255 }
unfolding colour
kept_at_the_side = refl

-- it paints in the tiles of its target, wherever the sources lie
of_the_target : touched_by (record { w = 64; h = 64 }) (Copy (record { x = 0; y = 0; w = 40; h = 40 }) 40 33 ∷ []) ≡ 3 ∷ []
unfolding touched_by
of_the_target = refl
