use Rattle.std.proofs.Common.{rules, ◌≡◌, ◌∙◌, ap, sym, replicate, map, false, []}
use Rattle.h265_model.specs.Plain.{Size, below}
use Rattle.recorder_model.specs.Desk.{is_touched}
use Rattle.h265_model.specs.Tiles.{tile_count}
use Rattle.px_plane.specs.Planes.{Planes}
use Rattle.desk_surface.proofs.Marks.{flagged_none}
use Rattle.desk_surface.proofs.Painted.{none_shows}
use Rattle.desk_surface.proofs.surface.Surface.new.Goals as goal

pub returns-clause-black : goal.returns-clause-black
returns-clause-black c = none_shows c.in_ok-picture.picture c.in_ok-picture.ensures.shows

pub returns-clause-clean : goal.returns-clause-clean
returns-clause-clean c =
    let lowered : c.in_ok-flags.flags.items ≡ replicate (tile_count c.args.size) false = search rules in
    let size : c.in_ok-picture.picture.size ≡ c.args.size = ap (λ (p : Planes). p.size) c.in_ok-picture.ensures.value in
    record { flags = lowered ∙ (flagged_none c.args.size ∙ ap (λ (s : Size). map (is_touched s []) (below (tile_count s))) (sym size)) }
