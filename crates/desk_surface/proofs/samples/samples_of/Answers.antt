use Rattle.std.proofs.Common.{◌≡◌, ℕ, List, [], ◌∷◌, ◌++◌, take, flat_map, get_or, ap, sym, ◌∙◌, arith}
use Rattle.std.proofs.lemmas.List.{append-nil, take_more}
use Rattle.std.proofs.lemmas.Grind.{flat_map-append}
use Rattle.h265_model.specs.Tiles.{tile_samples}
use Rattle.px_plane.specs.Planes.{picture_of}
use Rattle.desk_surface.proofs.samples.samples_of.Goals as goal

pub loop-place-preserved : goal.loop-place-preserved
loop-place-preserved c =
    let f : ℕ → List ℕ = tile_samples c.args.picture.now.size (picture_of c.args.picture.now) in
    let i : ℕ = c.loop-place.place in
    let tiles : List ℕ = c.args.tiles.now in
    let tile : ℕ = get_or tiles i 0 in
    let one : flat_map f (tile ∷ []) ≡ f tile = append-nil (f tile) in
    c.in_ok-append_tile.ensures
    ∙ (ap (λ l. l ++ f tile) c.loop-place.invariant
    ∙ (ap (λ l. flat_map f (take i tiles) ++ l) (sym one)
    ∙ (sym (flat_map-append f (take i tiles) (tile ∷ [])) ∙ ap (flat_map f) (sym (take_more tiles i 0 (omega arith))))))
