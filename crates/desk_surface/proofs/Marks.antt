-- Flags as marks of what was painted.
use Rattle.std.proofs.Common.{◌≡◌, ℕ, ◌<◌, ◌||◌, Bool, true, false, List, [], ◌∷◌, ◌++◌, length, map, get_or, replicate, refl, sym, ap, ◌∙◌, arith}
use Rattle.std.proofs.lemmas.List.{get_or-replicate, length-replicate}
use Rattle.std.proofs.lemmas.List.Folds.{list_any-append}
use Rattle.std.proofs.lemmas.List.FromFn.{fill_by_all, get_or-map-range_with_len, length-map-range_with_len}
use Rattle.recorder_model.specs.declared.line.Line.{Line}
use Rattle.recorder_model.specs.declared.line.Line.TheVariants.{Fill, Blit, Copy, Cut}
use Rattle.h265_model.specs.declared.rect.Rect.{Rect}
use Rattle.h265_model.specs.Plain.{Size, below}
use Rattle.recorder_model.specs.Desk.{meets_tile, touches, is_touched}
use Rattle.h265_model.specs.Tiles.{tile_count}
use Rattle.desk_surface.specs.Damage.{IsOfRect}

or_nothing : (a : Bool) → (a || false) ≡ a
or_nothing true = refl
or_nothing false = refl

touches_rect : (size : Size) (t : ℕ) (line : Line) (rect : Rect) → IsOfRect line rect → touches size t line ≡ meets_tile size t rect
touches_rect size t (Fill r colour) rect is = ap (meets_tile size t) is
touches_rect size t (Blit r pixels) rect is = ap (meets_tile size t) is
touches_rect size t (Copy r to_x to_y) rect is = ap (meets_tile size t) is
touches_rect size t Cut rect is = absurd is

-- one more line paints in the tiles of the lines before, and in those that its rectangle meets
touched_more : (size : Size) (since : List Line) (line : Line) (rect : Rect) (t : ℕ) → IsOfRect line rect → is_touched size (since ++ line ∷ []) t ≡ (is_touched size since t || meets_tile size t rect)
touched_more size since line rect t is =
    list_any-append (touches size t) since (line ∷ [])
    ∙ ap (λ b. is_touched size since t || b) (or_nothing (touches size t line) ∙ touches_rect size t line rect is)

pub flagged_more : (size : Size) (flags new : List Bool) (since : List Line) (line : Line) (rect : Rect) → IsOfRect line rect → flags ≡ map (is_touched size since) (below (tile_count size)) → length new ≡ length flags
    → ((t : ℕ) → t < tile_count size → get_or new t false ≡ (get_or flags t false || meets_tile size t rect)) → new ≡ map (is_touched size (since ++ line ∷ [])) (below (tile_count size))
flagged_more size flags new since line rect is flagged long each =
    fill_by_all (is_touched size (since ++ line ∷ [])) new (tile_count size) false
    (long ∙ (ap length flagged ∙ length-map-range_with_len (is_touched size since) 0 (tile_count size)))
    (λ t less. each t less ∙ (ap (λ b. b || meets_tile size t rect) (ap (λ l. get_or l t false) flagged ∙ get_or-map-range_with_len (is_touched size since) 0 (tile_count size) t t false less (omega arith)) ∙ sym (touched_more size since line rect t is)))

pub flagged_none : (size : Size) → replicate (tile_count size) false ≡ map (is_touched size []) (below (tile_count size))
flagged_none size = fill_by_all (is_touched size []) (replicate (tile_count size) false) (tile_count size) false (length-replicate (tile_count size) false) (λ t less. get_or-replicate (tile_count size) t false false less)
