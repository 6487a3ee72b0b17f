use Rattle.std.proofs.Common.{◌≡◌, ℕ, ◌<◌, ◌||◌, ◌∙◌, ap, sym, subst, false, List, Bool, length, get_or, arith}
use Rattle.std.specs.Vec.{with_items}
use Rattle.std.proofs.lemmas.List.{with_items_is}
use Rattle.h265_model.specs.Plain.{Size}
use Rattle.recorder_model.specs.Desk.{meets_tile}
use Rattle.h265_model.specs.Tiles.{tile_count}
use Rattle.desk_surface.specs.Damage.{Painted, IsFlagged}
use Rattle.desk_surface.proofs.Marks.{flagged_more}
use Rattle.desk_surface.proofs.surface.Surface.touch.Goals as goal

pub returns-clause-flags : goal.returns-clause-flags
returns-clause-flags c = λ line since of flagged.
    let inside : IsFlagged (record { shown = c.self.inside.picture; flags = c.self.inside.flags.items }) since = subst (λ (s : Painted). IsFlagged s since) (sym c.self.view_is) flagged in
    let size : Size = c.self.inside.picture.size in
    let each : (t : ℕ) → t < tile_count size → get_or c.raise.new.flags t false ≡ (get_or c.self.inside.flags.items t false || meets_tile size t c.args.rect) =
    subst (λ (s : Size). (t : ℕ) → t < tile_count s → get_or c.raise.new.flags t false ≡ (get_or c.self.inside.flags.items t false || meets_tile s t c.args.rect)) c.size-size.ensures.value
    (subst (λ (l : List Bool). (t : ℕ) → t < tile_count c.size-size.result → get_or c.raise.new.flags t false ≡ (get_or l t false || meets_tile c.size-size.result t c.args.rect)) c.deref_mut.ensures.value c.raise.ensures.raised) in
    let long = c.raise.ensures.length ∙ ap length c.deref_mut.ensures.value in
    let kept : (with_items c.self.inside.flags c.raise.new.flags).items ≡ c.raise.new.flags = with_items_is c.self.inside.flags c.raise.new.flags (omega (arith, long, c.self.inside.flags.ok)) in
    record { flags = kept ∙ flagged_more size c.self.inside.flags.items c.raise.new.flags since line c.args.rect of inside.flags long each }
