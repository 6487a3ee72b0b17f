use Rattle.std.proofs.Common.{◌≡◌, ℕ, List, sym, ◌∙◌, ap, subst}
use Rattle.std.specs.Arc.{arc_value}
use Rattle.h265_model.specs.Tiles.{tile_count}
use Rattle.picture_encoder.specs.Coded.{Coded}
use Rattle.picture_encoder.specs.Planning.{AreFlagged}
use Rattle.picture_encoder.proofs.Again.{kept_flags}
use Rattle.picture_encoder.proofs.history.History.begin.Goals as goal

pub returns-clause-kept : goal.returns-clause-kept
returns-clause-kept c =
    let sized : c.self.inside.size ≡ c.args.self.now.last.size = ap (λ (e : Coded). e.settings.size) c.self.view_is ∙ (sym c.in_ok-now.ensures.size ∙ c.in_ok-now.ensures.laid.size) in
    let listed : AreFlagged c.in_ok-touched.touched.items c.args.job.now.tiles = subst (λ (l : List ℕ). AreFlagged c.in_ok-touched.touched.items l) c.as_slice.ensures c.in_ok-touched.ensures.listed in
    kept_flags c.in_ok-touched.touched.items c.args.job.now.tiles c.args.self.now.last (arc_value c.in_ok-now.now) (tile_count c.self.inside.size) c.in_ok-touched.ensures.long (ap tile_count sized) listed
    c.in_ok-now.ensures.kept
