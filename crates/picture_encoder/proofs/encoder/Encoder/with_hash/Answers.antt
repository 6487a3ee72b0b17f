use Rattle.std.proofs.Common.{◌≡◌, sym, ◌∙◌, ap, subst}
use Rattle.h265_model.specs.declared.extra.Extra.TheVariants.{Hash}
use Rattle.h265_model.specs.Raster.{black_raster}
use Rattle.px_plane.specs.Planes.{Shows}
use Rattle.picture_encoder.specs.Coded.{Coded}
use Rattle.picture_encoder.proofs.encoder.Encoder.with_hash.Goals as goal

pub returns-clause-fresh : goal.returns-clause-fresh
returns-clause-fresh c =
    let is : c.with_extra.result ≡ record c.args.self { settings = record c.args.self.settings { extra = Hash } } =
    c.with_extra.ensures ∙ ap (λ (e : Coded). record e { settings = record e.settings { extra = Hash } }) c.self.view_is in
    record {
      count = ap (λ (e : Coded). e.count) is ∙ c.requires.none.count;
      last = subst (λ (e : Coded). Shows e.last (black_raster e.settings.size)) (sym is) c.requires.none.last;
    }
