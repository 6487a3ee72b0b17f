use Rattle.std.proofs.Common.{◌<◌, ◌^◌, [], ◌∷◌, sym, ◌∙◌, ap, subst, Bool, List, ℕ, length}
use Rattle.h265_model.specs.Settings.{has_segments}
use Rattle.h265_model.specs.NalUnits.{stream_bytes}
use Rattle.h265_model.specs.ParamSets.{param_units}
use Rattle.picture_encoder.specs.Coded.{Coded}
use Rattle.picture_encoder.proofs.Following.{first_piece}
use Rattle.picture_encoder.proofs.Lengths.{sets_short}
use Rattle.picture_encoder.proofs.history.History.first.Goals as goal

pub returns-clause-piece : goal.returns-clause-piece
returns-clause-piece c =
    first_piece c.args.self.now.settings
    ∙ sym (ap (λ (l : List ℕ). l ∷ []) (c.in_ok-piece.ensures ∙ (ap (λ (b : Bool). stream_bytes (param_units c.self.inside.size b)) c.in_segments.ensures
    ∙ ap (λ (e : Coded). stream_bytes (param_units e.settings.size (has_segments e.settings.extra))) c.self.view_is)))

pub returns-clause-short : goal.returns-clause-short
returns-clause-short c = subst (λ (l : List ℕ). length l < 2 ^ 40) (sym c.in_ok-piece.ensures) (sets_short c.self.inside.size c.in_segments.result)
