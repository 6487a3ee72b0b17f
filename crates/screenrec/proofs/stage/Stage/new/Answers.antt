use Rattle.std.proofs.Common.{refl}
use Rattle.command_line.specs.Views.{settings_view}
use Rattle.screenrec.proofs.StageLaws.{played_first}
use Rattle.screenrec.proofs.stage.Stage.new.Goals as goal

pub returns : goal.returns
returns c =
    played_first (settings_view c.args.settings.now) _ c.in_ok-surface.ensures.size c.in_ok-surface.ensures.black c.in_ok-surface.ensures.clean
    c.in_ok-encoder.ensures.settings c.in_ok-encoder.ensures.sized c.in_ok-encoder.ensures.fresh refl
