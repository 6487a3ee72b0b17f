use Rattle.frame_paints.proofs.InRows.{paints_none}
use Rattle.frame_paints.proofs.guesses.paint_ground.Goals as goal

pub returns-in-None : goal.returns-in-None
returns-in-None c = paints_none c.args.shown.now c.args.script.now c.args.top c.args.bottom
