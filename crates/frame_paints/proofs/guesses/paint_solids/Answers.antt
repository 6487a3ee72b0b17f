use Rattle.frame_paints.proofs.InRows.{paints_none}
use Rattle.frame_paints.proofs.guesses.paint_solids.Goals as goal

pub returns-in_err-plan_rows : goal.returns-in_err-plan_rows
returns-in_err-plan_rows c = paints_none c.args.shown.now c.args.script.now c.args.top c.args.bottom
