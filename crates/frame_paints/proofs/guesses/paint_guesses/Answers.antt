use Rattle.frame_paints.proofs.InRows.{paints_none, paints_on}
use Rattle.frame_paints.proofs.guesses.paint_guesses.Goals as goal

pub returns-then-top-bottom : goal.returns-then-top-bottom
returns-then-top-bottom c = paints_none c.args.shown.now c.args.script.now c.args.top c.args.bottom

pub returns-in_err-work : goal.returns-in_err-work
returns-in_err-work c = paints_none c.args.shown.now c.args.script.now c.args.top c.args.bottom

pub returns-in_err-paint_ground : goal.returns-in_err-paint_ground
returns-in_err-paint_ground c = paints_on _ _ _ _ _ _ _ _ c.paint_moves.ensures c.paint_ground.ensures

pub returns : goal.returns
returns c = paints_on _ _ _ _ _ _ _ _ (paints_on _ _ _ _ _ _ _ _ c.paint_moves.ensures c.paint_ground.ensures) c.paint_solids.ensures
