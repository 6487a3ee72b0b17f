use Rattle.frame_paints.proofs.InRows.{paints_none, paints_on}
use Rattle.frame_paints.proofs.guesses.paint_moves.Goals as goal

pub loop-init : goal.loop-init
loop-init c = paints_none c.args.shown.now c.args.script.now c.args.top c.args.bottom

pub returns-in_err-put_copy : goal.returns-in_err-put_copy
returns-in_err-put_copy c = paints_on _ _ _ _ _ _ _ _ c.loop.invariant c.put_copy.ensures

pub loop-preserved : goal.loop-preserved
loop-preserved c = paints_on _ _ _ _ _ _ _ _ c.loop.invariant c.put_copy.ensures
