use Rattle.frame_paints.proofs.InRows.{paints_none, paints_on}
use Rattle.frame_paints.proofs.guesses.put_fills.Goals as goal

pub loop-fill-init : goal.loop-fill-init
loop-fill-init c = paints_none c.args.shown.now c.args.script.now c.args.top c.args.bottom

pub returns-in_err-put_fill : goal.returns-in_err-put_fill
returns-in_err-put_fill c = paints_on _ _ _ _ _ _ _ _ c.loop-fill.invariant c.put_fill.ensures

pub loop-fill-preserved : goal.loop-fill-preserved
loop-fill-preserved c = paints_on _ _ _ _ _ _ _ _ c.loop-fill.invariant c.put_fill.ensures
