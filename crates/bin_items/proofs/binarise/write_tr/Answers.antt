use Rattle.std.proofs.Common.{sym}
use Rattle.bin_items.proofs.Growing.{writes_at_err, front_then, front_as, grew_then, grew_as}
use Rattle.bin_items.proofs.Bits.{tr_within, tr_front}
use Rattle.bin_items.proofs.binarise.write_tr.Goals as goal

pub returns-in_err-write_ones-clause-taken : goal.returns-in_err-write_ones-clause-taken
returns-in_err-write_ones-clause-taken g c =
    writes_at_err _ _ _ _ _ c.from_residual.ensures.1 (tr_front c.args.limit c.args.value _ _ c.requires.within c.in_err-write_ones.ensures.taken)

pub returns-in_err-bypass-clause-taken : goal.returns-in_err-bypass-clause-taken
returns-in_err-bypass-clause-taken g c =
    writes_at_err _ _ _ _ _ c.from_residual-in_err-bypass.ensures.1
    (front_as _ _ _ _ (sym (tr_within c.args.limit c.args.value c.if-value-limit.true)) (front_then _ _ _ _ _ c.in_ok-write_ones.ensures.taken c.in_err-bypass.ensures.taken))

pub returns-in_ok-bypass-clause-taken : goal.returns-in_ok-bypass-clause-taken
returns-in_ok-bypass-clause-taken g c =
    grew_as _ _ _ _ (sym (tr_within c.args.limit c.args.value c.if-value-limit.true)) (grew_then _ _ _ _ _ c.in_ok-write_ones.ensures.taken c.in_ok-bypass.ensures.taken)
