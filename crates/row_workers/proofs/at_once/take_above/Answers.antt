use Rattle.row_workers.proofs.Claiming.{taken_keeps, taken_open, taken_synced, still_open}
use Rattle.row_workers.proofs.at_once.take_above.Goals as goal

pub returns-in_err-contexts-clause-unsettled : goal.returns-in_err-contexts-clause-unsettled
returns-in_err-contexts-clause-unsettled g c = still_open c.args.seat.now.knows c.wait_for_above.new.seat.knows c.args.row.now c.requires.mine c.in_err-contexts.ensures.lost

pub returns-clause-kept : goal.returns-clause-kept
returns-clause-kept g c = taken_keeps c.args.seat.now.knows c.wait_for_above.new.seat.knows c.args.row.now c.in_ok-contexts.ensures.rows c.in_ok-contexts.ensures.same

pub returns-clause-unsettled : goal.returns-clause-unsettled
returns-clause-unsettled g c = taken_open c.args.seat.now.knows c.wait_for_above.new.seat.knows c.args.row.now c.in_ok-contexts.ensures.rows c.requires.mine

pub returns-clause-synced : goal.returns-clause-synced
returns-clause-synced g c = λ wide. taken_synced c.args.seat.now.knows c.wait_for_above.new.seat.knows c.args.row.now c.in_ok-contexts.ensures.rows c.requires.mine
