use Rattle.turn_lock.proofs.OneHistory.{is_one_history}
use Rattle.turn_lock.proofs.laws.each_table_has_one_history.Goals as goal

pub returns : goal.returns
returns g c = is_one_history g.S.Told.setting g.S.Told.history g.S.Told.mark
