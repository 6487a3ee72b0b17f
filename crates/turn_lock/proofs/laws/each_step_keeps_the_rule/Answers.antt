use Rattle.std.proofs.Common.{◌+◌, ◌≡◌, suc, arith, ◌∙◌, ap}
use Rattle.turn_lock.specs.Turns.{none_made}
use Rattle.turn_lock.proofs.Steps.{looks, takes_turn, returns_turn, adds_entry}
use Rattle.turn_lock.proofs.Shares.{opens, compares, hands_out, notes, joins}
use Rattle.turn_lock.proofs.laws.each_step_keeps_the_rule.Goals as goal

pub returns-clause-first : goal.returns-clause-first
returns-clause-first g c = opens g.S.Told.setting g.S.Told.history g.S.Told.mark

pub returns-clause-load : goal.returns-clause-load
returns-clause-load g c = looks g.S.Told.setting g.S.Told.history g.S.Told.mark

pub returns-clause-compare : goal.returns-clause-compare
returns-clause-compare g c = compares g.S.Told.setting g.S.Told.history g.S.Told.mark

pub returns-clause-take : goal.returns-clause-take
returns-clause-take g c = takes_turn g.S.Told.setting g.S.Told.history g.S.Told.mark

pub returns-clause-give_back : goal.returns-clause-give_back
returns-clause-give_back g c = returns_turn g.S.Told.setting g.S.Told.history g.S.Told.mark

pub returns-clause-give_entry : goal.returns-clause-give_entry
returns-clause-give_entry g c = λ slots id new me x e ready history word owns. adds_entry g.S.Told.setting g.S.Told.history g.S.Told.mark slots id new owns.0 me x e ready history word owns.1

pub returns-clause-hand_out : goal.returns-clause-hand_out
returns-clause-hand_out g c = λ id a m v made. let n : m + 1 ≡ suc m = omega arith in hands_out g.S.Told.setting g.S.Told.history g.S.Told.mark id a m v (made ∙ ap (none_made a) n)

pub returns-clause-note : goal.returns-clause-note
returns-clause-note g c = notes g.S.Told.setting g.S.Told.history g.S.Told.mark

pub returns-clause-join : goal.returns-clause-join
returns-clause-join g c = joins g.S.Told.setting g.S.Told.history g.S.Told.mark
