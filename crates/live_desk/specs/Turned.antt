-- What a pass knows after one turn.
use Rattle.std.specs.Prelude.{◌≡◌, ◌+◌, List, ◌++◌, true}
use Rattle.recorder_model.specs.declared.entry.Entry.{Entry}
use Rattle.recorder_model.specs.Turn.{State}
use Rattle.turn_lock.specs.Turns.{Begins, OwnExact, IsSameButWords, holding}
use Rattle.turn_lock.specs.declared.knowledge.Knowledge.{Knowledge}

-- the setting, the number of passes and the share stay
pub record IsKept (v w : Knowledge) : Type 0 where
  pub setting : w.setting ≡ v.setting
  pub passes : w.passes ≡ v.passes
  pub weight : w.weight ≡ v.weight

-- a pass that took the turn, with this state
pub record HasTurn (v : Knowledge) (s : State) (w : Knowledge) : Type 0 where
  pub tries : Knowledge
  pub same : IsSameButWords v tries
  pub holds : w ≡ holding tries s.history s.mark
  pub setting : s.setting ≡ v.setting
  pub begins : Begins v.seen s.history
  pub own : OwnExact v s.history
  pub mark : v.saw ≡ true → s.mark ≡ true

-- one turn, whose state had the history `base`: the pass has seen `base` with what it added, and raised no mark
pub record HadTurn (v : Knowledge) (base added : List Entry) (w : Knowledge) : Type 0 where
  pub kept : IsKept v w
  pub begins : Begins v.seen base
  pub seen : w.seen ≡ base ++ added
  pub turns : w.turns ≡ v.turns + 1
  pub saw : v.saw ≡ true → w.saw ≡ true
