-- A pass that holds the turn, and what it gives back.
use Rattle.std.specs.Prelude.{◌≡◌, ◌<◌, ℕ, ◌∷◌, ◌++◌, [], Bool, true, false, length}
use Rattle.atomic_table.specs.Seated.{TableId}
use Rattle.recorder_model.specs.declared.entry.Entry.TheVariants as entry
use Rattle.recorder_model.specs.Turn.{State}
use Rattle.recorder_model.specs.Histories.{IsLawful, cuts, takes}
use Rattle.recorder_model.specs.Desk.{job_of}
use Rattle.turn_lock.specs.Standing.{Standing}
use Rattle.turn_lock.specs.Turns.{Owns, gives_back, gives_entry}
use Rattle.turn_lock.specs.declared.knowledge.Knowledge.{Knowledge}
use Rattle.live_desk.specs.declared.answers.Taken.{Taken}
use Rattle.live_desk.specs.declared.answers.Taken.TheVariants as taken
use Rattle.live_desk.specs.Passes.{passes_of}

-- the pass holds the turn of this desk, with this state
pub record IsHolder (desk : TableId) (pass : Standing) (s : State) : Type 0 where
  pub table : pass.table ≡ desk
  pub holds : pass.knows.holds ≡ true
  pub setting : s.setting ≡ pass.knows.setting
  pub base : pass.knows.base ≡ s.history
  pub mark : pass.knows.base_mark ≡ s.mark

-- it may take
pub record IsTaker (v : Knowledge) : Type 0 where
  pub passes : v.passes ≡ passes_of v.setting
  pub takes : Owns v (length v.setting.scripts)

-- the turn was given back with the taking of a job
pub record HasGivenJob (v : Knowledge) (s : State) (w : Knowledge) : Type 0 where
  pub waits : takes s.history < cuts s.setting.scripts s.history
  pub lawful : IsLawful s.setting.scripts (s.history ++ entry.Take (takes s.history) ∷ [])
  pub gives : w ≡ gives_entry v (entry.Take (takes s.history)) s.mark

-- the turn was given back as it was taken
pub record HasGivenBack (v : Knowledge) (s : State) (w : Knowledge) (seen : ℕ) (mark : Bool) : Type 0 where
  pub all : takes s.history ≡ cuts s.setting.scripts s.history
  pub lawful : IsLawful s.setting.scripts s.history
  pub gives : w ≡ gives_back v s.history s.mark
  pub long : seen ≡ length s.history
  pub marked : s.mark ≡ mark

abbrev pub HasGiven : Knowledge → State → Knowledge → Taken → Type 0
HasGiven v s w (taken.Job job) = HasGivenJob v s w × (job ≡ job_of s.setting s.history (takes s.history))
HasGiven v s w (taken.NotYet seen) = HasGivenBack v s w seen false
HasGiven v s w (taken.Ended seen) = HasGivenBack v s w seen true
