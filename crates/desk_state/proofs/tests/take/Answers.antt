use Rattle.std.proofs.Common.{◌≡◌, ℕ, ◌++◌, ◌∷◌, [], Option, Some, None, MatchOption, IfSome, length, ap, ◌∙◌}
use Rattle.recorder_model.specs.Turn.{State}
use Rattle.recorder_model.specs.declared.entry.Entry.{Entry}
use Rattle.h265_model.specs.declared.job.Job.{Job}
use Rattle.recorder_model.specs.Histories.{indexes_of, takes}
use Rattle.desk_state.specs.Standing.{HasTaken}
use Rattle.desk_state.proofs.Entries.{count_take}
use Rattle.desk_state.proofs.tests.take.Goals as goal

same_setting : (r : Option (Entry × Job)) (old new : State) → IfSome r (λ x. HasTaken old x.0 x.1 new) → MatchOption r (new ≡ old) (λ x. Unit {0}) → new.setting ≡ old.setting
same_setting None old new taken none = ap (λ (s : State). s.setting) none
same_setting (Some x) old new taken none = ap (λ (s : State). s.setting) taken.grown

same_lines : (r : Option (Entry × Job)) (old new : State) (client : ℕ) → IfSome r (λ x. HasTaken old x.0 x.1 new) → MatchOption r (new ≡ old) (λ x. Unit {0}) → length (indexes_of new.history client) ≡ length (indexes_of old.history client)
same_lines None old new client taken none = ap (λ (s : State). length (indexes_of s.history client)) none
same_lines (Some x) old new client taken none =
    ap (λ (s : State). length (indexes_of s.history client)) taken.grown ∙ ap (λ (e : Entry). length (indexes_of (old.history ++ e ∷ []) client)) taken.says ∙ count_take old.history (takes old.history) client

pub returns-clause-setting : goal.returns-clause-setting
returns-clause-setting c = same_setting c.take_job.result c.args.state.now c.take_job.new.self c.take_job.ensures.taken c.take_job.ensures.none

pub returns-clause-lines : goal.returns-clause-lines
returns-clause-lines c = λ client. same_lines c.take_job.result c.args.state.now c.take_job.new.self client c.take_job.ensures.taken c.take_job.ensures.none
