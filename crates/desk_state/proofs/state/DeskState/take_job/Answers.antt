use Rattle.std.proofs.Common.{◌<◌, ◌-◌, ◌^◌, length, refl, sym, subst, ap}
use Rattle.recorder_model.specs.declared.entry.Entry.TheVariants as entry
use Rattle.recorder_model.specs.Turn.{State}
use Rattle.recorder_model.specs.Histories.{IsLawful}
use Rattle.desk_state.specs.Standing.{HasTaken}
use Rattle.desk_state.specs.Inside.{state_of}
use Rattle.desk_state.proofs.Accepted.{few_now, room_now, desk_from, desk_taken}
use Rattle.desk_state.proofs.state.DeskState.take_job.Goals as goal

pub returns-in_err-job-clause-few : goal.returns-in_err-job-clause-few
returns-in_err-job-clause-few c = subst (λ (s : State). length s.history < 2 ^ 32 - 1) c.self.view_is (few_now c.self.inside c.self.invariant)

pub push_reserved-requires : goal.push_reserved-requires
push_reserved-requires c =
    let taken = desk_taken c.self.inside c.in_ok-job.job c.pop_front.new.self.items c.self.invariant c.in_ok-job.ensures.items in
    room_now c.self.inside (entry.Take c.in_ok-job.job.number) c.self.inside.replay.surface c.pop_front.new.self.items c.self.inside.replay.cuts c.self.invariant taken.after

pub invariant_of-self-2 : goal.invariant_of-self-2
invariant_of-self-2 c =
    let taken = desk_taken c.self.inside c.in_ok-job.job c.pop_front.new.self.items c.self.invariant c.in_ok-job.ensures.items in
    desk_from c.self.inside _ (entry.Take c.in_ok-job.job.number) c.self.invariant refl c.push_reserved.ensures.items c.push_reserved.ensures.capacity taken.after

pub returns-clause-taken : goal.returns-clause-taken
returns-clause-taken c =
    let taken = desk_taken c.self.inside c.in_ok-job.job c.pop_front.new.self.items c.self.invariant c.in_ok-job.ensures.items in
    let new : State = record { setting = (state_of c.self.inside).setting; history = c.push_reserved.new.self.items; mark = c.self.inside.lost } in
    subst (λ (s : State). HasTaken s (entry.Take c.in_ok-job.job.number) c.in_ok-job.job new) c.self.view_is
    record {
      says = ap entry.Take taken.number;
      is = taken.is;
      grown = λ i. record { setting = (state_of c.self.inside).setting; history = c.push_reserved.ensures.items i; mark = c.self.inside.lost };
    }

pub returns-clause-lawful : goal.returns-clause-lawful
returns-clause-lawful c =
    let taken = desk_taken c.self.inside c.in_ok-job.job c.pop_front.new.self.items c.self.invariant c.in_ok-job.ensures.items in
    subst (IsLawful c.self.inside.scripts) (sym c.push_reserved.ensures.items) taken.after.lawful

pub returns-clause-few : goal.returns-clause-few
returns-clause-few c = subst (λ (s : State). length s.history < 2 ^ 32 - 1) c.self.view_is (few_now c.self.inside c.self.invariant)
