use Rattle.std.proofs.Common.{◌≡◌, ◌+◌, ◌*◌, ◌/◌, false, suc, sym, refl, ◌∙◌, ap, take, get_or, ℕ, List, Bool, arith}
use Rattle.std.specs.Prelude.{slice_index_or}
use Rattle.h265_model.specs.Plain.{Size, ctus}
use Rattle.px_plane.specs.Planes.{Planes}
use Rattle.picture_encoder.specs.Planning.{chosen, size_of_task, raised, most_ticks}
use Rattle.picture_encoder.proofs.Counts.{raised_next}
use Rattle.picture_encoder.proofs.RowJobs.{one_more_of}
use Rattle.picture_encoder.proofs.planning.plan_row.Goals as goal

pub loop-unit-preserved : goal.loop-unit-preserved
loop-unit-preserved g c =
    let t = c.args.task.now in
    let w : c.w.result ≡ (size_of_task t).w = c.w.ensures.value ∙ (ap (λ (s : Size). s.w) c.size.ensures.value ∙ ap (λ (p : Planes). p.size.w) c.deref.ensures) in
    let n : ℕ = c.args.row * ctus (size_of_task t).w in
    let flags : List Bool = t.touched.now in
    let unit : ℕ = c.loop-unit.unit in
    let next : suc (n + unit) ≡ n + (unit + 1) = omega arith in
    let more : 1024 * raised (take (suc (n + unit)) flags) ≡ 1024 * raised (take (n + unit) flags) + most_ticks (get_or flags (n + unit) false) = raised_next flags (n + unit) in
    let more' : 1024 * raised (take (n + (unit + 1)) flags) ≡ 1024 * raised (take (suc (n + unit)) flags) = ap (λ (k : ℕ). 1024 * raised (take k flags)) (sym next) in
    let there : c.args.row * ((c.w.result + 31) / 32) + unit ≡ n + unit = ap (λ (k : ℕ). c.args.row * ((k + 31) / 32) + unit) w in
    let ticks : most_ticks (slice_index_or flags (c.args.row * ((c.w.result + 31) / 32) + unit) false) ≡ most_ticks (get_or flags (n + unit) false) = ap (λ (k : ℕ). most_ticks (get_or flags k false)) there in
    let before = c.loop-unit.invariant.steps in
    let step = c.plan_unit.ensures.steps in
    record {
      plans = one_more_of (λ v. v.items) (chosen t) c.loop-unit.plans.items c.push.new.self.items c.plan_unit.result n unit (n + unit) c.in_ok-push.ensures.items c.loop-unit.invariant.plans
          (c.plan_unit.ensures.choice ∙ ap (λ (k : ℕ). chosen t k) there) refl;
      steps = omega arith;
    }
