use Rattle.std.proofs.Common.{◌≡◌, ◌<◌, ◌∙◌, ap, subst, length, map, List, false, arith}
use Rattle.std.specs.List.{All}
use Rattle.std.proofs.lemmas.List.{length-map}
use Rattle.row_board.specs.declared.knowledge.Knowledge.{Knowledge}
use Rattle.row_board.specs.Rows.{width_of}
use Rattle.row_board.proofs.Opening.{length-want}
use Rattle.row_core.specs.Plans.{jobs_of}
use Rattle.row_workers.proofs.Gathering.{all_done, all_gathered}
use Rattle.row_workers.proofs.at_once.run_rows.Goals as goal

pub gather-seat-requires-clause-long : goal.gather-seat-requires-clause-long
gather-seat-requires-clause-long g c κs within =
    let plans = map g.J.RowJob.plan c.args.jobs.items in
    let want = ap (λ (k : Knowledge). length k.want) c.in_ok-seat.ensures.rest ∙ (ap (λ (k : Knowledge). length k.want) c.in_ok-board.ensures.knows ∙ length-want (jobs_of (width_of plans) plans) (length plans)) in
    let rows = c.in_ok-rows.ensures in
    let many = c.len.ensures in
    let long = length-map c.args.jobs.items g.J.RowJob.plan in
    omega (arith, c.args.jobs.ok)

pub gather-seat-requires-clause-done : goal.gather-seat-requires-clause-done
gather-seat-requires-clause-done g c κs within =
    all_done _ _ _ _ c.in_ok-seat.workers.items c.after_work-workers.result.items c.in_ok-seat.ensures.rest c.after_work-workers.ensures.many c.in_ok-seat.ensures.each c.after_work-workers.ensures.worked
    (subst (λ (l : List _). All (λ worker. worker.failed ≡ false) l) c.deref.ensures.value (c.any_failed.ensures c.if-any_failed.false))

pub returns : goal.returns
returns g c = record {
  rows = λ width widths.
      let plans = map g.J.RowJob.plan c.args.jobs.items in
      let as_many = length-map c.args.jobs.items g.J.RowJob.plan in
      let some : 0 < length plans = (let jobs = c.requires.some in omega arith) in
      let want = ap (λ (k : Knowledge). length k.want) c.in_ok-seat.ensures.rest ∙ (ap (λ (k : Knowledge). length k.want) c.in_ok-board.ensures.knows ∙ length-want (jobs_of (width_of plans) plans) (length plans)) in
      let give = ap (λ (k : Knowledge). k.give) c.in_ok-seat.ensures.rest ∙ ap (λ (k : Knowledge). k.give) c.in_ok-board.ensures.knows in
      let workers : 0 < length c.after_work-workers.result.items = (let many = c.after_work-workers.ensures.many in let made = c.in_ok-seat.ensures.many in let asked = c.requires.workers.0 in omega arith) in
      let long : length c.gather-seat.result.1.items ≡ length plans =
      (let placed = c.gather-seat.ensures.long in let rows = c.in_ok-rows.ensures in let many = c.len.ensures in omega (arith, c.args.jobs.ok)) in
      all_gathered width plans c.gather-seat.result.0.knows c.gather-seat.result.1.items some widths (c.gather-seat.ensures.give ∙ give) (ap length c.gather-seat.ensures.want ∙ want)
      (c.close.ensures.all (c.gather-seat.ensures.met workers)) long c.gather-seat.ensures.rows;
}
