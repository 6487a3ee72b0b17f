use Rattle.std.proofs.Common.{◌≡◌, ◌∷◌, [], ◌++◌, length, sym, ap, ◌∙◌, append_assoc, append-nil, arith}
use Rattle.std.proofs.lemmas.List.{map-append}
use Rattle.std.specs.Vec.Iter.{into_iter_items}
use Rattle.row_workers.proofs.InOrder.{nothing_left, none_done, one_more, all_done}
use Rattle.row_workers.proofs.alone.rows_alone.Goals as goal

pub loop-job-init : goal.loop-job-init
loop-job-init g c = record {
  whole = c.into_iter-job-iterator.ensures.into_iter_gives.0;
  counted = omega (arith, c.into_iter-job-iterator.ensures.into_iter_gives.1, c.args.jobs.ok, ap length c.into_iter-job-iterator.ensures.into_iter_gives.0);
  done = λ width widths. rw c.in_ok-rows.ensures.items (none_done g.J.RowJob.plan width c.args.jobs.items);
}

pub loop-job-preserved : goal.loop-job-preserved
loop-job-preserved g c =
    let at = c.loop-job in
    let job = c.in-Some.job in
    let steps : into_iter_items at.job-iterator ≡ job ∷ into_iter_items c.next.new.self = c.in-Some.ensures.steps.0 in
    let split : at.yielded ++ job ∷ into_iter_items c.next.new.self ≡ c.args.jobs.items = rw (← steps) at.invariant.whole in
    record {
      whole = append_assoc at.yielded (job ∷ []) _ ∙ split;
      counted = (let was = at.invariant.counted in let gone = c.in-Some.ensures.steps.1 in let short = ap length steps in omega arith);
      done = λ width widths. rw c.in_ok-push.ensures.items (rw (map-append (λ row. row.items) at.rows.items (c.in_ok-row.row.bytes ∷ []))
          (one_more g.J.RowJob.plan width c.args.jobs.items at.yielded job _ _ at.inherited _ _ split widths (at.invariant.done width widths)
          c.in_ok-row.ensures.wide c.in_ok-row.ensures.bytes c.in_ok-row.ensures.second c.in_ok-row.ensures.narrow));
    }

pub returns : goal.returns
returns g c = λ width widths.
    let at = c.loop-job in
    let none = c.in-None.ensures.steps in
    let empty : into_iter_items at.job-iterator ≡ [] = nothing_left _ (sym at.invariant.counted ∙ none.0) in
    let all : at.yielded ≡ c.args.jobs.items = sym (append-nil at.yielded) ∙ rw empty at at.invariant.whole in
    all_done g.J.RowJob.plan width c.args.jobs.items at.yielded _ at.inherited all (at.invariant.done width widths)
