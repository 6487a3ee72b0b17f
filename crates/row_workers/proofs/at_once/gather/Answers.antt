use Rattle.std.proofs.Common.{◌≡◌, ◌∷◌, [], ◌++◌, length, sym, ap, ◌∙◌, append_assoc, length-append, subst, List, ℕ, arith}
use Rattle.std.specs.Vec.Iter.{into_iter_items}
use Rattle.row_board.specs.declared.knowledge.Knowledge.{Knowledge}
use Rattle.row_workers.specs.AtOnce.{IsDone, HavePlaced}
use Rattle.row_workers.proofs.InOrder.{in_front}
use Rattle.row_workers.proofs.Gathering.{gathered_more, or_true}
use Rattle.row_workers.proofs.at_once.gather.Goals as goal

pub loop-worker-preserved : goal.loop-worker-preserved
loop-worker-preserved g c =
    let at = c.loop-worker in
    let worker = c.in-Some.worker in
    let steps : into_iter_items at.worker-iterator ≡ worker ∷ into_iter_items c.next.new.self = c.in-Some.ensures.steps.0 in
    let split : at.yielded ++ worker ∷ into_iter_items c.next.new.self ≡ c.args.workers.items = rw (← steps) at.invariant.whole in
    let done = in_front (IsDone c.args.board.now c.args.seat.knows) at.yielded worker (into_iter_items c.next.new.self) c.args.workers.items split c.requires.done in
    let joined = c.join-seat.ensures.joined in
    let same : worker.seat.knows.give ≡ at.seat.knows.give = done.give ∙ sym at.invariant.give in
    record {
      whole = append_assoc at.yielded (worker ∷ []) _ ∙ split;
      counted = (let was = at.invariant.counted in let gone = c.in-Some.ensures.steps.1 in let short = ap length steps in omega arith);
      board = c.join-seat.ensures.board ∙ at.invariant.board;
      weight = (let sum = ap (λ (k : Knowledge). k.weight) joined in let one = done.weight in let was = at.invariant.weight in omega (arith, length-append at.yielded (worker ∷ [])));
      want = ap (λ (k : Knowledge). k.want) joined ∙ at.invariant.want;
      give = ap (λ (k : Knowledge). k.give) joined ∙ at.invariant.give;
      met = λ some. ap (λ (k : Knowledge). k.met_none) joined ∙ or_true at.seat.knows.met_none worker.seat.knows.met_none done.met;
      long = c.place_rows.ensures.long ∙ at.invariant.long;
      rows = gathered_more at.seat.knows worker.seat.knows c.join-seat.result.knows worker.rows.items at.rows.items c.place_rows.new.rows.items at.invariant.rows done.coded same
          (ap (λ (k : Knowledge). k.rows) joined) (ap (λ (k : Knowledge). k.give) joined)
          (subst (λ (l : List (List ℕ)). HavePlaced l at.rows.items worker.rows.items c.place_rows.new.rows.items) same (c.place_rows.ensures.placed worker.seat.knows.want worker.seat.knows.give done.coded.bytes));
    }
