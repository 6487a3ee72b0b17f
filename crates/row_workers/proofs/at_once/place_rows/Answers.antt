use Rattle.std.proofs.Common.{◌≡◌, ◌<◌, ◌∷◌, [], ◌++◌, length, sym, ap, ◌∙◌, append_assoc, append-nil, subst, List, arith}
use Rattle.std.proofs.Math.ListN.{length-set}
use Rattle.std.specs.List.{All}
use Rattle.std.specs.Vec.Iter.{into_iter_items}
use Rattle.row_workers.specs.declared.at_once.CodedRow.{CodedRow}
use Rattle.row_workers.specs.AtOnce.{IsRowOf, HavePlaced}
use Rattle.row_workers.proofs.InOrder.{in_front, nothing_left}
use Rattle.row_workers.proofs.Gathering.{all_parts, placed_more}
use Rattle.row_workers.proofs.at_once.place_rows.Goals as goal

pub loop-row-preserved : goal.loop-row-preserved
loop-row-preserved c =
    let at = c.loop-row in
    let row = c.in-Some.row in
    let steps : into_iter_items at.row-iterator ≡ row ∷ into_iter_items c.next.new.self = c.in-Some.ensures.steps.0 in
    let split : at.yielded ++ row ∷ into_iter_items c.next.new.self ≡ c.args.coded.items = rw (← steps) at.invariant.whole in
    let inside = in_front (λ (row : CodedRow). row.number < length c.args.rows.now.items) at.yielded row (into_iter_items c.next.new.self) c.args.coded.items split c.requires in
    record {
      whole = append_assoc at.yielded (row ∷ []) _ ∙ split;
      counted = (let was = at.invariant.counted in let gone = c.in-Some.ensures.steps.1 in let short = ap length steps in omega arith);
      long = length-set at.rows.items row.number row.bytes ∙ at.invariant.long;
      placed = λ want give right.
          let parts = all_parts (IsRowOf want give) at.yielded (row ∷ []) right in
          placed_more want give c.args.rows.now.items at.rows.items at.yielded row (let long = at.invariant.long in omega arith) (parts.1 0 row (omega arith)) (at.invariant.placed want give parts.0);
    }

pub returns-clause-placed : goal.returns-clause-placed
returns-clause-placed c = λ want give right.
    let at = c.loop-row in
    let none = c.in-None.ensures.steps in
    let empty : into_iter_items at.row-iterator ≡ [] = nothing_left _ (sym at.invariant.counted ∙ none.0) in
    let all : at.yielded ≡ c.args.coded.items = sym (append-nil at.yielded) ∙ rw empty at at.invariant.whole in
    subst (λ (l : List CodedRow). HavePlaced give c.args.rows.now.items l at.rows.items) all (at.invariant.placed want give (subst (λ (l : List CodedRow). All (IsRowOf want give) l) (sym all) right))
