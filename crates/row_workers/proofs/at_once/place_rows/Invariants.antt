use Rattle.std.proofs.Common.{◌≡◌, ℕ, List, length, ◌++◌}
use Rattle.std.specs.List.{All}
use Rattle.std.specs.Vec.Iter.{into_iter_items, into_iter_len}
use Rattle.row_workers.specs.AtOnce.{IsRowOf, HavePlaced}
use Rattle.row_workers.proofs.at_once.place_rows.Given as goal

abbrev pub invariant-loop-row : goal.invariant-loop-row
invariant-loop-row l = record {
  whole : l.yielded ++ into_iter_items l.row-iterator ≡ l.fn.coded.items;
  counted : into_iter_len l.row-iterator ≡ length (into_iter_items l.row-iterator);
  long : length l.rows.items ≡ length l.initial.rows.items;
  placed : (want give : List (List ℕ)) → All (IsRowOf want give) l.yielded → HavePlaced give l.initial.rows.items l.yielded l.rows.items;
}
