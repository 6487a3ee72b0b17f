use Rattle.std.proofs.Common.{◌≡◌, ◌<◌, ◌≤◌, ℕ, true, false}
use Rattle.std.specs.Prelude.{slice_index, slice_index_or}
use Rattle.picture_encoder.specs.Planning.{raised}
use Rattle.picture_encoder.proofs.tiles.flags_of.Given as goal

abbrev pub invariant-loop-tile : goal.invariant-loop-tile
invariant-loop-tile l = record {
  few : raised l.flags.items ≤ l.tile-index;
  listed : (k : ℕ) → k < l.tile-index → slice_index_or l.flags.items (slice_index l.tiles k) false ≡ true;
}
