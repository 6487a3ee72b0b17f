use Rattle.std.proofs.Common.{ℕ, ◌≡◌, ◌≢◌, length}
use Rattle.recorder_model.specs.Histories.{indexes_of}
use Rattle.desk_state.proofs.tests.play_both.Given as goal

abbrev pub invariant-loop-index : goal.invariant-loop-index
invariant-loop-index l = record {
  setting : l.state.setting ≡ l.fn.state.setting;
  played : length (indexes_of l.state.history l.client) ≡ l.index;
  others : (other : ℕ) → l.client ≢ other → length (indexes_of l.state.history other) ≡ length (indexes_of l.fn.state.history other);
}
