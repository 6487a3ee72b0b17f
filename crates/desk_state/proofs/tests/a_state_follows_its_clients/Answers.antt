use Rattle.std.proofs.Common.{◌≡◌, ℕ, [], length, refl, rules}
use Rattle.recorder_model.specs.Histories.{indexes_of}
use Rattle.desk_state.proofs.tests.a_state_follows_its_clients.Goals as goal

nothing : (client : ℕ) → length (indexes_of [] client) ≡ 0
unfolding indexes_of
nothing client = refl

pub play_both-requires-clause-fresh : goal.play_both-requires-clause-fresh
play_both-requires-clause-fresh g c = search (rules, nothing)

pub play_both-requires-2-clause-fresh : goal.play_both-requires-2-clause-fresh
play_both-requires-2-clause-fresh g c = search (rules, nothing)
