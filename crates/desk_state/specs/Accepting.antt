-- Accepting a line.
use Rattle.std.specs.Prelude.{◌≡◌}
use Rattle.recorder_model.specs.declared.line.Line.{Line}
use Rattle.desk_state.specs.declared.replay.Replay.{Replay}
use Rattle.desk_state.specs.Replays.{IsAfter, IsOneMore}

-- what was accepted is one line more
abbrev pub HasAccepted : Line → Replay → Replay → Type 0
HasAccepted line old new = IsOneMore line
    (λ lines taken. IsAfter lines taken old.surface old.jobs.items old.cuts)
    (λ lines taken. IsAfter lines taken new.surface new.jobs.items new.cuts)

-- the same but for room
pub record IsAsBefore (old new : Replay) : Type 0 where
  pub surface : new.surface ≡ old.surface
  pub jobs : new.jobs.items ≡ old.jobs.items
  pub cuts : new.cuts ≡ old.cuts
