-- The answers of a desk's calls.
use Rattle.std.specs.Prelude.{◌≡◌, true, false}
use Rattle.turn_lock.specs.Standing.{Standing}
use Rattle.live_desk.specs.declared.answers.PlayError.{PlayError}
use Rattle.live_desk.specs.declared.answers.PlayError.TheVariants as play
use Rattle.live_desk.specs.declared.answers.TryPlayError.{TryPlayError}
use Rattle.live_desk.specs.declared.answers.TryPlayError.TheVariants as try
use Rattle.live_desk.specs.declared.answers.Taken.{Taken}
use Rattle.live_desk.specs.declared.answers.Taken.TheVariants as taken
use Rattle.live_desk.specs.Passes.{Client}
use Rattle.live_desk.specs.Desks.{HasStopped, WasBusy, HasTaken, HasLooked}

-- the pass had played all its lines, and no word was touched
pub record IsDone (old new : Client) : Type 0 where
  pub all : old.next ≡ old.lines
  pub same : new ≡ old

abbrev pub IsRefused : Client → Client → PlayError → Type 0
IsRefused old new play.Done = IsDone old new
IsRefused old new play.NoMemory = HasStopped old new

abbrev pub IsTryRefused : Client → Client → TryPlayError → Type 0
IsTryRefused old new try.Done = IsDone old new
IsTryRefused old new (try.Busy loaded found) = WasBusy old new loaded found
IsTryRefused old new try.NoMemory = HasStopped old new

abbrev pub HasAnswered : Standing → Standing → Taken → Type 0
HasAnswered old new (taken.Job job) = HasTaken old new job
HasAnswered old new (taken.NotYet seen) = HasLooked old new seen false
HasAnswered old new (taken.Ended seen) = HasLooked old new seen true
