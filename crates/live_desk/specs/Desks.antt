-- The desk theorem: what each call of a desk says of its pass.
use Rattle.std.specs.Prelude.{◌≡◌, ℕ, ◌+◌, ◌<◌, List, [], ◌∷◌, ◌++◌, length, Bool, true, false, Some, slice_get}
use Rattle.std.specs.List.{range_with_len}
use Rattle.atomic_table.specs.Seated.{TableId}
use Rattle.recorder_model.specs.declared.entry.Entry.{Entry}
use Rattle.recorder_model.specs.declared.entry.Entry.TheVariants as entry
use Rattle.h265_model.specs.declared.job.Job.{Job}
use Rattle.recorder_model.specs.Script.{is_cut}
use Rattle.recorder_model.specs.Setting.{Setting}
use Rattle.recorder_model.specs.Painting.{accepted_line}
use Rattle.recorder_model.specs.Histories.{IsLawful, indexes_of, cuts, takes}
use Rattle.recorder_model.specs.Desk.{job_of}
use Rattle.turn_lock.specs.Turns.{Begins, IsBusy, made_by, one_more}
use Rattle.turn_lock.specs.Standing.{Standing}
use Rattle.live_desk.specs.Passes.{Client, fresh_client, fresh_recorder}
use Rattle.live_desk.specs.Turned.{HadTurn}

-- a new desk: a fresh pass for each script, in order, and the recorder's
pub record IsOpened (setting : Setting) (desk : TableId) (clients : List Client) (recorder : Standing) : Type 0 where
  pub many : length clients ≡ length setting.scripts
  pub each : (c : ℕ) → c < length setting.scripts → slice_get clients c ≡ Some (fresh_client desk setting c)
  pub last : recorder ≡ fresh_recorder desk setting

-- it is the same client's pass at the same desk
pub record IsSameClient (old new : Client) : Type 0 where
  pub table : new.table ≡ old.table
  pub client : new.client ≡ old.client
  pub lines : new.lines ≡ old.lines

-- The client's next line stands in the history, at this place: behind all that the pass had seen, and behind its lines before
-- that one, each once.
pub record HasPlayed (old new : Client) (at : ℕ) : Type 0 where
  pub base : List Entry
  pub left : old.next < old.lines
  pub same : IsSameClient old new
  pub turn : HadTurn old.knows base (entry.Line old.client old.next ∷ []) new.knows
  pub place : at ≡ length base
  pub lawful : IsLawful old.knows.setting.scripts new.knows.seen
  pub own : indexes_of new.knows.seen old.client ≡ range_with_len 0 (old.next + 1)
  pub raised : new.knows.raised ≡ old.knows.raised
  pub next : new.next ≡ old.next + 1
  pub runs : new.stopped ≡ false

-- The turn was taken and given back with no new entry, for want of memory, at a cut.
pub record HasStopped (old new : Client) : Type 0 where
  pub base : List Entry
  pub left : old.next < old.lines
  pub same : IsSameClient old new
  pub turn : HadTurn old.knows base [] new.knows
  pub cut : is_cut (accepted_line old.knows.setting.scripts old.client old.next) ≡ true
  pub raised : new.knows.raised ≡ old.knows.raised
  pub next : new.next ≡ old.next
  pub stops : new.stopped ≡ true

-- The turn wasn't free: these words were found, and nothing else changed.
pub record WasBusy (old new : Client) (loaded found : ℕ) : Type 0 where
  pub left : old.next < old.lines
  pub same : IsSameClient old new
  pub words : IsBusy old.knows loaded found new.knows
  pub next : new.next ≡ old.next
  pub stops : new.stopped ≡ old.stopped

-- The desk was marked as lost.
pub record HasMarked (old new : Client) : Type 0 where
  pub base : List Entry
  pub same : IsSameClient old new
  pub turn : HadTurn old.knows base [] new.knows
  pub marked : new.knows.saw ≡ true
  pub next : new.next ≡ old.next
  pub stops : new.stopped ≡ old.stopped

-- The first cut picture that wasn't taken at this turn was taken. All takes before it were the pass's own.
pub record HasTaken (old new : Standing) (job : Job) : Type 0 where
  pub base : List Entry
  pub waited : takes base < cuts old.knows.setting.scripts base
  pub table : new.table ≡ old.table
  pub turn : HadTurn old.knows base (entry.Take (takes base) ∷ []) new.knows
  pub lawful : IsLawful old.knows.setting.scripts new.knows.seen
  pub is_job : job ≡ job_of old.knows.setting base (takes base)
  pub own : made_by (length old.knows.setting.scripts) old.knows.made ≡ Some (takes base)
  pub raised : new.knows.raised ≡ old.knows.raised
  pub made : new.knows.made ≡ one_more (length old.knows.setting.scripts) old.knows.made

-- At this turn each cut was taken, by this pass, the history had this length, and the mark was this.
pub record HasLooked (old new : Standing) (entries : ℕ) (mark : Bool) : Type 0 where
  pub base : List Entry
  pub table : new.table ≡ old.table
  pub turn : HadTurn old.knows base [] new.knows
  pub lawful : IsLawful old.knows.setting.scripts new.knows.seen
  pub long : entries ≡ length new.knows.seen
  pub all : takes new.knows.seen ≡ cuts old.knows.setting.scripts new.knows.seen
  pub own : made_by (length old.knows.setting.scripts) old.knows.made ≡ Some (takes base)
  pub marked : new.knows.saw ≡ mark
  pub raised : new.knows.raised ≡ old.knows.raised
  pub made : new.knows.made ≡ old.knows.made

-- The pass heard a note: what it has seen begins with what both had seen.
pub record HasHeard (old : Client) (note : Standing) (new : Client) : Type 0 where
  pub same : IsSameClient old new
  pub mine : Begins old.knows.seen new.knows.seen
  pub theirs : Begins note.knows.seen new.knows.seen
  pub weight : new.knows.weight ≡ old.knows.weight + note.knows.weight
  pub setting : new.knows.setting ≡ old.knows.setting
  pub next : new.next ≡ old.next
  pub stops : new.stopped ≡ old.stopped

-- The client's pass was folded in: what the recorder's has seen begins with what both had seen, and it has the client's lines.
pub record HasFolded (old : Standing) (client : Client) (new : Standing) : Type 0 where
  pub table : new.table ≡ old.table
  pub mine : Begins old.knows.seen new.knows.seen
  pub theirs : Begins client.knows.seen new.knows.seen
  pub weight : new.knows.weight ≡ old.knows.weight + client.knows.weight
  pub setting : new.knows.setting ≡ old.knows.setting
  pub passes : new.knows.passes ≡ old.knows.passes
  pub made : new.knows.made ≡ old.knows.made ++ (client.client, client.next) ∷ []

-- The history of a closed desk: its lines of each client are as many as the client's pass made, and its takes as many as the
-- recorder's.
pub record HasClosed (recorder : Standing) (h : List Entry) : Type 0 where
  pub lawful : IsLawful recorder.knows.setting.scripts h
  pub begins : Begins recorder.knows.seen h
  pub lines : (c : ℕ) → c < length recorder.knows.setting.scripts → made_by c recorder.knows.made ≡ Some (length (indexes_of h c))
  pub takes_all : made_by (length recorder.knows.setting.scripts) recorder.knows.made ≡ Some (takes h)
