-- What the words `serial` and `record` promise, and what a call does for each row of words. The two differ in the order of the clients' lines alone.
use Rattle.std.specs.Prelude.{◌≡◌, ◌≢◌, ◌⊎◌, ℕ, ◌<◌, ◌++◌, List, [], ◌∷◌, length, take, Option, Some, None, Result, Ok, Err, IsOk}
use Rattle.recorder_model.specs.declared.entry.Entry.{Entry}
use Rattle.recorder_model.specs.declared.line.Line.{Line}
use Rattle.command_line.specs.Words.{SerialWords, RecordWords, DecodeWords, Row, Record, Serial, Demo, Decode}
use Rattle.h265_model.specs.Settings.{Settings}
use Rattle.recorder_model.specs.Painting.{pictures}
use Rattle.recorder_model.specs.Histories.{IsLawful, Merges, own_order}
use Rattle.recorder_model.specs.Files.{Files, IsPrefix, file_at, Rose}
use Rattle.recorder_model.specs.Headline.{Refusal, TooLarge, BadPaint, Limit, scripts_of, contents, IsPlayed, IsRecorded, IsUntouched, IsCutShort, report_of}
use Rattle.screenrec.specs.declared.outcome.Status.{Status}
use Rattle.screenrec.specs.declared.outcome.Status.TheVariants as status
use Rattle.screenrec.specs.Answers.{Counts, NoneRose}
use Rattle.screenrec.specs.Demo.{IsOfDemo, LeavesDemo, ReportsDemo}
use Rattle.screenrec.specs.Decoding.{IsOfDecoding, LeavesStream, ReportsStream, IsCompleteDecoding}

-- ---- the order of a recording

-- how scripts are played: one alone, or those of several clients together
pub data Playing : Type 0 where
  Alone : Playing
  Together : Playing

-- the orders of a whole recording: the one script's own, or any in which the clients' lines were accepted
abbrev pub IsOrder : Playing → List (List Line) → List Entry → Type 0
IsOrder Alone scripts order = order ≡ own_order scripts
IsOrder Together scripts order = IsPlayed scripts order

-- the orders after a fault of the stream: all lines were played
abbrev pub IsPlayedOut : Playing → List (List Line) → List Entry → Type 0
IsPlayedOut Alone scripts order = order ≡ own_order scripts
IsPlayedOut Together scripts order = Merges scripts order

-- no piece stands in part: OUT has just the bytes that were counted
abbrev pub IsWholePieces : List ℕ → Files → ℕ → Type 0
IsWholePieces out after written = written ≡ length (file_at after out)

-- The orders after want of memory: a script alone has its order from the start, and pieces stand whole. Of several clients some lines were played;
-- where all were, no client met want of memory, and pieces stand whole, since a fault of the stream would have been answered before it.
abbrev pub IsPlayedInPart : Playing → List ℕ → Files → ℕ → List (List Line) → List Entry → Type 0
IsPlayedInPart Alone out after written scripts order = (order ≡ own_order scripts) × IsWholePieces out after written
IsPlayedInPart Together out after written scripts order = Merges scripts order → IsWholePieces out after written

-- ---- what is recorded

-- how, into which file, from which files, and in which manner they are played
pub record Task : Type 0 where
  pub settings : Settings
  pub out : List ℕ
  pub files : List (List ℕ)
  pub playing : Playing

abbrev pub serial_task : SerialWords → Task
serial_task words = record { settings = words.settings; out = words.out; files = words.file ∷ []; playing = Alone }

abbrev pub record_task : RecordWords → Task
record_task words = record { settings = words.settings; out = words.out; files = words.files; playing = Together }

-- the scripts of the files, or the first refusal
abbrev pub scripts_in : Task → Files → Result (List (List Line)) Refusal
scripts_in task before = scripts_of (contents before task.files)

-- ---- what stands after each status

module _ (task : Task) (before after : Files) (order : List Entry) (written : ℕ) where
  -- The scripts were accepted and played, and OUT is the stream of the pictures of the order.
  pub record IsFinished : Type 0 where
    pub scripts : List (List Line)
    pub accepted : scripts_in task before ≡ Ok scripts
    pub played : IsOrder task.playing scripts order
    pub recorded : IsRecorded task.settings task.out (pictures task.settings.size scripts order) before after written

  -- The scripts were accepted, and OUT is a part of the stream of the pictures of the order.
  pub record IsBroken (Played : List (List Line) → List Entry → Type 0) : Type 0 where
    pub scripts : List (List Line)
    pub accepted : scripts_in task before ≡ Ok scripts
    pub lawful : IsLawful scripts order
    pub played : Played scripts order
    pub cut_short : IsCutShort task.settings task.out (pictures task.settings.size scripts order) before after written

  -- OUT wasn't made: the scripts were accepted, and nothing was recorded.
  pub record IsNotMade : Type 0 where
    pub accepted : IsOk (scripts_in task before)
    pub untouched : IsUntouched order before after written

  -- The scripts were refused so, and nothing was recorded.
  pub record IsRefused (refusal : Refusal) : Type 0 where
    pub refused : scripts_in task before ≡ Err refusal
    pub untouched : IsUntouched order before after written

  -- The files before this one are accepted, and nothing was recorded.
  pub record IsUnread (file : ℕ) : Type 0 where
    pub accepted : IsOk (scripts_of (take file (contents before task.files)))
    pub untouched : IsUntouched order before after written

  -- what a status says of the scripts, the order and the files
  abbrev pub LeavesTask : Status → Type 0
  LeavesTask status.Ok = IsFinished
  LeavesTask status.Usage = ⊥
  LeavesTask (status.BadPaint file line cause) = IsRefused (BadPaint file line cause)
  LeavesTask (status.Limit which) = IsRefused (Limit which)
  LeavesTask (status.InputFault file) = IsUnread file
  LeavesTask status.SinkFault = IsNotMade ⊎ IsBroken (IsPlayedOut task.playing)
  LeavesTask status.ReportFault = IsFinished
  LeavesTask status.NoMemory =
      IsUntouched order before after written ⊎ IsBroken (IsPlayedInPart task.playing task.out after written)
  LeavesTask (status.TooLarge file) = IsRefused (TooLarge file)
  LeavesTask (status.BadStream at) = ⊥

-- ---- what a call does for its words

-- nothing, as they are in no row of its table; a recording; a demo of a number; or a stream is decoded
pub data Service : Type 0 where
  NoRow : Service
  Does : Task → Service
  Plays : ℕ → Service
  Reads : DecodeWords → Service

abbrev pub serial_service : Option Row → Service
serial_service (Some (Serial words)) = Does (serial_task words)
serial_service _ = NoRow

abbrev pub demo_service : Option Row → Service
demo_service (Some (Demo number)) = Plays number
demo_service _ = NoRow

abbrev pub decode_service : Option Row → Service
decode_service (Some (Decode words)) = Reads words
decode_service _ = NoRow

abbrev pub run_service : Option Row → Service
run_service None = NoRow
run_service (Some (Serial words)) = Does (serial_task words)
run_service (Some (Record words)) = Does (record_task words)
run_service (Some (Demo number)) = Plays number
run_service (Some (Decode words)) = Reads words

-- what isn't answered for words of a recording
pub record IsServed (answer : Status) : Type 0 where
  pub in_row : answer ≢ status.Usage
  pub no_stream : (at : ℕ) → answer ≢ status.BadStream at

-- Usage comes exactly where the words are in no row, but for want of memory.
abbrev pub Answers : Service → Status → Type 0
Answers NoRow answer = (answer ≡ status.Usage) ⊎ (answer ≡ status.NoMemory)
Answers (Does task) answer = IsServed answer
Answers (Plays number) answer = IsOfDemo answer
Answers (Reads words) answer = IsOfDecoding answer

-- ---- what needs no file to be told

abbrev pub IsEmpty : List Entry → ℕ → Type 0
IsEmpty order written = (order ≡ []) × (written ≡ 0)

-- a status that shows by itself that no recording began leaves no order, and nothing was written
abbrev pub RefusesTask : Status → List Entry → ℕ → Type 0
RefusesTask status.Ok order written = Unit {0}
RefusesTask status.Usage order written = IsEmpty order written
RefusesTask (status.BadPaint file line cause) order written = IsEmpty order written
RefusesTask (status.Limit which) order written = IsEmpty order written
RefusesTask (status.InputFault file) order written = IsEmpty order written
RefusesTask status.SinkFault order written = Unit {0}
RefusesTask status.ReportFault order written = Unit {0}
RefusesTask status.NoMemory order written = Unit {0}
RefusesTask (status.TooLarge file) order written = IsEmpty order written
RefusesTask (status.BadStream at) order written = IsEmpty order written

-- nor is there an order where nothing is done for the words, or a stream is decoded. The order and the length of a demo are those of its number
abbrev pub RefusesEmpty : Service → Status → List Entry → ℕ → Type 0
RefusesEmpty NoRow answer order written = IsEmpty order written
RefusesEmpty (Does task) answer order written = RefusesTask answer order written
RefusesEmpty (Plays number) answer order written = LeavesDemo number answer order written
RefusesEmpty (Reads words) answer order written = (order ≡ []) × RefusesTask answer order written

-- a file that an answer names is one of the words
abbrev pub IsOfFile : List (List ℕ) → Status → Type 0
IsOfFile files (status.BadPaint file line cause) = file < length files
IsOfFile files (status.InputFault file) = file < length files
IsOfFile files (status.TooLarge file) = file < length files
IsOfFile files _ = Unit {0}

abbrev pub NamesFile : Service → Status → Type 0
NamesFile (Does task) answer = IsOfFile task.files answer
NamesFile NoRow answer = Unit {0}
NamesFile (Plays number) answer = Unit {0}
NamesFile (Reads words) answer = IsOfFile (words.input ∷ []) answer

-- ---- what is told of files and report

-- Where nothing is done, everything stays as it was.
abbrev pub Leaves : Service → Files → Files → Status → List Entry → ℕ → Type 0
Leaves NoRow before after answer order written = IsUntouched order before after written
Leaves (Does task) before after answer order written = LeavesTask task before after order written answer
Leaves (Plays number) before after answer order written = after ≡ before
Leaves (Reads words) before after answer order written = LeavesStream (file_at before words.input) words.out before after order written answer

-- With Ok the report grew by its text, and with ReportFault by a part of it.
abbrev pub ReportsTask : Task → Files → List ℕ → List ℕ → Status → List Entry → ℕ → Type 0
ReportsTask task before was now status.Ok order written =
    (scripts : List (List Line)) → scripts_in task before ≡ Ok scripts → now ≡ was ++ report_of scripts order written
ReportsTask task before was now status.ReportFault order written =
    (scripts : List (List Line)) → scripts_in task before ≡ Ok scripts →
    (part : List ℕ) × IsPrefix part (report_of scripts order written) × (now ≡ was ++ part)
ReportsTask task before was now _ order written = now ≡ was

abbrev pub Reports : Service → Files → List ℕ → List ℕ → Status → List Entry → ℕ → Type 0
Reports NoRow before was now answer order written = now ≡ was
Reports (Does task) before was now answer order written = ReportsTask task before was now answer order written
Reports (Plays number) before was now answer order written = ReportsDemo number was now answer order written
Reports (Reads words) before was now answer order written = ReportsStream (file_at before words.input) written was now answer

-- Completeness: where the files are accepted and no count rose, the answer is Ok, but for want of memory. Of a stream each refusal is complete too.
abbrev pub IsComplete : Service → Files → Counts → Counts → Status → Type 0
IsComplete (Does task) before counts counts_now answer =
    IsOk (scripts_in task before) → NoneRose counts counts_now → (answer ≡ status.Ok) ⊎ (answer ≡ status.NoMemory)
IsComplete (Plays number) before counts counts_now answer = NoneRose counts counts_now → (answer ≡ status.Ok) ⊎ (answer ≡ status.NoMemory)
IsComplete NoRow before counts counts_now answer = Unit {0}
IsComplete (Reads words) before counts counts_now answer = IsCompleteDecoding (file_at before words.input) counts counts_now answer

-- ---- a demo, which has no files: over any shelf

-- the report of a demo
abbrev pub TellsDemo : Service → List ℕ → List ℕ → Status → List Entry → ℕ → Type 0
TellsDemo (Plays number) was now answer order written = ReportsDemo number was now answer order written
TellsDemo NoRow was now answer order written = now ≡ was
TellsDemo (Reads words) was now answer order written = Unit {0}
TellsDemo (Does task) was now answer order written = Unit {0}

-- where the report's count didn't rise, the answer is Ok, but for want of memory
abbrev pub IsCompleteDemo : Service → ℕ → ℕ → Status → Type 0
IsCompleteDemo (Plays number) before now answer = ¬ Rose before now → (answer ≡ status.Ok) ⊎ (answer ≡ status.NoMemory)
IsCompleteDemo NoRow before now answer = Unit {0}
IsCompleteDemo (Reads words) before now answer = Unit {0}
IsCompleteDemo (Does task) before now answer = Unit {0}
