-- What a demo of a number records.
use Rattle.std.specs.Prelude.{◌≡◌, ℕ, ◌<◌, ◌/◌, ◌%◌, ◌++◌, List, [], length, map, flat_map}
use Rattle.recorder_model.specs.declared.entry.Entry.{Entry}
use Rattle.recorder_model.specs.declared.line.Line.{Line}
use Rattle.recorder_model.specs.declared.entry.Entry.TheVariants as entry
use Rattle.h265_model.specs.Plain.{below}
use Rattle.h265_model.specs.Settings.{plain, Settings}
use Rattle.h265_model.specs.Raster.{Raster}
use Rattle.recorder_model.specs.Painting.{pictures}
use Rattle.recorder_model.specs.Histories.{cuts, paints, script_length}
use Rattle.h265_model.specs.Stream.{stream_of}
use Rattle.recorder_model.specs.Files.{IsPrefix}
use Rattle.recorder_model.specs.Headline.{report_of}
use Rattle.screen_gen.specs.Generated.{clients, line_count, generated}
use Rattle.screenrec.specs.declared.outcome.Status.{Status}
use Rattle.screenrec.specs.declared.outcome.Status.TheVariants as status

-- 640x360, EFFORT 1, KEY 4
abbrev pub demo_settings : Settings
demo_settings = plain (record { w = 640; h = 360 }) 1 4

-- in rounds: line k of each client in turn, for each k
abbrev pub demo_order : List Entry
demo_order = flat_map (λ index. map (λ client. entry.Line client index) (below clients)) (below line_count)

-- the entry of a turn: the clients take turns, and after each round comes the next line
abbrev pub turn_entry : ℕ → Entry
turn_entry turn = entry.Line (turn % clients) (turn / clients)

-- four scripts of 60 lines
pub record HasRounds (scripts : List (List Line)) : Type 0 where
  pub many : length scripts ≡ clients
  pub long : (client : ℕ) → client < clients → script_length scripts client ≡ line_count

-- the scripts were played in rounds, and these are their counts of lines that cut and that paint, and the length of the stream
pub record IsPlayedDemo (scripts : List (List Line)) (order : List Entry) (cut painted written : ℕ) : Type 0 where
  pub rounds : order ≡ demo_order
  pub cut_so : cut ≡ cuts scripts demo_order
  pub painted_so : painted ≡ paints scripts demo_order
  pub counted : written ≡ length (stream_of demo_settings (pictures demo_settings.size scripts demo_order))

-- the pictures that the scripts of the number cut in this order
abbrev pub demo_pictures : ℕ → List Raster
demo_pictures number = pictures demo_settings.size (generated number) demo_order

-- the order of rounds, and the length of the stream of its pictures
pub record IsDemo (number : ℕ) (order : List Entry) (written : ℕ) : Type 0 where
  pub rounds : order ≡ demo_order
  pub counted : written ≡ length (stream_of demo_settings (demo_pictures number))

-- what a demo answers
abbrev pub IsOfDemo : Status → Type 0
IsOfDemo status.Ok = Unit {0}
IsOfDemo status.ReportFault = Unit {0}
IsOfDemo status.NoMemory = Unit {0}
IsOfDemo _ = ⊥

-- with Ok and ReportFault the stream was made; after want of memory there is nothing
abbrev pub LeavesDemo : ℕ → Status → List Entry → ℕ → Type 0
LeavesDemo number status.Ok order written = IsDemo number order written
LeavesDemo number status.ReportFault order written = IsDemo number order written
LeavesDemo number _ order written = (order ≡ []) × (written ≡ 0)

-- with Ok the report grew by its text, and with ReportFault by a part of it
abbrev pub ReportsDemo : ℕ → List ℕ → List ℕ → Status → List Entry → ℕ → Type 0
ReportsDemo number was now status.Ok order written = now ≡ was ++ report_of (generated number) order written
ReportsDemo number was now status.ReportFault order written =
    (part : List ℕ) × IsPrefix part (report_of (generated number) order written) × (now ≡ was ++ part)
ReportsDemo number was now _ order written = now ≡ was
