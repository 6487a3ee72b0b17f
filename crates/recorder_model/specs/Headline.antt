-- What a recording promises.
use Rattle.std.specs.Prelude.{◌≡◌, ℕ, ◌+◌, List, [], ◌∷◌, ◌++◌, length, map, take, count_by, Result, Ok, Err, nat_lt, slice_index_or, if◌then◌else◌}
use Rattle.std.specs.FinMap.{insert}
use Rattle.recorder_model.specs.declared.entry.Entry.{Entry}
use Rattle.recorder_model.specs.declared.refusal.Cause.{Cause}
use Rattle.recorder_model.specs.declared.refusal.LimitKind.{LimitKind}
use Rattle.recorder_model.specs.declared.refusal.LimitKind.TheVariants.{Lines, Cuts}
use Rattle.recorder_model.specs.declared.line.Line.{Line}
use Rattle.recorder_model.specs.Script.{BadLine, script_of, is_cut}
use Rattle.h265_model.specs.Bits.{◌>>-◌}
use Rattle.h265_model.specs.Settings.{Settings}
use Rattle.h265_model.specs.Raster.{Raster}
use Rattle.recorder_model.specs.Histories.{IsLawful, Merges, cuts, paints, takes}
use Rattle.h265_model.specs.Stream.{pieces, stream_of}
use Rattle.h265_model.specs.Decode.{decode}
use Rattle.recorder_model.specs.Report.{report_text}
use Rattle.recorder_model.specs.Files.{Files, file_at, IsPrefix}
use Rattle.h265_model.specs.Plain.{joined}

-- ---- which files are accepted

-- the limits on a paint file's bytes, and on the lines and cuts of all files together
abbrev pub most_bytes : ℕ
most_bytes = 16777216

abbrev pub most_lines : ℕ
most_lines = 1000000

abbrev pub most_cuts : ℕ
most_cuts = 65536

-- the first refusal: a file, counted from 0, that is too large or has a bad line, or a total that passes its number
pub data Refusal : Type 0 where
  TooLarge : ℕ → Refusal
  BadPaint : ℕ → ℕ → Cause → Refusal
  Limit : LimitKind → Refusal

abbrev pub sized : ℕ → List ℕ → Result (List ℕ) Refusal
sized file bytes = if nat_lt most_bytes (length bytes) then Err (TooLarge file) else Ok bytes

abbrev pub in_file : ℕ → Result (List Line) BadLine → Result (List Line) Refusal
in_file file (Ok script) = Ok script
in_file file (Err bad) = Err (BadPaint file bad.line bad.cause)

abbrev pub within : ℕ → ℕ → Result (Unit {0}) Refusal
within lines cuts = if nat_lt most_lines lines then Err (Limit Lines) else if nat_lt most_cuts cuts then Err (Limit Cuts) else Ok tt

-- the scripts of the files from this number on, after so many lines and cuts, or the first refusal
unfoldable pub scripts_after : ℕ → ℕ → ℕ → List (List ℕ) → Result (List (List Line)) Refusal
scripts_after file lines cuts [] = Ok []
scripts_after file lines cuts (bytes ∷ files) =
    sized file bytes >>- λ bytes.
    in_file file (script_of bytes) >>- λ script.
    within (lines + length script) (cuts + count_by is_cut script) >>- λ _.
    scripts_after (file + 1) (lines + length script) (cuts + count_by is_cut script) files >>- λ others.
    Ok (script ∷ others)

abbrev pub scripts_of : List (List ℕ) → Result (List (List Line)) Refusal
scripts_of files = scripts_after 0 0 0 files

-- the bytes of the named files
abbrev pub contents : Files → List (List ℕ) → List (List ℕ)
contents files names = map (file_at files) names

-- ---- the promise

-- Every order in which the clients' lines were accepted: each client's lines in its own order, all of them,
-- and each cut picture was taken, in order.
pub record IsPlayed (scripts : List (List Line)) (order : List Entry) : Type 0 where
  pub lawful : IsLawful scripts order
  pub merges : Merges scripts order
  pub taken : takes order ≡ cuts scripts order

-- OUT is the stream of the pictures, which H.265 decodes to them; every other file is as it was.
pub record IsRecorded (settings : Settings) (out : List ℕ) (ps : List Raster) (before after : Files) (written : ℕ) : Type 0 where
  pub stored : after ≡ insert before out (stream_of settings ps)
  pub decodes : decode (stream_of settings ps) ≡ Ok (settings.size, ps)
  pub counted : written ≡ length (stream_of settings ps)

-- The report's text for an order.
abbrev pub report_of : List (List Line) → List Entry → ℕ → List ℕ
report_of scripts order written = report_text (cuts scripts order) (paints scripts order) written

-- ---- what stands after a fault

-- nothing was recorded
pub record IsUntouched (order : List Entry) (before after : Files) (written : ℕ) : Type 0 where
  pub no_order : order ≡ []
  pub same : after ≡ before
  pub counted : written ≡ 0

-- OUT holds so many whole pieces of the stream of the pictures, and a part of the next one
pub record IsCutShort (settings : Settings) (out : List ℕ) (ps : List Raster) (before after : Files) (written : ℕ) : Type 0 where
  pub whole : ℕ
  pub part : List ℕ
  pub is_part : IsPrefix part (slice_index_or (pieces settings ps) whole [])
  pub stored : after ≡ insert before out (joined (take whole (pieces settings ps)) ++ part)
  pub counted : written ≡ length (joined (take whole (pieces settings ps)))
