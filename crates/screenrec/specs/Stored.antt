-- What of a script's stream stands in a file, line by line.
use Rattle.std.specs.Prelude.{◌≡◌, ℕ, List, [], ◌∷◌, ◌++◌, length, None, Result, Ok, Err}
use Rattle.std.specs.List.{last_or}
use Rattle.std.specs.FinMap.{insert}
use Rattle.recorder_model.specs.declared.line.Line.{Line}
use Rattle.h265_model.specs.Plain.{joined}
use Rattle.h265_model.specs.Settings.{Settings}
use Rattle.recorder_model.specs.Painting.{raster, rasters_after}
use Rattle.h265_model.specs.Stream.{pieces, picture_piece, stream_of}
use Rattle.recorder_model.specs.Files.{Files, file_at, IsPrefix}
use Rattle.recorder_model.specs.Headline.{IsCutShort}
use Rattle.edges.specs.declared.sink.WriteError.{WriteError}
use Rattle.edges.specs.declared.sink.WriteError.TheVariants as write

-- a piece was appended, or a part of it and then a fault, or nothing for want of memory
abbrev pub AppendsPiece : List ℕ → List ℕ → Files → Files → Result ℕ WriteError → Type 0
AppendsPiece name piece before after (Ok count) = after ≡ insert before name (file_at before name ++ piece)
AppendsPiece name piece before after (Err write.Failed) =
    (part : List ℕ) × IsPrefix part piece × (after ≡ insert before name (file_at before name ++ part))
AppendsPiece name piece before after (Err write.NoMemory) = after ≡ before

module _ (settings : Settings) where
  -- the pieces of the pictures that these lines cut, and their bytes
  abbrev pub pieces_after_lines : List Line → List (List ℕ)
  pieces_after_lines lines = pieces settings (rasters_after settings.size [] lines)

  abbrev pub stream_after : List Line → List ℕ
  stream_after lines = joined (pieces_after_lines lines)

  -- the piece that a cut adds after these lines
  abbrev pub cut_piece : List Line → List ℕ
  cut_piece done =
      picture_piece settings (length (rasters_after settings.size [] done)) (last_or None (rasters_after settings.size [] done))
      (raster settings.size done)

  -- after some lines came one more, whose piece stands in the file in part
  pub record IsStopped (name : List ℕ) (done : List Line) (line : Line) (start after : Files) : Type 0 where
    pub piece : List ℕ
    pub part : List ℕ
    pub next : pieces_after_lines (done ++ line ∷ []) ≡ pieces_after_lines done ++ piece ∷ []
    pub is_part : IsPrefix part piece
    pub stored : after ≡ insert start name (stream_after done ++ part)

  -- what one more line leaves in the file, which held the stream after the lines before
  abbrev pub Continues : List ℕ → List Line → Line → Files → Files → Result ℕ WriteError → Type 0
  Continues name done line start after (Ok count) = after ≡ insert start name (stream_after (done ++ line ∷ []))
  Continues name done line start after (Err write.Failed) = IsStopped name done line start after
  Continues name done line start after (Err write.NoMemory) = after ≡ insert start name (stream_after done)

  -- the stream of all lines stands in the file, or whole pieces of it and a part of the next one
  pub record IsStored (name : List ℕ) (lines : List Line) (before after : Files) (written : ℕ) : Type 0 where
    pub stored : after ≡ insert before name (stream_of settings (rasters_after settings.size [] lines))
    pub counted : written ≡ length (stream_of settings (rasters_after settings.size [] lines))

  abbrev pub EndsIn : List ℕ → List Line → Files → Files → Result (Unit {0}) WriteError → ℕ → Type 0
  EndsIn name lines before after (Ok done) written = IsStored name lines before after written
  EndsIn name lines before after (Err write.Failed) written =
      IsCutShort settings name (rasters_after settings.size [] lines) before after written
  EndsIn name lines before after (Err write.NoMemory) written =
      IsCutShort settings name (rasters_after settings.size [] lines) before after written × (written ≡ length (file_at after name))
