-- All frames were written, and then the report or a part of it, or nothing for want of memory.
use Rattle.std.proofs.Common.{◌≡◌, ℕ, List, [], length, take, Option, inr, sym, ◌∙◌, ap}
use Rattle.std.proofs.Math.Seq.{take-length}
use Rattle.std.specs.FinMap.{insert}
use Rattle.h265_model.specs.Raster.{Raster}
use Rattle.recorder_model.specs.declared.entry.Entry.{Entry}
use Rattle.recorder_model.specs.Files.{Files, WhereTold}
use Rattle.recorder_model.specs.FileLaws.{told_on}
use Rattle.recorder_model.specs.Frames.{frames}
use Rattle.stream_decode.specs.Readings.{Reading}
use Rattle.screenrec.specs.declared.outcome.Status.{Status}
use Rattle.screenrec.specs.declared.outcome.Status.TheVariants as status
use Rattle.screenrec.specs.Alone.{IsOfReport}
use Rattle.screenrec.specs.Decoding.{AreFrames, IsDecoded, IsDecodedSoFar, LeavesStream}
use Rattle.screenrec.specs.Walks.{IsOpened}

module _ (bytes out : List ℕ) (r : Reading) (order : List Entry) (written : ℕ) (opened : IsOpened bytes r) (none : order ≡ []) where
  decoded : (x z : Files) → AreFrames r.size r.pictures out x z written → IsDecoded bytes out x z order written
  decoded x z f = record { size = r.size; pictures = r.pictures; stream = opened.stream; no_order = none; stands = f }

  so_far : (x z : Files) → AreFrames r.size r.pictures out x z written → IsDecodedSoFar bytes out x z order written
  so_far x z f =
      let all : take (length r.pictures) r.pictures ≡ r.pictures = take-length r.pictures in
      record {
        size = r.size;
        pictures = r.pictures;
        stream = opened.stream;
        no_order = none;
        whole = length r.pictures;
        stands = record {
          stored = f.stored ∙ ap (λ (l : List Raster). insert x out (frames r.size l)) (sym all);
          counted = f.counted ∙ ap (λ (l : List Raster). length (frames r.size l)) (sym all);
        };
      }

  leaves : (answer : Status) → IsOfReport answer → (x z : Files) → AreFrames r.size r.pictures out x z written → LeavesStream bytes out x z order written answer
  leaves status.Ok of x z f = decoded x z f
  leaves status.Usage of x z f = absurd of
  leaves (status.BadPaint file line cause) of x z f = absurd of
  leaves (status.Limit which) of x z f = absurd of
  leaves (status.InputFault file) of x z f = absurd of
  leaves status.SinkFault of x z f = absurd of
  leaves status.ReportFault of x z f = decoded x z f
  leaves status.NoMemory of x z f = inr (so_far x z f)
  leaves (status.TooLarge file) of x z f = absurd of
  leaves (status.BadStream at) of x z f = absurd of

  -- a file that was made, and all frames in it
  pub all_written : (a b c : Option Files) (answer : Status) → IsOfReport answer → WhereTold a b (λ before after. after ≡ insert before out []) →
      WhereTold b c (λ before after. (start : Files) → before ≡ insert start out [] → AreFrames r.size r.pictures out start after written) →
      WhereTold a c (λ before after. LeavesStream bytes out before after order written answer)
  all_written a b c answer of made filled =
      told_on a b c (λ before after. after ≡ insert before out [])
      (λ before after. (start : Files) → before ≡ insert start out [] → AreFrames r.size r.pictures out start after written)
      (λ before after. LeavesStream bytes out before after order written answer) made filled
      (λ x y z p q. leaves answer of x z (q x p))
