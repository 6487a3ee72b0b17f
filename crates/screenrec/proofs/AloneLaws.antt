-- One script alone: its report, and what stands after each status.
use Rattle.std.proofs.Common.{◌≡◌, ℕ, suc, ◌+◌, ◌-◌, ◌≤◌, ◌<◌, Bool, true, false, cond, List, [], ◌∷◌, ◌++◌, length, take, Option, Ok, Err, inr, refl, sym, ◌∙◌, ap, subst, arith}
use Rattle.std.specs.Prelude.{count_by, not, IsTrue, fold, slice_index_or}
use Rattle.std.specs.List.{All, AllByRecursion}
use Rattle.std.specs.FinMap.{insert}
use Rattle.std.proofs.Math.Seq.{take-length}
use Rattle.std.proofs.lemmas.Bool.{false≢true}
use Rattle.std.proofs.lemmas.List.{append-nil}
use Rattle.recorder_model.specs.declared.entry.Entry.{Entry}
use Rattle.recorder_model.specs.declared.line.Line.{Line}
use Rattle.recorder_model.specs.declared.line.Line.TheVariants.{Fill, Blit, Copy, Cut}
use Rattle.h265_model.specs.declared.extra.Extra.{Extra}
use Rattle.h265_model.specs.declared.extra.Extra.TheVariants.{Plain, Hash, Segments, Moves}
use Rattle.h265_model.specs.Plain.{Size, coded, joined}
use Rattle.command_line.specs.Views.{IsOfScript}
use Rattle.command_line.specs.Words.{SerialWords}
use Rattle.h265_model.specs.Settings.{Settings, is_size, has_segments}
use Rattle.h265_model.specs.Raster.{Raster, IsColour}
use Rattle.recorder_model.specs.Painting.{HasColours, pictures, rasters_after}
use Rattle.h265_model.specs.Stream.{pieces, stream_of}
use Rattle.h265_model.specs.Decode.{decode}
use Rattle.recorder_model.specs.Script.{is_cut}
use Rattle.recorder_model.specs.Report.{report_text}
use Rattle.recorder_model.specs.Histories.{own_order, cuts, paints, IsLawful}
use Rattle.recorder_model.specs.Headline.{report_of, IsRecorded, IsCutShort}
use Rattle.recorder_model.specs.Files.{Files, IsPrefix, WhereTold}
use Rattle.edges.specs.declared.sink.WriteError.{WriteError}
use Rattle.edges.specs.declared.sink.WriteError.TheVariants as write
use Rattle.recorder_laws.proofs.PlayLaws.{cuts-own_order, paints-own_order, pictures-own_order, own_order-is_lawful, each_picture_is_raster}
use Rattle.extra_laws.proofs.ExtraStreams.{extra_streams_are_decoded}
use Rattle.paint_script.specs.Spellable.{IsSpellable, AreSpellable, IsSpellableColour}
use Rattle.screenrec.specs.Stored.{IsStored, EndsIn}
use Rattle.screenrec.specs.Recording.{Alone, serial_task, IsPlayedOut, IsPlayedInPart, scripts_in, IsFinished, IsBroken}
use Rattle.screenrec.specs.declared.outcome.Status.{Status}
use Rattle.screenrec.specs.declared.outcome.Status.TheVariants as status
use Rattle.screenrec.specs.Alone.{sink_status, IsOfReport, LeavesScript}
use Rattle.screenrec.proofs.StoredLaws.{told_as, holds}

-- ---- the report

count_from : (p : Line → Bool) (lines : List Line) (a b : ℕ) →
    fold (λ n x. n + cond (not (p x)) 1 0) a lines + fold (λ n x. n + cond (p x) 1 0) b lines ≡ a + b + length lines
count_from p [] a b = omega arith
count_from p (line ∷ lines) a b = count_from p lines (a + cond (not (p line)) 1 0) (b + cond (p line) 1 0) ∙ go (p line)
  where
    go : (v : Bool) → (a + cond (not v) 1 0) + (b + cond v 1 0) + length lines ≡ a + b + suc (length lines)
    go true = omega arith
    go false = omega arith

pub count_both : (p : Line → Bool) (lines : List Line) → count_by (λ line. not (p line)) lines + count_by p lines ≡ length lines
count_both p lines = count_from p lines 0 0 ∙ omega arith

pub report_is : (script : List Line) (written : ℕ) →
    report_text (count_by is_cut script) (length script - count_by is_cut script) written ≡ report_of (script ∷ []) (own_order (script ∷ [])) written
report_is script written =
    let paints_are : length script - count_by is_cut script ≡ paints (script ∷ []) (own_order (script ∷ [])) =
    omega (arith, count_both is_cut script, paints-own_order script) in
    let cuts_are : count_by is_cut script ≡ cuts (script ∷ []) (own_order (script ∷ [])) = sym (cuts-own_order script) in
    ap (λ (n : ℕ). report_text n (length script - count_by is_cut script) written) cuts_are
    ∙ ap (λ (n : ℕ). report_text (cuts (script ∷ []) (own_order (script ∷ []))) n written) paints_are

pub reported_whole : (a b : Option (List ℕ)) (script : List Line) (written : ℕ) →
    WhereTold a b (λ was now. now ≡ was ++ report_text (count_by is_cut script) (length script - count_by is_cut script) written) →
    WhereTold a b (λ was now. now ≡ was ++ report_of (script ∷ []) (own_order (script ∷ [])) written)
reported_whole a b script written told =
    told_as a b (λ was now. now ≡ was ++ report_text (count_by is_cut script) (length script - count_by is_cut script) written)
    (λ was now. now ≡ was ++ report_of (script ∷ []) (own_order (script ∷ [])) written) told
    (λ x y p. p ∙ ap (λ (l : List ℕ). x ++ l) (report_is script written))

pub reported_in_part : (a b : Option (List ℕ)) (script : List Line) (written : ℕ) →
    WhereTold a b (λ was now. (part : List ℕ) × IsPrefix part (report_text (count_by is_cut script) (length script - count_by is_cut script) written) × (now ≡ was ++ part)) →
    WhereTold a b (λ was now. (part : List ℕ) × IsPrefix part (report_of (script ∷ []) (own_order (script ∷ [])) written) × (now ≡ was ++ part))
reported_in_part a b script written told =
    told_as a b (λ was now. (part : List ℕ) × IsPrefix part (report_text (count_by is_cut script) (length script - count_by is_cut script) written) × (now ≡ was ++ part))
    (λ was now. (part : List ℕ) × IsPrefix part (report_of (script ∷ []) (own_order (script ∷ [])) written) × (now ≡ was ++ part)) told
    (λ x y p. (p.0, (p.1.0, sym (report_is script written) ∙ p.1.1), p.2))

-- ---- the colours of a script

all_by : {X : Type 0} (P : X → Type 0) (xs : List X) → All P xs → AllByRecursion P xs
all_by P [] h = tt
all_by P (x ∷ xs) h = (h 0 x (omega arith), all_by P xs (λ k d l. h (suc k) d (omega arith)))

pub colours_of : (line : Line) → IsSpellable line → HasColours line
colours_of (Fill r c) h = record { r = h.1.r; g = h.1.g; b = h.1.b }
colours_of (Blit r pixels) h =
    all_by IsColour pixels (λ k d l. let c : IsSpellableColour (slice_index_or pixels k d) = h.1.colours k d l in record { r = c.r; g = c.g; b = c.b })
colours_of (Copy r to_x to_y) h = tt
colours_of Cut h = tt

have_colours : (script : List Line) → AreSpellable script → AllByRecursion HasColours script
have_colours script h = all_by HasColours script (λ k d l. colours_of (slice_index_or script k d) (h k d l))

-- ---- what stands after each status

pictures_are : (size : Size) (script : List Line) (order : List Entry) → order ≡ own_order (script ∷ []) → pictures size (script ∷ []) order ≡ rasters_after size [] script
pictures_are size script order own = ap (pictures size (script ∷ [])) own ∙ pictures-own_order size script

-- settings within the limits: a row that is a slice segment has two coding tree units at least
abbrev pub AreWithin : Settings → Type 0
AreWithin settings = IsTrue (is_size settings.size) × (has_segments settings.extra ≡ true → 32 < coded settings.size.w)

-- what the words of one script, and those of several clients, ask for
pub wide_enough : (extra : Extra) (w : ℕ) → IsOfScript extra w → has_segments extra ≡ true → 32 < coded w
wide_enough Plain w is e = absurd (false≢true e)
wide_enough Hash w is e = absurd (false≢true e)
wide_enough Segments w is e = omega (arith, is)
wide_enough Moves w is e = absurd (false≢true e)

module _ (words : SerialWords) where
  decoded : (script : List Line) → AreWithin words.settings → AreSpellable script →
      decode (stream_of words.settings (rasters_after words.settings.size [] script)) ≡ Ok (words.settings.size, rasters_after words.settings.size [] script)
  decoded script within spelled =
      extra_streams_are_decoded words.settings (rasters_after words.settings.size [] script) within.0 within.1
      (each_picture_is_raster words.settings.size script (have_colours script spelled))

  recorded : (script : List Line) (order : List Entry) (before after : Files) (written : ℕ) → AreWithin words.settings → AreSpellable script → order ≡ own_order (script ∷ []) →
      IsStored words.settings words.out script before after written → IsRecorded words.settings words.out (pictures words.settings.size (script ∷ []) order) before after written
  recorded script order before after written within spelled own s =
      subst (λ (ps : List Raster). IsRecorded words.settings words.out ps before after written) (sym (pictures_are words.settings.size script order own))
      (record { stored = s.stored; decodes = decoded script within spelled; counted = s.counted })

  cut_short_of : (script : List Line) (order : List Entry) (before after : Files) (written : ℕ) → order ≡ own_order (script ∷ []) →
      IsCutShort words.settings words.out (rasters_after words.settings.size [] script) before after written → IsCutShort words.settings words.out (pictures words.settings.size (script ∷ []) order) before after written
  cut_short_of script order before after written own s =
      subst (λ (ps : List Raster). IsCutShort words.settings words.out ps before after written) (sym (pictures_are words.settings.size script order own)) s

  -- a whole stream is one that is cut short at its end
  whole_cut : (script : List Line) (before after : Files) (written : ℕ) → IsStored words.settings words.out script before after written →
      IsCutShort words.settings words.out (rasters_after words.settings.size [] script) before after written
  unfolding stream_of
  whole_cut script before after written s =
      let ps : List (List ℕ) = pieces words.settings (rasters_after words.settings.size [] script) in
      let all : take (length ps) ps ≡ ps = take-length ps in
      record {
        whole = length ps;
        part = [];
        is_part = (slice_index_or ps (length ps) [], refl);
        stored = s.stored ∙ ap (insert before words.out) (sym (append-nil (joined (take (length ps) ps)) ∙ ap joined all));
        counted = s.counted ∙ ap (λ (l : List (List ℕ)). length (joined l)) (sym all);
      }

  finished : (script : List Line) (order : List Entry) (before after : Files) (written : ℕ) → AreWithin words.settings → AreSpellable script → order ≡ own_order (script ∷ []) →
      IsStored words.settings words.out script before after written → scripts_in (serial_task words) before ≡ Ok (script ∷ []) → IsFinished (serial_task words) before after order written
  finished script order before after written within spelled own s accepted = record {
    scripts = script ∷ [];
    accepted = accepted;
    played = own;
    recorded = recorded script order before after written within spelled own s;
  }

  broken : (script : List Line) (order : List Entry) (before after : Files) (written : ℕ) (Played : List (List Line) → List Entry → Type 0) →
      order ≡ own_order (script ∷ []) → Played (script ∷ []) order →
      IsCutShort words.settings words.out (rasters_after words.settings.size [] script) before after written → scripts_in (serial_task words) before ≡ Ok (script ∷ []) →
      IsBroken (serial_task words) before after order written Played
  broken script order before after written Played own played s accepted = record {
    scripts = script ∷ [];
    accepted = accepted;
    lawful = subst (IsLawful (script ∷ [])) (sym own) (own_order-is_lawful script);
    played = played;
    cut_short = cut_short_of script order before after written own s;
  }

  leaves_whole : (script : List Line) (order : List Entry) (written : ℕ) (answer : Status) (x y : Files) → IsOfReport answer → AreWithin words.settings → AreSpellable script →
      order ≡ own_order (script ∷ []) → IsStored words.settings words.out script x y written → LeavesScript words script x y order written answer
  leaves_whole script order written status.Ok x y kind within spelled own s = λ accepted. finished script order x y written within spelled own s accepted
  leaves_whole script order written status.ReportFault x y kind within spelled own s = λ accepted. finished script order x y written within spelled own s accepted
  leaves_whole script order written status.NoMemory x y kind within spelled own s = λ accepted.
      inr
      (broken script order x y written (IsPlayedInPart Alone words.out y written) own
      (own, s.counted ∙ holds x y words.out (stream_of words.settings (rasters_after words.settings.size [] script)) s.stored)
      (whole_cut script x y written s)
      accepted)
  leaves_whole script order written status.Usage x y kind within spelled own s = absurd kind
  leaves_whole script order written (status.BadPaint f l c) x y kind within spelled own s = absurd kind
  leaves_whole script order written (status.Limit w) x y kind within spelled own s = absurd kind
  leaves_whole script order written (status.InputFault f) x y kind within spelled own s = absurd kind
  leaves_whole script order written status.SinkFault x y kind within spelled own s = absurd kind
  leaves_whole script order written (status.TooLarge f) x y kind within spelled own s = absurd kind
  leaves_whole script order written (status.BadStream at) x y kind within spelled own s = absurd kind

  pub whole_files : (a b : Option Files) (script : List Line) (order : List Entry) (written : ℕ) (answer : Status) → IsOfReport answer → AreWithin words.settings → AreSpellable script →
      order ≡ own_order (script ∷ []) → WhereTold a b (λ before after. IsStored words.settings words.out script before after written) →
      WhereTold a b (λ before after. LeavesScript words script before after order written answer)
  whole_files a b script order written answer kind within spelled own told =
      told_as a b (λ before after. IsStored words.settings words.out script before after written) (λ before after. LeavesScript words script before after order written answer) told
      (λ x y s. leaves_whole script order written answer x y kind within spelled own s)

  leaves_stopped : (script : List Line) (order : List Entry) (written : ℕ) (error : WriteError) (x y : Files) → order ≡ own_order (script ∷ []) →
      EndsIn words.settings words.out script x y (Err error) written → LeavesScript words script x y order written (sink_status error)
  leaves_stopped script order written write.Failed x y own s = λ accepted.
      inr (broken script order x y written (IsPlayedOut Alone) own own s accepted)
  leaves_stopped script order written write.NoMemory x y own s = λ accepted.
      inr (broken script order x y written (IsPlayedInPart Alone words.out y written) own (own, s.1) s.0 accepted)

  pub stopped_files : (a b : Option Files) (script : List Line) (order : List Entry) (written : ℕ) (error : WriteError) →
      order ≡ own_order (script ∷ []) → WhereTold a b (λ before after. EndsIn words.settings words.out script before after (Err error) written) →
      WhereTold a b (λ before after. LeavesScript words script before after order written (sink_status error))
  stopped_files a b script order written error own told =
      told_as a b (λ before after. EndsIn words.settings words.out script before after (Err error) written)
      (λ before after. LeavesScript words script before after order written (sink_status error)) told
      (λ x y s. leaves_stopped script order written error x y own s)
