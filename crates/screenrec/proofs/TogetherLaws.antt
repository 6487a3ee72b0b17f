-- Clients together: their order, its report, and what stands after each status.
use Rattle.std.proofs.Common.{◌≡◌, ℕ, suc, ◌+◌, ◌-◌, ◌*◌, ◌<◌, ◌≤◌, Bool, true, false, List, [], ◌∷◌, ◌++◌, length, take, take_all, Option, Some, None, Ok, inr, ⊎_elim, refl, sym, ◌∙◌, ap, subst, arith, length-append}
use Rattle.std.specs.Prelude.{count_by, sum_by, IsTrue, slice_index_or}
use Rattle.std.specs.List.{All, AllByRecursion}
use Rattle.std.specs.FinMap.{insert}
use Rattle.std.proofs.lemmas.Bool.{cases_lt}
use Rattle.std.proofs.lemmas.List.{append-nil, get_or_past, take_more}
use Rattle.std.proofs.lemmas.List.Sums.{sum_by-cons, count_by-le-length}
use Rattle.recorder_model.specs.declared.entry.Entry.{Entry}
use Rattle.recorder_model.specs.declared.entry.Entry.TheVariants as entry
use Rattle.recorder_model.specs.declared.line.Line.{Line}
use Rattle.recorder_model.specs.declared.line.Line.TheVariants.{Cut}
use Rattle.h265_model.specs.Plain.{joined}
use Rattle.command_line.specs.Words.{RecordWords}
use Rattle.h265_model.specs.Settings.{Settings}
use Rattle.h265_model.specs.Raster.{Raster}
use Rattle.recorder_model.specs.Painting.{HasColours, accepted_line, lines_of, pictures}
use Rattle.h265_model.specs.Stream.{pieces, pieces_after, stream_of}
use Rattle.recorder_model.specs.Script.{is_cut}
use Rattle.recorder_model.specs.Report.{report_text}
use Rattle.recorder_model.specs.Histories.{IsLawful, Merges, cuts, paints, takes, take_numbers}
use Rattle.recorder_model.specs.Headline.{IsPlayed, IsRecorded, IsCutShort, report_of}
use Rattle.recorder_model.specs.Files.{Files, file_at, IsPrefix, WhereTold}
use Rattle.recorder_model.specs.FileLaws.{told_on, file_at-insert}
use Rattle.recorder_laws.proofs.PlayLaws.{each_picture_is_raster}
use Rattle.extra_laws.proofs.ExtraStreams.{extra_streams_are_decoded}
use Rattle.edges.specs.Shelf.{Creates}
use Rattle.paint_script.specs.Spellable.{IsSpellable, AreSpellable}
use Rattle.desk_state.specs.Standing.{most_entries}
use Rattle.desk_state.proofs.Entries.{length_is}
use Rattle.desk_state.proofs.Shown.{length-rasters_after}
use Rattle.desk_state.proofs.Totals.{few_entries}
use Rattle.recorder.specs.declared.record.RecordEnd.{RecordEnd}
use Rattle.recorder.specs.declared.record.RecordEnd.TheVariants as end
use Rattle.recorder.specs.Ends.{first_pieces}
use Rattle.recorder.specs.Sessions.{IsOrder, all_cuts}
use Rattle.screenrec.specs.declared.outcome.Status.{Status}
use Rattle.screenrec.specs.declared.outcome.Status.TheVariants as status
use Rattle.screenrec.specs.Accepted.{AreFew}
use Rattle.screenrec.specs.Alone.{IsOfReport}
use Rattle.screenrec.specs.Recording as recording
use Rattle.screenrec.specs.Recording.{Together, IsPlayedInPart, IsWholePieces, record_task, scripts_in, IsFinished, IsBroken}
use Rattle.screenrec.specs.Together.{written_of, recorded_status, EndsInFile, IsShortOrder, Reported, LeavesScripts}
use Rattle.screenrec.proofs.AloneLaws.{AreWithin, count_both, colours_of}
use Rattle.screenrec.proofs.FileParts.{ends_from}
use Rattle.screenrec.proofs.StoredLaws.{told_as}

-- ---- counts

numbers-append : (xs ys : List Entry) → take_numbers (xs ++ ys) ≡ take_numbers xs ++ take_numbers ys
unfolding take_numbers
numbers-append [] ys = refl
numbers-append (entry.Line c i ∷ xs) ys = numbers-append xs ys
numbers-append (entry.Take n ∷ xs) ys = ap (λ (l : List ℕ). n ∷ l) (numbers-append xs ys)

pub takes_more : (order : List Entry) (i : ℕ) (d : Entry) → i < length order → takes (take (i + 1) order) ≡ takes (take i order) + takes (slice_index_or order i d ∷ [])
takes_more order i d less =
    ap takes (take_more order i d less)
    ∙ ap length (numbers-append (take i order) (slice_index_or order i d ∷ []))
    ∙ length-append (take_numbers (take i order)) (take_numbers (slice_index_or order i d ∷ []))

pub no_takes : takes [] ≡ 0
unfolding take_numbers
no_takes = refl

pub line_takes : (c i : ℕ) → takes (entry.Line c i ∷ []) ≡ 0
unfolding take_numbers
line_takes c i = refl

pub take_takes : (n : ℕ) → takes (entry.Take n ∷ []) ≡ 1
unfolding take_numbers
take_takes n = refl

pub takes_twice : (scripts : List (List Line)) (order : List Entry) → IsPlayed scripts order → 2 * takes order ≤ length order
takes_twice scripts order is = omega (arith, is.taken, length_is scripts order, count_by-le-length is_cut (lines_of scripts order))

report_is : (scripts : List (List Line)) (order : List Entry) (written : ℕ) → IsPlayed scripts order →
    report_text (takes order) (length order - 2 * takes order) written ≡ report_of scripts order written
report_is scripts order written is =
    let paints_are : length order - 2 * takes order ≡ paints scripts order =
    omega (arith, is.taken, length_is scripts order, count_both is_cut (lines_of scripts order)) in
    ap (λ (n : ℕ). report_text n (length order - 2 * takes order) written) is.taken
    ∙ ap (λ (n : ℕ). report_text (cuts scripts order) n written) paints_are

pub order_told : (a b : Option (List ℕ)) (scripts : List (List Line)) (order : List Entry) (written : ℕ) → IsPlayed scripts order →
    WhereTold a b (λ was now. now ≡ was ++ report_text (takes order) (length order - 2 * takes order) written) → WhereTold a b (λ was now. now ≡ was ++ report_of scripts order written)
order_told a b scripts order written is told =
    told_as a b (λ was now. now ≡ was ++ report_text (takes order) (length order - 2 * takes order) written) (λ was now. now ≡ was ++ report_of scripts order written) told
    (λ x y p. p ∙ ap (λ (l : List ℕ). x ++ l) (report_is scripts order written is))

pub order_told_in_part : (a b : Option (List ℕ)) (scripts : List (List Line)) (order : List Entry) (written : ℕ) → IsPlayed scripts order →
    WhereTold a b (λ was now. (part : List ℕ) × IsPrefix part (report_text (takes order) (length order - 2 * takes order) written) × (now ≡ was ++ part)) →
    WhereTold a b (λ was now. (part : List ℕ) × IsPrefix part (report_of scripts order written) × (now ≡ was ++ part))
order_told_in_part a b scripts order written is told =
    told_as a b (λ was now. (part : List ℕ) × IsPrefix part (report_text (takes order) (length order - 2 * takes order) written) × (now ≡ was ++ part))
    (λ was now. (part : List ℕ) × IsPrefix part (report_of scripts order written) × (now ≡ was ++ part)) told
    (λ x y p. (p.0, (p.1.0, sym (report_is scripts order written is) ∙ p.1.1), p.2))

-- ---- how long an order is

both_sums : (scripts : List (List Line)) → most_entries scripts ≡ sum_by length scripts + all_cuts scripts
both_sums [] = refl
both_sums (s ∷ scripts) =
    omega (arith, both_sums scripts, sum_by-cons length s scripts, sum_by-cons (count_by is_cut) s scripts, sum_by-cons (λ (l : List Line). length l + count_by is_cut l) s scripts)

pub few_in_all : (scripts : List (List Line)) → AreFew scripts → most_entries scripts < 4294967295
few_in_all scripts few = omega (arith, both_sums scripts, few.lines, few.cuts)

short_order_is : (scripts : List (List Line)) (order : List Entry) → AreFew scripts → IsPlayed scripts order → IsShortOrder order
short_order_is scripts order few is = record {
  scripts = scripts;
  played = is;
  short = omega (arith, few_in_all scripts few, few_entries scripts order is.lawful (omega (arith, is.taken)));
}

pub short_order : (scripts : List (List Line)) (order : List Entry) (lost : Bool) (answer : RecordEnd) → AreFew scripts → IsOrder scripts order lost answer →
    recorded_status lost answer ≡ status.Ok → IsShortOrder order
short_order scripts order true answer few is e = absurd (cc)
short_order scripts order false (end.Ok written) few is e = short_order_is scripts order few (is.played written refl refl)
short_order scripts order false (end.SinkFault written) few is e = absurd (cc)
short_order scripts order false (end.NoMemory written) few is e = absurd (cc)
short_order scripts order false (end.Ended written) few is e = absurd (cc)

-- where the status before the report is Ok, the order was played
pub played_if_ok : (scripts : List (List Line)) (order : List Entry) (lost : Bool) (answer : RecordEnd) → IsOrder scripts order lost answer → recorded_status lost answer ≡ status.Ok → IsPlayed scripts order
played_if_ok scripts order true answer is e = absurd (cc)
played_if_ok scripts order false (end.Ok written) is e = is.played written refl refl
played_if_ok scripts order false (end.SinkFault written) is e = absurd (cc)
played_if_ok scripts order false (end.NoMemory written) is e = absurd (cc)
played_if_ok scripts order false (end.Ended written) is e = absurd (cc)

-- ---- the stream is decoded

spelled_at : (lines : List Line) (index : ℕ) → AreSpellable lines → IsSpellable (slice_index_or lines index Cut)
spelled_at lines index all =
    ⊎_elim (λ less. all index Cut less) (λ past. subst IsSpellable (sym (get_or_past lines index Cut past)) tt) (cases_lt index (length lines))

accepted_at : (scripts : List (List Line)) (client index : ℕ) → All AreSpellable scripts → IsSpellable (accepted_line scripts client index)
accepted_at scripts client index all =
    ⊎_elim (λ less. spelled_at (slice_index_or scripts client []) index (all client [] less))
    (λ past. subst (λ (l : List Line). IsSpellable (slice_index_or l index Cut)) (sym (get_or_past scripts client [] past)) tt)
    (cases_lt client (length scripts))

order_has_colours : (scripts : List (List Line)) (order : List Entry) → All AreSpellable scripts → AllByRecursion HasColours (lines_of scripts order)
unfolding lines_of
order_has_colours scripts [] all = tt
order_has_colours scripts (entry.Line c i ∷ order) all = (colours_of (accepted_line scripts c i) (accepted_at scripts c i all), order_has_colours scripts order all)
order_has_colours scripts (entry.Take n ∷ order) all = order_has_colours scripts order all

count_after : (settings : Settings) (n : ℕ) (before : Option Raster) (ps : List Raster) → length (pieces_after settings n before ps) ≡ length ps
unfolding pieces_after
count_after settings n before [] = refl
count_after settings n before (p ∷ ps) = ap (λ (m : ℕ). suc m) (count_after settings (n + 1) (Some p) ps)

count_pieces : (settings : Settings) (ps : List Raster) → length (pieces settings ps) ≡ length ps + 1
unfolding pieces
count_pieces settings ps = omega (arith, count_after settings 0 None ps)

-- all pieces are the stream
whole_is : (settings : Settings) (ps : List Raster) (wanted : ℕ) → length ps ≡ wanted → first_pieces settings ps (wanted + 1) ≡ stream_of settings ps
unfolding stream_of
whole_is settings ps wanted e = ap joined (take_all (wanted + 1) (pieces settings ps) (omega (arith, count_pieces settings ps, e)))

-- ---- what stands after each status

module _ (words : RecordWords) (scripts : List (List Line)) (order : List Entry) (x z : Files) where
  abbrev ps : List Raster
  ps = pictures words.settings.size scripts order

  abbrev Stands : RecordEnd → Type 0
  Stands answer = EndsInFile words.settings words.out ps (all_cuts scripts) (takes order) x z answer

  recorded : (written : ℕ) → AreWithin words.settings → All AreSpellable scripts → IsPlayed scripts order → Stands (end.Ok written) → IsRecorded words.settings words.out ps x z written
  recorded written within spelled is s =
      let many : length ps ≡ all_cuts scripts = length-rasters_after words.settings.size [] (lines_of scripts order) ∙ sym is.taken ∙ s.all in
      let whole : first_pieces words.settings ps (all_cuts scripts + 1) ≡ stream_of words.settings ps = whole_is words.settings ps (all_cuts scripts) many in
      record {
        stored = s.stored ∙ ap (insert x words.out) whole;
        decodes = extra_streams_are_decoded words.settings ps within.0 within.1
            (each_picture_is_raster words.settings.size (lines_of scripts order) (order_has_colours scripts order spelled));
        counted = s.counted ∙ ap length whole;
      }

  cut_short : (answer : RecordEnd) → Stands answer → IsCutShort words.settings words.out ps x z (written_of answer)
  cut_short (end.Ok written) s = record {
    whole = all_cuts scripts + 1;
    part = [];
    is_part = (slice_index_or (pieces words.settings ps) (all_cuts scripts + 1) [], refl);
    stored = s.stored ∙ ap (insert x words.out) (sym (append-nil (first_pieces words.settings ps (all_cuts scripts + 1))));
    counted = s.counted;
  }
  cut_short (end.SinkFault written) s = s
  cut_short (end.NoMemory written) s = s.0
  cut_short (end.Ended written) s = s.0

  finished : (written : ℕ) → AreWithin words.settings → All AreSpellable scripts → IsPlayed scripts order → Stands (end.Ok written) → scripts_in (record_task words) x ≡ Ok scripts →
      IsFinished (record_task words) x z order written
  finished written within spelled is s accepted = record {
    scripts = scripts;
    accepted = accepted;
    played = is;
    recorded = recorded written within spelled is s;
  }

  broken : (answer : RecordEnd) (Played : List (List Line) → List Entry → Type 0) → IsLawful scripts order → Played scripts order → Stands answer → scripts_in (record_task words) x ≡ Ok scripts →
      IsBroken (record_task words) x z order (written_of answer) Played
  broken answer Played lawful played s accepted = record {
    scripts = scripts;
    accepted = accepted;
    lawful = lawful;
    played = played;
    cut_short = cut_short answer s;
  }

  -- after want of memory
  in_part : (answer : RecordEnd) (s : Status) → IsLawful scripts order → (Merges scripts order → IsWholePieces words.out z (written_of answer)) → s ≡ status.NoMemory → Stands answer →
      LeavesScripts words scripts x z order (written_of answer) s
  in_part answer s lawful whole e stands =
      subst (LeavesScripts words scripts x z order (written_of answer)) (sym e)
      (λ accepted. inr (broken answer (IsPlayedInPart Together words.out z (written_of answer)) lawful whole stands accepted))

  whole_file : (written : ℕ) → Stands (end.Ok written) → IsWholePieces words.out z written
  whole_file written s = s.counted ∙ ap length (sym (ap (λ (m : Files). file_at m words.out) s.stored ∙ file_at-insert x words.out (first_pieces words.settings ps (all_cuts scripts + 1))))

  reported : (written : ℕ) (s : Status) → IsOfReport s → AreWithin words.settings → All AreSpellable scripts → IsPlayed scripts order → Stands (end.Ok written) → LeavesScripts words scripts x z order written s
  reported written status.Ok kind within spelled is s = λ accepted. finished written within spelled is s accepted
  reported written status.ReportFault kind within spelled is s = λ accepted. finished written within spelled is s accepted
  reported written status.NoMemory kind within spelled is s = in_part (end.Ok written) status.NoMemory is.lawful (λ _. whole_file written s) refl s
  reported written status.Usage kind within spelled is s = absurd kind
  reported written (status.BadPaint f l c) kind within spelled is s = absurd kind
  reported written (status.Limit w) kind within spelled is s = absurd kind
  reported written (status.InputFault f) kind within spelled is s = absurd kind
  reported written status.SinkFault kind within spelled is s = absurd kind
  reported written (status.TooLarge f) kind within spelled is s = absurd kind
  reported written (status.BadStream at) kind within spelled is s = absurd kind

  leaves : (lost : Bool) (answer : RecordEnd) (s : Status) → AreWithin words.settings → All AreSpellable scripts → IsOrder scripts order lost answer → Reported (recorded_status lost answer) s →
      Stands answer → LeavesScripts words scripts x z order (written_of answer) s
  leaves true answer s within spelled is kind stands = in_part answer s is.lawful (λ all. absurd (is.misses refl all)) kind stands
  leaves false (end.Ok written) s within spelled is kind stands = reported written s kind within spelled (is.played written refl refl) stands
  leaves false (end.SinkFault written) s within spelled is kind stands =
      subst (LeavesScripts words scripts x z order written) (sym kind)
      (λ accepted. inr (broken (end.SinkFault written) (recording.IsPlayedOut Together) is.lawful (is.merges refl) stands accepted))
  leaves false (end.NoMemory written) s within spelled is kind stands = in_part (end.NoMemory written) s is.lawful (λ _. stands.1) kind stands
  leaves false (end.Ended written) s within spelled is kind stands = in_part (end.Ended written) s is.lawful (λ _. stands.1) kind stands

-- what stands once the file was made and the session was recorded into it
pub recorded_files : (words : RecordWords) (scripts : List (List Line)) (order found : List Entry) (written : ℕ) (settings : Settings) (played : List (List Line)) (a b c : Option Files)
    (lost : Bool) (answer : RecordEnd) (s : Status) → settings ≡ words.settings → played ≡ scripts → AreWithin words.settings → All AreSpellable scripts → found ≡ order → written ≡ written_of answer →
    IsOrder played order lost answer → Reported (recorded_status lost answer) s → WhereTold a b (λ before after. Creates words.out before after (Ok tt)) →
    WhereTold b c (λ before after. file_at before words.out ≡ [] →
    EndsInFile settings words.out (pictures settings.size played order) (all_cuts played) (takes order) before after answer) →
    WhereTold a c (λ before after. LeavesScripts words scripts before after found written s)
recorded_files words scripts order found written settings played a b c lost answer s settings_so played_so within spelled found_so written_so is kind made told =
    let is_order : IsOrder scripts order lost answer = subst (λ (l : List (List Line)). IsOrder l order lost answer) played_so is in
    told_on a b c (λ before after. Creates words.out before after (Ok tt))
    (λ before after. file_at before words.out ≡ [] → EndsInFile settings words.out (pictures settings.size played order) (all_cuts played) (takes order) before after answer)
    (λ before after. LeavesScripts words scripts before after found written s) made told
    (λ x y z p q.
    let empty : file_at y words.out ≡ [] = ap (λ (m : Files). file_at m words.out) p ∙ file_at-insert x words.out [] in
    let ends : EndsInFile words.settings words.out (pictures words.settings.size scripts order) (all_cuts scripts) (takes order) y z answer =
    subst (λ (l : List (List Line)). EndsInFile words.settings words.out (pictures words.settings.size l order) (all_cuts l) (takes order) y z answer) played_so
    (subst (λ (t : Settings). EndsInFile t words.out (pictures t.size played order) (all_cuts played) (takes order) y z answer) settings_so (q empty)) in
    subst (λ (h : List Entry). LeavesScripts words scripts x z h written s) (sym found_so)
    (subst (λ (n : ℕ). LeavesScripts words scripts x z order n s) (sym written_so)
    (leaves words scripts order x z lost answer s within spelled is_order kind
    (ends_from words.settings words.out (pictures words.settings.size scripts order) (all_cuts scripts) (takes order) x y z answer p ends))))
