-- How a stream grows in a file, line by line.
use Rattle.std.proofs.Common.{◌≡◌, ℕ, zero, suc, ◌+◌, false, List, [], ◌∷◌, ◌++◌, length, take, Option, Some, None, Result, Ok, Err, refl, sym, ◌∙◌, ap, subst, arith, append_assoc, append-nil, length-append}
use Rattle.std.proofs.lemmas.Grind.{flat_map-append}
use Rattle.std.proofs.lemmas.List.{get_or_at}
use Rattle.std.specs.Prelude.{slice_index_or, IfOk}
use Rattle.std.specs.List.{slice_get}
use Rattle.std.specs.FinMap.{insert}
use Rattle.recorder_model.specs.declared.line.Line.{Line}
use Rattle.recorder_model.specs.declared.line.Line.TheVariants.{Fill, Blit, Copy, Cut}
use Rattle.h265_model.specs.Plain.{joined}
use Rattle.h265_model.specs.Settings.{has_segments, Settings}
use Rattle.recorder_model.specs.Script.{is_cut}
use Rattle.recorder_model.specs.Painting.{raster, rasters_after}
use Rattle.h265_model.specs.NalUnits.{stream_bytes}
use Rattle.h265_model.specs.ParamSets.{param_units}
use Rattle.h265_model.specs.Stream.{pieces, pieces_after, stream_of}
use Rattle.recorder_model.specs.Files.{Files, file_at, IsPrefix, WhereTold}
use Rattle.recorder_model.specs.FileLaws.{file_at-insert, insert_again, told_on}
use Rattle.recorder_model.specs.Headline.{IsCutShort}
use Rattle.h265_model.proofs.ListParts.{take_front}
use Rattle.recorder_laws.proofs.PlayLaws.{pieces_of_front}
use Rattle.h265_laws.proofs.Prefixes.{pieces-append}
use Rattle.edges.specs.Shelf.{AppendsTo}
use Rattle.edges.specs.declared.sink.WriteError.{WriteError}
use Rattle.edges.specs.declared.sink.WriteError.TheVariants as write
use Rattle.paint_script.specs.Spellable.{IsSpellable, AreSpellable}
use Rattle.desk_state.proofs.Shown.{rasters_kept, rasters_cut}
use Rattle.screenrec.specs.Stored.{cut_piece, pieces_after_lines, stream_after, AppendsPiece, IsStopped, Continues, IsStored, EndsIn}

joined-last : (ps : List (List ℕ)) (p : List ℕ) → joined (ps ++ p ∷ []) ≡ joined ps ++ p
joined-last ps p = flat_map-append (λ (l : List ℕ). l) ps (p ∷ []) ∙ ap (λ (l : List ℕ). joined ps ++ l) (append-nil p)

pub told_as : {A : Type 0} (a b : Option A) (P Q : A → A → Type 0) → WhereTold a b P → ((x y : A) → P x y → Q x y) → WhereTold a b Q
told_as a None P Q p h = tt
told_as None (Some y) P Q p h = absurd p
told_as (Some x) (Some y) P Q p h = h x y p

-- a piece behind the stream so far
pub grown : (start x y : Files) (name before piece : List ℕ) → x ≡ insert start name before → y ≡ insert x name (file_at x name ++ piece) → y ≡ insert start name (before ++ piece)
grown start x y name before piece p q =
    q ∙ ap (λ (m : Files). insert m name (file_at m name ++ piece)) p
    ∙ ap (λ (b : List ℕ). insert (insert start name before) name (b ++ piece)) (file_at-insert start name before)
    ∙ insert_again start name before (before ++ piece)

-- a file that holds these bytes
pub holds : (start after : Files) (name bytes : List ℕ) → after ≡ insert start name bytes → length bytes ≡ length (file_at after name)
holds start after name bytes e = ap length (sym (ap (λ (m : Files). file_at m name) e ∙ file_at-insert start name bytes))

-- a line of a script can be spelled
pub spellable_at : (lines : List Line) (i : ℕ) (line : Line) → AreSpellable lines → Some line ≡ slice_get lines i → IsSpellable line
spellable_at [] i line all e = absurd (cc)
spellable_at (x ∷ lines) zero line all e = let same : line ≡ x = cc in subst IsSpellable (sym same) (all 0 x (omega arith))
spellable_at (x ∷ lines) (suc i) line all e = spellable_at lines i line (λ k d h. all (suc k) d (omega arith)) e

-- a line that is no cut paints
pub paints : (line : Line) → (line ≡ Cut → ⊥) → is_cut line ≡ false
paints (Fill r c) not_cut = refl
paints (Blit r pixels) not_cut = refl
paints (Copy r to_x to_y) not_cut = refl
paints Cut not_cut = absurd (not_cut refl)

module _ (settings : Settings) where
  -- ---- one more line

  -- a line that paints adds no piece
  pub paint_adds : (done : List Line) (line : Line) → is_cut line ≡ false → pieces_after_lines settings (done ++ line ∷ []) ≡ pieces_after_lines settings done
  paint_adds done line paints = ap (pieces settings) (rasters_kept settings.size [] done line paints)

  pub cut_adds : (done : List Line) → pieces_after_lines settings (done ++ Cut ∷ []) ≡ pieces_after_lines settings done ++ cut_piece settings done ∷ []
  cut_adds done = ap (pieces settings) (rasters_cut settings.size [] done) ∙ pieces-append settings (rasters_after settings.size [] done) (raster settings.size done)

  pub stream_after-cut : (done : List Line) → stream_after settings (done ++ Cut ∷ []) ≡ stream_after settings done ++ cut_piece settings done
  stream_after-cut done = ap joined (cut_adds done) ∙ joined-last (pieces_after_lines settings done) (cut_piece settings done)

  -- ---- what is told

  pub cut_continues : (name : List ℕ) (done : List Line) (start x y : Files) (result : Result ℕ WriteError) →
      x ≡ insert start name (stream_after settings done) → AppendsPiece name (cut_piece settings done) x y result → Continues settings name done Cut start y result
  cut_continues name done start x y (Ok count) p q = grown start x y name (stream_after settings done) (cut_piece settings done) p q ∙ ap (insert start name) (sym (stream_after-cut done))
  cut_continues name done start x y (Err write.Failed) p q = record {
    piece = cut_piece settings done;
    part = q.0;
    next = cut_adds done;
    is_part = q.1;
    stored = grown start x y name (stream_after settings done) q.0 p q.2;
  }
  cut_continues name done start x y (Err write.NoMemory) p q = q ∙ p

  pub paint_continues : (a : Option Files) (name : List ℕ) (done : List Line) (line : Line) → pieces_after_lines settings (done ++ line ∷ []) ≡ pieces_after_lines settings done →
      WhereTold a a (λ before after. (start : Files) → before ≡ insert start name (stream_after settings done) → after ≡ insert start name (stream_after settings (done ++ line ∷ [])))
  paint_continues None name done line same = tt
  paint_continues (Some x) name done line same = λ start e. e ∙ ap (λ (l : List (List ℕ)). insert start name (joined l)) (sym same)

  pub paint_counts : (done : List Line) (line : Line) → pieces_after_lines settings (done ++ line ∷ []) ≡ pieces_after_lines settings done →
      length (stream_after settings (done ++ line ∷ [])) ≡ length (stream_after settings done) + 0
  paint_counts done line same = ap (λ (l : List (List ℕ)). length (joined l)) same ∙ omega arith

  pub told_cut : (a b : Option Files) (name : List ℕ) (done : List Line) (result : Result ℕ WriteError) →
      WhereTold a b (λ before after. AppendsPiece name (cut_piece settings done) before after result) →
      WhereTold a b (λ before after. (start : Files) → before ≡ insert start name (stream_after settings done) → Continues settings name done Cut start after result)
  told_cut a b name done result p =
      told_as a b (λ before after. AppendsPiece name (cut_piece settings done) before after result)
      (λ before after. (start : Files) → before ≡ insert start name (stream_after settings done) → Continues settings name done Cut start after result) p
      (λ x y q start e. cut_continues name done start x y result e q)

  pub cut_counts : (done : List Line) (result : Result ℕ WriteError) → IfOk result (λ count. count ≡ length (cut_piece settings done)) →
      IfOk result (λ count. length (stream_after settings (done ++ Cut ∷ [])) ≡ length (stream_after settings done) + count)
  cut_counts done (Ok count) h = omega (arith, ap length (stream_after-cut done), length-append (stream_after settings done) (cut_piece settings done))
  cut_counts done (Err error) h = tt

  -- ---- the end of a stream

  -- the stream of these lines was written to a file that was made anew
  abbrev pub GoesFrom : List ℕ → List Line → List Line → Files → Files → Type 0
  GoesFrom name first done before now = (start : Files) → before ≡ insert start name (stream_after settings first) → now ≡ insert start name (stream_after settings done)

  pub told_all : (a b : Option Files) (name : List ℕ) (lines : List Line) (k written : ℕ) → take k lines ≡ lines → written ≡ length (stream_after settings (take k lines)) →
      WhereTold a b (GoesFrom name [] (take k lines)) →
      WhereTold a b (λ before after. (start : Files) → before ≡ insert start name (stream_after settings []) → IsStored settings name lines start after written)
  unfolding stream_of
  told_all a b name lines k written whole counted told =
      told_as a b (GoesFrom name [] (take k lines)) (λ before after. (start : Files) → before ≡ insert start name (stream_after settings []) → IsStored settings name lines start after written) told
      (λ x y p start e. record {
        stored = p start e ∙ ap (λ (l : List Line). insert start name (stream_after settings l)) whole;
        counted = counted ∙ ap (λ (l : List Line). length (stream_after settings l)) whole;
      })

  stopped_short : (name : List ℕ) (lines : List Line) (k written : ℕ) (line : Line) (start after : Files) →
      take (k + 1) lines ≡ take k lines ++ line ∷ [] → written ≡ length (stream_after settings (take k lines)) →
      IsStopped settings name (take k lines) line start after → IsCutShort settings name (rasters_after settings.size [] lines) start after written
  stopped_short name lines k written line start after more counted s =
      let front = pieces_of_front settings lines (k + 1) in
      let so_far : List (List ℕ) = pieces_after_lines settings (take k lines) in
      let all : pieces_after_lines settings lines ≡ so_far ++ s.piece ∷ front.0 =
      front.1 ∙ ap (λ (l : List (List ℕ)). l ++ front.0) (ap (λ (l : List Line). pieces_after_lines settings l) more ∙ s.next) ∙ append_assoc so_far (s.piece ∷ []) front.0 in
      let here : slice_index_or (pieces_after_lines settings lines) (length so_far) [] ≡ s.piece =
      ap (λ (l : List (List ℕ)). slice_index_or l (length so_far) []) all ∙ get_or_at so_far s.piece front.0 [] (length so_far) refl in
      let taken : take (length so_far) (pieces_after_lines settings lines) ≡ so_far =
      ap (take (length so_far)) all ∙ take_front so_far (s.piece ∷ front.0) in
      record {
        whole = length so_far;
        part = s.part;
        is_part = (s.is_part.0, here ∙ s.is_part.1);
        stored = s.stored ∙ ap (λ (l : List (List ℕ)). insert start name (joined l ++ s.part)) (sym taken);
        counted = counted ∙ ap (λ (l : List (List ℕ)). length (joined l)) (sym taken);
      }

  -- the stream so far is whole pieces of that of all lines, and nothing of the next one
  so_far_cut : (name : List ℕ) (lines : List Line) (k written : ℕ) (start after : Files) → written ≡ length (stream_after settings (take k lines)) →
      after ≡ insert start name (stream_after settings (take k lines)) → IsCutShort settings name (rasters_after settings.size [] lines) start after written
  so_far_cut name lines k written start after counted stored =
      let front = pieces_of_front settings lines k in
      let so_far : List (List ℕ) = pieces_after_lines settings (take k lines) in
      let taken : take (length so_far) (pieces_after_lines settings lines) ≡ so_far = ap (take (length so_far)) front.1 ∙ take_front so_far front.0 in
      record {
        whole = length so_far;
        part = [];
        is_part = (slice_index_or (pieces_after_lines settings lines) (length so_far) [], refl);
        stored = stored ∙ ap (λ (l : List (List ℕ)). insert start name (joined l)) (sym taken)
            ∙ ap (insert start name) (sym (append-nil (joined (take (length so_far) (pieces_after_lines settings lines)))));
        counted = counted ∙ ap (λ (l : List (List ℕ)). length (joined l)) (sym taken);
      }

  stopped_ends : (name : List ℕ) (lines : List Line) (k written : ℕ) (line : Line) (error : WriteError) (start after : Files) →
      take (k + 1) lines ≡ take k lines ++ line ∷ [] → written ≡ length (stream_after settings (take k lines)) →
      Continues settings name (take k lines) line start after (Err error) → EndsIn settings name lines start after (Err error) written
  stopped_ends name lines k written line write.Failed start after more counted s = stopped_short name lines k written line start after more counted s
  stopped_ends name lines k written line write.NoMemory start after more counted s =
      (so_far_cut name lines k written start after counted s, counted ∙ holds start after name (stream_after settings (take k lines)) s)

  pub told_stopped : (a b c : Option Files) (name : List ℕ) (lines : List Line) (k written : ℕ) (line : Line) (error : WriteError) →
      take (k + 1) lines ≡ take k lines ++ line ∷ [] → written ≡ length (stream_after settings (take k lines)) →
      WhereTold a b (GoesFrom name [] (take k lines)) →
      WhereTold b c (λ before after. (start : Files) → before ≡ insert start name (stream_after settings (take k lines)) → Continues settings name (take k lines) line start after (Err error)) →
      WhereTold a c (λ before after. (start : Files) → before ≡ insert start name (stream_after settings []) → EndsIn settings name lines start after (Err error) written)
  told_stopped a b c name lines k written line error more counted first second =
      told_on a b c (GoesFrom name [] (take k lines))
      (λ before after. (start : Files) → before ≡ insert start name (stream_after settings (take k lines)) → Continues settings name (take k lines) line start after (Err error))
      (λ before after. (start : Files) → before ≡ insert start name (stream_after settings []) → EndsIn settings name lines start after (Err error) written)
      first second
      (λ x y z p q start e. stopped_ends name lines k written line error start z more counted (q start (p start e)))

  -- ---- the first piece

  pub none_cut : pieces_after_lines settings [] ≡ stream_bytes (param_units settings.size (has_segments settings.extra)) ∷ []
  unfolding pieces pieces_after rasters_after
  none_cut = refl

  first_stopped : (name : List ℕ) (lines : List Line) (start x y : Files) (part : List ℕ) → IsPrefix part (stream_after settings []) → x ≡ insert start name [] →
      y ≡ insert x name (file_at x name ++ part) → IsCutShort settings name (rasters_after settings.size [] lines) start y 0
  first_stopped name lines start x y part front p q =
      let all = pieces_of_front settings lines 0 in
      let one : pieces_after_lines settings lines ≡ stream_bytes (param_units settings.size (has_segments settings.extra)) ∷ all.0 = all.1 ∙ ap (λ (l : List (List ℕ)). l ++ all.0) none_cut in
      let first : stream_after settings [] ≡ stream_bytes (param_units settings.size (has_segments settings.extra)) = ap joined none_cut ∙ append-nil (stream_bytes (param_units settings.size (has_segments settings.extra))) in
      record {
        whole = 0;
        part = part;
        is_part = (front.0, ap (λ (l : List (List ℕ)). slice_index_or l 0 []) one ∙ sym first ∙ front.1);
        stored = grown start x y name [] part p q;
        counted = refl;
      }

  first_ends : (name first : List ℕ) (lines : List Line) (error : WriteError) (x y start : Files) → first ≡ stream_after settings [] →
      AppendsTo name first x y (Err error) → x ≡ insert start name [] → EndsIn settings name lines start y (Err error) 0
  first_ends name first lines write.Failed x y start is p e = first_stopped name lines start x y p.0 (p.1.0, sym is ∙ p.1.1) e p.2
  first_ends name first lines write.NoMemory x y start is p e =
      let made : y ≡ insert start name [] = p ∙ e in
      let all = pieces_of_front settings lines 0 in (
        record {
          whole = 0;
          part = [];
          is_part = (slice_index_or (pieces_after_lines settings lines) 0 [], refl);
          stored = made;
          counted = refl;
        },
        holds start y name [] made,
      )

  pub first_told : (a b : Option Files) (name first : List ℕ) (lines : List Line) (error : WriteError) → first ≡ stream_after settings [] →
      WhereTold a b (λ before after. AppendsTo name first before after (Err error)) →
      WhereTold a b (λ before after. (start : Files) → before ≡ insert start name [] → EndsIn settings name lines start after (Err error) 0)
  first_told a b name first lines error is told =
      told_as a b (λ before after. AppendsTo name first before after (Err error))
      (λ before after. (start : Files) → before ≡ insert start name [] → EndsIn settings name lines start after (Err error) 0) told
      (λ x y p start e. first_ends name first lines error x y start is p e)

  -- the first piece stands in the file
  pub first_stands : (a b : Option Files) (name first : List ℕ) → first ≡ stream_after settings [] →
      WhereTold a b (λ before after. after ≡ insert before name (file_at before name ++ first)) →
      WhereTold a b (λ before after. (start : Files) → before ≡ insert start name [] → after ≡ insert start name (stream_after settings []))
  first_stands a b name first is told =
      told_as a b (λ before after. after ≡ insert before name (file_at before name ++ first))
      (λ before after. (start : Files) → before ≡ insert start name [] → after ≡ insert start name (stream_after settings [])) told
      (λ x y p start e. grown start x y name [] first e p ∙ ap (insert start name) is)

  pub pieces_told : (a b c : Option Files) (name : List ℕ) (lines : List Line) (result : Result (Unit {0}) WriteError) (written : ℕ) →
      WhereTold a b (λ before after. (start : Files) → before ≡ insert start name [] → after ≡ insert start name (stream_after settings [])) →
      WhereTold b c (λ before after. (start : Files) → before ≡ insert start name (stream_after settings []) → EndsIn settings name lines start after result written) →
      WhereTold a c (λ before after. (start : Files) → before ≡ insert start name [] → EndsIn settings name lines start after result written)
  pieces_told a b c name lines result written first second =
      told_on a b c (λ before after. (start : Files) → before ≡ insert start name [] → after ≡ insert start name (stream_after settings []))
      (λ before after. (start : Files) → before ≡ insert start name (stream_after settings []) → EndsIn settings name lines start after result written)
      (λ before after. (start : Files) → before ≡ insert start name [] → EndsIn settings name lines start after result written)
      first second (λ x y z p q start e. q start (p start e))
