-- The stream that a recorder has written, piece by piece.
use Rattle.std.proofs.Common.{◌≡◌, ℕ, suc, ◌+◌, List, [], ◌∷◌, ◌++◌, length, take, drop, take-append-drop, Option, Some, None, refl, sym, ap, subst, ◌∙◌, arith, append_assoc, length-append}
use Rattle.std.specs.Prelude.{slice_index_or, Ok, Err}
use Rattle.std.proofs.lemmas.List.{append-nil, length-take-le, get_or_at}
use Rattle.std.proofs.lemmas.List.Concat.{flat_map-append}
use Rattle.h265_model.specs.declared.job.Job.{Job}
use Rattle.recorder_model.specs.Files.{WhereTold}
use Rattle.recorder_model.specs.FileLaws.{told_on, told_same}
use Rattle.h265_model.specs.Plain.{joined}
use Rattle.h265_model.specs.Settings.{Settings}
use Rattle.h265_model.specs.Raster.{Raster}
use Rattle.recorder_model.specs.Histories.{IsLawful, takes}
use Rattle.recorder_model.specs.Setting.{Setting}
use Rattle.h265_model.specs.Stream.{pieces, pieces_after}
use Rattle.h265_model.proofs.ListParts.{take_front}
use Rattle.h265_laws.proofs.Prefixes.{prefixes}
use Rattle.edges.specs.Sink.{Writes}
use Rattle.edges.specs.declared.sink.WriteError.{WriteError}
use Rattle.edges.specs.declared.sink.WriteError.TheVariants as write
use Rattle.turn_lock.specs.declared.knowledge.Knowledge.{Knowledge}
use Rattle.picture_encoder.specs.Coded.{Coded, StandsFor, TurnsInto}
use Rattle.recorder.specs.declared.record.RecordEnd.TheVariants as end
use Rattle.recorder.specs.Ends.{Ends, HasGrown, HasGrownInPart, first_pieces, seen_pictures}
use Rattle.recorder.specs.Jobs.{taken_pictures, IsUpTo, IsNextJob, IsAsFar, HasStored, end_after}
use Rattle.recorder.proofs.Seen.{count_pictures, few_takes}

abbrev Text : Type 0
Text = Option (List ℕ)

-- ---- pieces

count_after : (settings : Settings) (n : ℕ) (before : Option Raster) (ps : List Raster) → length (pieces_after settings n before ps) ≡ length ps
unfolding pieces_after
count_after settings n before [] = refl
count_after settings n before (p ∷ ps) = ap suc (count_after settings (n + 1) (Some p) ps)

pub count_pieces : (settings : Settings) (ps : List Raster) → length (pieces settings ps) ≡ length ps + 1
unfolding pieces
count_pieces settings ps = let n = count_after settings 0 None ps in omega (arith, n)

-- the pieces of the first pictures are the first pieces of all
front_of : (settings : Settings) (ps rest : List Raster) → take (length ps + 1) (pieces settings (ps ++ rest)) ≡ pieces settings ps
front_of settings ps rest =
    let kept = prefixes settings ps rest in
    ap (take (length ps + 1)) kept.1 ∙ ap (λ (n : ℕ). take n (pieces settings ps ++ kept.0)) (sym (count_pieces settings ps)) ∙ take_front (pieces settings ps) kept.0

pub front_is : (settings : Settings) (ps rest whole : List Raster) (n : ℕ) → whole ≡ ps ++ rest → n ≡ length ps + 1 → joined (pieces settings ps) ≡ first_pieces settings whole n
front_is settings ps rest whole n is long =
    sym (ap joined (ap (λ (l : List Raster). take n (pieces settings l)) is ∙ ap (λ (k : ℕ). take k (pieces settings (ps ++ rest))) long ∙ front_of settings ps rest))

-- the next piece, if the pictures go on with this one
next_is : (settings : Settings) (ps rest whole : List Raster) (shown : Raster) (piece : List ℕ) (n : ℕ) → whole ≡ (ps ++ shown ∷ []) ++ rest → n ≡ length ps + 1
    → pieces settings (ps ++ shown ∷ []) ≡ pieces settings ps ++ piece ∷ [] → slice_index_or (pieces settings whole) n [] ≡ piece
next_is settings ps rest whole shown piece n is long more =
    let kept = prefixes settings (ps ++ shown ∷ []) rest in
    let all : pieces settings whole ≡ pieces settings ps ++ (piece ∷ kept.0) =
    ap (pieces settings) is ∙ kept.1 ∙ ap (λ (l : List (List ℕ)). l ++ kept.0) more ∙ append_assoc (pieces settings ps) (piece ∷ []) kept.0 in
    ap (λ (l : List (List ℕ)). slice_index_or l n []) all
    ∙ get_or_at (pieces settings ps) piece kept.0 [] n (count_pieces settings ps ∙ sym long)

joined_more : (xs : List (List ℕ)) (x : List ℕ) → joined (xs ++ x ∷ []) ≡ joined xs ++ x
joined_more xs x = flat_map-append (λ (l : List ℕ). l) xs (x ∷ []) ∙ ap (λ (l : List ℕ). joined xs ++ l) (append-nil x)

-- ---- how many pictures were taken

pub count_taken : (v : Knowledge) → IsLawful v.setting.scripts v.seen → length (taken_pictures v) ≡ takes v.seen
count_taken v is =
    let few = few_takes v.setting.scripts v.seen is in
    let long = count_pictures v.setting.size v.setting.scripts v.seen in
    length-take-le (takes v.seen) (seen_pictures v) (omega (arith, few, long))

split : (v : Knowledge) → seen_pictures v ≡ taken_pictures v ++ drop (takes v.seen) (seen_pictures v)
split v = sym (take-append-drop (takes v.seen) (seen_pictures v))

-- ---- the beginning

nothing_told : (settings : Settings) (ps : List Raster) (text : Text) → WhereTold text text (HasGrown settings ps 0)
nothing_told settings ps text = told_same text (HasGrown settings ps 0) (λ t. sym (append-nil t))

-- no piece was appended
pub none_at_all : (settings : Settings) (ps : List Raster) (wanted taken : ℕ) (text : Text) → Ends settings ps wanted taken text text (end.NoMemory 0)
none_at_all settings ps wanted taken text = record {
  whole = 0;
  few = omega arith;
  counted = refl;
  told = nothing_told settings ps text;
}

first_piece : (settings : Settings) (ps : List Raster) (piece : List ℕ) → pieces settings [] ≡ piece ∷ [] → slice_index_or (pieces settings ps) 0 [] ≡ piece
first_piece settings ps piece is =
    let kept = prefixes settings [] ps in
    ap (λ (l : List (List ℕ)). slice_index_or l 0 []) (kept.1 ∙ ap (λ (l : List (List ℕ)). l ++ kept.0) is)

pub first_refused : (settings : Settings) (ps : List Raster) (wanted taken : ℕ) (piece : List ℕ) (was now : Text) (error : WriteError) → pieces settings [] ≡ piece ∷ []
    → WhereTold was now (λ a b. Writes piece a b (Err error)) → Ends settings ps wanted taken was now (end_after error 0)
first_refused settings ps wanted taken piece was now write.Failed is told = record {
  whole = 0;
  few = omega arith;
  counted = refl;
  told = told_on was now now (λ a b. Writes piece a b (Err write.Failed)) (λ a b. a ≡ b) (HasGrownInPart settings ps 0) told (told_same now (λ a b. a ≡ b) (λ x. refl))
      (λ x y z p q. (p.0, (p.1.0, is_first ∙ p.1.1), sym q ∙ p.2 ∙ ap (λ (l : List ℕ). l ++ p.0) (sym (append-nil x))));
}
  where
    is_first : slice_index_or (pieces settings ps) 0 [] ≡ piece
    is_first = first_piece settings ps piece is
first_refused settings ps wanted taken piece was now write.NoMemory is told = record {
  whole = 0;
  few = omega arith;
  counted = refl;
  told = told_on was now now (λ a b. Writes piece a b (Err write.NoMemory)) (λ a b. a ≡ b) (HasGrown settings ps 0) told (told_same now (λ a b. a ≡ b) (λ x. refl))
      (λ x y z p q. sym q ∙ p ∙ sym (append-nil x));
}

pub stored_first : (settings : Settings) (v : Knowledge) (encoder : Coded) (piece : List ℕ) (written : ℕ) (was now : Text) → encoder.settings ≡ settings → encoder.settings.size ≡ v.setting.size
    → encoder.last.size ≡ encoder.settings.size → StandsFor encoder [] → takes v.seen ≡ 0 → pieces settings [] ≡ piece ∷ [] → written ≡ length piece
    → WhereTold was now (λ a b. Writes piece a b (Ok tt)) → HasStored settings v encoder written was now
stored_first settings v encoder piece written was now same size sized stands none is count told =
    let empty : taken_pictures v ≡ [] = ap (λ (n : ℕ). take n (seen_pictures v)) none in
    let bytes : joined (pieces settings (taken_pictures v)) ≡ piece = ap (λ (l : List Raster). joined (pieces settings l)) empty ∙ ap joined is ∙ append-nil piece in
    record {
      settings_are = same;
      coded = record { size = size; sized = sized; stands = subst (StandsFor encoder) (sym empty) stands };
      counted = count ∙ ap length (sym bytes);
      told = told_on was now now (λ a b. Writes piece a b (Ok tt)) (λ a b. a ≡ b) (λ a b. b ≡ a ++ joined (pieces settings (taken_pictures v))) told (told_same now (λ a b. a ≡ b) (λ x. refl))
          (λ x y z p q. sym q ∙ p ∙ ap (λ (l : List ℕ). x ++ l) (sym bytes));
    }

-- ---- one piece more

-- what an encoder says of a piece
abbrev pub IsPieceOf : Coded → Job → List ℕ → Type 0
IsPieceOf e job piece =
    (before : List Raster) (now : Raster) → StandsFor e before → TurnsInto job e.last now → pieces e.settings (before ++ now ∷ []) ≡ pieces e.settings before ++ piece ∷ []

abbrev pub HasCodedJob : Coded → Job → Coded → Type 0
HasCodedJob e job f = (before : List Raster) (now : Raster) → StandsFor e before → TurnsInto job e.last now → StandsFor f (before ++ now ∷ [])

piece_more : (settings : Settings) (v w : Knowledge) (e : Coded) (job : Job) (piece : List ℕ) → e.settings ≡ settings → IsUpTo v e → (next : IsNextJob v w job) → IsPieceOf e job piece
    → pieces settings (taken_pictures v ++ next.shown ∷ []) ≡ pieces settings (taken_pictures v) ++ piece ∷ []
piece_more settings v w e job piece same at next is =
    subst (λ (s : Settings). pieces s (taken_pictures v ++ next.shown ∷ []) ≡ pieces s (taken_pictures v) ++ piece ∷ []) same (is (taken_pictures v) next.shown at.stands (next.turns e at))

pub stored_more : (settings : Settings) (v w : Knowledge) (e f : Coded) (job : Job) (piece : List ℕ) (written more : ℕ) (was mid now : Text) → HasStored settings v e written was mid → IsNextJob v w job
    → w.setting ≡ v.setting → f.settings ≡ e.settings → f.last.size ≡ f.settings.size → HasCodedJob e job f → IsPieceOf e job piece → more ≡ written + length piece
    → WhereTold mid now (λ a b. Writes piece a b (Ok tt)) → HasStored settings w f more was now
stored_more settings v w e f job piece written more was mid now stored next kept same sized coded is sum told =
    let grown : pieces settings (taken_pictures w) ≡ pieces settings (taken_pictures v) ++ piece ∷ [] = ap (pieces settings) next.more ∙ piece_more settings v w e job piece stored.settings_are stored.coded next is in
    let bytes : joined (pieces settings (taken_pictures w)) ≡ joined (pieces settings (taken_pictures v)) ++ piece = ap joined grown ∙ joined_more (pieces settings (taken_pictures v)) piece in
    let long = ap length bytes ∙ length-append (joined (pieces settings (taken_pictures v))) piece in
    record {
      settings_are = same ∙ stored.settings_are;
      coded = record {
        size = ap (λ (s : Settings). s.size) same ∙ stored.coded.size ∙ ap (λ (s : Setting). s.size) (sym kept);
        sized = sized;
        stands = subst (StandsFor f) (sym next.more) (coded (taken_pictures v) next.shown stored.coded.stands (next.turns e stored.coded));
      };
      counted = sum ∙ ap (λ (n : ℕ). n + length piece) stored.counted ∙ sym long;
      told = told_on was mid now (λ a b. b ≡ a ++ joined (pieces settings (taken_pictures v))) (λ a b. Writes piece a b (Ok tt)) (λ a b. b ≡ a ++ joined (pieces settings (taken_pictures w))) stored.told told
          (λ x y z p q. q ∙ ap (λ (l : List ℕ). l ++ piece) p ∙ append_assoc x (joined (pieces settings (taken_pictures v))) piece ∙ ap (λ (l : List ℕ). x ++ l) (sym bytes));
    }

-- ---- the ends

-- what was stored, as the first pieces of the pictures that were seen later
front_stored : (settings : Settings) (v : Knowledge) (e : Coded) (written : ℕ) (was now : Text) (ps rest : List Raster) (whole : ℕ) → HasStored settings v e written was now
    → ps ≡ taken_pictures v ++ rest → whole ≡ length (taken_pictures v) + 1 → (written ≡ length (first_pieces settings ps whole)) × WhereTold was now (HasGrown settings ps whole)
front_stored settings v e written was now ps rest whole stored split long =
    let bytes = front_is settings (taken_pictures v) rest ps whole split long in (
      stored.counted ∙ ap length bytes,
      subst (λ (l : List ℕ). WhereTold was now (λ a b. b ≡ a ++ l)) bytes stored.told,
    )

pub all_stored : (settings : Settings) (v : Knowledge) (e : Coded) (written wanted : ℕ) (was now : Text) → HasStored settings v e written was now → IsLawful v.setting.scripts v.seen
    → takes v.seen ≡ wanted → Ends settings (seen_pictures v) wanted (takes v.seen) was now (end.Ok written)
all_stored settings v e written wanted was now stored lawful all =
    let front = front_stored settings v e written was now (seen_pictures v) (drop (takes v.seen) (seen_pictures v)) (wanted + 1) stored (split v) (ap (λ (n : ℕ). n + 1) (sym (count_taken v lawful ∙ all))) in
    record { all = all; counted = front.0; told = front.1 }

-- where no job comes any more
pub ended_stored : (settings : Settings) (v w : Knowledge) (e : Coded) (written wanted : ℕ) (was now : Text) → HasStored settings v e written was now → IsAsFar v w → IsLawful w.setting.scripts w.seen
    → Ends settings (seen_pictures w) wanted (takes w.seen) was now (end.Ended written)
ended_stored settings v w e written wanted was now stored far lawful =
    let parts : seen_pictures w ≡ taken_pictures v ++ drop (takes w.seen) (seen_pictures w) = split w ∙ ap (λ (l : List Raster). l ++ drop (takes w.seen) (seen_pictures w)) far.same in
    let count : takes w.seen + 1 ≡ length (taken_pictures v) + 1 = ap (λ (n : ℕ). n + 1) (sym (count_taken w lawful) ∙ ap length far.same) in
    let front = front_stored settings v e written was now (seen_pictures w) (drop (takes w.seen) (seen_pictures w)) (takes w.seen + 1) stored parts count in
    record { whole = takes w.seen + 1; few = omega arith; counted = front.0; told = front.1 }

-- the pictures that a pass has seen, where a job was taken
parts_with : (v w : Knowledge) (job : Job) (next : IsNextJob v w job) → seen_pictures w ≡ (taken_pictures v ++ next.shown ∷ []) ++ drop (takes w.seen) (seen_pictures w)
parts_with v w job next = split w ∙ ap (λ (l : List Raster). l ++ drop (takes w.seen) (seen_pictures w)) next.more

count_with : (v w : Knowledge) (job : Job) → IsLawful w.setting.scripts w.seen → IsNextJob v w job → takes w.seen ≡ length (taken_pictures v) + 1
count_with v w job lawful next = sym (count_taken w lawful) ∙ ap length next.more ∙ length-append (taken_pictures v) (next.shown ∷ [])

-- where a job was taken, and its piece wasn't appended at all
pub missed_stored : (settings : Settings) (v w : Knowledge) (e : Coded) (job : Job) (written wanted : ℕ) (was now : Text) → HasStored settings v e written was now → IsNextJob v w job → IsLawful w.setting.scripts w.seen
    → Ends settings (seen_pictures w) wanted (takes w.seen) was now (end.NoMemory written)
missed_stored settings v w e job written wanted was now stored next lawful =
    let rest : List Raster = next.shown ∷ drop (takes w.seen) (seen_pictures w) in
    let parts : seen_pictures w ≡ taken_pictures v ++ rest = parts_with v w job next ∙ append_assoc (taken_pictures v) (next.shown ∷ []) (drop (takes w.seen) (seen_pictures w)) in
    let front = front_stored settings v e written was now (seen_pictures w) rest (takes w.seen) stored parts (count_with v w job lawful next) in
    record { whole = takes w.seen; few = omega arith; counted = front.0; told = front.1 }

-- and where the sink refused its piece
pub refused_stored : (settings : Settings) (v w : Knowledge) (e : Coded) (job : Job) (piece : List ℕ) (written wanted : ℕ) (was mid now : Text) (error : WriteError) → HasStored settings v e written was mid
    → IsNextJob v w job → IsLawful w.setting.scripts w.seen → IsPieceOf e job piece → WhereTold mid now (λ a b. Writes piece a b (Err error))
    → Ends settings (seen_pictures w) wanted (takes w.seen) was now (end_after error written)
refused_stored settings v w e job piece written wanted was mid now write.NoMemory stored next lawful is told =
    missed_stored settings v w e job written wanted was now
    record {
      settings_are = stored.settings_are;
      coded = stored.coded;
      counted = stored.counted;
      told = told_on was mid now (λ a b. b ≡ a ++ joined (pieces settings (taken_pictures v))) (λ a b. Writes piece a b (Err write.NoMemory)) (λ a b. b ≡ a ++ joined (pieces settings (taken_pictures v))) stored.told told
          (λ x y z p q. q ∙ p);
    }
    next lawful
refused_stored settings v w e job piece written wanted was mid now write.Failed stored next lawful is told =
    let rest : List Raster = next.shown ∷ drop (takes w.seen) (seen_pictures w) in
    let parts : seen_pictures w ≡ taken_pictures v ++ rest = parts_with v w job next ∙ append_assoc (taken_pictures v) (next.shown ∷ []) (drop (takes w.seen) (seen_pictures w)) in
    let count = count_with v w job lawful next in
    let front = front_stored settings v e written was mid (seen_pictures w) rest (takes w.seen) stored parts count in
    let piece_is : slice_index_or (pieces settings (seen_pictures w)) (takes w.seen) [] ≡ piece =
    next_is settings (taken_pictures v) (drop (takes w.seen) (seen_pictures w)) (seen_pictures w) next.shown piece (takes w.seen) (parts_with v w job next) count
    (piece_more settings v w e job piece stored.settings_are stored.coded next is) in
    record {
      whole = takes w.seen;
      few = omega arith;
      counted = front.0;
      told = told_on was mid now (HasGrown settings (seen_pictures w) (takes w.seen)) (λ a b. Writes piece a b (Err write.Failed)) (HasGrownInPart settings (seen_pictures w) (takes w.seen)) front.1 told
          (λ x y z p q. (q.0, (q.1.0, piece_is ∙ q.1.1), q.2 ∙ ap (λ (l : List ℕ). l ++ q.0) p));
    }
