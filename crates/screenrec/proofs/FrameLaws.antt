-- Frames that are appended one by one, and how long they are.
use Rattle.std.proofs.Common.{◌≡◌, ℕ, zero, suc, ◌+◌, ◌*◌, ◌≤◌, ◌<◌, ◌^◌, Bool, true, false, List, [], ◌∷◌, ◌++◌, length, map, take, drop, Option, Some, None, Result, Ok, Err, refl, sym, ◌∙◌, ap, subst, arith, append_assoc, append-nil, length-append}
use Rattle.std.proofs.lemmas.Grind.{flat_map-append}
use Rattle.std.proofs.lemmas.Bool.{leb-true}
use Rattle.std.proofs.lemmas.Fmt.{length-decimal-le_succ}
use Rattle.std.specs.Prelude.{IsTrue, slice_index_or, flat_map, decimal, codes}
use Rattle.std.specs.FinMap.{insert}
use Rattle.h265_model.specs.Plain.{Size, place_values}
use Rattle.h265_model.specs.Settings.{is_size}
use Rattle.h265_model.specs.Raster.{Raster, crop}
use Rattle.h265_model.specs.declared.rgb.Rgb.{Rgb}
use Rattle.h265_model.proofs.Squares.{length_places}
use Rattle.h265_laws.proofs.ParamLaws.{in_limits}
use Rattle.px_plane.specs.Planes.{Planes, picture_of}
use Rattle.recorder_model.specs.Files.{Files, file_at, IsPrefix, WhereTold}
use Rattle.recorder_model.specs.FileLaws.{told_on}
use Rattle.recorder_model.specs.Frames.{frame, frames, frame_head, pixel_bytes}
use Rattle.edges.specs.Shelf.{AppendsTo}
use Rattle.edges.specs.declared.sink.WriteError.{WriteError}
use Rattle.edges.specs.declared.sink.WriteError.TheVariants as write
use Rattle.stream_decode.specs.Readings.{Reading, raster_of}
use Rattle.stream_decode.specs.Answers.{IsReadOn, ReadsOn}
use Rattle.screenrec.specs.Decoding.{AreFrames, AreFramesCutShort}
use Rattle.screenrec.specs.Walks.{next_frame, IsNextFrame, AppendsFrame, EndsFrames}
use Rattle.screenrec.proofs.StoredLaws.{told_as, grown}

-- ---- how long a frame is

three_each : (raster : Raster) → length (flat_map pixel_bytes raster) ≡ 3 * length raster
three_each [] = refl
three_each (c ∷ raster) = omega (arith, three_each raster)

head_long : (s a b t : List ℕ) → length (s ++ 10 ∷ a ++ 32 ∷ b ++ 10 ∷ t ++ 10 ∷ []) ≡ length s + length a + length b + length t + 4
head_long s a b t =
    omega (arith, length-append (s ++ 10 ∷ a ++ 32 ∷ b ++ 10 ∷ t) (10 ∷ []), length-append (s ++ 10 ∷ a ++ 32 ∷ b) (10 ∷ t), length-append (s ++ 10 ∷ a) (32 ∷ b), length-append s (10 ∷ a))

head_short : (size : Size) → size.w ≤ 4096 → size.h ≤ 4096 → length (frame_head size) ≤ 10000
head_short size w h =
    let all : length (frame_head size) ≡ length (codes "P6") + length (decimal size.w) + length (decimal size.h) + length (codes "255") + 4 = head_long (codes "P6") (decimal size.w) (decimal size.h) (codes "255") in
    let two : length (codes "P6") ≡ 2 = refl in
    let three : length (codes "255") ≡ 3 = refl in
    omega (arith, all, two, three, length-decimal-le_succ size.w (omega (arith, w)), length-decimal-le_succ size.h (omega (arith, h)), w, h)

frame_is_short : (size : Size) (raster : Raster) → size.w ≤ 4096 → size.h ≤ 4096 → length raster ≤ 16777216 → length (frame size raster) ≤ 2 ^ 27
unfolding frame
frame_is_short size raster w h few =
    omega (arith, length-append (frame_head size) (flat_map pixel_bytes raster), three_each raster, head_short size w h, few)

pub frame_short : (p : Planes) → IsTrue (is_size p.size) → length (frame p.size (raster_of p)) ≤ 2 ^ 27
unfolding crop
frame_short p sized =
    let limits = in_limits p.size sized in
    let area : p.size.w * p.size.h ≤ 8847360 = leb-true _ _ limits.area in
    let colours : ℕ → ℕ → Rgb = λ x y. record { r = picture_of p 2 x y; g = picture_of p 0 x y; b = picture_of p 1 x y } in
    let many : length (raster_of p) ≡ p.size.h * p.size.w = length_places p.size.w p.size.h colours in
    let few : length (raster_of p) ≤ 16777216 = omega (arith, many, area) in
    frame_is_short p.size (raster_of p) limits.w_high limits.h_high few

-- the frame of the picture that was read
pub is_next_frame : (old new : Reading) (p : Planes) (count : ℕ) (cleared items : List ℕ) → IsReadOn old new → p ≡ new.picture → IsTrue (is_size new.size) → cleared ≡ [] →
    items ≡ cleared ++ frame p.size (raster_of p) → count ≡ length items → IsNextFrame old new count
is_next_frame old new p count cleared items read same sized none stored counted =
    let framed : items ≡ frame new.picture.size (raster_of new.picture) =
    stored ∙ ap (λ (l : List ℕ). l ++ frame p.size (raster_of p)) none ∙ ap (λ (q : Planes). frame q.size (raster_of q)) same in
    let within : IsTrue (is_size new.picture.size) = subst (λ (s : Size). IsTrue (is_size s)) (sym read.same_size) sized in
    let sizes : new.picture.size ≡ old.size = read.same_size ∙ read.size in
    record {
      picture = raster_of new.picture;
      next = read.next;
      size = read.size;
      stop = read.stop;
      counted = counted ∙ ap length framed ∙ ap (λ (s : Size). length (frame s (raster_of new.picture))) sizes;
      short = omega (arith, counted, ap length framed, frame_short new.picture within);
    }

-- ---- the pictures so far, and the next one

module _ {A : Type 0} where
  -- the next one, and those after it
  pub record IsAt (xs : List A) (k next : ℕ) (x : A) (rest : List A) : Type 0 where
    pub more : take next xs ≡ take k xs ++ x ∷ []
    pub left : drop next xs ≡ rest
    pub inside : k < length xs

  at_suc : (xs : List A) (k : ℕ) (x : A) (rest : List A) → drop k xs ≡ x ∷ rest → IsAt xs k (suc k) x rest
  at_suc [] zero x rest e = absurd (cc)
  at_suc [] (suc k) x rest e = absurd (cc)
  at_suc (y ∷ xs) zero x rest e = let same : y ≡ x = cc in record { more = ap (λ (a : A). a ∷ []) same; left = cc; inside = omega arith }
  at_suc (y ∷ xs) (suc k) x rest e =
      let h = at_suc xs k x rest e in
      record { more = ap (λ (l : List A). y ∷ l) h.more; left = h.left; inside = omega (arith, h.inside) }

  pub at_next : (xs : List A) (k : ℕ) (x : A) (rest : List A) → drop k xs ≡ x ∷ rest → IsAt xs k (k + 1) x rest
  at_next xs k x rest e = let same : suc k ≡ k + 1 = omega arith in subst (λ (n : ℕ). IsAt xs k n x rest) same (at_suc xs k x rest e)

  pub all_taken : (xs : List A) (k : ℕ) → drop k xs ≡ [] → (take k xs ≡ xs) × (length xs ≤ k)
  all_taken [] zero e = (refl, omega arith)
  all_taken [] (suc k) e = (refl, omega arith)
  all_taken (y ∷ xs) zero e = absurd (cc)
  all_taken (y ∷ xs) (suc k) e = let h = all_taken xs k e in (ap (λ (l : List A). y ∷ l) h.0, omega (arith, h.1))

  pub next_at : {B : Type 0} (f : A → B) (d : B) (xs : List A) (k : ℕ) → slice_index_or (map f (drop k xs)) 0 d ≡ slice_index_or (map f xs) k d
  next_at f d [] zero = refl
  next_at f d [] (suc k) = refl
  next_at f d (x ∷ xs) zero = refl
  next_at f d (x ∷ xs) (suc k) = next_at f d xs k

frames_push : (size : Size) (ps : List Raster) (p : Raster) → frames size (ps ++ p ∷ []) ≡ frames size ps ++ frame size p
unfolding frames
frames_push size ps p = flat_map-append (frame size) ps (p ∷ []) ∙ ap (λ (l : List ℕ). frames size ps ++ l) (append-nil (frame size p))

no_frames : (size : Size) → frames size [] ≡ []
unfolding frames
no_frames size = refl

-- ---- what is told

-- the frames of these pictures were written to a file that was made anew
abbrev pub GoesTo : Size → List ℕ → List Raster → Files → Files → Type 0
GoesTo size name done before now = (start : Files) → before ≡ insert start name [] → now ≡ insert start name (frames size done)

pub told_none : (a : Option Files) (size : Size) (name : List ℕ) (ps : List Raster) → WhereTold a a (GoesTo size name (take 0 ps))
told_none None size name ps = tt
told_none (Some x) size name ps = λ start e. e ∙ ap (insert start name) (sym (no_frames size))

pub told_more : (a b c : Option Files) (size : Size) (name piece : List ℕ) (ps : List Raster) (k : ℕ) (p : Raster) → take (k + 1) ps ≡ take k ps ++ p ∷ [] → piece ≡ frame size p →
    WhereTold a b (GoesTo size name (take k ps)) → WhereTold b c (λ before after. after ≡ insert before name (file_at before name ++ piece)) →
    WhereTold a c (GoesTo size name (take (k + 1) ps))
told_more a b c size name piece ps k p more is first second =
    told_on a b c (GoesTo size name (take k ps)) (λ before after. after ≡ insert before name (file_at before name ++ piece)) (GoesTo size name (take (k + 1) ps)) first second
    (λ x y z q r start e.
    grown start y z name (frames size (take k ps)) piece (q start e) r
    ∙ ap (λ (l : List ℕ). insert start name (frames size (take k ps) ++ l)) is
    ∙ ap (insert start name) (sym (frames_push size (take k ps) p))
    ∙ ap (λ (l : List Raster). insert start name (frames size l)) (sym more))

pub count_more : (size : Size) (ps : List Raster) (k : ℕ) (p : Raster) → take (k + 1) ps ≡ take k ps ++ p ∷ [] →
    length (frames size (take (k + 1) ps)) ≡ length (frames size (take k ps)) + length (frame size p)
count_more size ps k p more =
    ap (λ (l : List Raster). length (frames size l)) more ∙ ap length (frames_push size (take k ps) p) ∙ length-append (frames size (take k ps)) (frame size p)

pub count_none : (size : Size) (ps : List Raster) → 0 ≡ length (frames size (take 0 ps))
count_none size ps = ap length (sym (no_frames size))

pub told_whole : (a b c : Option Files) (size : Size) (name : List ℕ) (ps : List Raster) (k written : ℕ) → take k ps ≡ ps → written ≡ length (frames size (take k ps)) →
    WhereTold a b (GoesTo size name (take k ps)) → WhereTold b c (λ before after. after ≡ before) →
    WhereTold a c (λ before after. (start : Files) → before ≡ insert start name [] → AreFrames size ps name start after written)
told_whole a b c size name ps k written whole counted first second =
    told_on a b c (GoesTo size name (take k ps)) (λ before after. after ≡ before)
    (λ before after. (start : Files) → before ≡ insert start name [] → AreFrames size ps name start after written) first second
    (λ x y z q r start e. record {
      stored = r ∙ q start e ∙ ap (λ (l : List Raster). insert start name (frames size l)) whole;
      counted = counted ∙ ap (λ (l : List Raster). length (frames size l)) whole;
    })

pub told_short : (a b c : Option Files) (size : Size) (name piece : List ℕ) (ps : List Raster) (k written : ℕ) (error : WriteError) → piece ≡ slice_index_or (map (frame size) ps) k [] →
    written ≡ length (frames size (take k ps)) → WhereTold a b (GoesTo size name (take k ps)) →
    WhereTold b c (λ before after. AppendsFrame name piece before after (Err error)) →
    WhereTold a c (λ before after. (start : Files) → before ≡ insert start name [] → EndsFrames size ps name start after (Err error) written)
told_short a b c size name piece ps k written error is counted first second =
    told_on a b c (GoesTo size name (take k ps)) (λ before after. AppendsFrame name piece before after (Err error))
    (λ before after. (start : Files) → before ≡ insert start name [] → EndsFrames size ps name start after (Err error) written) first second
    (λ x y z q r start e. go error start y z (q start e) r)
  where
    go : (error : WriteError) (start y z : Files) → y ≡ insert start name (frames size (take k ps)) → AppendsFrame name piece y z (Err error) → EndsFrames size ps name start z (Err error) written
    go write.Failed start y z q r = record {
      whole = k;
      part = r.0;
      is_part = subst (λ (l : List ℕ). IsPrefix r.0 l) is r.1;
      stored = grown start y z name (frames size (take k ps)) r.0 q r.2;
      counted = counted;
    }
    go write.NoMemory start y z q r = (k, record { stored = r ∙ q; counted = counted })

-- ---- the next frame of a reader

pub read_true : (b : Bool) (old new : Reading) → b ≡ true → ReadsOn (Ok b) old new → IsReadOn old new
read_true true old new e h = h
read_true false old new e h = absurd (cc)

pub next_is : (r : Reading) (size : Size) (p : Raster) (rest : List Raster) → r.pictures ≡ p ∷ rest → r.size ≡ size → next_frame r ≡ frame size p
next_is r size p rest e same =
    ap (λ (l : List Raster). slice_index_or (map (frame r.size) l) 0 []) e ∙ ap (λ (s : Size). frame s p) same

pub next_in : (r : Reading) (size : Size) (ps : List Raster) (k : ℕ) → r.size ≡ size → r.pictures ≡ drop k ps → next_frame r ≡ slice_index_or (map (frame size) ps) k []
next_in r size ps k same e =
    ap (λ (l : List Raster). slice_index_or (map (frame r.size) l) 0 []) e ∙ ap (λ (s : Size). slice_index_or (map (frame s) (drop k ps)) 0 []) same ∙ next_at (frame size) [] ps k
