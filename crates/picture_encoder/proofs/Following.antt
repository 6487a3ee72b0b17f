-- A picture that follows those that an encoder has coded: what a job leaves of the last one, and which piece is the definition's.
use Rattle.std.proofs.Common.{◌≡◌, refl, sym, ◌∙◌, ap, subst, ℕ, zero, suc, ◌+◌, ◌*◌, ◌/◌, ◌%◌, ◌<◌, List, [], ◌∷◌, ◌++◌, append-nil, Bool, true, false, cond, eqb, length, length-append, get_or, map, arith}
use Rattle.std.specs.Prelude.{Option, Some, None, option_map}
use Rattle.std.specs.List.{last_or}
use Rattle.std.proofs.lemmas.Bool.{eqb-true}
use Rattle.std.proofs.lemmas.List.{get_or_default}
use Rattle.std.proofs.lemmas.Nat.{div-add-mod'}
use Rattle.h265_model.specs.declared.job.Job.{Job}
use Rattle.h265_model.specs.Plain.{Size, Picture, ctus, below, ctu_x, ctu_y}
use Rattle.h265_model.specs.Choice.{choice}
use Rattle.h265_model.specs.Slice.{row_code}
use Rattle.h265_model.specs.Tree.{leaf_units, source_of}
use Rattle.h265_model.specs.Raster.{Raster, black_raster, coded_picture, planes}
use Rattle.h265_model.specs.declared.extra.Extra.{Extra}
use Rattle.h265_model.specs.declared.extra.Extra.TheVariants.{Plain, Hash, Segments, Moves}
use Rattle.h265_model.specs.Settings.{Settings, has_segments}
use Rattle.h265_model.specs.NalUnits.{nal_unit_bytes, stream_bytes, escape}
use Rattle.h265_model.specs.Hash.{hash_header, hash_of_planes}
use Rattle.h265_model.specs.ParamSets.{param_units}
use Rattle.h265_model.specs.Stream.{is_idr, order_count, slice_kind, reference, row_codes, slice_piece, hash_piece, picture_units, picture_piece, pieces, pieces_after}
use Rattle.h265_laws.proofs.Prefixes.{pieces-append}
use Rattle.px_plane.specs.Planes.{Planes, picture_of, Stores, Shows}
use Rattle.px_plane.specs.Tiles.{tile_of, in_tile, laid_first, laid}
use Rattle.px_plane.proofs.Shown.{shown_is_coded}
use Rattle.picture_encoder.specs.Coded.{Coded, StandsFor, TurnsInto, IsLaid, AreSlices, hash_of, after_slice, last_of}
use Rattle.picture_encoder.specs.Laws.{HasFollowed, EachPictureFollows}
use Rattle.picture_encoder.specs.Planning.{reference_of, IsKeptBut, slice_of, piece_of, units_of, IsTaskOf, is_idr_task, rows_of_task, reference_of_task, planes_of_task, size_of_task}
use Rattle.picture_encoder.specs.declared.planning.Task.{Task}

-- ---- what a job leaves

laid_elsewhere : (p : Planes) (job : Job) (n c x y : ℕ) → ((k : ℕ) → k < n → get_or job.tiles k 0 ≡ tile_of p.size x y → ⊥) → laid_first p job n c x y ≡ picture_of p c x y
laid_elsewhere p job zero c x y others = refl
laid_elsewhere p job (suc n) c x y others = go (laid_elsewhere p job n c x y (λ k less. others k (omega arith))) (eqb (get_or job.tiles n 0) (tile_of p.size x y)) refl
  where
    go : laid_first p job n c x y ≡ picture_of p c x y → (b : Bool) → eqb (get_or job.tiles n 0) (tile_of p.size x y) ≡ b → cond b (get_or job.samples (n * 3072 + in_tile c x y) 0) (laid_first p job n c x y) ≡ picture_of p c x y
    go before true e = absurd (others n (omega arith) (eqb-true _ _ e))
    go before false e = before

in_its_tile : (size : Size) (tile x y : ℕ) → x < 32 → y < 32 → tile_of size (ctu_x size tile + x) (ctu_y size tile + y) ≡ tile
in_its_tile size tile x y hx hy =
    let column : (ctu_x size tile + x) / 32 ≡ tile % ctus size.w = omega arith in
    let row : (ctu_y size tile + y) / 32 ≡ tile / ctus size.w = omega arith in
    ap (λ (n : ℕ). n * ctus size.w + (ctu_x size tile + x) / 32) row ∙ (ap (λ (n : ℕ). tile / ctus size.w * ctus size.w + n) column ∙ div-add-mod' tile (ctus size.w))

pub kept_but : (old new : Planes) (job : Job) → new.size ≡ old.size → Stores new (laid old job) → IsKeptBut job.tiles old new
kept_but old new job same stores = record {
  size = sym same;
  same = λ tile inside free. record {
    each = λ c x y hc hx hy wx wy.
        let here : tile_of old.size (ctu_x new.size tile + x) (ctu_y new.size tile + y) ≡ tile =
        ap (λ (s : Size). tile_of s (ctu_x new.size tile + x) (ctu_y new.size tile + y)) (sym same) ∙ in_its_tile new.size tile x y hx hy in
        sym (stores.each c (ctu_x new.size tile + x) (ctu_y new.size tile + y) hc wx wy
        ∙ laid_elsewhere old job (length job.tiles) c (ctu_x new.size tile + x) (ctu_y new.size tile + y)
        (λ k less is. free (k, less, get_or_default job.tiles k tile 0 less ∙ (is ∙ here))));
  };
}

-- ---- the first piece

pub first_piece : (settings : Settings) → pieces settings [] ≡ stream_bytes (param_units settings.size (has_segments settings.extra)) ∷ []
unfolding pieces pieces_after
first_piece settings = refl

-- ---- the pieces of pictures

pub last_append : (shown : Raster) (before : List Raster) (now : Raster) → last_of shown (before ++ now ∷ []) ≡ now
last_append shown [] now = refl
last_append shown (p ∷ before) now = last_append p before now

last_some : (p : Raster) (before : List Raster) → last_or (Some p) before ≡ Some (last_of p before)
last_some p [] = refl
last_some p (q ∷ before) = last_some q before

reference_is : (key : ℕ) (size : Size) (last : Planes) (shown : Raster) (before : List Raster) → last.size ≡ size → Shows last (last_of shown before)
    → reference_of (is_idr key (length before)) (picture_of last) ≡ reference (is_idr key (length before)) size (last_or None before)
reference_is key size last shown [] same shows = refl
reference_is key size last shown (p ∷ before) same shows = go (is_idr key (length (p ∷ before)))
  where
    go : (b : Bool) → reference_of b (picture_of last) ≡ reference b size (last_or None (p ∷ before))
    go true = refl
    go false =
        ap (λ (q : Picture). Some q) (shown_is_coded last (last_of p before) shows ∙ ap (λ (s : Size). coded_picture s (last_of p before)) same)
        ∙ ap (λ (o : Option Raster). option_map (coded_picture size) o) (sym (last_some p before))

-- the NAL units of picture n of a stream
abbrev units_with : Settings → ℕ → Option Picture → Picture → List ℕ
units_with settings n before now = picture_units settings.extra settings (is_idr settings.key n) (order_count settings.key n % 256) before now

units_are : (e : Coded) (now : Planes) (before : List Raster) (shown : Raster) → e.last.size ≡ now.size → now.size ≡ e.settings.size → StandsFor e before → Shows now shown
    → units_of e now ≡ picture_piece e.settings (length before) (last_or None before) shown
unfolding picture_piece
units_are e now before shown last_size size stands shows =
    let idr : Bool = is_idr e.settings.key (length before) in
    ap (λ (n : ℕ). units_with e.settings n (reference_of (is_idr e.settings.key n) (picture_of e.last)) (picture_of now)) stands.count
    ∙ (ap (λ (p : Picture). units_with e.settings (length before) (reference_of idr (picture_of e.last)) p) (shown_is_coded now shown shows ∙ ap (λ (s : Size). coded_picture s shown) size)
    ∙ ap (λ (r : Option Picture). units_with e.settings (length before) r (coded_picture e.settings.size shown))
    (reference_is e.settings.key e.settings.size e.last (black_raster e.settings.size) before (last_size ∙ size) stands.last))

-- one picture more, whatever the stream has besides pictures
pub each_picture_follows : EachPictureFollows
each_picture_follows e now before shown last_size size stands shows = record {
  stands = record {
    count = (let known = stands.count in omega (arith, length-append before (shown ∷ [])));
    last = subst (Shows now) (sym (last_append (black_raster e.settings.size) before shown)) shows;
  };
  pieces_are = pieces-append e.settings before shown ∙ ap (λ (p : List ℕ). pieces e.settings before ++ p ∷ []) (sym (units_are e now before shown last_size size stands shows));
}

-- ---- the piece of a picture in a slice

-- the hash of a picture that shows a raster
hash_is : (size : Size) (now : Planes) (shown : Raster) → now.size ≡ size → Shows now shown → hash_of now ≡ hash_piece size (picture_of now)
hash_is size now shown same shows =
    ap (λ (l : List (List ℕ)). nal_unit_bytes (record { header = hash_header; rbsp = hash_of_planes l })) (shows.stored ∙ ap (λ (s : Size). planes s (coded_picture s shown)) same)
    ∙ ap (hash_piece size) (sym (shown_is_coded now shown shows ∙ ap (λ (s : Size). coded_picture s shown) same))

-- a slice and what stands after it are the NAL units of a picture
pub slices_are : (e : Coded) (now : Planes) (shown : Raster) → AreSlices e.settings.extra → now.size ≡ e.settings.size → Shows now shown → piece_of e now ≡ units_of e now
unfolding picture_units
slices_are e now shown slices size shows = go e.settings.extra slices
  where
    idr : Bool
    idr = is_idr e.settings.key e.count

    refers : Option Picture
    refers = reference_of idr (picture_of e.last)

    slice : List ℕ
    slice = slice_piece idr (order_count e.settings.key e.count % 256) (row_codes e.settings idr refers (picture_of now))

    go : (extra : Extra) → AreSlices extra → slice ++ after_slice extra now ≡ picture_units extra e.settings idr (order_count e.settings.key e.count % 256) refers (picture_of now)
    go Plain so = append-nil slice
    go Hash so = ap (λ (l : List ℕ). slice ++ l) (hash_is e.settings.size now shown size shows)
    go Segments so = absurd so
    go Moves so = absurd so

-- ---- what a call leaves

module _ (old given : Coded) (now : Planes) (job : Job) (before : List Raster) (shown : Raster) (same : old ≡ given) (laid_is : IsLaid old.last job now) (size : now.size ≡ old.settings.size)
    (shows : (s : Raster) → TurnsInto job old.last s → Shows now s) (stands : StandsFor given before) (turns : TurnsInto job given.last shown) where
  shows_it : Shows now shown
  shows_it = shows shown (subst (λ (e : Coded). TurnsInto job e.last shown) (sym same) turns)

  follows : HasFollowed old now before shown
  follows = each_picture_follows old now before shown (sym laid_is.size) size (subst (λ (e : Coded). StandsFor e before) (sym same) stands) shows_it

  -- what was coded stands for one picture more
  pub stands_after : (between new : Coded) → between ≡ old → new ≡ record between { count = between.count + 1; last = now } → StandsFor new (before ++ shown ∷ [])
  stands_after between new kept is = subst (λ (e : Coded). StandsFor e (before ++ shown ∷ [])) (sym (is ∙ ap (λ (e : Coded). record e { count = e.count + 1; last = now }) kept)) follows.stands

  -- the piece is the stream's, where it is the NAL units of what shows the picture
  pub piece_after : (piece : List ℕ) → (Shows now shown → piece ≡ units_of old now) → pieces given.settings (before ++ shown ∷ []) ≡ pieces given.settings before ++ piece ∷ []
  piece_after piece is =
      subst (λ (e : Coded). pieces e.settings (before ++ shown ∷ []) ≡ pieces e.settings before ++ piece ∷ []) same
      (follows.pieces_are ∙ ap (λ (p : List ℕ). pieces old.settings before ++ p ∷ []) (sym (is shows_it)))

-- ---- the slice of a task

-- the bytes of rows with their emulation prevention
abbrev rows_with : Bool → Option Picture → Planes → Size → ℕ → List (List ℕ)
rows_with idr before now size effort =
    map
    (λ row. escape (row_code (slice_kind idr) (leaf_units (slice_kind idr) (source_of size (picture_of now))) size (map (choice before (picture_of now) size effort) (below (ctus size.w * ctus size.h))) row))
    (below (ctus size.h))

pub task_slice : (e : Coded) (now : Planes) (t : Task) (order : ℕ) → IsTaskOf e now t → now.size ≡ e.settings.size → order ≡ order_count e.settings.key e.count % 256
    → slice_piece (is_idr_task t) order (rows_of_task t) ≡ slice_of e now
task_slice e now t order of size is =
    let idr : Bool = is_idr e.settings.key e.count in
    let before : Option Picture = reference_of idr (picture_of e.last) in
    ap (λ (b : Bool). slice_piece b order (rows_with b (reference_of_task t) (planes_of_task t) (size_of_task t) t.effort)) of.idr
    ∙ (ap (λ (r : Option Picture). slice_piece idr order (rows_with idr r (planes_of_task t) (size_of_task t) t.effort)) of.reference
    ∙ (ap (λ (p : Planes). slice_piece idr order (rows_with idr before p p.size t.effort)) of.current
    ∙ (ap (λ (n : ℕ). slice_piece idr order (rows_with idr before now now.size n)) of.effort
    ∙ (ap (λ (s : Size). slice_piece idr order (rows_with idr before now s e.settings.effort)) size
    ∙ ap (λ (o : ℕ). slice_piece idr o (rows_with idr before now e.settings.size e.settings.effort)) is))))
