-- The stream of pictures with moved blocks is decoded to them.
use Rattle.std.proofs.Common.{◌≡◌, refl, sym, ◌∙◌, ap, subst, ℕ, suc, ◌+◌, ◌-◌, ◌*◌, ◌%◌, ◌^◌, ◌<◌, ◌≤◌, List, [], ◌∷◌, ◌++◌, Bool, true, false, length, map, take, take_all, append-nil, arith}
use Rattle.std.specs.Prelude.{Option, Some, None, Ok, nat_le, ℤ, pos, negsuc}
use Rattle.std.specs.List.{AllByRecursion}
use Rattle.std.proofs.lemmas.Bool.{and_parts, leb-true}
use Rattle.std.proofs.lemmas.List.{length-map}
use Rattle.h265_model.specs.declared.extra.Extra.TheVariants.{Moves}
use Rattle.h265_model.specs.declared.leaf.SliceKind.TheVariants.{P}
use Rattle.h265_model.specs.declared.leaf.Kind.{Kind}
use Rattle.h265_model.specs.declared.leaf.Kind.TheVariants.{Skip, Pcm, Intra}
use Rattle.h265_model.specs.declared.leaf.Leaf.{Leaf}
use Rattle.h265_model.specs.declared.moves.Vector.{Vector}
use Rattle.h265_model.specs.declared.moves.MoveLeaf.{MoveLeaf}
use Rattle.h265_model.specs.declared.moves.MoveKind.{MoveKind}
use Rattle.h265_model.specs.declared.moves.MoveKind.TheVariants as moves
use Rattle.h265_model.specs.Plain.{Size, Picture, coded, ctus, below, joined}
use Rattle.h265_model.specs.Bits.{◌>>-◌}
use Rattle.h265_model.specs.Settings.{has_segments, Settings}
use Rattle.h265_model.specs.Raster.{Raster, IsRaster, planes, stored_picture}
use Rattle.h265_model.specs.NalUnits.{NalUnit, nal_unit_bytes, stream_bytes}
use Rattle.h265_model.specs.Tree.{Source, is_skipped}
use Rattle.h265_model.specs.Plain.{leaf_side}
use Rattle.h265_model.specs.Stream.{is_idr, order_count, slice_kind, reference}
use Rattle.h265_model.specs.Decode.{Decoded}
use Rattle.h265_model.specs.Motion.{Moving, leaf_as_coded, as_coded, merge, moved, reaches, has_source, still, still_kind}
use Rattle.h265_model.specs.MotionChoice.{moved_choices}
use Rattle.h265_model.specs.Rebuild.{moved_samples, rebuild}
use Rattle.h265_model.specs.Stream.{moved_units, picture_units, picture_piece}
use Rattle.h265_model.specs.Decode.{Stand, read_units}
use Rattle.h265_model.proofs.Squares.{same_places}
use Rattle.h265_laws.proofs.ChoiceLaw.{IsFair}
use Rattle.h265_laws.proofs.ParamLaws.{in_limits}
use Rattle.h265_laws.proofs.PictureLaw.{IsFit, size_fits, picture_is, stored_is, cropped, fair_joined}
use Rattle.h265_laws.proofs.PredictionLaw.{source_is}
use Rattle.h265_laws.proofs.StreamLaw.{picture_of, leaves_of, source_in, lawful_of, many_of, IsFollowing}
use Rattle.stream_laws.proofs.Behind.{Stores, IsBehind, behind_is, low_count, zero_count}
use Rattle.stream_laws.proofs.OldStreams.{now_whole}
use Rattle.h265_laws.proofs.ParamLaws.{read_params-param_units}
use Rattle.stream_laws.proofs.StreamForm.{one_step, ReadsOn, AreRead, stream_is_decoded}
use Rattle.unit_laws.specs.Laws.{CanStand, CanStandAll, AreLawfulUnits, IsCopied, AreCopied, reads_after}
use Rattle.unit_laws.proofs.Coded.{IsCoded}
use Rattle.unit_laws.proofs.StillLaw.{map-append}
use Rattle.unit_laws.proofs.StillUnits.{lawful_still}
use Rattle.unit_laws.proofs.UnitRebuild.{pictures_are_rebuilt}
use Rattle.motion_laws.specs.Laws.{EachMovedStreamIsDecoded}
use Rattle.motion_laws.proofs.MovedChoice.{chosen_length, chosen_lawful, chosen_stand, chosen_copied}
use Rattle.motion_laws.proofs.MovedSlices.{slice_unit, codes_of, rows_of, piece_is_unit, rows_end_well, slice_is_unit, decoded, picture_is_read}
use Rattle.h265_model.specs.declared.extra.Extra.{Extra}

-- ---- copies of a picture that is stored

-- where a block goes, its places go
reach : (limit n x i : ℕ) (v : ℤ) → reaches limit n x v ≡ true → i < n → moved (x + i) v < limit
reach limit n x i (pos v) h less = let k : x + v + n ≤ limit = leb-true _ _ h in omega arith
reach limit n x i (negsuc v) h less =
    let p = and_parts (nat_le (suc v) x) (nat_le (x - suc v + n) limit) h in
    let a : suc v ≤ x = leb-true _ _ p.0 in
    let b : x - suc v + n ≤ limit = leb-true _ _ p.1 in
    omega arith

moved_stored : (size : Size) (prev : Picture) (leaf : Leaf) (v : Vector) (c : ℕ) → c < 3 → has_source size leaf.block v ≡ true
    → moved_samples (stored_picture size (planes size prev)) leaf v c ≡ moved_samples prev leaf v c
unfolding moved_samples has_source
moved_stored size prev leaf v c small h =
    let p = and_parts (reaches (coded size.w) (2 ^ leaf.block.log2) leaf.block.x v.x) (reaches (coded size.h) (2 ^ leaf.block.log2) leaf.block.y v.y) h in
    same_places (leaf_side leaf) (leaf_side leaf) (λ x y. stored_picture size (planes size prev) c (moved (leaf.block.x + x) v.x) (moved (leaf.block.y + y) v.y)) (λ x y. prev c (moved (leaf.block.x + x) v.x) (moved (leaf.block.y + y) v.y))
    (λ x y hx hy. stored_is size prev c (moved (leaf.block.x + x) v.x) (moved (leaf.block.y + y) v.y) small (reach (coded size.w) (leaf_side leaf) leaf.block.x x v.x p.0 hx) (reach (coded size.h) (leaf_side leaf) leaf.block.y y v.y p.1 hy))

copied_stored : (size : Size) (prev now : Picture) (before : List Moving) (units : List MoveLeaf) → CanStandAll P size before units → AreCopied prev now before units
    → AreCopied (stored_picture size (planes size prev)) now before units
copied_stored size prev now before [] stand copied = tt
copied_stored size prev now before (unit ∷ units) stand copied =
    (go unit.kind stand.0 copied.0, copied_stored size prev now (before ++ as_coded before unit ∷ []) units stand.1 copied.1)
  where
    go : (k : MoveKind) → CanStand P size before unit.block k → IsCopied prev now before unit k → IsCopied (stored_picture size (planes size prev)) now before unit k
    go moves.Skip s h = λ c small. moved_stored size prev (leaf_as_coded unit) (merge before unit.block) c small s ∙ h c small
    go (moves.Move v) s h = λ c small. moved_stored size prev (leaf_as_coded unit) v c small s.1 ∙ h c small
    go moves.Pcm s h = tt
    go (moves.Intra mode) s h = tt

-- ---- the units of a picture alone are no copies

copied_alone : (prev now : Picture) (before : List Moving) (ls : List Leaf) → AllByRecursion (IsFair None now) ls → AreCopied prev now before (map still ls)
copied_alone prev now before [] h = tt
copied_alone prev now before (leaf ∷ ls) h = (go leaf.kind h.0, copied_alone prev now (before ++ as_coded before (still leaf) ∷ []) ls h.1)
  where
    go : (k : Kind) → is_skipped k ≡ false → IsCopied prev now before (still leaf) (still_kind k)
    go Skip e = absurd (cc)
    go Pcm e = tt
    go (Intra mode) e = tt

joined_still : (ls : List (List Leaf)) → joined (map (map still) ls) ≡ map still (joined ls)
joined_still [] = refl
joined_still (l ∷ ls) = ap (λ (r : List MoveLeaf). map still l ++ r) (joined_still ls) ∙ sym (map-append l (joined ls))

-- ---- a picture's parts

abbrev units_in : Settings → Bool → Option Raster → Raster → List (List MoveLeaf)
units_in settings idr before raster = moved_units settings (reference idr settings.size before) (picture_of settings raster)

abbrev unit_with : Settings → Bool → ℕ → Option Raster → Raster → NalUnit
unit_with settings idr poc before raster = slice_unit idr poc (rows_of settings.size idr (source_in settings raster) (units_in settings idr before raster))

abbrev moved_slices : Settings → ℕ → Option Raster → Raster → List NalUnit
moved_slices settings n before raster = unit_with settings (is_idr settings.key n) (order_count settings.key n % 256) before raster ∷ []

many_units : (settings : Settings) (idr : Bool) (before : Option Raster) (raster : Raster) → length (units_in settings idr before raster) ≡ ctus settings.size.w * ctus settings.size.h
unfolding moved_units
many_units settings true before raster = length-map (leaves_of settings true before raster) (map still) ∙ many_of settings true before raster
many_units settings false None raster = length-map (leaves_of settings false None raster) (map still) ∙ many_of settings false None raster
many_units settings false (Some r) raster = chosen_length (picture_of settings r) (picture_of settings raster) settings.size settings.effort (ctus settings.size.w * ctus settings.size.h) [] 0

units_lawful : (settings : Settings) (idr : Bool) (before : Option Raster) (raster : Raster) → IsFit settings.size
    → AreLawfulUnits (slice_kind idr) settings.size (units_in settings idr before raster) (ctus settings.size.w * ctus settings.size.h)
unfolding moved_units
units_lawful settings true before raster fit = lawful_still (slice_kind true) settings.size (leaves_of settings true before raster) (ctus settings.size.w * ctus settings.size.h) fit.wide (lawful_of settings true before raster)
units_lawful settings false None raster fit = lawful_still (slice_kind false) settings.size (leaves_of settings false None raster) (ctus settings.size.w * ctus settings.size.h) fit.wide (lawful_of settings false None raster)
units_lawful settings false (Some r) raster fit = chosen_lawful (picture_of settings r) (picture_of settings raster) settings.size settings.effort (ctus settings.size.w * ctus settings.size.h)

units_copied : (settings : Settings) (idr : Bool) (before : Option Raster) (raster : Raster) (prev : Picture) → Stores settings idr before prev → AreCopied prev (picture_of settings raster) [] (joined (units_in settings idr before raster))
unfolding moved_units
units_copied settings true before raster prev stores =
    let total : ℕ = ctus settings.size.w * ctus settings.size.h in
    subst (AreCopied prev (picture_of settings raster) []) (sym (joined_still (leaves_of settings true before raster)))
    (copied_alone prev (picture_of settings raster) [] (joined (leaves_of settings true before raster)) (fair_joined None (picture_of settings raster) settings.size settings.effort 0 total))
units_copied settings false None raster prev stores = elim stores [ ]
units_copied settings false (Some r) raster prev stores =
    let size : Size = settings.size in
    let now : Picture = picture_of settings raster in
    let units : List (List MoveLeaf) = moved_choices (picture_of settings r) now size settings.effort (ctus size.w * ctus size.h) [] 0 in
    subst (λ (p : Picture). AreCopied p now [] (joined units)) (sym stores)
    (copied_stored size (picture_of settings r) now [] (joined units) (chosen_stand (picture_of settings r) now size settings.effort (ctus size.w * ctus size.h) [] 0)
    (chosen_copied (picture_of settings r) now size settings.effort (ctus size.w * ctus size.h) [] 0))

-- ---- the picture

coded_is : (settings : Settings) (n : ℕ) (before : Option Raster) (raster : Raster) (last : Option Decoded) → IsFit settings.size → IsRaster settings.size raster → IsFollowing settings n before last
    → IsCoded settings.size (is_idr settings.key n) (order_count settings.key n % 256) (source_in settings raster) (units_in settings (is_idr settings.key n) before raster) last (picture_of settings raster)
coded_is settings n before raster last fit is behind =
    let size : Size = settings.size in
    let idr : Bool = is_idr settings.key n in
    let source : Source = source_in settings raster in
    let units : List (List MoveLeaf) = units_in settings idr before raster in
    let total : ℕ = ctus size.w * ctus size.h in
    let many : length units ≡ total = many_units settings idr before raster in
    let lawful : AreLawfulUnits (slice_kind idr) size units total = units_lawful settings idr before raster fit in
    let b : IsBehind settings idr (order_count settings.key n % 256) before last = behind_is settings n before last behind in
    let all : take total units ≡ units = take_all total units (omega arith) in
    record {
      fit = fit;
      small = low_count settings n;
      zero_at = λ e. zero_count settings n e;
      source_is = source_is size (picture_of settings raster) (picture_is size raster is);
      many = many;
      lawful = lawful;
      prev = b.prev;
      is_referred = b.is_referred;
      comes_next = b.comes_next;
      rebuilt =
          ap (λ (l : List (List MoveLeaf)). rebuild size b.prev (reads_after source [] (joined l))) all
          ∙ pictures_are_rebuilt (slice_kind idr) size b.prev (picture_of settings raster) units fit.wide many lawful (picture_is size raster is) (units_copied settings idr before raster b.prev b.stores);
    }

moved_is_read : (settings : Settings) → IsFit settings.size → 0 < settings.size.w → (n number : ℕ) (before : Option Raster) (raster : Raster) (stand : Stand) (rest : List NalUnit)
    → IsRaster settings.size raster → IsFollowing settings n before stand.last → ReadsOn settings false n number raster stand (moved_slices settings n before raster) rest
moved_is_read settings fit some n number before raster stand rest is behind =
    let size : Size = settings.size in
    let idr : Bool = is_idr settings.key n in
    let poc : ℕ = order_count settings.key n % 256 in
    let source : Source = source_in settings raster in
    let units : List (List MoveLeaf) = units_in settings idr before raster in
    let now : Picture = picture_of settings raster in
    let c : IsCoded size idr poc source units stand.last now = coded_is settings n before raster stand.last fit is behind in
    let whole_now : Decoded = decoded size idr poc source units stand.last now c in
    record {
      next = number + 1;
      after = now_whole whole_now;
      whole = refl;
      last = refl;
      reads =
          one_step size false number stand (now_whole whole_now) (slice_unit idr poc (rows_of size idr source units)) rest (picture_is_read size idr poc source units stand.last now c stand refl)
          ∙ ap (λ (r : Raster). read_units size false (number + 1) (now_whole whole_now) rest >>- λ others. Ok (r ∷ others)) (cropped size raster is some);
    }

moved_are_read : (settings : Settings) → settings.extra ≡ Moves → IsFit settings.size → 0 < settings.size.w → AreRead settings (moved_slices settings)
unfolding picture_piece picture_units stream_bytes
moved_are_read settings kind fit some = record {
  pieces = λ n before raster is.
      ap
      (λ (x : Extra). picture_units x settings (is_idr settings.key n) (order_count settings.key n % 256) (reference (is_idr settings.key n) settings.size before) (picture_of settings raster)) kind
      ∙ (piece_is_unit (is_idr settings.key n) (order_count settings.key n % 256) (codes_of settings.size (is_idr settings.key n) (source_in settings raster) (units_in settings (is_idr settings.key n) before raster)) (below (ctus settings.size.h))
      (rows_end_well settings.size (is_idr settings.key n) (source_in settings raster) (units_in settings (is_idr settings.key n) before raster) fit (source_is settings.size (picture_of settings raster) (picture_is settings.size raster is))
      (many_units settings (is_idr settings.key n) before raster) (units_lawful settings (is_idr settings.key n) before raster fit))
      ∙ sym (append-nil (nal_unit_bytes (unit_with settings (is_idr settings.key n) (order_count settings.key n % 256) before raster))));
  are = λ n before raster is. (
    slice_is_unit settings.size (is_idr settings.key n) (source_in settings raster) (units_in settings (is_idr settings.key n) before raster) fit (source_is settings.size (picture_of settings raster) (picture_is settings.size raster is))
        (many_units settings (is_idr settings.key n) before raster) (units_lawful settings (is_idr settings.key n) before raster fit) (order_count settings.key n % 256),
    tt,
  );
  read = λ n number before raster stand rest is behind none.
      subst (λ (b : Bool). ReadsOn settings b n number raster stand (moved_slices settings n before raster) rest) (sym (ap has_segments kind))
      (moved_is_read settings fit some n number before raster stand rest is behind);
}

pub moved_streams_are_decoded : EachMovedStreamIsDecoded
moved_streams_are_decoded settings rasters kind size_is are =
    stream_is_decoded settings (moved_slices settings)
    (moved_are_read settings kind (size_fits settings.size size_is) (in_limits settings.size size_is).w_low)
    (read_params-param_units settings.size (has_segments settings.extra) size_is (λ e. absurd (let f : has_segments settings.extra ≡ false = ap has_segments kind in cc))) rasters are
