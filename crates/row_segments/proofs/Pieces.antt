-- The piece of a picture in row segments, and how long it can get.
use Rattle.std.proofs.Common.{◌≡◌, refl, sym, ◌∙◌, ap, subst, ℕ, zero, suc, ◌+◌, ◌*◌, ◌-◌, ◌^◌, ◌%◌, ◌<◌, ◌≤◌, List, [], ◌∷◌, ◌++◌, Bool, true, cond, length, length-append, map, take, get_or, arith}
use Rattle.std.specs.Prelude.{Option, flat_map, ◌==◌}
use Rattle.std.specs.List.{range_with_len}
use Rattle.std.proofs.lemmas.Nat.{mul-le}
use Rattle.std.proofs.lemmas.List.FromFn.{length-range_with_len}
use Rattle.h265_model.specs.declared.extra.Extra.{Extra}
use Rattle.h265_model.specs.declared.extra.Extra.TheVariants.{Segments}
use Rattle.h265_model.specs.declared.leaf.Leaf.{Leaf}
use Rattle.h265_model.specs.declared.leaf.SliceKind.{SliceKind}
use Rattle.h265_model.specs.declared.Item.{Item}
use Rattle.h265_model.specs.Plain.{Size, Picture, IsPicture, ctus, below, joined, terminate_bin}
use Rattle.h265_model.specs.Bits.{bytes}
use Rattle.h265_model.specs.NalUnits.{escape, start_code}
use Rattle.h265_model.specs.SliceHead.{segment_bits}
use Rattle.h265_model.specs.Choice.{choice}
use Rattle.h265_model.specs.Code.{code}
use Rattle.h265_model.specs.Slice.{segment_code, contexts_at, IsSlice}
use Rattle.h265_model.specs.Stream.{is_idr, order_count, slice_kind, nal_header, segment_piece, picture_units}
use Rattle.h265_model.specs.Tree.{Source, leaf_units, source_of, ctu_items, ctu_with_flag, ctus_items, items_of_row, items_of_segment, is_last, ends_row}
use Rattle.h265_laws.proofs.CoverLaw.{sides_of}
use Rattle.h265_laws.proofs.LengthLaw.{code_length, escape_length, length_row}
use Rattle.px_plane.specs.Planes.{Planes, picture_of}
use Rattle.picture_encoder.specs.Coded.{Coded}
use Rattle.picture_encoder.specs.declared.planning.Task.{Task}
use Rattle.picture_encoder.specs.Planning.{reference_of, reference_of_task, planes_of_task, size_of_task, kind_of_task, is_idr_task, all_chosen, IsTaskOf, units_of}
use Rattle.picture_encoder.proofs.Choices.{slice_is}
use Rattle.picture_encoder.proofs.Lengths.{length_segment_head, length_header}
use Rattle.row_segments.specs.Segments.{segment_of_task}

-- ---- the piece

-- the segments of a picture
abbrev pieces_with : Bool → ℕ → Option Picture → Planes → Size → ℕ → List ℕ
pieces_with idr poc before now size effort =
    flat_map
    (λ row. segment_piece size idr poc row
    (segment_code (slice_kind idr) (leaf_units (slice_kind idr) (source_of size (picture_of now))) size (map (choice before (picture_of now) size effort) (below (ctus size.w * ctus size.h))) row))
    (below (ctus size.h))

-- those of a task
abbrev pub pieces_of_task : Task → Bool → ℕ → List ℕ
pieces_of_task t idr poc = flat_map (λ row. segment_piece (size_of_task t) idr poc row (segment_of_task t row)) (below (ctus (size_of_task t).h))

pub task_units : (e : Coded) (now : Planes) (t : Task) (idr : Bool) (order : ℕ) → e.settings.extra ≡ Segments → IsTaskOf e now t → now.size ≡ e.settings.size → idr ≡ is_idr e.settings.key e.count
    → order ≡ order_count e.settings.key e.count % 256 → pieces_of_task t idr order ≡ units_of e now
unfolding picture_units
task_units e now t given order extra of size same is =
    let idr : Bool = is_idr e.settings.key e.count in
    let poc : ℕ = order_count e.settings.key e.count % 256 in
    let before : Option Picture = reference_of idr (picture_of e.last) in
    ap (λ (b : Bool). pieces_of_task t b order) (same ∙ sym of.idr)
    ∙ (ap (λ (b : Bool). pieces_with b order (reference_of_task t) (planes_of_task t) (size_of_task t) t.effort) of.idr
    ∙ (ap (λ (r : Option Picture). pieces_with idr order r (planes_of_task t) (size_of_task t) t.effort) of.reference
    ∙ (ap (λ (p : Planes). pieces_with idr order before p p.size t.effort) of.current
    ∙ (ap (λ (n : ℕ). pieces_with idr order before now now.size n) of.effort
    ∙ (ap (λ (s : Size). pieces_with idr order before now s e.settings.effort) size
    ∙ (ap (λ (o : ℕ). pieces_with idr o before now e.settings.size e.settings.effort) is
    ∙ ap (λ (x : Extra). picture_units x e.settings idr poc before (picture_of now)) (sym extra)))))))

-- ---- its length

module _ (kind : SliceKind) (size : Size) (source : Source) (leaves : List (List Leaf)) where
  abbrev unit : (ℕ → Bool) → ℕ → List Item
  unit ends ctu = ctu_with_flag (leaf_units kind source) size ends leaves ctu

  unit_length : (f g : ℕ → Bool) (ctu : ℕ) → length (unit f ctu) ≡ length (unit g ctu)
  unit_length f g ctu =
      let list : List Item = ctu_items (leaf_units kind source) size (joined (take ctu leaves)) (get_or leaves ctu []) ctu in
      length-append list (terminate_bin (f ctu) ∷ []) ∙ sym (length-append list (terminate_bin (g ctu) ∷ []))

  -- a row has the same length whatever its flags say
  row_length : (f g : ℕ → Bool) (base a n : ℕ) → length (flat_map (λ i. unit f (base + i)) (range_with_len a n)) ≡ length (flat_map (λ i. unit g (base + i)) (range_with_len a n))
  row_length f g base a zero = refl
  row_length f g base a (suc n) =
      omega (
        arith,
        length-append (unit f (base + a)) (flat_map (λ i. unit f (base + i)) (range_with_len (a + 1) n)),
        length-append (unit g (base + a)) (flat_map (λ i. unit g (base + i)) (range_with_len (a + 1) n)),
        unit_length f g (base + a),
        row_length f g base (a + 1) n,
      )

  length_items : (row : ℕ) → length (items_of_segment (leaf_units kind source) size leaves row) ≤ length (items_of_row (leaf_units kind source) size leaves row)
  unfolding items_of_segment items_of_row
  length_items row =
      omega (
        arith,
        row_length (ends_row size) (is_last size) (row * ctus size.w) 0 (ctus size.w),
        length-append (ctus_items (leaf_units kind source) size (is_last size) leaves row (ctus size.w)) (cond (row + 1 == ctus size.h) [] (terminate_bin true ∷ [])),
      )

  length_segment : (row : ℕ) → IsSlice kind size source leaves → ctus size.w ≤ 128 → length (segment_code kind (leaf_units kind source) size leaves row) ≤ 742400002
  length_segment row is narrow =
      omega (
        arith,
        code_length (items_of_segment (leaf_units kind source) size leaves row) (contexts_at kind (leaf_units kind source) size leaves row),
        length_items row,
        length_row kind size source leaves row is.source_is (sides_of kind size source leaves is) narrow,
      )

piece_length : (size : Size) (idr : Bool) (poc row : ℕ) (list : List ℕ) → length list ≤ 742400002 → length (segment_piece size idr poc row list) ≤ 2 ^ 31
unfolding segment_piece
piece_length size idr poc row list few =
    let head : List ℕ = escape (bytes (segment_bits idr poc (row * ctus size.w) (ctus size.w * ctus size.h))) in
    let lh : length head ≤ 7000 = length_segment_head idr poc (row * ctus size.w) (ctus size.w * ctus size.h) in
    let ln : length (nal_header idr) ≡ 2 = length_header idr in
    let le : length (escape list) ≤ 2 * length list = escape_length 255 255 list in
    let a : length (start_code ++ nal_header idr ++ head ++ escape list) ≡ length (start_code ++ nal_header idr ++ head) + length (escape list) = length-append (start_code ++ nal_header idr ++ head) (escape list) in
    let b : length (start_code ++ nal_header idr ++ head) ≡ length (start_code ++ nal_header idr) + length head = length-append (start_code ++ nal_header idr) head in
    let c : length (start_code ++ nal_header idr) ≡ 4 + length (nal_header idr) = length-append start_code (nal_header idr) in
    omega arith

all_lengths : (f : ℕ → List ℕ) (list : List ℕ) → ((i : ℕ) → length (f i) ≤ 2 ^ 31) → length (flat_map f list) ≤ length list * 2 ^ 31
all_lengths f [] each = omega arith
all_lengths f (x ∷ list) each = omega (arith, length-append (f x) (flat_map f list), each x, all_lengths f list each)

pub segments_short : (t : Task) (idr : Bool) (poc : ℕ) → 0 < ctus (size_of_task t).w → ctus (size_of_task t).w ≤ 128 → ctus (size_of_task t).h ≤ 128 → IsPicture (picture_of (planes_of_task t))
    → length (pieces_of_task t idr poc) < 2 ^ 40
segments_short t idr poc wide narrow low samples =
    let is : IsSlice (kind_of_task t) (size_of_task t) (source_of (size_of_task t) (picture_of (planes_of_task t))) (all_chosen t) =
    slice_is (picture_of (planes_of_task t)) (size_of_task t) t.effort (reference_of_task t) wide samples in
    let each : (row : ℕ) → length (segment_piece (size_of_task t) idr poc row (segment_of_task t row)) ≤ 2 ^ 31 =
    λ row. piece_length (size_of_task t) idr poc row (segment_of_task t row)
    (length_segment (kind_of_task t) (size_of_task t) (source_of (size_of_task t) (picture_of (planes_of_task t))) (all_chosen t) row is narrow) in
    let all = all_lengths (λ row. segment_piece (size_of_task t) idr poc row (segment_of_task t row)) (below (ctus (size_of_task t).h)) each in
    let many : length (below (ctus (size_of_task t).h)) ≡ ctus (size_of_task t).h = length-range_with_len 0 (ctus (size_of_task t).h) in
    bound (length (below (ctus (size_of_task t).h))) (length (pieces_of_task t idr poc)) (omega arith) all
  where
    bound : (n all : ℕ) → n ≤ 128 → all ≤ n * 2 ^ 31 → all < 2 ^ 40
    bound n all few h = omega arith

pub few_units : (a b w h : ℕ) → a ≡ w → b ≡ h → w ≤ 128 → h ≤ 128 → a * b < 2 ^ 32
few_units a b w h ea eb narrow low = let m : a * b ≤ 128 * 128 = mul-le a b 128 128 (omega arith) (omega arith) in omega arith
