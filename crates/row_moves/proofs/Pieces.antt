-- The piece of a picture whose blocks may move.
use Rattle.std.proofs.Common.{◌≡◌, sym, ◌∙◌, ap, subst, ℕ, ◌%◌, List, [], Bool, length, get_or, map, arith}
use Rattle.std.specs.Prelude.{Option}
use Rattle.std.specs.List.{All}
use Rattle.std.proofs.lemmas.List.{length-map, get_or-map}
use Rattle.std.proofs.lemmas.List.FromFn.{length-map-range_with_len, get_or-map-range_with_len}
use Rattle.h265_model.specs.declared.extra.Extra.{Extra}
use Rattle.h265_model.specs.declared.extra.Extra.TheVariants.{Moves}
use Rattle.h265_model.specs.declared.moves.MoveLeaf.{MoveLeaf}
use Rattle.h265_model.specs.Plain.{Size, Picture, IsPicture, ctus, below}
use Rattle.h265_model.specs.NalUnits.{escape}
use Rattle.h265_model.specs.Slice.{row_code}
use Rattle.h265_model.specs.Stream.{is_idr, order_count, slice_kind, slice_piece, moved_units, picture_units}
use Rattle.h265_model.specs.Tree.{moving, move_unit, source_of}
use Rattle.h265_laws.proofs.PictureLaw.{IsFit}
use Rattle.h265_laws.proofs.PredictionLaw.{source_is}
use Rattle.unit_laws.proofs.UnitLength.{rows_are_substreams}
use Rattle.px_plane.specs.Planes.{Planes, picture_of}
use Rattle.slice_assembly.specs.Substreams.{IsSubstream}
use Rattle.picture_encoder.specs.Coded.{Coded}
use Rattle.picture_encoder.specs.declared.planning.Task.{Task}
use Rattle.picture_encoder.specs.Planning.{reference_of, reference_of_task, planes_of_task, size_of_task, kind_of_task, IsTaskOf, units_of}
use Rattle.row_moves.specs.Moves.{moved, all_units, code_of_task}
use Rattle.row_moves.proofs.Units.{same_units, many_units, lawful_units}

-- ---- the piece

-- the bytes of rows of these units, with their emulation prevention
abbrev rows_by : Bool → Planes → Size → List (List MoveLeaf) → List (List ℕ)
rows_by idr now size units =
    map (λ row. escape (row_code (slice_kind idr) (moving (move_unit (slice_kind idr) (source_of size (picture_of now)))) size units row)) (below (ctus size.h))

-- those of a picture
abbrev rows_with : Bool → Option Picture → Planes → Size → ℕ → List (List ℕ)
rows_with idr before now size effort = rows_by idr now size (moved_units (moved size effort 0) before (picture_of now))

-- those of a task
abbrev pub rows_of_task : Task → List (List ℕ)
rows_of_task t = map (λ row. escape (code_of_task t row)) (below (ctus (size_of_task t).h))

pub task_units : (e : Coded) (now : Planes) (t : Task) (idr : Bool) (order : ℕ) → e.settings.extra ≡ Moves → IsTaskOf e now t → now.size ≡ e.settings.size → idr ≡ is_idr e.settings.key e.count
    → order ≡ order_count e.settings.key e.count % 256 → slice_piece idr order (rows_of_task t) ≡ units_of e now
unfolding picture_units
task_units e now t given order extra of size same is =
    let idr : Bool = is_idr e.settings.key e.count in
    let poc : ℕ = order_count e.settings.key e.count % 256 in
    let before : Option Picture = reference_of idr (picture_of e.last) in
    ap (λ (b : Bool). slice_piece b order (rows_of_task t)) (same ∙ sym of.idr)
    ∙ (ap (λ (b : Bool). slice_piece b order (rows_with b (reference_of_task t) (planes_of_task t) (size_of_task t) t.effort)) of.idr
    ∙ (ap (λ (r : Option Picture). slice_piece idr order (rows_with idr r (planes_of_task t) (size_of_task t) t.effort)) of.reference
    ∙ (ap (λ (p : Planes). slice_piece idr order (rows_with idr before p p.size t.effort)) of.current
    ∙ (ap (λ (n : ℕ). slice_piece idr order (rows_with idr before now now.size n)) of.effort
    ∙ (ap (λ (s : Size). slice_piece idr order (rows_with idr before now s e.settings.effort)) size
    ∙ (ap (λ (us : List (List MoveLeaf)). slice_piece idr order (rows_by idr now e.settings.size us)) (same_units e.settings before (picture_of now))
    ∙ (ap (λ (o : ℕ). slice_piece idr o (rows_by idr now e.settings.size (moved_units e.settings before (picture_of now)))) is
    ∙ ap (λ (x : Extra). picture_units x e.settings idr poc before (picture_of now)) (sym extra))))))))

-- ---- its rows

pub rows_fit : {X : Type 0} (f : X → List ℕ) (rows : List X) (t : Task) → IsFit (size_of_task t) → IsPicture (picture_of (planes_of_task t)) → map f rows ≡ map (code_of_task t) (below (ctus (size_of_task t).h))
    → All (λ row. IsSubstream (f row)) rows
rows_fit f rows t fit samples e = λ k d less.
    let size : Size = size_of_task t in
    let picture : Picture = picture_of (planes_of_task t) in
    let before : Option Picture = reference_of_task t in
    let long : length rows ≡ ctus size.h = sym (length-map rows f) ∙ (ap length e ∙ length-map-range_with_len (code_of_task t) 0 (ctus size.h)) in
    let at : f (get_or rows k d) ≡ code_of_task t k =
    sym (get_or-map f rows k d [] less) ∙ (ap (λ (l : List (List ℕ)). get_or l k []) e ∙ get_or-map-range_with_len (code_of_task t) 0 (ctus size.h) k k [] (omega arith) (omega arith)) in
    subst IsSubstream (sym at)
    (rows_are_substreams (kind_of_task t) size (source_of size picture) (all_units t) k (source_is size picture samples) (many_units picture size t.effort before)
    (lawful_units picture size t.effort before fit.wide) fit.wide fit.narrow (omega arith)).0
