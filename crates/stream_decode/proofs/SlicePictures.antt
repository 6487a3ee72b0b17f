-- A picture of one slice, by its header, its units and the planes that are kept.
use Rattle.std.proofs.Common.{◌≡◌, refl, sym, ◌∙◌, ap, subst, ℕ, suc, ◌+◌, ◌*◌, ◌-◌, ◌<◌, ◌≤◌, Bool, true, false, cond, List, [], ◌∷◌, take, drop, length, length-drop, arith}
use Rattle.std.proofs.lemmas.List.{take_all}
use Rattle.std.specs.Prelude.{Option, Some, None, Result, Ok, Err}
use Rattle.std.specs.List.{AllByRecursion}
use Rattle.h265_model.proofs.ListParts.{all_append}
use Rattle.h265_model.specs.declared.leaf.SliceKind.{SliceKind}
use Rattle.h265_model.specs.declared.leaf.SliceKind.TheVariants.{I, P}
use Rattle.h265_model.specs.Plain.{Size, Picture, ctus, joined}
use Rattle.h265_model.specs.Bits.{◌>>=◌ as and_then}
use Rattle.h265_model.specs.Raster.{blank, stored_picture}
use Rattle.h265_model.specs.SliceHead.{Head, read_head}
use Rattle.h265_model.specs.Slice.{slice_read}
use Rattle.h265_model.specs.Stream.{slice_kind}
use Rattle.h265_model.specs.Tree.{ReadUnit}
use Rattle.h265_model.specs.Rebuild.{rebuild}
use Rattle.h265_model.specs.Decode.{Stand, Decoded, ok_of, is_next, whole, slice_step}
use Rattle.h265_laws.proofs.RebuildLaw.{last_order}
use Rattle.read_laws.specs.Laws.{IsSound, AreTreesFrom, IsReadFirst}
use Rattle.read_laws.proofs.Drawn.{read_cover}
use Rattle.px_plane.specs.Planes.{Planes, planes_of, Stores}
use Rattle.px_plane.proofs.Shown.{stored_at}
use Rattle.canvas.specs.Drawing.{Pictures, Draws, AreWhole, AreStill}
use Rattle.h265_model.specs.Plain.{AreBytes}
use Rattle.h265_laws.proofs.HeadSpellingLaws.{read_head-is}
use Rattle.read_laws.proofs.ReadRows.{slices_are_lawful}
use Rattle.unit_read.specs.Units.{AreKept}
use Rattle.pu_code.specs.Cells as modes
use Rattle.motion_grid.specs.Cells as motions
use Rattle.stream_decode.specs.Steps.{last_of, between, right_after}

-- ---- units

pub are_whole : (kind : SliceKind) (size : Size) (units : List ReadUnit) → 0 < ctus size.w → IsReadFirst kind size (ctus size.w * ctus size.h) units → AreWhole size units
are_whole kind size units some is = record { each = λ x y inside. (read_cover kind size units some is).1.each x y inside (last_order size x y inside) }

sound_still : (size : Size) (units : List ReadUnit) → AllByRecursion (IsSound I size) units → AreStill units
sound_still size [] are = tt
sound_still size (unit ∷ units) are = (are.0.copies, sound_still size units are.1)

trees_still : (size : Size) (ctu : ℕ) (trees : List (List ReadUnit)) → AreTreesFrom I size ctu trees → AreStill (joined trees)
trees_still size ctu [] are = tt
trees_still size ctu (units ∷ trees) are = all_append _ units (joined trees) (sound_still size units are.1) (trees_still size (suc ctu) trees are.2)

pub are_still : (size : Size) (n : ℕ) (units : List ReadUnit) → IsReadFirst I size n units → AreStill units
are_still size n units is = subst AreStill is.together (trees_still size 0 is.trees is.lawful)

-- ---- the step

abbrev after_units : Size → Bool → Stand → ℕ → List ReadUnit → Option Stand
after_units size idr stand poc units = cond (is_next idr stand.last poc) (whole size stand idr poc units) None

abbrev after_head : Size → Bool → Stand → List ℕ → Head × ℕ → Option Stand
after_head size idr stand rbsp head = and_then (slice_read (slice_kind idr) size head.0.offsets (drop head.1 rbsp)) (after_units size idr stand head.0.poc)

slice_opens : (size : Size) (idr : Bool) (stand : Stand) (rbsp : List ℕ) → slice_step size idr stand rbsp ≡ and_then (ok_of (read_head rbsp idr (ctus size.h))) (after_head size idr stand rbsp)
unfolding slice_step
slice_opens size idr stand rbsp = refl

pub head_fails : (size : Size) (idr : Bool) (stand : Stand) (rbsp : List ℕ) (rows field : ℕ) → rows ≡ ctus size.h → read_head rbsp idr rows ≡ Err field → slice_step size idr stand rbsp ≡ None
head_fails size idr stand rbsp rows field same h =
    slice_opens size idr stand rbsp
    ∙ ap (λ (r : Result (Head × ℕ) ℕ). and_then (ok_of r) (after_head size idr stand rbsp)) (ap (λ (n : ℕ). read_head rbsp idr n) (sym same) ∙ h)

pub head_is : (size : Size) (idr : Bool) (stand : Stand) (rbsp : List ℕ) (rows : ℕ) (head : Head) (n : ℕ) → rows ≡ ctus size.h → read_head rbsp idr rows ≡ Ok (head, n)
    → slice_step size idr stand rbsp ≡ after_head size idr stand rbsp (head, n)
head_is size idr stand rbsp rows head n same h =
    slice_opens size idr stand rbsp
    ∙ ap (λ (r : Result (Head × ℕ) ℕ). and_then (ok_of r) (after_head size idr stand rbsp)) (ap (λ (m : ℕ). read_head rbsp idr m) (sym same) ∙ h)

pub other_order : (size : Size) (idr : Bool) (stand : Stand) (rbsp : List ℕ) (rows : ℕ) (head : Head) (n : ℕ) → rows ≡ ctus size.h → read_head rbsp idr rows ≡ Ok (head, n)
    → is_next idr stand.last head.poc ≡ false → slice_step size idr stand rbsp ≡ None
other_order size idr stand rbsp rows head n same h other =
    head_is size idr stand rbsp rows head n same h ∙ go (slice_read (slice_kind idr) size head.offsets (drop n rbsp))
  where
    go : (o : Option (List ReadUnit)) → and_then o (after_units size idr stand head.poc) ≡ None
    go None = refl
    go (Some units) = ap (λ (b : Bool). cond b (whole size stand idr head.poc units) None) other

pub no_slice : (size : Size) (idr : Bool) (stand : Stand) (rbsp : List ℕ) (rows : ℕ) (head : Head) (n : ℕ) → rows ≡ ctus size.h → read_head rbsp idr rows ≡ Ok (head, n)
    → slice_read (slice_kind idr) size head.offsets (drop n rbsp) ≡ None → slice_step size idr stand rbsp ≡ None
no_slice size idr stand rbsp rows head n same h none =
    head_is size idr stand rbsp rows head n same h ∙ ap (λ (o : Option (List ReadUnit)). and_then o (after_units size idr stand head.poc)) none

-- ---- whole pictures, drawn from their units and kept as the last one

-- what is said of a canvas whose drawn picture is kept as the last one
pub record IsKept (old new : Pictures) : Type 0 where
  pub rebuilt : (units : List ReadUnit) → Draws old units → AreWhole old.last.size units → (before : Picture) → Stores old.last before → planes_of new.last ≡ rebuild old.last.size before units
  pub still : (units : List ReadUnit) → Draws old units → AreWhole old.last.size units → AreStill units → (before : Picture) → planes_of new.last ≡ rebuild old.last.size before units

whole_from : (size : Size) (stand : Stand) (idr : Bool) (poc : ℕ) (units : List ReadUnit) (last : Option Decoded) → stand.last ≡ last → whole size stand idr poc units ≡ whole size (between last) idr poc units
whole_from size stand idr poc units last same = ap (λ (l : Option Decoded). whole size (between l) idr poc units) same

whole_after : (idr : Bool) (order : Option ℕ) (old new : Pictures) (poc : ℕ) (units : List ReadUnit) → 0 < ctus old.last.size.w
    → IsReadFirst (slice_kind idr) old.last.size (ctus old.last.size.w * ctus old.last.size.h) units → Draws old units → IsKept old new → is_next idr (last_of order old.last) poc ≡ true
    → whole old.last.size (between (last_of order old.last)) idr poc units ≡ Some (right_after (record { poc = poc; planes = planes_of new.last }))
whole_after true order old new poc units some is draws kept next =
    let same = kept.still units draws (are_whole I old.last.size units some is) (are_still old.last.size (ctus old.last.size.w * ctus old.last.size.h) units is) blank in
    ap (λ (ps : List (List ℕ)). Some (right_after (record { poc = poc; planes = ps }))) (sym same)
whole_after false None old new poc units some is draws kept next = absurd (cc)
whole_after false (Some before) old new poc units some is draws kept next =
    let stores : Stores old.last (stored_picture old.last.size (planes_of old.last)) = record { each = λ c x y h hx hy. stored_at old.last c x y h hx hy } in
    let same = kept.rebuilt units draws (are_whole P old.last.size units some is) (stored_picture old.last.size (planes_of old.last)) stores in
    ap (λ (ps : List (List ℕ)). Some (right_after (record { poc = poc; planes = ps }))) (sym same)

-- the units of a whole picture that is the next one were drawn: the picture that is kept is the one that they decode to
pub whole_drawn : (stand : Stand) (idr : Bool) (order : Option ℕ) (old new : Pictures) (poc : ℕ) (units : List ReadUnit) → stand.last ≡ last_of order old.last → 0 < ctus old.last.size.w
    → IsReadFirst (slice_kind idr) old.last.size (ctus old.last.size.w * ctus old.last.size.h) units → Draws old units → IsKept old new → is_next idr (last_of order old.last) poc ≡ true
    → whole old.last.size stand idr poc units ≡ Some (right_after (record { poc = poc; planes = planes_of new.last }))
whole_drawn stand idr order old new poc units same some is draws kept next =
    whole_from old.last.size stand idr poc units (last_of order old.last) same ∙ whole_after idr order old new poc units some is draws kept next

-- ---- a picture of one slice

-- a header has a substream for each row of coding tree units
pub head_long : (rbsp : List ℕ) (idr : Bool) (rows : ℕ) (head : Head) (n : ℕ) → AreBytes rbsp → 0 < rows → read_head rbsp idr rows ≡ Ok (head, n) → length head.offsets + 1 ≡ rows
head_long rbsp idr rows head n bytes some h = (read_head-is rbsp idr rows head n bytes some h).1

-- grids in which nothing was set
pub none_kept : (cells : modes.Cells) (vectors : motions.Cells) → modes.StandsFor cells [] → motions.HasMotion vectors [] → AreKept cells vectors []
none_kept cells vectors of_modes of_vectors = record { modes = of_modes; vectors = of_vectors; lawful = tt }

pub slice_drawn : (idr : Bool) (order : Option ℕ) (old new : Pictures) (rbsp : List ℕ) (rows : ℕ) (head : Head) (n : ℕ) (units : List ReadUnit)
    → rows ≡ ctus old.last.size.h → 0 < ctus old.last.size.w → length head.offsets + 1 ≡ rows → read_head rbsp idr rows ≡ Ok (head, n)
    → slice_read (slice_kind idr) old.last.size head.offsets (drop n rbsp) ≡ Some units → is_next idr (last_of order old.last) head.poc ≡ true → Draws old units → IsKept old new
    → slice_step old.last.size idr (between (last_of order old.last)) rbsp ≡ Some (right_after (record { poc = head.poc; planes = planes_of new.last }))
slice_drawn idr order old new rbsp rows head n units same some long h read next draws kept =
    let is : IsReadFirst (slice_kind idr) old.last.size (ctus old.last.size.w * ctus old.last.size.h) units =
    slices_are_lawful (slice_kind idr) old.last.size head.offsets (drop n rbsp) units (long ∙ same) read in
    let stand : Stand = between (last_of order old.last) in
    head_is old.last.size idr stand rbsp rows head n same h
    ∙ (ap (λ (o : Option (List ReadUnit)). and_then o (after_units old.last.size idr stand head.poc)) read
    ∙ (ap (λ (b : Bool). cond b (whole old.last.size stand idr head.poc units) None) next
    ∙ whole_drawn stand idr order old new head.poc units refl some is draws kept next))

-- the same, where what was drawn on had this last picture
pub slice_drawn_after : (idr : Bool) (order : Option ℕ) (last : Planes) (old new : Pictures) (rbsp : List ℕ) (rows : ℕ) (head : Head) (n : ℕ) (units : List ReadUnit) → old.last ≡ last
    → rows ≡ ctus last.size.h → 0 < ctus last.size.w → length head.offsets + 1 ≡ rows → read_head rbsp idr rows ≡ Ok (head, n)
    → slice_read (slice_kind idr) last.size head.offsets (drop n rbsp) ≡ Some units → is_next idr (last_of order last) head.poc ≡ true → Draws old units → IsKept old new
    → slice_step last.size idr (between (last_of order last)) rbsp ≡ Some (right_after (record { poc = head.poc; planes = planes_of new.last }))
slice_drawn_after idr order last old new rbsp rows head n units e same some long h read next draws kept =
    subst (λ (p : Planes). slice_step p.size idr (between (last_of order p)) rbsp ≡ Some (right_after (record { poc = head.poc; planes = planes_of new.last }))) e
    (slice_drawn idr order old new rbsp rows head n units (same ∙ ap (λ (p : Planes). ctus p.size.h) (sym e)) (subst (λ (p : Planes). 0 < ctus p.size.w) (sym e) some) long h
    (ap (λ (p : Planes). slice_read (slice_kind idr) p.size head.offsets (drop n rbsp)) e ∙ read) (ap (λ (p : Planes). is_next idr (last_of order p) head.poc) e ∙ next) draws kept)

-- what is read of the rest of these bytes
pub read_same : (kind given_kind : SliceKind) (size given_size : Size) (offsets given : List ℕ) (n : ℕ) (rbsp : List ℕ) (read : Option (List ReadUnit)) → given_kind ≡ kind → given_size ≡ size → given ≡ offsets
    → slice_read given_kind given_size given (take (length rbsp - n) (drop n rbsp)) ≡ read → slice_read kind size offsets (drop n rbsp) ≡ read
read_same kind given_kind size given_size offsets given n rbsp read same_kind same_size same is =
    let long : length (drop n rbsp) ≤ length rbsp - n = omega (arith, length-drop n rbsp) in
    let all : take (length rbsp - n) (drop n rbsp) ≡ drop n rbsp = take_all (length rbsp - n) (drop n rbsp) long in
    ap (λ (k : SliceKind). slice_read k size offsets (drop n rbsp)) (sym same_kind)
    ∙ (ap (λ (s : Size). slice_read given_kind s offsets (drop n rbsp)) (sym same_size)
    ∙ (ap (λ (l : List ℕ). slice_read given_kind given_size l (drop n rbsp)) (sym same)
    ∙ (ap (λ (l : List ℕ). slice_read given_kind given_size given l) (sym all) ∙ is)))
