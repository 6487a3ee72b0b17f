-- Rows that are read from their bytes.
use Rattle.std.proofs.Common.{◌≡◌, refl, sym, ◌∙◌, ap, subst, ℕ, zero, suc, ◌+◌, ◌*◌, ◌/◌, ◌%◌, ◌<◌, ◌≤◌, Bool, true, false, Some, None, Option, List, [], ◌∷◌, ◌++◌, length, map, append_assoc, append-nil, arith}
use Rattle.std.specs.Prelude.{if◌then◌else◌}
use Rattle.std.proofs.lemmas.Bool.{le-leb, lt-leb}
use Rattle.std.proofs.lemmas.List.{length-map}
use Rattle.h265_model.specs.declared.leaf.SliceKind.{SliceKind}
use Rattle.h265_model.specs.declared.leaf.Leaf.{Leaf}
use Rattle.h265_model.specs.Bits.{bits, ◌>>=◌ as and_then}
use Rattle.h265_model.specs.Contexts.{row_start}
use Rattle.h265_model.specs.Contexts as contexts
use Rattle.h265_model.specs.Engine.{Engine, Reader, start, is_done}
use Rattle.h265_model.specs.Plain.{Size, ctus, joined}
use Rattle.h265_model.specs.Predict.{coding_order}
use Rattle.h265_model.specs.Motion.{Moving, leaves}
use Rattle.h265_model.specs.Slice.{row_of_bytes, slice_row_read, segment_row_read, handed_on}
use Rattle.h265_model.specs.Tree.{ReadUnit, ReadCtu, AreModes, units_of, leaf_of}
use Rattle.h265_laws.proofs.Coverage.{Covers, ctu_covers}
use Rattle.read_laws.specs.Laws.{AreTreesFrom}
use Rattle.read_laws.proofs.Yields.{Yields}
use Rattle.read_laws.proofs.ReadTrees.{map-append}
use Rattle.read_laws.proofs.ReadRows.{AreRead, trees_of, trees_joined, yields_slice_row, yields_segment_row}
use Rattle.residual_read.proofs.Steps.{then_some, then_none}
use Rattle.leaf_sink.specs.Units.{HasAvailable}
use Rattle.pu_code.specs.Cells as modes
use Rattle.motion_grid.specs.Cells as motions
use Rattle.unit_read.specs.Units.{AreTaken}
use Rattle.tree_read.specs.Rows.{second_of, ReadsRow}
use Rattle.tree_read.proofs.TreeReads.{covers_from, available_from}
use Rattle.slice_read.specs.Slices.{IsHanded, ReadsRowOf, IsRowTaken}

-- ---- a row of bytes

abbrev done_then : List ReadCtu × Engine → Option (List ReadCtu)
done_then read = if is_done read.1 then Some read.0 else None

abbrev first_then : Reader (List ReadCtu) → Engine → Option (List ReadCtu)
first_then read first = and_then (read first) done_then

row_open : (read : Reader (List ReadCtu)) (begun bytes : List ℕ) → row_of_bytes read begun bytes ≡ and_then (start begun (bits bytes)) (first_then read)
unfolding row_of_bytes
row_open read begun bytes = refl

-- nothing that these contexts start with is there
pub no_start : (read : Reader (List ReadCtu)) (own begun bytes : List ℕ) → own ≡ begun → start own (bits bytes) ≡ None → row_of_bytes read begun bytes ≡ None
no_start read own begun bytes same h = row_open read begun bytes ∙ then_none (start begun (bits bytes)) (first_then read) (subst (λ (l : List ℕ). start l (bits bytes) ≡ None) same h)

started : (read : Reader (List ReadCtu)) (own begun bytes : List ℕ) (e : Engine) → own ≡ begun → start own (bits bytes) ≡ Some e → row_of_bytes read begun bytes ≡ and_then (read e) done_then
started read own begun bytes e same h =
    row_open read begun bytes ∙ then_some (start begun (bits bytes)) e (first_then read) (subst (λ (l : List ℕ). start l (bits bytes) ≡ Some e) same h)

pub no_row : (read : Reader (List ReadCtu)) (own begun bytes : List ℕ) (e : Engine) → own ≡ begun → start own (bits bytes) ≡ Some e → read e ≡ None → row_of_bytes read begun bytes ≡ None
no_row read own begun bytes e same h r = started read own begun bytes e same h ∙ then_none (read e) done_then r

ended_as : (read : Reader (List ReadCtu)) (own begun bytes : List ℕ) (e d : Engine) (cs : List ReadCtu) (done : Bool) → own ≡ begun → start own (bits bytes) ≡ Some e → read e ≡ Some (cs, d) → is_done d ≡ done
    → row_of_bytes read begun bytes ≡ (if done then Some cs else None)
ended_as read own begun bytes e d cs done same h r is = started read own begun bytes e same h ∙ then_some (read e) (cs, d) done_then r ∙ ap (λ (b : Bool). if b then Some cs else None) is

-- ---- what is handed on

hands : (size : Size) (row : ℕ) (given : Option (List ℕ)) (cs : List ReadCtu) → given ≡ second_of cs → length cs ≡ ctus size.w → IsHanded size (row + 1) given (handed_on cs)
hands size row given [] is many = λ below wide. absurd (omega arith)
hands size row given (a ∷ []) is many = λ below wide. absurd (omega arith)
hands size row given (a ∷ b ∷ cs) is many = λ below wide. is

-- ---- what a row starts from

pub starts_first : (kind : SliceKind) (width row : ℕ) (own above : List ℕ) → own ≡ contexts.start kind → row ≡ 0 → own ≡ row_start kind width row above
unfolding row_start
starts_first kind width row own above is first = is ∙ ap (λ (n : ℕ). row_start kind width n above) (sym first)

pub starts_narrow : (kind : SliceKind) (width row : ℕ) (own above : List ℕ) → own ≡ contexts.start kind → width < 2 → own ≡ row_start kind width row above
unfolding row_start
starts_narrow kind width zero own above is narrow = is
starts_narrow kind width (suc row) own above is narrow = is ∙ ap (λ (b : Bool). if b then above else contexts.start kind) (sym (lt-leb 2 width narrow))

contexts_or : Option (List ℕ) → List ℕ
contexts_or None = []
contexts_or (Some l) = l

pub starts_after : (kind : SliceKind) (size : Size) (row : ℕ) (given : Option (List ℕ)) (own above : List ℕ) → given ≡ Some own → IsHanded size row given above → (row ≡ 0 → ⊥) → 2 ≤ ctus size.w → own ≡ row_start kind (ctus size.w) row above
unfolding row_start contexts_or
starts_after kind size zero given own above is handed below wide = absurd (below refl)
starts_after kind size (suc row) given own above is handed below wide =
    ap contexts_or (sym is ∙ handed (omega arith) wide) ∙ ap (λ (b : Bool). if b then above else contexts.start kind) (sym (le-leb 2 (ctus size.w) wide))

-- ---- what is available to the next row

covers_trees : (kind : SliceKind) (size : Size) (ctu : ℕ) (trees : List (List ReadUnit)) (before : List ReadUnit) → length trees ≤ ctus size.w → AreTreesFrom kind size ctu trees → Covers size (map leaf_of before) (ctu * 1024)
    → Covers size (map leaf_of (before ++ joined trees)) ((ctu + length trees) * 1024)
covers_trees kind size ctu [] before few are covers =
    let e : ctu * 1024 ≡ (ctu + 0) * 1024 = omega arith in
    subst (λ (n : ℕ). Covers size (map leaf_of (before ++ [])) n) e (subst (λ (l : List ReadUnit). Covers size (map leaf_of l) (ctu * 1024)) (sym (append-nil before)) covers)
covers_trees kind size ctu (us ∷ trees) before few are covers =
    let wide : 0 < ctus size.w = omega arith in
    let fewer : length trees ≤ ctus size.w = omega arith in
    let order : ctu * 1024 + 1024 ≡ suc ctu * 1024 = omega arith in
    let all : (suc ctu + length trees) * 1024 ≡ (ctu + suc (length trees)) * 1024 = omega arith in
    let here : Covers size (map leaf_of before ++ map leaf_of us) (ctu * 1024 + 1024) = (ctu_covers size ctu (map leaf_of before) (map leaf_of us) wide are.0 covers).covers in
    let next : Covers size (map leaf_of (before ++ us)) (suc ctu * 1024) = subst (λ (n : ℕ). Covers size (map leaf_of (before ++ us)) n) order (subst (λ (l : List Leaf). Covers size l (ctu * 1024 + 1024)) (sym (map-append before us)) here) in
    subst (λ (n : ℕ). Covers size (map leaf_of (before ++ (us ++ joined trees))) n) all
    (subst (λ (l : List ReadUnit). Covers size (map leaf_of l) ((suc ctu + length trees) * 1024)) (append_assoc before us (joined trees)) (covers_trees kind size (suc ctu) trees (before ++ us) fewer are.2 next))

pub row_order : (size : Size) (row : ℕ) → coding_order size 0 (row * 32) ≡ row * ctus size.w * 1024
unfolding coding_order
row_order size row =
    let y1 : row * 32 / 32 ≡ row = omega arith in
    let y2 : row * 32 % 32 ≡ 0 = omega arith in
    rw (y1, y2) (omega arith)

next_available : (kind : SliceKind) (size : Size) (row : ℕ) (units : List ReadUnit) (cs : List ReadCtu) → AreRead kind size (ctus size.w) (row * ctus size.w) cs → HasAvailable size units 0 (row * 32) → HasAvailable size (units ++ units_of cs) 0 ((row + 1) * 32)
next_available kind size row units cs are has =
    let many : length (trees_of cs) ≡ ctus size.w = length-map cs (λ (c : ReadCtu). c.units) ∙ are.many in
    let few : length (trees_of cs) ≤ ctus size.w = omega arith in
    let next : (row * ctus size.w + ctus size.w) * 1024 ≡ (row + 1) * ctus size.w * 1024 = ap (λ (n : ℕ). n * 1024) (one_more row (ctus size.w)) in
    available_from size (units ++ units_of cs) 0 ((row + 1) * 32) ((row + 1) * ctus size.w * 1024) (sym (row_order size (row + 1)))
    (subst (λ (l : List ReadUnit). Covers size (map leaf_of (units ++ l)) ((row + 1) * ctus size.w * 1024)) (trees_joined cs)
    (subst (λ (n : ℕ). Covers size (map leaf_of (units ++ joined (trees_of cs))) n) (ap (λ (n : ℕ). (row * ctus size.w + n) * 1024) many ∙ next)
    (covers_trees kind size (row * ctus size.w) (trees_of cs) units few are.lawful (subst (λ (n : ℕ). Covers size (map leaf_of units) n) (row_order size row) (covers_from size units 0 (row * 32) has)))))
  where
    one_more : (a b : ℕ) → a * b + b ≡ (a + 1) * b
    one_more a b = omega arith

-- ---- rows of either kind

-- what a row read of its bytes does
pub record IsOfRow (kind : SliceKind) (size : Size) (row : ℕ) (read : Reader (List ReadCtu)) : Type 0 where
  yields : Yields (AreRead kind size (ctus size.w) (row * ctus size.w)) read

pub slice_row : (kind : SliceKind) (size : Size) (row : ℕ) (before : List Moving) → AreModes (leaves before) → IsOfRow kind size row (slice_row_read kind size row before)
slice_row kind size row before lawful = record { yields = yields_slice_row kind size row before lawful }

pub segment_row : (kind : SliceKind) (size : Size) (row : ℕ) (before : List Moving) → AreModes (leaves before) → IsOfRow kind size row (segment_row_read kind size row before)
segment_row kind size row before lawful = record { yields = yields_segment_row kind size row before lawful }

-- the bytes go on behind the row, or end too early
pub not_done : (read : Reader (List ReadCtu)) (own begun bytes : List ℕ) (e d : Engine) (given : Option (List ℕ)) (done : Bool) (Holds : List ReadUnit → Type 0) → own ≡ begun → start own (bits bytes) ≡ Some e
    → ReadsRow (Some given) (read e) d Holds → done ≡ is_done d → done ≡ false → row_of_bytes read begun bytes ≡ None
not_done read own begun bytes e d given done Holds same h (cs, r, second, holds) is none = ended_as read own begun bytes e d cs false same h r (sym is ∙ none)

pub row_done : (kind : SliceKind) (size : Size) (row : ℕ) (read : Reader (List ReadCtu)) (own begun bytes : List ℕ) (before : List Moving) (e d : Engine) (given : Option (List ℕ)) (done : Bool) (stood stands : List ReadUnit → Type 0) (cells : modes.Cells) (vectors : motions.Cells)
    → IsOfRow kind size row read → own ≡ begun → start own (bits bytes) ≡ Some e → ReadsRow (Some given) (read e) d (AreTaken stood stands size 0 (row * 32) cells vectors before) → done ≡ is_done d → done ≡ true
    → ReadsRowOf (Some given) (row_of_bytes read begun bytes) size row (IsRowTaken stood stands size row cells vectors before)
row_done kind size row read own begun bytes before e d given done stood stands cells vectors of_row same h (cs, r, second, taken) is all = (
  cs,
  ended_as read own begun bytes e d cs true same h r (sym is ∙ all),
  hands size row given cs second (of_row.yields.from e d cs r).many,
  record {
    taken = λ units stood' has. (taken.taken units stood' has, next_available kind size row units cs (of_row.yields.from e d cs r) has);
    kept = taken.kept;
  },
)
