-- Rows of a slice, cut and read one after another.
use Rattle.std.proofs.Common.{◌≡◌, refl, sym, ◌∙◌, ap, subst, ℕ, suc, ◌+◌, ◌*◌, ◌<◌, ◌≤◌, Some, None, Option, List, [], ◌∷◌, ◌++◌, length, map, take, drop, get_or, append_assoc, append-nil, drop-cons, drop_of_length-le, arith}
use Rattle.std.proofs.lemmas.List.{map-append as maps_append}
use Rattle.h265_model.specs.declared.leaf.SliceKind.{SliceKind}
use Rattle.h265_model.specs.Bits.{◌>>=◌ as and_then}
use Rattle.h265_model.specs.Contexts.{row_start}
use Rattle.h265_model.specs.Plain.{Size, ctus}
use Rattle.h265_model.specs.Motion.{Moving}
use Rattle.h265_model.specs.Slice.{cut_after, substreams, row_of_bytes, rows_read, slice_row_read, slice_read, handed_on}
use Rattle.h265_model.specs.Tree.{ReadUnit, ReadCtu, units_of, units_after, moving_of}
use Rattle.residual_read.proofs.Steps.{then_some, then_none}
use Rattle.leaf_sink.specs.Units.{HasAvailable}
use Rattle.pu_code.specs.Cells as modes
use Rattle.motion_grid.specs.Cells as motions
use Rattle.unit_read.specs.Units.{AreKept}
use Rattle.tree_read.proofs.TreeReads.{available_from}
use Rattle.slice_read.specs.Slices.{IsHanded, ReadsRowOf, IsRowTaken, IsSliceTaken, rows_cut}
use Rattle.slice_read.proofs.RowBytes.{row_order}

-- ---- cutting and reading by rows

abbrev units_then : List ReadUnit → List ReadUnit → Option (List ReadUnit)
units_then front others = Some (front ++ others)

abbrev rows_then : SliceKind → Size → ℕ → List Moving → List ℕ → List (List ℕ) → Option (List ReadUnit)
rows_then kind size row before above rows = rows_read kind size row before above rows

-- what follows a cut
abbrev cut_then : SliceKind → Size → ℕ → List Moving → List ℕ → List ℕ → List ℕ × List ℕ → Option (List ReadUnit)
cut_then kind size row before above offsets cut =
    and_then (row_of_bytes (slice_row_read kind size row before) (row_start kind (ctus size.w) row above) cut.0) (λ read.
    and_then (rows_cut kind size (row + 1) (units_after before (units_of read)) (handed_on read) offsets cut.1) (units_then (units_of read)))

rows_open : (kind : SliceKind) (size : Size) (row : ℕ) (before : List Moving) (above : List ℕ) (offset : ℕ) (offsets bytes : List ℕ)
    → rows_cut kind size row before above (offset ∷ offsets) bytes ≡ and_then (cut_after 255 255 offset bytes) (cut_then kind size row before above offsets)
unfolding rows_cut
rows_open kind size row before above offset offsets bytes = refl

-- cutting all of the bytes first gives the same
rows_as_cut : (kind : SliceKind) (size : Size) (row : ℕ) (before : List Moving) (above offsets bytes : List ℕ)
    → rows_cut kind size row before above offsets bytes ≡ and_then (substreams offsets bytes) (rows_then kind size row before above)
unfolding rows_cut substreams rows_read
rows_as_cut kind size row before above [] bytes = refl
rows_as_cut kind size row before above (offset ∷ offsets) bytes = go (λ read rest. rows_as_cut kind size (row + 1) (units_after before (units_of read)) (handed_on read) offsets rest) (cut_after 255 255 offset bytes)
  where
    Later : Type 0
    Later = (read : List ReadCtu) (rest : List ℕ)
        → rows_cut kind size (row + 1) (units_after before (units_of read)) (handed_on read) offsets rest ≡ and_then (substreams offsets rest) (rows_then kind size (row + 1) (units_after before (units_of read)) (handed_on read))

    read_of : List ℕ → Option (List ReadCtu)
    read_of front = row_of_bytes (slice_row_read kind size row before) (row_start kind (ctus size.w) row above) front

    later : Later → (rest : List ℕ) (r : Option (List ReadCtu))
        → and_then r (λ read. and_then (rows_cut kind size (row + 1) (units_after before (units_of read)) (handed_on read) offsets rest) (units_then (units_of read)))
        ≡ and_then r (λ read. and_then (and_then (substreams offsets rest) (rows_then kind size (row + 1) (units_after before (units_of read)) (handed_on read))) (units_then (units_of read)))
    later each rest None = refl
    later each rest (Some read) = ap (λ (o : Option (List ReadUnit)). and_then o (units_then (units_of read))) (each read rest)

    swapped : (r : Option (List ReadCtu)) (o : Option (List (List ℕ)))
        → and_then r (λ read. and_then (and_then o (rows_then kind size (row + 1) (units_after before (units_of read)) (handed_on read))) (units_then (units_of read)))
        ≡ and_then o (λ rows. and_then r (λ read. and_then (rows_read kind size (row + 1) (units_after before (units_of read)) (handed_on read) rows) (units_then (units_of read))))
    swapped None None = refl
    swapped None (Some rows) = refl
    swapped (Some read) None = refl
    swapped (Some read) (Some rows) = refl

    out : (front : List ℕ) (o : Option (List (List ℕ)))
        → and_then o (λ rows. and_then (read_of front) (λ read. and_then (rows_read kind size (row + 1) (units_after before (units_of read)) (handed_on read) rows) (units_then (units_of read))))
        ≡ and_then (and_then o (λ others. Some (front ∷ others))) (rows_then kind size row before above)
    out front None = refl
    out front (Some rows) = refl

    go : Later → (o : Option (List ℕ × List ℕ)) → and_then o (cut_then kind size row before above offsets) ≡ and_then (and_then o (λ cut. and_then (substreams offsets cut.1) (λ others. Some (cut.0 ∷ others)))) (rows_then kind size row before above)
    go each None = refl
    go each (Some cut) = later each cut.1 (read_of cut.0) ∙ swapped (read_of cut.0) (substreams offsets cut.1) ∙ out cut.0 (substreams offsets cut.1)

pub slice_as : (kind : SliceKind) (size : Size) (offsets bytes : List ℕ) → slice_read kind size offsets bytes ≡ rows_cut kind size 0 [] [] offsets bytes
slice_as kind size offsets bytes = sym (rows_as_cut kind size 0 [] [] offsets bytes)

-- ---- rows so far

-- the rows above this one were cut, read and taken, and what the last one handed on is given
pub record IsReadTo (kind : SliceKind) (size : Size) (offsets bytes : List ℕ) (row : ℕ) (stood stands : List ReadUnit → Type 0) (cells : modes.Cells) (vectors : motions.Cells) (given : Option (List ℕ)) (rest : List ℕ) : Type 0 where
  pub front : List ReadUnit
  pub above : List ℕ
  pub reads : slice_read kind size offsets bytes ≡ and_then (rows_cut kind size row (map moving_of front) above (drop row offsets) rest) (units_then front)
  pub handed : IsHanded size row given above
  pub kept : AreKept cells vectors (map moving_of front)
  pub taken : stood [] → stands front × HasAvailable size front 0 (row * 32)

-- what a row does
abbrev pub Step : SliceKind → Size → ℕ → Option (List ℕ) → Option (Option (List ℕ)) → List ℕ → (List ReadUnit → Type 0) → (List ReadUnit → Type 0) → modes.Cells → motions.Cells → modes.Cells → motions.Cells → Type 0
Step kind size row given result bytes stood stands cells vectors new_cells new_vectors =
    (before : List Moving) (above : List ℕ) → IsHanded size row given above → AreKept cells vectors before
    → ReadsRowOf result (row_of_bytes (slice_row_read kind size row before) (row_start kind (ctus size.w) row above) bytes) size row (IsRowTaken stood stands size row new_cells new_vectors before)

nothing_then : (o : Option (List ReadUnit)) → o ≡ and_then o (units_then [])
nothing_then None = refl
nothing_then (Some units) = refl

-- nothing is available to the first row
pub none_available : (size : Size) → HasAvailable size [] 0 (0 * 32)
none_available size = available_from size [] 0 (0 * 32) (0 * ctus size.w * 1024) (sym (row_order size 0)) (record { each = λ x y within less. let none : 0 * ctus size.w * 1024 ≡ 0 = omega arith in absurd (omega arith) })

pub none_read : (kind : SliceKind) (size : Size) (offsets bytes : List ℕ) (stood : List ReadUnit → Type 0) (cells : modes.Cells) (vectors : motions.Cells) (given : Option (List ℕ)) → AreKept cells vectors []
    → IsReadTo kind size offsets bytes 0 stood stood cells vectors given bytes
none_read kind size offsets bytes stood cells vectors given are = record {
  front = [];
  above = [];
  reads = slice_as kind size offsets bytes ∙ nothing_then (rows_cut kind size 0 [] [] offsets bytes);
  handed = λ below wide. absurd (omega arith);
  kept = are;
  taken = λ stands. (stands, none_available size);
}

-- the next offset comes first
offset_first : (offsets : List ℕ) (row offset : ℕ) → row < length offsets → offset ≡ get_or offsets row 0 → drop row offsets ≡ offset ∷ drop (row + 1) offsets
offset_first offsets row offset less is =
    let next : suc row ≡ row + 1 = omega arith in
    drop-cons offsets row 0 less ∙ ap (λ (n : ℕ). n ∷ drop (suc row) offsets) (sym is) ∙ ap (λ (n : ℕ). offset ∷ drop n offsets) next

-- what is left to be read begins with a cut
opened : (kind : SliceKind) (size : Size) (offsets bytes : List ℕ) (row offset : ℕ) (stood stands : List ReadUnit → Type 0) (cells : modes.Cells) (vectors : motions.Cells) (given : Option (List ℕ)) (rest : List ℕ)
    → row < length offsets → offset ≡ get_or offsets row 0 → (t : IsReadTo kind size offsets bytes row stood stands cells vectors given rest)
    → slice_read kind size offsets bytes ≡ and_then (and_then (cut_after 255 255 offset rest) (cut_then kind size row (map moving_of t.front) t.above (drop (row + 1) offsets))) (units_then t.front)
opened kind size offsets bytes row offset stood stands cells vectors given rest less is t =
    t.reads ∙ ap (λ o. and_then o (units_then t.front))
    (ap (λ (l : List ℕ). rows_cut kind size row (map moving_of t.front) t.above l rest) (offset_first offsets row offset less is) ∙ rows_open kind size row (map moving_of t.front) t.above offset (drop (row + 1) offsets) rest)

pub not_cut : (kind : SliceKind) (size : Size) (offsets bytes : List ℕ) (row offset : ℕ) (stood stands : List ReadUnit → Type 0) (cells : modes.Cells) (vectors : motions.Cells) (given : Option (List ℕ)) (rest : List ℕ)
    → row < length offsets → offset ≡ get_or offsets row 0 → IsReadTo kind size offsets bytes row stood stands cells vectors given rest → cut_after 255 255 offset rest ≡ None → slice_read kind size offsets bytes ≡ None
not_cut kind size offsets bytes row offset stood stands cells vectors given rest less is t none =
    opened kind size offsets bytes row offset stood stands cells vectors given rest less is t
    ∙ ap (λ o. and_then o (units_then t.front)) (then_none (cut_after 255 255 offset rest) (cut_then kind size row (map moving_of t.front) t.above (drop (row + 1) offsets)) none)

after_cut : (kind : SliceKind) (size : Size) (offsets bytes : List ℕ) (row offset at : ℕ) (stood stands : List ReadUnit → Type 0) (cells : modes.Cells) (vectors : motions.Cells) (given : Option (List ℕ)) (rest : List ℕ)
    → row < length offsets → offset ≡ get_or offsets row 0 → (t : IsReadTo kind size offsets bytes row stood stands cells vectors given rest) → cut_after 255 255 offset rest ≡ Some (take at rest, drop at rest)
    → slice_read kind size offsets bytes ≡ and_then (cut_then kind size row (map moving_of t.front) t.above (drop (row + 1) offsets) (take at rest, drop at rest)) (units_then t.front)
after_cut kind size offsets bytes row offset at stood stands cells vectors given rest less is t some =
    opened kind size offsets bytes row offset stood stands cells vectors given rest less is t
    ∙ ap (λ o. and_then o (units_then t.front)) (then_some (cut_after 255 255 offset rest) (take at rest, drop at rest) (cut_then kind size row (map moving_of t.front) t.above (drop (row + 1) offsets)) some)

-- what follows a row
abbrev row_then : SliceKind → Size → ℕ → List Moving → List ℕ → List ℕ → List ReadCtu → Option (List ReadUnit)
row_then kind size row before offsets rest read = and_then (rows_cut kind size (row + 1) (units_after before (units_of read)) (handed_on read) offsets rest) (units_then (units_of read))

pub row_fails : (kind : SliceKind) (size : Size) (offsets bytes : List ℕ) (row offset at : ℕ) (stood stands next : List ReadUnit → Type 0) (cells : modes.Cells) (vectors : motions.Cells) (new_cells : modes.Cells) (new_vectors : motions.Cells) (given : Option (List ℕ)) (rest : List ℕ)
    → row < length offsets → offset ≡ get_or offsets row 0 → IsReadTo kind size offsets bytes row stood stands cells vectors given rest → cut_after 255 255 offset rest ≡ Some (take at rest, drop at rest)
    → Step kind size row given None (take at rest) stands next cells vectors new_cells new_vectors → slice_read kind size offsets bytes ≡ None
row_fails kind size offsets bytes row offset at stood stands next cells vectors new_cells new_vectors given rest less is t some step =
    after_cut kind size offsets bytes row offset at stood stands cells vectors given rest less is t some
    ∙ ap (λ o. and_then o (units_then t.front))
    (then_none (row_of_bytes (slice_row_read kind size row (map moving_of t.front)) (row_start kind (ctus size.w) row t.above) (take at rest)) (row_then kind size row (map moving_of t.front) (drop (row + 1) offsets) (drop at rest)) (step (map moving_of t.front) t.above t.handed t.kept))

fronts : (o : Option (List ReadUnit)) (front us : List ReadUnit) → and_then (and_then o (units_then us)) (units_then front) ≡ and_then o (units_then (front ++ us))
fronts None front us = refl
fronts (Some others) front us = ap (λ (l : List ReadUnit). Some l) (sym (append_assoc front us others))

pub row_more : (kind : SliceKind) (size : Size) (offsets bytes : List ℕ) (row offset at : ℕ) (stood stands next : List ReadUnit → Type 0) (cells : modes.Cells) (vectors : motions.Cells) (new_cells : modes.Cells) (new_vectors : motions.Cells) (given on : Option (List ℕ)) (rest : List ℕ)
    → row < length offsets → offset ≡ get_or offsets row 0 → IsReadTo kind size offsets bytes row stood stands cells vectors given rest → cut_after 255 255 offset rest ≡ Some (take at rest, drop at rest)
    → Step kind size row given (Some on) (take at rest) stands next cells vectors new_cells new_vectors → IsReadTo kind size offsets bytes (row + 1) stood next new_cells new_vectors on (drop at rest)
row_more kind size offsets bytes row offset at stood stands next cells vectors new_cells new_vectors given on rest less is t some step = go (step (map moving_of t.front) t.above t.handed t.kept)
  where
    before : List Moving
    before = map moving_of t.front

    go : ReadsRowOf (Some on) (row_of_bytes (slice_row_read kind size row before) (row_start kind (ctus size.w) row t.above) (take at rest)) size row (IsRowTaken stands next size row new_cells new_vectors before)
        → IsReadTo kind size offsets bytes (row + 1) stood next new_cells new_vectors on (drop at rest)
    go (cs, read, hands, took) = record {
      front = t.front ++ units_of cs;
      above = handed_on cs;
      reads = after_cut kind size offsets bytes row offset at stood stands cells vectors given rest less is t some
          ∙ ap (λ o. and_then o (units_then t.front)) (then_some (row_of_bytes (slice_row_read kind size row before) (row_start kind (ctus size.w) row t.above) (take at rest)) cs (row_then kind size row before (drop (row + 1) offsets) (drop at rest)) read)
          ∙ fronts (rows_cut kind size (row + 1) (units_after before (units_of cs)) (handed_on cs) (drop (row + 1) offsets) (drop at rest)) t.front (units_of cs)
          ∙ ap (λ (l : List Moving). and_then (rows_cut kind size (row + 1) l (handed_on cs) (drop (row + 1) offsets) (drop at rest)) (units_then (t.front ++ units_of cs))) (sym (maps_append moving_of t.front (units_of cs)));
      handed = hands;
      kept = subst (λ (l : List Moving). AreKept new_cells new_vectors l) (sym (maps_append moving_of t.front (units_of cs))) took.kept;
      taken = λ stood'. let p = t.taken stood' in took.taken t.front p.0 p.1;
    }

-- ---- the last row

last_open : (kind : SliceKind) (size : Size) (offsets bytes : List ℕ) (row : ℕ) (stood stands : List ReadUnit → Type 0) (cells : modes.Cells) (vectors : motions.Cells) (given : Option (List ℕ)) (rest : List ℕ)
    → row ≡ length offsets → (t : IsReadTo kind size offsets bytes row stood stands cells vectors given rest)
    → slice_read kind size offsets bytes
    ≡ and_then (and_then (row_of_bytes (slice_row_read kind size row (map moving_of t.front)) (row_start kind (ctus size.w) row t.above) rest) (λ read. Some (units_of read ++ []))) (units_then t.front)
unfolding rows_cut rows_read
last_open kind size offsets bytes row stood stands cells vectors given rest full t =
    let past : length offsets ≤ row = omega arith in
    t.reads ∙ ap (λ (l : List ℕ). and_then (rows_cut kind size row (map moving_of t.front) t.above l rest) (units_then t.front)) (drop_of_length-le offsets past)

abbrev units_all : List ReadCtu → Option (List ReadUnit)
units_all read = Some (units_of read ++ [])

pub last_fails : (kind : SliceKind) (size : Size) (offsets bytes : List ℕ) (row : ℕ) (stood stands next : List ReadUnit → Type 0) (cells : modes.Cells) (vectors : motions.Cells) (new_cells : modes.Cells) (new_vectors : motions.Cells) (given : Option (List ℕ)) (rest : List ℕ)
    → row ≡ length offsets → IsReadTo kind size offsets bytes row stood stands cells vectors given rest → Step kind size row given None rest stands next cells vectors new_cells new_vectors → slice_read kind size offsets bytes ≡ None
last_fails kind size offsets bytes row stood stands next cells vectors new_cells new_vectors given rest full t step =
    last_open kind size offsets bytes row stood stands cells vectors given rest full t
    ∙ ap (λ o. and_then o (units_then t.front)) (then_none (row_of_bytes (slice_row_read kind size row (map moving_of t.front)) (row_start kind (ctus size.w) row t.above) rest) units_all (step (map moving_of t.front) t.above t.handed t.kept))

pub all_read : (kind : SliceKind) (size : Size) (offsets bytes : List ℕ) (row : ℕ) (stood stands next : List ReadUnit → Type 0) (cells : modes.Cells) (vectors : motions.Cells) (new_cells : modes.Cells) (new_vectors : motions.Cells) (given on : Option (List ℕ)) (rest : List ℕ)
    → row ≡ length offsets → IsReadTo kind size offsets bytes row stood stands cells vectors given rest → Step kind size row given (Some on) rest stands next cells vectors new_cells new_vectors
    → (units : List ReadUnit) × (slice_read kind size offsets bytes ≡ Some units) × IsSliceTaken stood next new_cells new_vectors units
all_read kind size offsets bytes row stood stands next cells vectors new_cells new_vectors given on rest full t step = go (step (map moving_of t.front) t.above t.handed t.kept)
  where
    before : List Moving
    before = map moving_of t.front

    go : ReadsRowOf (Some on) (row_of_bytes (slice_row_read kind size row before) (row_start kind (ctus size.w) row t.above) rest) size row (IsRowTaken stands next size row new_cells new_vectors before)
        → (units : List ReadUnit) × (slice_read kind size offsets bytes ≡ Some units) × IsSliceTaken stood next new_cells new_vectors units
    go (cs, read, hands, took) = (
      t.front ++ units_of cs,
      last_open kind size offsets bytes row stood stands cells vectors given rest full t
          ∙ ap (λ o. and_then o (units_then t.front)) (then_some (row_of_bytes (slice_row_read kind size row before) (row_start kind (ctus size.w) row t.above) rest) cs units_all read)
          ∙ ap (λ (l : List ReadUnit). Some (t.front ++ l)) (append-nil (units_of cs)),
      record {
        taken = λ stood'. let p = t.taken stood' in (took.taken t.front p.0 p.1).0;
        kept = subst (λ (l : List Moving). AreKept new_cells new_vectors l) (sym (maps_append moving_of t.front (units_of cs))) took.kept;
      },
    )
