-- The units that are read of rows, slices and segments are lawful trees, a tree for each coding tree unit.
use Rattle.std.proofs.Common.{◌≡◌, refl, sym, ◌∙◌, ap, subst, ℕ, zero, suc, ◌+◌, ◌*◌, List, [], ◌∷◌, ◌++◌, Bool, true, false, cond, length, length-append, map, append_assoc, append-nil, arith}
use Rattle.std.specs.Prelude.{Option, Some, None, ◌==◌}
use Rattle.std.specs.List.{AllByRecursion}
use Rattle.std.proofs.lemmas.List.{length-map}
use Rattle.std.proofs.lemmas.Grind.{flat_map-append}
use Rattle.h265_model.specs.declared.Place.TheVariants.{Terminate}
use Rattle.h265_model.specs.declared.leaf.SliceKind.{SliceKind}
use Rattle.h265_model.specs.Plain.{Size, ctus, joined}
use Rattle.h265_model.specs.Bits.{bits, ◌>>=◌ as and_then}
use Rattle.h265_model.specs.Engine.{Engine, start, is_done, Reader, give}
use Rattle.h265_model.specs.Contexts.{row_start}
use Rattle.h265_model.specs.Slice.{cut_after, substreams}
use Rattle.h265_model.specs.Tree.{AreModes, expect, is_last, contexts_read}
use Rattle.h265_model.specs.Motion.{Moving, leaves}
use Rattle.h265_model.specs.Tree.{ReadUnit, ReadCtu, moving_of, units_of, units_after, ctu_read, ctus_read, ends_row}
use Rattle.h265_model.specs.Slice.{subset_end, slice_row_read, segment_row_read, handed_on, row_of_bytes, rows_read}
use Rattle.h265_model.proofs.ListParts.{all_append}
use Rattle.read_laws.specs.Laws.{IsSound, AreTreesFrom, IsReadFirst, EachReadSliceIsLawful, EachReadSegmentIsLawful}
use Rattle.read_laws.proofs.Yields.{Yields, yields_give, yields_bind, yields_after, yields_cond, yields_expect}
use Rattle.read_laws.proofs.ReadTrees.{modes_after, yields_ctu}

-- ---- coding tree units one after another

-- the units of each
abbrev pub trees_of : List ReadCtu → List (List ReadUnit)
trees_of cs = map (λ (c : ReadCtu). c.units) cs

pub trees_joined : (cs : List ReadCtu) → joined (trees_of cs) ≡ units_of cs
trees_joined [] = refl
trees_joined (c ∷ cs) = ap (λ (l : List ReadUnit). c.units ++ l) (trees_joined cs)

-- so many, each a lawful tree
pub record AreRead (kind : SliceKind) (size : Size) (n ctu : ℕ) (cs : List ReadCtu) : Type 0 where
  pub many : length cs ≡ n
  pub lawful : AreTreesFrom kind size ctu (trees_of cs)

yields_ctus : (kind : SliceKind) (size : Size) (ends : ℕ → Bool) (n ctu : ℕ) (before : List Moving) → AreModes (leaves before) → Yields (AreRead kind size n ctu) (ctus_read kind size ends n ctu before)
yields_ctus kind size ends zero ctu before modes = yields_give (AreRead kind size zero ctu) [] (record { many = refl; lawful = tt })
yields_ctus kind size ends (suc n) ctu before modes =
    let T : List ReadCtu → Type 0 = AreRead kind size (suc n) ctu in
    yields_bind _ T (ctu_read kind size before ctu) _ (yields_ctu kind size before ctu modes) (λ us h.
    yields_after T contexts_read _ (λ contexts.
    yields_expect T Terminate (ends ctu) _
    (yields_bind (AreRead kind size n (suc ctu)) T (ctus_read kind size ends n (suc ctu) (units_after before us)) _
    (yields_ctus kind size ends n (suc ctu) (units_after before us) (modes_after kind size before us modes h.1))
    (λ others k. yields_give T (record { units = us; contexts = contexts } ∷ others) (record { many = ap suc k.many; lawful = (h.0, h.1, k.lawful) })))))

pub yields_slice_row : (kind : SliceKind) (size : Size) (row : ℕ) (before : List Moving) → AreModes (leaves before) → Yields (AreRead kind size (ctus size.w) (row * ctus size.w)) (slice_row_read kind size row before)
unfolding slice_row_read
yields_slice_row kind size row before modes =
    let T : List ReadCtu → Type 0 = AreRead kind size (ctus size.w) (row * ctus size.w) in
    yields_bind T T (ctus_read kind size (is_last size) (ctus size.w) (row * ctus size.w) before) (subset_end size row) (yields_ctus kind size (is_last size) (ctus size.w) (row * ctus size.w) before modes) (λ read h.
    yields_cond T (row + 1 == ctus size.h) (give read) (expect Terminate true (give read)) (yields_give T read h) (yields_expect T Terminate true (give read) (yields_give T read h)))

pub yields_segment_row : (kind : SliceKind) (size : Size) (row : ℕ) (before : List Moving) → AreModes (leaves before) → Yields (AreRead kind size (ctus size.w) (row * ctus size.w)) (segment_row_read kind size row before)
unfolding segment_row_read
yields_segment_row kind size row before modes = yields_ctus kind size (ends_row size) (ctus size.w) (row * ctus size.w) before modes

-- ---- bytes

pub row_yields : (T : List ReadCtu → Type 0) (read : Reader (List ReadCtu)) (contexts bytes : List ℕ) (cs : List ReadCtu) → Yields T read → row_of_bytes read contexts bytes ≡ Some cs → T cs
unfolding row_of_bytes
row_yields T read contexts bytes cs y h = begun (start contexts (bits bytes)) h
  where
    cs_of : Option (List ReadCtu) → List ReadCtu
    cs_of None = []
    cs_of (Some l) = l

    done : (found left : Engine) (l : List ReadCtu) (b : Bool) → read found ≡ Some (l, left) → cond b (Some l) None ≡ Some cs → T cs
    done found left l true q g = subst T (ap cs_of g) (y.from found left l q)
    done found left l false q g = absurd (cc)

    read_from : (first : Engine) (o : Option (List ReadCtu × Engine)) → read first ≡ o → and_then o (λ r. cond (is_done r.1) (Some r.0) None) ≡ Some cs → T cs
    read_from first None q g = absurd (cc)
    read_from first (Some found) q g = done first found.1 found.0 (is_done found.1) q g

    begun : (o : Option Engine) → and_then o (λ first. and_then (read first) (λ r. cond (is_done r.1) (Some r.0) None)) ≡ Some cs → T cs
    begun None g = absurd (cc)
    begun (Some first) g = read_from first (read first) refl g

-- ---- trees behind trees

trees-append : (kind : SliceKind) (size : Size) (ctu : ℕ) (a b : List (List ReadUnit)) → AreTreesFrom kind size ctu a → AreTreesFrom kind size (ctu + length a) b → AreTreesFrom kind size ctu (a ++ b)
trees-append kind size ctu [] b h k = let e : ctu + 0 ≡ ctu = omega arith in subst (λ (n : ℕ). AreTreesFrom kind size n b) e k
trees-append kind size ctu (us ∷ a) b h k =
    let e : ctu + suc (length a) ≡ suc ctu + length a = omega arith in
    (h.0, h.1, trees-append kind size (suc ctu) a b h.2 (subst (λ (n : ℕ). AreTreesFrom kind size n b) e k))

trees_sound : (kind : SliceKind) (size : Size) (ctu : ℕ) (trees : List (List ReadUnit)) → AreTreesFrom kind size ctu trees → AllByRecursion (IsSound kind size) (joined trees)
trees_sound kind size ctu [] h = tt
trees_sound kind size ctu (us ∷ trees) h = all_append (IsSound kind size) us (joined trees) h.1 (trees_sound kind size (suc ctu) trees h.2)

pub first_sound : (kind : SliceKind) (size : Size) (n : ℕ) (units : List ReadUnit) → IsReadFirst kind size n units → AllByRecursion (IsSound kind size) units
first_sound kind size n units is = subst (AllByRecursion (IsSound kind size)) is.together (trees_sound kind size 0 is.trees is.lawful)

modes_of : (kind : SliceKind) (size : Size) (n : ℕ) (units : List ReadUnit) → IsReadFirst kind size n units → AreModes (leaves (map moving_of units))
modes_of kind size n units is = modes_after kind size [] units tt (first_sound kind size n units is)

-- one more row
first_and : (kind : SliceKind) (size : Size) (n m : ℕ) (units : List ReadUnit) (cs : List ReadCtu) → IsReadFirst kind size n units → AreRead kind size m n cs → IsReadFirst kind size (n + m) (units ++ units_of cs)
first_and kind size n m units cs is more = record {
  trees = is.trees ++ trees_of cs;
  together = flat_map-append (λ (l : List ReadUnit). l) is.trees (trees_of cs) ∙ (ap (λ (l : List ReadUnit). l ++ joined (trees_of cs)) is.together ∙ ap (λ (l : List ReadUnit). units ++ l) (trees_joined cs));
  many = length-append is.trees (trees_of cs) ∙ (ap (λ (k : ℕ). k + length (trees_of cs)) is.many ∙ ap (λ (k : ℕ). n + k) (length-map cs (λ (c : ReadCtu). c.units) ∙ more.many));
  lawful =
      trees-append kind size 0 is.trees (trees_of cs) is.lawful
      (let e : n ≡ 0 + length is.trees = (let m : length is.trees ≡ n = is.many in omega arith) in subst (λ (k : ℕ). AreTreesFrom kind size k (trees_of cs)) e more.lawful);
}

next_row : (row w : ℕ) → row * w + w ≡ (row + 1) * w
next_row row w = omega arith

pub segments_are_lawful : EachReadSegmentIsLawful
segments_are_lawful kind size row before handed bytes read is h =
    let r : AreRead kind size (ctus size.w) (row * ctus size.w) read =
    row_yields (AreRead kind size (ctus size.w) (row * ctus size.w)) (segment_row_read kind size row (map moving_of before)) (row_start kind (ctus size.w) row handed) bytes read
    (yields_segment_row kind size row (map moving_of before) (modes_of kind size (row * ctus size.w) before is)) h in
    subst (λ (n : ℕ). IsReadFirst kind size n (before ++ units_of read)) (next_row row (ctus size.w)) (first_and kind size (row * ctus size.w) (ctus size.w) before read is r)

-- ---- slices

units_or : Option (List ReadUnit) → List ReadUnit
units_or None = []
units_or (Some l) = l

moving-append : (a b : List ReadUnit) → map moving_of (a ++ b) ≡ map moving_of a ++ map moving_of b
moving-append [] b = refl
moving-append (u ∷ a) b = ap (λ (l : List Moving). moving_of u ∷ l) (moving-append a b)

abbrev RowsAre : SliceKind → Size → List (List ℕ) → Type 0
RowsAre kind size rows =
    (row : ℕ) (before units : List ReadUnit) (handed : List ℕ) → IsReadFirst kind size (row * ctus size.w) before → rows_read kind size row (map moving_of before) handed rows ≡ Some units
    → IsReadFirst kind size ((row + length rows) * ctus size.w) (before ++ units)

rows_are : (kind : SliceKind) (size : Size) (rows : List (List ℕ)) → RowsAre kind size rows
unfolding rows_read units_or
rows_are kind size [] row before units handed is h =
    let e : row ≡ row + 0 = omega arith in
    subst (λ (k : ℕ). IsReadFirst kind size (k * ctus size.w) (before ++ units)) e (subst (IsReadFirst kind size (row * ctus size.w)) (sym (append-nil before) ∙ ap (λ (l : List ReadUnit). before ++ l) (ap units_or h)) is)
rows_are kind size (bytes ∷ rows) row before units handed is h = first (rows_are kind size rows) (row_of_bytes (slice_row_read kind size row (map moving_of before)) (row_start kind (ctus size.w) row handed) bytes) refl h
  where
    w : ℕ
    w = ctus size.w

    others_of : RowsAre kind size rows → (read : List ReadCtu) → AreRead kind size w (row * w) read → (o : Option (List ReadUnit)) → rows_read kind size (row + 1) (units_after (map moving_of before) (units_of read)) (handed_on read) rows ≡ o
        → and_then o (λ others. Some (units_of read ++ others)) ≡ Some units → IsReadFirst kind size ((row + suc (length rows)) * w) (before ++ units)
    others_of later read r None q g = absurd (cc)
    others_of later read r (Some others) q g =
        let next : IsReadFirst kind size ((row + 1) * w) (before ++ units_of read) =
        subst (λ (n : ℕ). IsReadFirst kind size n (before ++ units_of read)) (next_row row w) (first_and kind size (row * w) w before read is r) in
        let all : IsReadFirst kind size (((row + 1) + length rows) * w) ((before ++ units_of read) ++ others) =
        later (row + 1) (before ++ units_of read) others (handed_on read) next (ap (λ (b : List Moving). rows_read kind size (row + 1) b (handed_on read) rows) (moving-append before (units_of read)) ∙ q) in
        let e : (row + 1) + length rows ≡ row + suc (length rows) = omega arith in
        subst (λ (k : ℕ). IsReadFirst kind size (k * w) (before ++ units)) e
        (subst (IsReadFirst kind size (((row + 1) + length rows) * w)) (append_assoc before (units_of read) others ∙ ap (λ (l : List ReadUnit). before ++ l) (ap units_or g)) all)

    first : RowsAre kind size rows → (o : Option (List ReadCtu)) → row_of_bytes (slice_row_read kind size row (map moving_of before)) (row_start kind (ctus size.w) row handed) bytes ≡ o
        → and_then o (λ read. and_then (rows_read kind size (row + 1) (units_after (map moving_of before) (units_of read)) (handed_on read) rows) (λ others. Some (units_of read ++ others))) ≡ Some units
        → IsReadFirst kind size ((row + suc (length rows)) * w) (before ++ units)
    first later None q g = absurd (cc)
    first later (Some read) q g =
        others_of later read
        (row_yields (AreRead kind size w (row * w)) (slice_row_read kind size row (map moving_of before)) (row_start kind w row handed) bytes read
        (yields_slice_row kind size row (map moving_of before) (modes_of kind size (row * w) before is)) q)
        (rows_read kind size (row + 1) (units_after (map moving_of before) (units_of read)) (handed_on read) rows) refl g

-- ---- substreams

rows_or : Option (List (List ℕ)) → List (List ℕ)
rows_or None = []
rows_or (Some l) = l

substreams_many : (offsets bytes : List ℕ) (rows : List (List ℕ)) → substreams offsets bytes ≡ Some rows → length rows ≡ length offsets + 1
unfolding substreams rows_or
substreams_many [] bytes rows h = ap (λ (o : Option (List (List ℕ))). length (rows_or o)) (sym h)
substreams_many (offset ∷ offsets) bytes rows h = cut (cut_after 255 255 offset bytes) (λ b rs. substreams_many offsets b rs) h
  where
    rest_of : (row : List ℕ) (o : Option (List (List ℕ))) → ((rs : List (List ℕ)) → o ≡ Some rs → length rs ≡ length offsets + 1) → and_then o (λ others. Some (row ∷ others)) ≡ Some rows → length rows ≡ suc (length offsets) + 1
    rest_of row None later g = absurd (cc)
    rest_of row (Some others) later g =
        let e : suc (length others) ≡ length rows = ap (λ (o : Option (List (List ℕ))). length (rows_or o)) g in
        let k : length others ≡ length offsets + 1 = later others refl in
        omega arith

    cut : (o : Option (List ℕ × List ℕ)) → ((b : List ℕ) (rs : List (List ℕ)) → substreams offsets b ≡ Some rs → length rs ≡ length offsets + 1)
        → and_then o (λ c. and_then (substreams offsets c.1) (λ others. Some (c.0 ∷ others))) ≡ Some rows → length rows ≡ suc (length offsets) + 1
    cut None later g = absurd (cc)
    cut (Some c) later g = rest_of c.0 (substreams offsets c.1) (later c.1) g

none_first : (kind : SliceKind) (size : Size) → IsReadFirst kind size (0 * ctus size.w) []
none_first kind size = record { trees = []; together = refl; many = (let e : 0 ≡ 0 * ctus size.w = omega arith in e); lawful = tt }

pub slices_are_lawful : EachReadSliceIsLawful
slices_are_lawful kind size offsets bytes units many h = go (substreams offsets bytes) refl h
  where
    turned : (a b : ℕ) → (0 + a) * b ≡ b * a
    turned a b = omega arith

    go : (o : Option (List (List ℕ))) → substreams offsets bytes ≡ o → and_then o (λ rows. rows_read kind size 0 [] [] rows) ≡ Some units → IsReadFirst kind size (ctus size.w * ctus size.h) units
    go None q g = absurd (cc)
    go (Some rows) q g =
        let all : IsReadFirst kind size ((0 + length rows) * ctus size.w) units = rows_are kind size rows 0 [] units [] (none_first kind size) g in
        let n : length rows ≡ ctus size.h = substreams_many offsets bytes rows q ∙ many in
        subst (λ (k : ℕ). IsReadFirst kind size k units) (ap (λ (k : ℕ). (0 + k) * ctus size.w) n ∙ turned (ctus size.h) (ctus size.w)) all
