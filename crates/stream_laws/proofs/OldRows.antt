-- What the reading of rows without moves reads is read in the same way where blocks may move.
use Rattle.std.proofs.Common.{◌≡◌, refl, sym, ◌∙◌, ap, subst, ℕ, zero, suc, ◌+◌, ◌*◌, List, [], ◌∷◌, ◌++◌, Bool, true, false, cond, append_assoc}
use Rattle.std.specs.Prelude.{Option, Some, None, map, ◌==◌}
use Rattle.std.specs.List.{flat_map}
use Rattle.h265_model.specs.declared.Place.TheVariants.{Terminate}
use Rattle.h265_model.specs.declared.leaf.SliceKind.{SliceKind}
use Rattle.h265_model.specs.declared.leaf.Leaf.{Leaf}
use Rattle.h265_model.specs.Plain.{Size, ctus, joined}
use Rattle.h265_model.specs.Bits.{◌>>=◌ as and_then, bits}
use Rattle.h265_model.specs.Engine.{Engine, start, is_done, Reader, give}
use Rattle.h265_model.specs.Contexts.{row_start}
use Rattle.h265_laws.proofs.LeafReading as Tree
use Rattle.h265_model.specs.Tree.{expect, is_last, contexts_read}
use Rattle.h265_laws.proofs.LeafDecoding as Slice
use Rattle.h265_model.specs.Slice.{substreams}
use Rattle.h265_model.specs.Motion.{Moving, leaves}
use Rattle.h265_model.specs.Tree.{ReadUnit, ReadCtu, units_of, units_after, ctus_read}
use Rattle.h265_model.specs.Slice.{subset_end, slice_row_read, handed_on, row_of_bytes, rows_read, slice_read}
use Rattle.stream_laws.proofs.OldTree.{Refines, refines_same, refines_give, refines_bind, refines_expect, refines_cond, units_as, AreStill, after_as, after_still, as-append, ctu_refines}

abbrev pub ctu_as : Tree.ReadCtu → ReadCtu
ctu_as c = record { units = units_as c.leaves; contexts = c.contexts }

abbrev pub ctus_as : List Tree.ReadCtu → List ReadCtu
ctus_as cs = map ctu_as cs

-- the leaves of some coding tree units
abbrev pub all_of : List Tree.ReadCtu → List Tree.ReadLeaf
all_of cs = flat_map (λ (c : Tree.ReadCtu). c.leaves) cs

ctus_refine : (kind : SliceKind) (size : Size) (n ctu : ℕ) (before : List Moving) → AreStill before
    → Refines ctus_as (Tree.ctus_read kind size n ctu (leaves before)) (ctus_read kind size (is_last size) n ctu before)
ctus_refine kind size zero ctu before still = refines_give ctus_as [] [] refl
ctus_refine kind size (suc n) ctu before still =
    refines_bind units_as ctus_as _ _ _ _ (ctu_refines kind size before ctu still) (λ read.
    refines_bind (λ a. a) ctus_as contexts_read _ _ _ (refines_same _) (λ contexts.
    refines_expect ctus_as Terminate (is_last size ctu) _ _
    (refines_bind ctus_as ctus_as _ _ _ _
    (subst (λ (l : List Leaf). Refines ctus_as (Tree.ctus_read kind size n (suc ctu) l) (ctus_read kind size (is_last size) n (suc ctu) (units_after before (units_as read)))) (after_as before read)
    (ctus_refine kind size n (suc ctu) (units_after before (units_as read)) (after_still before read still)))
    (λ others. refines_give ctus_as (record { leaves = read; contexts = contexts } ∷ others) (record { units = units_as read; contexts = contexts } ∷ ctus_as others) refl))))

row_refines : (kind : SliceKind) (size : Size) (row : ℕ) (before : List Moving) (above : List (List Leaf)) → leaves before ≡ joined above → AreStill before
    → Refines ctus_as (Tree.read_row kind size row above) (slice_row_read kind size row before)
unfolding Tree.read_row slice_row_read
row_refines kind size row before above e still =
    refines_bind ctus_as ctus_as _ _ _ (subset_end size row)
    (subst (λ (l : List Leaf). Refines ctus_as (Tree.ctus_read kind size (ctus size.w) (row * ctus size.w) l) (ctus_read kind size (is_last size) (ctus size.w) (row * ctus size.w) before)) e
    (ctus_refine kind size (ctus size.w) (row * ctus size.w) before still))
    (λ read. refines_cond ctus_as (row + 1 == ctus size.h) (give read) (expect Terminate true (give read)) (give (ctus_as read)) (expect Terminate true (give (ctus_as read)))
    (refines_give ctus_as read (ctus_as read) refl) (refines_expect ctus_as Terminate true _ _ (refines_give ctus_as read (ctus_as read) refl)))

-- ---- a row of bytes

row_bytes : (kind : SliceKind) (size : Size) (row : ℕ) (before : List Moving) (above : List (List Leaf)) (handed bytes : List ℕ) (cs : List Tree.ReadCtu)
    → leaves before ≡ joined above → AreStill before → Slice.row_read kind size row above handed bytes ≡ Some cs
    → row_of_bytes (slice_row_read kind size row before) (row_start kind (ctus size.w) row handed) bytes ≡ Some (ctus_as cs)
unfolding Slice.row_read row_of_bytes
row_bytes kind size row before above handed bytes cs e still h = begun (start (row_start kind (ctus size.w) row handed) (bits bytes)) h
  where
    new : Reader (List ReadCtu)
    new = slice_row_read kind size row before

    old : Reader (List Tree.ReadCtu)
    old = Tree.read_row kind size row above

    done : (first left : Engine) (found : List Tree.ReadCtu) (b : Bool) → is_done left ≡ b → old first ≡ Some (found, left) → cond b (Some found) None ≡ Some cs
        → and_then (new first) (λ read. cond (is_done read.1) (Some read.0) None) ≡ Some (ctus_as cs)
    done first left found true q o g =
        ap (λ x. and_then x (λ read. cond (is_done read.1) (Some read.0) None)) ((row_refines kind size row before above e still).from first left found o)
        ∙ (ap (λ (t : Bool). cond t (Some (ctus_as found)) None) q ∙ ap (as_ctus) g)
      where
        as_ctus : Option (List Tree.ReadCtu) → Option (List ReadCtu)
        as_ctus None = None
        as_ctus (Some x) = Some (ctus_as x)
    done first left found false q o g = absurd (cc)

    read_from : (first : Engine) (o : Option (List Tree.ReadCtu × Engine)) → old first ≡ o → and_then o (λ read. cond (is_done read.1) (Some read.0) None) ≡ Some cs
        → and_then (new first) (λ read. cond (is_done read.1) (Some read.0) None) ≡ Some (ctus_as cs)
    read_from first None o g = absurd (cc)
    read_from first (Some found) o g = done first found.1 found.0 (is_done found.1) refl o g

    begun : (s : Option Engine) → and_then s (λ first. and_then (old first) (λ read. cond (is_done read.1) (Some read.0) None)) ≡ Some cs
        → and_then s (λ first. and_then (new first) (λ read. cond (is_done read.1) (Some read.0) None)) ≡ Some (ctus_as cs)
    begun None g = absurd (cc)
    begun (Some first) g = read_from first (old first) refl g

-- ---- all rows

all-append : (a b : List Tree.ReadCtu) → all_of (a ++ b) ≡ all_of a ++ all_of b
all-append [] b = refl
all-append (c ∷ a) b = ap (λ (l : List Tree.ReadLeaf). c.leaves ++ l) (all-append a b) ∙ sym (append_assoc c.leaves (all_of a) (all_of b))

units_all : (cs : List Tree.ReadCtu) → units_of (ctus_as cs) ≡ units_as (all_of cs)
units_all [] = refl
units_all (c ∷ cs) = ap (λ (l : List ReadUnit). units_as c.leaves ++ l) (units_all cs) ∙ sym (as-append c.leaves (all_of cs))

handed_all : (cs : List Tree.ReadCtu) → handed_on (ctus_as cs) ≡ Slice.handed_on cs
handed_all [] = refl
handed_all (a ∷ []) = refl
handed_all (a ∷ b ∷ cs) = refl

joined-append : (a b : List (List Leaf)) → joined (a ++ b) ≡ joined a ++ joined b
joined-append [] b = refl
joined-append (l ∷ a) b = ap (λ (rest : List Leaf). l ++ rest) (joined-append a b) ∙ sym (append_assoc l (joined a) (joined b))

map-leaves : (a b : List Tree.ReadLeaf) → map Tree.leaf_of (a ++ b) ≡ map Tree.leaf_of a ++ map Tree.leaf_of b
map-leaves [] b = refl
map-leaves (r ∷ a) b = ap (λ (l : List Leaf). Tree.leaf_of r ∷ l) (map-leaves a b)

joined_all : (cs : List Tree.ReadCtu) → joined (Slice.leaves_of cs) ≡ map Tree.leaf_of (all_of cs)
joined_all [] = refl
joined_all (c ∷ cs) = ap (λ (l : List Leaf). map Tree.leaf_of c.leaves ++ l) (joined_all cs) ∙ sym (map-leaves c.leaves (all_of cs))

-- what stands before the next row
next_before : (before : List Moving) (above : List (List Leaf)) (cs : List Tree.ReadCtu) → leaves before ≡ joined above
    → leaves (units_after before (units_of (ctus_as cs))) ≡ joined (above ++ Slice.leaves_of cs)
next_before before above cs e =
    ap (λ (us : List ReadUnit). leaves (units_after before us)) (units_all cs)
    ∙ (after_as before (all_of cs)
    ∙ (ap (λ (l : List Leaf). l ++ map Tree.leaf_of (all_of cs)) e
    ∙ (ap (λ (l : List Leaf). joined above ++ l) (sym (joined_all cs)) ∙ sym (joined-append above (Slice.leaves_of cs)))))

next_still : (before : List Moving) (cs : List Tree.ReadCtu) → AreStill before → AreStill (units_after before (units_of (ctus_as cs)))
next_still before cs h = subst (λ (us : List ReadUnit). AreStill (units_after before us)) (sym (units_all cs)) (after_still before (all_of cs) h)

abbrev Rows : SliceKind → Size → List (List ℕ) → Type 0
Rows kind size rows =
    (row : ℕ) (before : List Moving) (above : List (List Leaf)) (handed : List ℕ) (cs : List Tree.ReadCtu) → leaves before ≡ joined above → AreStill before
    → Slice.read_rows kind size row above handed rows ≡ Some cs → rows_read kind size row before handed rows ≡ Some (units_as (all_of cs))

some_all : (cs ds : List Tree.ReadCtu) → Some cs ≡ Some ds → Some (units_as (all_of cs)) ≡ Some (units_as (all_of ds))
some_all cs ds h = ap turned h
  where
    turned : Option (List Tree.ReadCtu) → Option (List ReadUnit)
    turned None = None
    turned (Some x) = Some (units_as (all_of x))

rows_same : (kind : SliceKind) (size : Size) (rows : List (List ℕ)) → Rows kind size rows
unfolding Slice.read_rows rows_read
rows_same kind size [] row before above handed cs e still h = some_all [] cs h
rows_same kind size (bytes ∷ rows) row before above handed cs e still h = first (rows_same kind size rows) (Slice.row_read kind size row above handed bytes) refl h
  where
    later : List ReadCtu → Option (List ReadUnit)
    later read = and_then (rows_read kind size (row + 1) (units_after before (units_of read)) (handed_on read) rows) (λ others. Some (units_of read ++ others))

    others_of : Rows kind size rows → (read : List Tree.ReadCtu) (o : Option (List Tree.ReadCtu))
        → Slice.read_rows kind size (row + 1) (above ++ Slice.leaves_of read) (Slice.handed_on read) rows ≡ o → and_then o (λ others. Some (read ++ others)) ≡ Some cs
        → later (ctus_as read) ≡ Some (units_as (all_of cs))
    others_of go read None o g = absurd (cc)
    others_of go read (Some others) o g =
        ap (λ (c : List ℕ). and_then (rows_read kind size (row + 1) (units_after before (units_of (ctus_as read))) c rows) (λ us. Some (units_of (ctus_as read) ++ us))) (handed_all read)
        ∙ (ap (λ x. and_then x (λ us. Some (units_of (ctus_as read) ++ us)))
        (go (row + 1) (units_after before (units_of (ctus_as read))) (above ++ Slice.leaves_of read) (Slice.handed_on read) others (next_before before above read e) (next_still before read still) o)
        ∙ (ap (λ (l : List ReadUnit). Some (l ++ units_as (all_of others))) (units_all read)
        ∙ (ap Some (sym (as-append (all_of read) (all_of others)) ∙ ap units_as (sym (all-append read others)))
        ∙ some_all (read ++ others) cs g)))

    first : Rows kind size rows → (o : Option (List Tree.ReadCtu)) → Slice.row_read kind size row above handed bytes ≡ o
        → and_then o (λ read. and_then (Slice.read_rows kind size (row + 1) (above ++ Slice.leaves_of read) (Slice.handed_on read) rows) (λ others. Some (read ++ others))) ≡ Some cs
        → and_then (row_of_bytes (slice_row_read kind size row before) (row_start kind (ctus size.w) row handed) bytes) later ≡ Some (units_as (all_of cs))
    first go None o g = absurd (cc)
    first go (Some read) o g =
        ap (λ x. and_then x later) (row_bytes kind size row before above handed bytes read e still o)
        ∙ others_of go read (Slice.read_rows kind size (row + 1) (above ++ Slice.leaves_of read) (Slice.handed_on read) rows) refl g

-- the data of a slice
pub slice_same : (kind : SliceKind) (size : Size) (offsets bytes : List ℕ) (cs : List Tree.ReadCtu)
    → Slice.read_data kind size offsets bytes ≡ Some cs → slice_read kind size offsets bytes ≡ Some (units_as (all_of cs))
slice_same kind size offsets bytes cs h = go (substreams offsets bytes) h
  where
    go : (o : Option (List (List ℕ))) → and_then o (λ rows. Slice.read_rows kind size 0 [] [] rows) ≡ Some cs → and_then o (λ rows. rows_read kind size 0 [] [] rows) ≡ Some (units_as (all_of cs))
    go None g = absurd (cc)
    go (Some rows) g = rows_same kind size rows 0 [] [] [] cs refl tt g
