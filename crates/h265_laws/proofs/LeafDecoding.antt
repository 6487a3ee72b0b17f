-- Slices of leaves without vectors, and their pictures: steps between what is written and `Slice`, `Rebuild` and `Decode`, which read what these read.
use Rattle.std.specs.Prelude.{◌≡◌, ℕ, ◌+◌, ◌%◌, ◌<◌, Bool, true, false, List, [], ◌∷◌, ◌++◌, length, map, get_or, drop, ◌==◌, if◌then◌else◌, Option, Some, None, bytes_eq}
use Rattle.std.specs.List.{flat_map, AllByRecursion}
use Rattle.h265_model.specs.declared.leaf.SliceKind.{SliceKind}
use Rattle.h265_model.specs.declared.leaf.Leaf.{Leaf}
use Rattle.h265_model.specs.Plain.{Size, Picture, ctus, below, joined}
use Rattle.h265_model.specs.Engine.{start, is_done}
use Rattle.h265_model.specs.Predict.{prediction}
use Rattle.h265_model.specs.Bits.{◌>>=◌, bits}
use Rattle.h265_model.specs.Contexts.{row_start}
use Rattle.h265_model.specs.Raster.{planes, blank}
use Rattle.h265_model.specs.NalUnits.{NalUnit}
use Rattle.h265_model.specs.SliceHead.{read_head}
use Rattle.h265_model.specs.Stream.{nal_header, slice_kind}
use Rattle.h265_model.specs.Tree.{leaf_units, Source, samples_in}
use Rattle.h265_model.specs.Slice.{substreams}
use Rattle.h265_model.specs.Rebuild.{sums, with_block}
use Rattle.h265_model.specs.Decode.{Decoded, decoded_picture, ok_of}
use Rattle.h265_model.specs.Plain.{IsPicture}
use Rattle.h265_model.specs.Tree.{IsCopy, source_of}
use Rattle.h265_model.specs.Slice.{IsSlice, row_code}
use Rattle.h265_model.specs.Stream.{but_last}
use Rattle.h265_model.specs.NalUnits.{escape}
use Rattle.h265_laws.proofs.LeafReading.{Content, ReadLeaf, leaf_of, ReadCtu, read_row, reads_of, Copied, Samples, Levels}

-- ---- slices

abbrev pub leaves_of : List ReadCtu → List (List Leaf)
leaves_of ctus = map (λ ctu. map leaf_of ctu.leaves) ctus

-- what a row hands on: the contexts after its second CTU
abbrev pub handed_on : List ReadCtu → List ℕ
handed_on (first ∷ second ∷ ctus) = second.contexts
handed_on _ = []

-- a row of these bytes, all of them, after the leaves of all CTUs before
unfoldable pub row_read : SliceKind → Size → ℕ → List (List Leaf) → List ℕ → List ℕ → Option (List ReadCtu)
row_read kind size row before handed bytes = do
  first ← start (row_start kind (ctus size.w) row handed) (bits bytes)
  read ← read_row kind size row before first
  if is_done read.1 then Some read.0 else None

-- the rows from this number on
unfoldable pub read_rows : SliceKind → Size → ℕ → List (List Leaf) → List ℕ → List (List ℕ) → Option (List ReadCtu)
read_rows kind size row before handed [] = Some []
read_rows kind size row before handed (bytes ∷ rows) = do
  read ← row_read kind size row before handed bytes
  others ← read_rows kind size (row + 1) (before ++ leaves_of read) (handed_on read) rows
  Some (read ++ others)

-- what slice data after a header holds, by CTU
abbrev pub read_data : SliceKind → Size → List ℕ → List ℕ → Option (List ReadCtu)
read_data kind size offsets bytes = do
  rows ← substreams offsets bytes
  read_rows kind size 0 [] [] rows

-- ---- pictures

-- a block of one component: copied, the samples read, or prediction and levels
unfoldable pub block_of : Size → Picture → Picture → Leaf → Content → ℕ → List ℕ
block_of size prev now leaf Copied component = samples_in prev leaf component
block_of size prev now leaf (Samples planes) component = get_or planes component []
block_of size prev now leaf (Levels mode planes) component =
    sums (prediction size now mode component leaf.block) (get_or planes component [])

abbrev pub with_leaf : Size → Picture → Picture → ReadLeaf → Picture
with_leaf size prev now read = with_block now (leaf_of read) (block_of size prev now (leaf_of read) read.content)

-- the leaves in the order of coding, each after those before it
abbrev pub with_leaves : Size → Picture → Picture → List ReadLeaf → Picture
with_leaves size prev now [] = now
with_leaves size prev now (read ∷ leaves) = with_leaves size prev (with_leaf size prev now read) leaves

-- the planes of the picture whose leaves were read, after the previous picture
unfoldable pub rebuild : Size → Picture → List ReadLeaf → List (List ℕ)
rebuild size prev leaves = planes size (with_leaves size prev blank leaves)

-- ---- streams

-- the picture that a picture refers to
abbrev pub reference_of : Size → Option Decoded → Picture
reference_of size None = blank
reference_of size (Some before) = decoded_picture size before

-- the picture of a slice with this header, over the picture before
abbrev pub read_slice : Size → Bool → Option Decoded → List ℕ → Option Decoded
read_slice size idr before rbsp = do
  head ← ok_of (read_head rbsp idr (ctus size.h))
  ctus ← read_data (slice_kind idr) size head.0.offsets (drop head.1 rbsp)
  Some (record { poc = head.0.poc; planes = rebuild size (reference_of size before) (flat_map (λ ctu. ctu.leaves) ctus) })

-- an IDR picture stands alone; the order count of any other is one more than that of the picture before, which it refers to (8.3.1, 8.3.2)
abbrev pub read_idr : Size → NalUnit → Option Decoded
read_idr size unit = read_slice size true None unit.rbsp

abbrev pub follows : Decoded → Decoded → Option Decoded
follows before now = if now.poc == (before.poc + 1) % 256 then Some now else None

abbrev pub read_trail : Size → Option Decoded → NalUnit → Option Decoded
read_trail size None unit = None
read_trail size (Some before) unit = do
  now ← read_slice size false (Some before) unit.rbsp
  follows before now

abbrev pub read_picture : Size → Option Decoded → NalUnit → Option Decoded
read_picture size before unit =
    if bytes_eq unit.header (nal_header true) then read_idr size unit
    else if bytes_eq unit.header (nal_header false) then read_trail size before unit
    else None

-- ---- what is written is read

-- the rows of a slice, cut off by their entry points, give what was written of all leaves (7.3.8.1, 9.3.1)
abbrev pub EachSliceIsRead : Type 0
EachSliceIsRead =
    (kind : SliceKind) (size : Size) (source : Source) (leaves : List (List Leaf)) → IsSlice kind size source leaves → 0 < ctus size.h →
    (let rows : List (List ℕ) = map (row_code kind (leaf_units kind source) size leaves) (below (ctus size.h)) in
    (found : List ReadCtu) × (read_data kind size (map length (but_last (map escape rows))) (joined rows) ≡ Some found)
    × (flat_map (λ ctu. ctu.leaves) found ≡ reads_of source (joined leaves)))

-- what is read of a picture's leaves rebuilds the picture over any previous one that has the copied blocks (8.4.4.1, 8.6.2, 8.6.7)
abbrev pub EachPictureIsRebuilt : Type 0
EachPictureIsRebuilt =
    (kind : SliceKind) (size : Size) (prev now : Picture) (leaves : List (List Leaf)) →
    IsSlice kind size (source_of size now) leaves → IsPicture now → AllByRecursion (IsCopy prev now) (joined leaves) →
    rebuild size prev (reads_of (source_of size now) (joined leaves)) ≡ planes size now
