-- Laws over the definitions: what is written is read back.
use Rattle.std.specs.Prelude.{slice_index, ◌≡◌, ℕ, ◌+◌, ◌-◌, ◌*◌, ◌^◌, ◌<◌, ◌≤◌, Bool, true, List, [], ◌∷◌, ◌++◌, length, take, IsTrue, Ok, Some, ℤ, map, Option}
use Rattle.std.specs.List.{AllByRecursion}
use Rattle.h265_model.specs.declared.Item.{Item}
use Rattle.h265_model.specs.Bits.{ue, bits, bytes, read_ue}
use Rattle.h265_model.specs.Settings.{Settings, is_size}
use Rattle.h265_model.specs.Raster.{Raster, planes, coded_picture, stored_picture, crop, IsRaster}
use Rattle.h265_model.specs.ParamSets.{param_units, read_params}
use Rattle.h265_model.specs.SliceHead.{Head, head_bits, read_head, IsHead}
use Rattle.h265_model.specs.Engine.{Engine, start, aligned, Gives, parts_of, Reads}
use Rattle.h265_model.specs.Code.{code, contexts_after, IsWellFormed}
use Rattle.h265_model.specs.Contexts.{AreContexts}
use Rattle.h265_model.specs.Stream.{pieces}
use Rattle.h265_model.specs.declared.leaf.SliceKind.{SliceKind}
use Rattle.h265_model.specs.declared.leaf.Leaf.{Leaf}
use Rattle.h265_model.specs.Plain.{Size, coded, ctus, Picture, IsPicture, below, AreBytes}
use Rattle.h265_model.specs.NalUnits.{NalUnit, stream_bytes, units, escape, unescape, IsNalUnit}
use Rattle.h265_model.specs.declared.Place.TheVariants.{Bypass}
use Rattle.h265_model.specs.Binarise.{tr, fl, eg, remaining, bypass_bins, tr_read, fl_read, eg_read, remaining_read}
use Rattle.h265_model.specs.Modes.{AreCandidates, mode_read, mode_items}
use Rattle.h265_model.specs.Residual.{IsSide, AreLevels, cbf, shape, residual_read, residual_items}
use Rattle.h265_model.specs.Tree.{leaf_units, Source, IsSource, IsLawfulTree, items_of_row, source_of}
use Rattle.h265_model.specs.Slice.{substreams, IsSlice, row_code}
use Rattle.h265_model.specs.Choice.{choice}
use Rattle.h265_model.specs.Wave.{Jobs, Event, new_wave, AreLawful, AllFinished, after_events, results, row_bytes}

-- ---- the high level syntax

-- an Exp-Golomb code (9.2)
abbrev pub EachCodeIsRead : Type 0
EachCodeIsRead = (k : ℕ) (rest : List Bool) → k < 2 ^ 32 - 1 → read_ue (ue k ++ rest) ≡ Some (k, rest)

-- a list of NAL units, from its byte stream (Annex B)
abbrev pub EachNalUnitIsRead : Type 0
EachNalUnitIsRead = (us : List NalUnit) → AllByRecursion IsNalUnit us → units (stream_bytes us) ≡ Ok us

-- a size and whether a picture has a segment for each row, from their parameter sets (7.3.2)
abbrev pub EachSizeIsRead : Type 0
EachSizeIsRead =
    (size : Size) (segments : Bool) → IsTrue (is_size size) → (segments ≡ true → 32 < coded size.w) → read_params (param_units size segments) ≡ Ok (size, segments)

-- and nothing else is read as these
abbrev pub EachSizeIsSpelled : Type 0
EachSizeIsSpelled =
    (us : List NalUnit) (size : Size) (segments : Bool) → AllByRecursion (λ unit. AreBytes unit.rbsp) us → read_params us ≡ Ok (size, segments) →
    (us ≡ param_units size segments) × (segments ≡ true → 32 < coded size.w)

-- a slice segment header, whatever follows it (7.3.6.1)
abbrev pub EachHeadIsRead : Type 0
EachHeadIsRead =
    (head : Head) (rest : List ℕ) → IsHead head →
    read_head (bytes (head_bits head) ++ rest) head.idr (length head.offsets + 1) ≡ Ok (head, length (bytes (head_bits head)))

-- and nothing else is read as that header: bytes that are read as the header of a picture of so many rows begin with its bytes
abbrev pub EachHeadIsSpelled : Type 0
EachHeadIsSpelled =
    (rbsp : List ℕ) (idr : Bool) (rows : ℕ) (head : Head) (n : ℕ) → AreBytes rbsp → 0 < rows → read_head rbsp idr rows ≡ Ok (head, n) →
    (head.idr ≡ idr) × (length head.offsets + 1 ≡ rows) × (take n rbsp ≡ bytes (head_bits head))

-- ---- slice data

-- an engine between two lists of items, with the contexts that the code names there
pub record IsBetween (front back : List Item) (contexts : List ℕ) (first left : Engine) : Type 0 where
  pub between : Engine
  pub before : Gives (parts_of front) first between
  pub after : Gives (parts_of back) between left
  pub contexts_are : between.contexts ≡ contexts_after front contexts

-- The engine that starts on the code of a list, with any bytes z after it, gives the items. At each cut
-- between parts it has the contexts that the code names there. In the end it has read the code, but for
-- the zeros that fill its last byte
pub record IsReadBack (list : List Item) (contexts z : List ℕ) : Type 0 where
  pub first : Engine
  pub left : Engine
  pub starts : start contexts (bits (code list contexts ++ z)) ≡ Some first
  pub gives : Gives (parts_of list) first left
  pub contexts_are : left.contexts ≡ contexts_after list contexts
  pub ends : aligned left ≡ Some (bits z)
  pub cuts : (front back : List Item) → parts_of list ≡ parts_of front ++ parts_of back → IsBetween front back contexts first left

-- what is coded is read back, whatever follows the code (9.3.4.3)
abbrev pub EachListIsReadBack : Type 0
EachListIsReadBack = (list : List Item) (contexts z : List ℕ) → IsWellFormed list → AreContexts contexts → IsReadBack list contexts z

-- ---- what is read of items

-- truncated Rice codes with the parameter 0 (9.3.3.2)
abbrev pub EachTruncatedCodeIsRead : Type 0
EachTruncatedCodeIsRead = (limit value : ℕ) → value ≤ limit → Reads (tr_read (λ i. Bypass) limit) (bypass_bins (tr limit value)) value

-- fixed-length codes (9.3.3.5)
abbrev pub EachFixedCodeIsRead : Type 0
EachFixedCodeIsRead = (n value : ℕ) → value < 2 ^ n → Reads (fl_read n) (bypass_bins (fl n value)) value

-- Exp-Golomb codes of order k (9.3.3.3)
abbrev pub EachGolombCodeIsRead : Type 0
EachGolombCodeIsRead = (k value : ℕ) → value < 65535 → Reads (eg_read k) (bypass_bins (eg k value)) value

-- coeff_abs_level_remaining with the Rice parameter r (9.3.3.11)
abbrev pub EachRemainingLevelIsRead : Type 0
EachRemainingLevelIsRead = (r value : ℕ) → value < 65535 → Reads (remaining_read r) (bypass_bins (remaining r value)) value

-- an intra mode (7.3.8.5, 8.4.2)
abbrev pub EachModeIsRead : Type 0
EachModeIsRead =
    (mode a b c : ℕ) → mode < 35 → AreCandidates a b c → Reads (mode_read (a ∷ b ∷ c ∷ [])) (mode_items mode (a ∷ b ∷ c ∷ [])) mode

-- a block of levels with one other than 0 (7.3.8.11)
abbrev pub EachBlockIsRead : Type 0
EachBlockIsRead =
    (component log2 kind : ℕ) (block : List ℤ) → IsSide log2 → length block ≡ 2 ^ log2 * 2 ^ log2 → AreLevels block → IsTrue (cbf block) →
    Reads (residual_read (shape component log2 kind)) (residual_items (shape component log2 kind) block) block

-- ---- what is written

-- the leaves that are chosen are a lawful tree (7.3.8.4)
abbrev pub EachChoiceIsLawful : Type 0
EachChoiceIsLawful = (prev : Option Picture) (now : Picture) (size : Size) (effort ctu : ℕ) → IsLawfulTree size ctu (choice prev now size effort ctu)

-- predictions are samples, so that the levels of a picture fit (8.4.4.2, 7.4.9.11)
abbrev pub EachPictureIsSource : Type 0
EachPictureIsSource = (size : Size) (picture : Picture) → IsPicture picture → IsSource (source_of size picture)

-- the items of a row end in a terminating bin 1, and each other one has samples after it (7.3.8.1, 7.3.8.7)
abbrev pub EachRowIsWellFormed : Type 0
EachRowIsWellFormed =
    (kind : SliceKind) (size : Size) (source : Source) (leaves : List (List Leaf)) (row : ℕ) →
    IsSlice kind size source leaves → row < ctus size.h → IsWellFormed (items_of_row (leaf_units kind source) size leaves row)

-- the bytes of a row end in one that isn't 0, and an entry point can count them (7.4.7.1)
abbrev pub EachRowIsSubstream : Type 0
EachRowIsSubstream =
    (kind : SliceKind) (size : Size) (source : Source) (leaves : List (List Leaf)) (row : ℕ) →
    IsSlice kind size source leaves → ctus size.w ≤ 128 → row < ctus size.h →
    (let bytes : List ℕ = row_code kind (leaf_units kind source) size leaves row in (0 < slice_index bytes (length bytes - 1)) × (length bytes < 2 ^ 31))

-- ---- pictures

-- the conformance window gives the raster back (7.4.3.2.1)
abbrev pub EachRasterIsCropped : Type 0
EachRasterIsCropped =
    (size : Size) (raster : Raster) → IsRaster size raster → 0 < size.w →
    crop size (stored_picture size (planes size (coded_picture size raster))) ≡ raster

-- ---- emulation prevention (7.3.1.1, 7.4.2.1)

abbrev pub EachEscapeIsUndone : Type 0
EachEscapeIsUndone = (list : List ℕ) → unescape (escape list) ≡ list

-- a substream is cut off by its length with its emulation prevention
abbrev pub EachSubstreamIsCut : Type 0
EachSubstreamIsCut = (list rest : List ℕ) → substreams (length (escape list) ∷ []) (list ++ rest) ≡ Some (list ∷ rest ∷ [])

-- ---- whole streams

-- the pieces of a list of pictures begin those of a longer one
abbrev pub EachPrefixIsKept : Type 0
EachPrefixIsKept = (settings : Settings) (ps qs : List Raster) → (rest : List (List ℕ)) × (pieces settings (ps ++ qs) ≡ pieces settings ps ++ rest)

-- ---- wavefront parallel processing

-- the law: however the rows of one or more CTUs are scheduled, each finishes with its bytes
abbrev pub EachScheduleGivesTheBytes : Type 0
EachScheduleGivesTheBytes =
    (jobs : Jobs) (rows : ℕ) (es : List Event) → 0 < jobs.width → AreLawful (new_wave rows jobs.width) es → AllFinished (after_events (new_wave rows jobs.width) es) →
    (results jobs rows es).finished ≡ map (λ r. Some (row_bytes jobs r)) (below rows)
