-- The stream of a list of pictures, piece by piece.
use Rattle.std.specs.Prelude.{ℕ, ◌+◌, ◌*◌, ◌-◌, ◌%◌, Bool, true, false, ◌||◌, ◌&&◌, List, [], ◌∷◌, ◌++◌, length, map, flat_map, take, Option, Some, None, option_map, ◌==◌, nat_lt, if◌then◌else◌}
use Rattle.h265_model.specs.declared.leaf.SliceKind.{SliceKind}
use Rattle.h265_model.specs.declared.leaf.SliceKind.TheVariants.{I, P}
use Rattle.h265_model.specs.declared.leaf.Leaf.{Leaf}
use Rattle.h265_model.specs.Plain.{Size, Picture, ctus, below, joined}
use Rattle.h265_model.specs.Bits.{bytes}
use Rattle.h265_model.specs.declared.extra.Extra.{Extra}
use Rattle.h265_model.specs.declared.extra.Extra.TheVariants.{Plain, Hash, Segments, Moves}
use Rattle.h265_model.specs.declared.moves.MoveLeaf.{MoveLeaf}
use Rattle.h265_model.specs.Settings.{Settings, has_segments}
use Rattle.h265_model.specs.Raster.{Raster, coded_picture}
use Rattle.h265_model.specs.NalUnits.{escape, start_code, stream_bytes, nal_unit_bytes}
use Rattle.h265_model.specs.ParamSets.{param_units}
use Rattle.h265_model.specs.SliceHead.{head_bits, segment_bits}
use Rattle.h265_model.specs.Choice.{choice}
use Rattle.h265_model.specs.Hash.{hash_header, hash_bits}
use Rattle.h265_model.specs.Motion.{still}
use Rattle.h265_model.specs.MotionChoice.{moved_choices}
use Rattle.h265_model.specs.Tree.{source_of, leaf_units, moving, move_unit}
use Rattle.h265_model.specs.Slice.{row_code, segment_code}

-- a rule of this project's own: picture n is an IDR picture where it is the first, or where the key divides its
-- number
abbrev pub is_idr : ℕ → ℕ → Bool
is_idr key n = n == 0 || (nat_lt 0 key && n % key == 0)

-- PicOrderCntVal of picture n: how many pictures it stands after the last IDR picture (8.3.1)
abbrev pub order_count : ℕ → ℕ → ℕ
order_count key n = if key == 0 then n else n % key

-- slice_type: an IDR picture is an I slice, any other a P slice (7.4.7.1)
abbrev pub slice_kind : Bool → SliceKind
slice_kind true = I
slice_kind false = P

-- the header of a NAL unit of nal_unit_type IDR_N_LP or TRAIL_R (7.3.1.2, 7.4.2.2)
abbrev pub nal_header : Bool → List ℕ
nal_header true = 0x28 ∷ 1 ∷ []
nal_header false = 0x02 ∷ 1 ∷ []

-- all but the last (plain)
abbrev pub but_last : {A : Type 0} → List A → List A
but_last xs = take (length xs - 1) xs

-- the picture that a picture refers to, of RefPicSetStCurrBefore (8.3.2): none for an IDR picture
abbrev pub reference : Bool → Size → Option Raster → Option Picture
reference true size before = None
reference false size before = option_map (coded_picture size) before

-- ---- the units of each coding tree unit

-- the leaves of each coding tree unit, where no blocks move, by a rule of this project's own
abbrev pub all_leaves : Settings → Option Picture → Picture → List (List Leaf)
all_leaves settings before now =
    map (choice before now settings.size settings.effort) (below (ctus settings.size.w * ctus settings.size.h))

-- the units of each coding tree unit, where blocks may move, which an IDR picture's can't, by a rule of this
-- project's own
unfoldable pub moved_units : Settings → Option Picture → Picture → List (List MoveLeaf)
moved_units settings None now = map (map still) (all_leaves settings None now)
moved_units settings (Some prev) now =
    moved_choices prev now settings.size settings.effort (ctus settings.size.w * ctus settings.size.h) [] 0

-- ---- pictures in one slice segment

-- the rows' bytes with their emulation prevention, where no blocks move (7.3.8.1, 7.4.2.1)
abbrev pub row_codes : Settings → Bool → Option Picture → Picture → List (List ℕ)
row_codes settings idr before now =
    map
    (λ row. escape (row_code (slice_kind idr) (leaf_units (slice_kind idr) (source_of settings.size now)) settings.size (all_leaves settings before now) row))
    (below (ctus settings.size.h))

-- the rows' bytes with their emulation prevention, where blocks may move (7.3.8.1, 7.4.2.1)
abbrev pub moved_codes : Settings → Bool → Option Picture → Picture → List (List ℕ)
moved_codes settings idr before now =
    map
    (λ row. escape (row_code (slice_kind idr) (moving (move_unit (slice_kind idr) (source_of settings.size now))) settings.size (moved_units settings before now) row))
    (below (ctus settings.size.h))

-- a picture's NAL unit from its rows: start code, header, slice segment header with entry points, rows
-- (slice_segment_layer_rbsp, 7.3.2.9)
unfoldable pub slice_piece : Bool → ℕ → List (List ℕ) → List ℕ
slice_piece idr poc rows =
    start_code ++ nal_header idr
    ++ escape (bytes (head_bits (record { idr = idr; poc = poc; offsets = map length (but_last rows) })))
    ++ joined rows

-- the NAL unit of a picture's hash (7.3.2.4, 7.3.5, D.2.19)
abbrev pub hash_piece : Size → Picture → List ℕ
hash_piece size now = nal_unit_bytes (record { header = hash_header; rbsp = hash_bits size now })

-- ---- pictures in a slice segment for each row

-- a row as a slice segment: start code, header, slice segment header, data (slice_segment_layer_rbsp, 7.3.2.9)
unfoldable pub segment_piece : Size → Bool → ℕ → ℕ → List ℕ → List ℕ
segment_piece size idr poc row data_bytes =
    start_code ++ nal_header idr
    ++ escape (bytes (segment_bits idr poc (row * ctus size.w) (ctus size.w * ctus size.h)))
    ++ escape data_bytes

-- a picture's NAL units, one for each row (7.3.2.9)
abbrev pub segment_pieces : Settings → Bool → ℕ → Option Picture → Picture → List ℕ
segment_pieces settings idr poc before now =
    flat_map
    (λ row. segment_piece settings.size idr poc row
    (segment_code (slice_kind idr) (leaf_units (slice_kind idr) (source_of settings.size now)) settings.size (all_leaves settings before now) row))
    (below (ctus settings.size.h))

-- ---- streams

-- a picture's NAL units, by its order count, after the picture that it refers to (7.4.2.4.5)
unfoldable pub picture_units : Extra → Settings → Bool → ℕ → Option Picture → Picture → List ℕ
picture_units Plain settings idr poc before now = slice_piece idr poc (row_codes settings idr before now)
picture_units Hash settings idr poc before now = slice_piece idr poc (row_codes settings idr before now) ++ hash_piece settings.size now
picture_units Segments settings idr poc before now = segment_pieces settings idr poc before now
picture_units Moves settings idr poc before now = slice_piece idr poc (moved_codes settings idr before now)

-- the piece of picture n, after the picture before (7.4.2.4.5, 8.3.1)
unfoldable pub picture_piece : Settings → ℕ → Option Raster → Raster → List ℕ
picture_piece settings n before now =
    let idr : Bool = is_idr settings.key n in
    picture_units settings.extra settings idr (order_count settings.key n % 256)
    (reference idr settings.size before) (coded_picture settings.size now)

-- the pieces of these pictures, of which the first has the number n (7.4.2.4.5)
unfoldable pub pieces_after : Settings → ℕ → Option Raster → List Raster → List (List ℕ)
pieces_after settings n before [] = []
pieces_after settings n before (now ∷ pictures) =
    picture_piece settings n before now ∷ pieces_after settings (n + 1) (Some now) pictures

-- the parameter sets, and one piece for each picture (7.4.2.4.2, 7.4.2.4.5)
unfoldable pub pieces : Settings → List Raster → List (List ℕ)
pieces settings pictures =
    stream_bytes (param_units settings.size (has_segments settings.extra)) ∷ pieces_after settings 0 None pictures

-- the byte stream of a list of pictures (B.2)
unfoldable pub stream_of : Settings → List Raster → List ℕ
stream_of settings pictures = joined (pieces settings pictures)
