-- The slice segment header (7.3.6.1), of one slice for each picture, and of a slice in a segment for each row.
use Rattle.std.specs.Prelude.{ℕ, zero, suc, ◌+◌, ◌-◌, ◌/◌, Bool, true, false, List, [], ◌∷◌, ◌++◌, length, map, Result, Ok, Err, nat_lt, if◌then◌else◌, ◌≡◌, ◌<◌, ◌^◌, IsTrue}
use Rattle.std.specs.List.{AllByRecursion}
use Rattle.h265_model.specs.Bits.{bits, read_alignment, digit_count}
use Rattle.h265_model.specs.Bits.{◌>>-◌}
use Rattle.h265_model.specs.Fields.{Field, U, fixed, golomb, fields_bits, aligned_bits, read_field, read_fields, or_number}

-- what a slice segment header tells: IDR or not, slice_pic_order_cnt_lsb, and the lengths of the substreams but the
-- last (7.3.6.1)
pub record Head : Type 0 where
  pub idr : Bool
  pub poc : ℕ
  pub offsets : List ℕ

-- slice_segment_header up to slice_type (7.3.6.1). An IDR picture is an I slice, any other a P slice
unfoldable pub head_front : Bool → List Field
head_front true =
    -- first_slice_segment_in_pic_flag
    fixed 1 1 1 ∷
    -- no_output_of_prior_pics_flag
    fixed 2 1 0 ∷
    -- slice_pic_parameter_set_id
    golomb 3 0 ∷
    -- slice_type: I
    golomb 4 2 ∷ []
head_front false =
    fixed 1 1 1 ∷
    golomb 3 0 ∷
    -- slice_type: P
    golomb 4 1 ∷ []

-- slice_pic_order_cnt_lsb, which an IDR picture's header hasn't (7.3.6.1)
abbrev pub poc_fields : Bool → ℕ → List Field
poc_fields true poc = []
poc_fields false poc = fixed 5 8 poc ∷ []

-- slice_segment_header after slice_pic_order_cnt_lsb, up to slice_qp_delta (7.3.6.1)
unfoldable pub head_middle : Bool → List Field
head_middle true =
    -- slice_qp_delta, se(v)
    golomb 9 0 ∷ []
head_middle false =
    -- short_term_ref_pic_set_sps_flag
    fixed 6 1 1 ∷
    -- num_ref_idx_active_override_flag
    fixed 7 1 0 ∷
    -- five_minus_max_num_merge_cand
    golomb 8 4 ∷
    golomb 9 0 ∷ []

-- offset_len_minus1 and each entry_point_offset_minus1 (7.3.6.1)
abbrev pub entry_fields : List ℕ → List Field
entry_fields [] = []
entry_fields (offset ∷ offsets) = golomb 11 31 ∷ map (λ o. fixed 12 32 (o - 1)) (offset ∷ offsets)

-- num_entry_point_offsets, and what follows it (7.3.6.1)
abbrev pub entry_points : List ℕ → List Field
entry_points offsets = golomb 10 (length offsets) ∷ entry_fields offsets

-- slice_segment_header (7.3.6.1)
abbrev pub head_fields : Head → List Field
head_fields head = head_front head.idr ++ poc_fields head.idr head.poc ++ head_middle head.idr ++ entry_points head.offsets

-- a header's bits, with byte_alignment (7.3.6.1, 7.3.2.12)
unfoldable pub head_bits : Head → List Bool
head_bits head = aligned_bits (fields_bits (head_fields head))

-- ---- reading

-- the parsing of slice_pic_order_cnt_lsb, which is 0 where it isn't coded (7.3.6.1, 8.3.1)
abbrev pub read_poc : Bool → List Bool → Result (ℕ × List Bool) ℕ
read_poc true bits = Ok (0, bits)
read_poc false bits = read_field 5 (U 8) bits

-- the parsing of n entry_point_offset_minus1: the offsets, each below 2 ^ 32 (7.3.6.1, 7.4.7.1)
unfoldable pub read_offsets : ℕ → List Bool → Result (List ℕ × List Bool) ℕ
read_offsets zero bits = Ok ([], bits)
read_offsets (suc n) bits =
    read_field 12 (U 32) bits >>- λ first.
    if nat_lt first.0 4294967295 then (read_offsets n first.1 >>- λ others. Ok ((first.0 + 1) ∷ others.0, others.1)) else Err 12

-- the parsing of offset_len_minus1 and of n entry points (7.3.6.1)
abbrev pub read_entries : ℕ → List Bool → Result (List ℕ × List Bool) ℕ
read_entries zero bits = Ok ([], bits)
read_entries (suc n) bits = read_fields (golomb 11 31 ∷ []) bits >>- λ bits. read_offsets (suc n) bits

-- the parsing of slice_segment_header of a picture of so many rows that stands at the front of these bytes: what it
-- tells and its length in bytes, or the number of the first field that differs (7.3.6.1)
unfoldable pub read_head : List ℕ → Bool → ℕ → Result (Head × ℕ) ℕ
read_head rbsp idr rows =
    read_fields (head_front idr) (bits rbsp) >>- λ bits.
    read_poc idr bits >>- λ poc.
    read_fields (head_middle idr ++ golomb 10 (rows - 1) ∷ []) poc.1 >>- λ bits.
    read_entries (rows - 1) bits >>- λ entries.
    or_number 13 (read_alignment entries.1) >>- λ rest.
    Ok (record { idr = idr; poc = poc.0; offsets = entries.0 }, length rbsp - length rest / 8)

-- ---- segments

-- Ceil( Log2( PicSizeInCtbsY ) ), the number of bits of slice_segment_address (7.4.7.1)
abbrev pub address_bits : ℕ → ℕ
address_bits ctus = digit_count (ctus - 1)

-- no_output_of_prior_pics_flag, which an IDR picture's header has (7.3.6.1)
abbrev pub prior_pics_fields : Bool → List Field
prior_pics_fields true =
    -- no_output_of_prior_pics_flag
    fixed 2 1 0 ∷ []
prior_pics_fields false = []

-- slice_segment_header of a dependent slice segment at this address, of a picture of so many coding tree blocks
-- (7.3.6.1)
unfoldable pub dependent_fields : Bool → ℕ → ℕ → List Field
dependent_fields idr address ctus =
    -- first_slice_segment_in_pic_flag
    fixed 1 1 0 ∷ []
    ++ prior_pics_fields idr
    -- slice_pic_parameter_set_id
    ++ (golomb 3 0 ∷
    -- dependent_slice_segment_flag
    fixed 4 1 1 ∷
    -- slice_segment_address
    fixed 5 (address_bits ctus) address ∷
    -- num_entry_point_offsets
    golomb 6 0 ∷ [])

-- a segment's header, with byte_alignment: at address 0 that of a slice without entry points (7.3.6.1, 7.3.2.12)
unfoldable pub segment_bits : Bool → ℕ → ℕ → ℕ → List Bool
segment_bits idr poc zero ctus = head_bits (record { idr = idr; poc = poc; offsets = [] })
segment_bits idr poc (suc n) ctus = aligned_bits (fields_bits (dependent_fields idr (suc n) ctus))

-- the parsing of a segment's slice_segment_header: slice_pic_order_cnt_lsb, 0 where the header has none, and its
-- length in bytes, or the number of the first field that differs (7.3.6.1)
unfoldable pub read_segment_head : List ℕ → Bool → ℕ → ℕ → Result (ℕ × ℕ) ℕ
read_segment_head rbsp idr zero ctus = read_head rbsp idr 1 >>- λ found. Ok (found.0.poc, found.1)
read_segment_head rbsp idr (suc n) ctus =
    read_fields (dependent_fields idr (suc n) ctus) (bits rbsp) >>- λ left.
    or_number 7 (read_alignment left) >>- λ rest.
    Ok (0, length rbsp - length rest / 8)

-- ---- headers that are read back

-- a header that is read back (7.4.7.1)
pub record IsHead (head : Head) : Type 0 where
  pub poc : head.poc < 256
  pub idr : IsTrue head.idr → head.poc ≡ 0
  pub offsets : AllByRecursion (λ o. (0 < o) × (o < 2 ^ 32)) head.offsets
  pub fewer : length head.offsets < 2 ^ 32 - 1
