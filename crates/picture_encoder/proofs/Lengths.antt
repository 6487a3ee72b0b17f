-- How long pieces can get.
use Rattle.std.proofs.Common.{◌≡◌, refl, ℕ, zero, suc, ◌+◌, ◌*◌, ◌-◌, ◌^◌, ◌%◌, ◌<◌, ◌≤◌, List, [], ◌∷◌, ◌++◌, Bool, true, false, cond, length, length-append, take, replicate, map, arith}
use Rattle.std.specs.Prelude.{nat_le}
use Rattle.std.specs.List.{All}
use Rattle.std.proofs.lemmas.List.{length-map, length-replicate}
use Rattle.h265_model.specs.Plain.{Size, coded, joined}
use Rattle.h265_model.specs.Bits.{u, ue, digits_up_to, digit_count, alignment, bytes}
use Rattle.h265_model.specs.Fields.{Descriptor, U, Ue, Field, fixed, golomb, fields_bits, element_bits, aligned_bits}
use Rattle.h265_model.specs.NalUnits.{escape, start_code, stream_bytes}
use Rattle.h265_model.specs.ParamSets.{param_units, vps_front, vps_back, vps_fields, profile_tier_level, sps_formats, sps_front, sps_back, sps_fields, size_fields, window_fields, is_padded, pps_fields}
use Rattle.h265_model.specs.SliceHead.{Head, head_bits, segment_bits, dependent_fields, head_fields, head_front, head_middle, poc_fields, entry_points}
use Rattle.h265_model.specs.Stream.{slice_piece, nal_header, but_last}
use Rattle.h265_model.specs.Hash.{hash_of_planes}
use Rattle.h265_model.specs.declared.extra.Extra.{Extra}
use Rattle.h265_model.specs.declared.extra.Extra.TheVariants.{Plain, Hash, Segments, Moves}
use Rattle.h265_model.proofs.BitLaws.{length-u}
use Rattle.md5.specs.Md5.{md5}
use Rattle.md5.proofs.StandardFacts.{length-md5}
use Rattle.px_plane.specs.Planes.{Planes, planes_of}
use Rattle.picture_encoder.specs.Coded.{hash_of, after_slice}
use Rattle.slice_assembly.specs.Substreams.{IsSubstream}
use Rattle.slice_assembly.proofs.EscapeLengths.{at_most_doubled, fits}

-- ---- bits of fields

few_digits : (n v : ℕ) → digits_up_to n v ≤ n
unfolding digits_up_to
few_digits zero v = omega arith
few_digits (suc n) v = go (few_digits n v) (nat_le (2 ^ n) v)
  where
    go : digits_up_to n v ≤ n → (b : Bool) → cond b (suc n) (digits_up_to n v) ≤ suc n
    go less true = omega arith
    go less false = omega arith

length_ue : (k : ℕ) → length (ue k) ≤ 128
unfolding ue
length_ue k =
    let few : digit_count (k + 1) ≤ 64 = few_digits 64 (k + 1) in
    let zeros : length (replicate (digit_count (k + 1) - 1) false) ≡ digit_count (k + 1) - 1 = length-replicate (digit_count (k + 1) - 1) false in
    let digits : length (u (digit_count (k + 1)) (k + 1)) ≡ digit_count (k + 1) = length-u (digit_count (k + 1)) (k + 1) in
    let both = length-append (replicate (digit_count (k + 1) - 1) false) (u (digit_count (k + 1)) (k + 1)) in
    omega arith

-- bits that a field takes at most
abbrev weight : Descriptor → ℕ
weight (U n) = n
weight Ue = 128

abbrev weights : List Field → ℕ
weights [] = 0
weights (f ∷ fs) = weight f.coding + weights fs

length_element : (d : Descriptor) (v : ℕ) → length (element_bits d v) ≤ weight d
length_element (U n) v = let e : length (u n v) ≡ n = length-u n v in omega arith
length_element Ue v = length_ue v

length_fields : (fs : List Field) → length (fields_bits fs) ≤ weights fs
unfolding fields_bits
length_fields [] = omega arith
length_fields (f ∷ fs) = omega (arith, length-append (element_bits f.coding f.value) (fields_bits fs), length_element f.coding f.value, length_fields fs)

weights_append : (xs ys : List Field) → weights (xs ++ ys) ≡ weights xs + weights ys
weights_append [] ys = let e : weights ys ≡ 0 + weights ys = omega arith in e
weights_append (x ∷ xs) ys = let e : weights (xs ++ ys) ≡ weights xs + weights ys = weights_append xs ys in omega arith

length_bytes : (bits : List Bool) → length (bytes bits) ≤ length bits
unfolding bytes
length_bytes (a ∷ b ∷ c ∷ d ∷ e ∷ f ∷ g ∷ h ∷ rest) = omega (arith, length_bytes rest)
length_bytes _ = omega arith

length_alignment : (n : ℕ) → length (alignment n) ≤ 8
length_alignment n = omega (arith, length-replicate (7 - n % 8) false)

-- the bytes of a table, with emulation prevention
length_table : (fs : List Field) → length (escape (bytes (aligned_bits (fields_bits fs)))) ≤ 2 * (weights fs + 8)
length_table fs =
    let bits : List Bool = fields_bits fs in
    omega (arith, at_most_doubled 255 255 (bytes (aligned_bits bits)), length_bytes (aligned_bits bits), length-append bits (alignment (length bits)), length_alignment (length bits), length_fields fs)

-- ---- parameter sets

weights_window : (size : Size) → weights (window_fields size) ≤ 512
weights_window size = go (is_padded size)
  where
    go : (b : Bool) → weights (cond b (golomb 11 0 ∷ golomb 12 (coded size.w - size.w) ∷ golomb 13 0 ∷ golomb 14 (coded size.h - size.h) ∷ []) []) ≤ 512
    go true = omega arith
    go false = omega arith

weights_size : (size : Size) → weights (size_fields size) ≤ 1000
unfolding size_fields
weights_size size = let w : weights (window_fields size) ≤ 512 = weights_window size in omega arith

weights_vps : weights vps_fields ≤ 5000
unfolding vps_front vps_back profile_tier_level
weights_vps = omega arith

weights_front : weights sps_front ≤ 5000
unfolding sps_front profile_tier_level sps_formats
weights_front = omega arith

weights_back : weights sps_back ≤ 10000
unfolding sps_back
weights_back = omega arith

weights_pps : (segments : Bool) → weights (pps_fields segments) ≤ 5000
unfolding pps_fields
weights_pps true = omega arith
weights_pps false = omega arith

weights_sps : (size : Size) → weights (sps_fields size) ≤ 16000
weights_sps size =
    omega (arith, weights_append (sps_front ++ size_fields size) sps_back, weights_append sps_front (size_fields size), weights_front, weights_size size, weights_back)

pub sets_short : (size : Size) (segments : Bool) → length (stream_bytes (param_units size segments)) < 2 ^ 40
unfolding stream_bytes param_units
sets_short size segments =
    let v : List ℕ = escape (bytes (aligned_bits (fields_bits vps_fields))) in
    let s : List ℕ = escape (bytes (aligned_bits (fields_bits (sps_fields size)))) in
    let p : List ℕ = escape (bytes (aligned_bits (fields_bits (pps_fields segments)))) in
    let lv : length v ≤ 2 * (weights vps_fields + 8) = length_table vps_fields in
    let ls : length s ≤ 2 * (weights (sps_fields size) + 8) = length_table (sps_fields size) in
    let lp : length p ≤ 2 * (weights (pps_fields segments) + 8) = length_table (pps_fields segments) in
    three v s p (weights vps_fields) (weights (sps_fields size)) (weights (pps_fields segments)) lv ls lp weights_vps (weights_sps size) (weights_pps segments)
  where
    three : (v s p : List ℕ) (a b c : ℕ) → length v ≤ 2 * (a + 8) → length s ≤ 2 * (b + 8) → length p ≤ 2 * (c + 8) → a ≤ 5000 → b ≤ 16000 → c ≤ 5000
        → length ((start_code ++ (0x40 ∷ 1 ∷ []) ++ v) ++ ((start_code ++ (0x42 ∷ 1 ∷ []) ++ s) ++ ((start_code ++ (0x44 ∷ 1 ∷ []) ++ p) ++ []))) < 2 ^ 40
    three v s p a b c lv ls lp ha hb hc =
        omega (
          arith,
          length-append (start_code ++ (0x40 ∷ 1 ∷ []) ++ v) ((start_code ++ (0x42 ∷ 1 ∷ []) ++ s) ++ ((start_code ++ (0x44 ∷ 1 ∷ []) ++ p) ++ [])),
          length-append (start_code ++ (0x42 ∷ 1 ∷ []) ++ s) ((start_code ++ (0x44 ∷ 1 ∷ []) ++ p) ++ []),
          length-append (start_code ++ (0x44 ∷ 1 ∷ []) ++ p) [],
        )

-- ---- pictures

weights_offsets : (offsets : List ℕ) → weights (map (λ o. fixed 12 32 (o - 1)) offsets) ≡ 32 * length offsets
weights_offsets [] = refl
weights_offsets (o ∷ offsets) = let e : weights (map (λ o. fixed 12 32 (o - 1)) offsets) ≡ 32 * length offsets = weights_offsets offsets in omega arith

weights_entries : (offsets : List ℕ) → weights (entry_points offsets) ≤ 256 + 32 * length offsets
weights_entries [] = omega arith
weights_entries (o ∷ offsets) = let e : weights (map (λ o. fixed 12 32 (o - 1)) offsets) ≡ 32 * length offsets = weights_offsets offsets in omega arith

weights_front_of : (idr : Bool) → weights (head_front idr) ≤ 1000
unfolding head_front
weights_front_of true = omega arith
weights_front_of false = omega arith

weights_poc : (idr : Bool) (poc : ℕ) → weights (poc_fields idr poc) ≤ 8
weights_poc true poc = omega arith
weights_poc false poc = omega arith

weights_middle : (idr : Bool) → weights (head_middle idr) ≤ 1000
unfolding head_middle
weights_middle true = omega arith
weights_middle false = omega arith

weights_head : (head : Head) → weights (head_fields head) ≤ 3000 + 32 * length head.offsets
weights_head head =
    omega (
      arith,
      weights_append (head_front head.idr ++ poc_fields head.idr head.poc ++ head_middle head.idr) (entry_points head.offsets),
      weights_append (head_front head.idr ++ poc_fields head.idr head.poc) (head_middle head.idr),
      weights_append (head_front head.idr) (poc_fields head.idr head.poc),
      weights_front_of head.idr,
      weights_poc head.idr head.poc,
      weights_middle head.idr,
      weights_entries head.offsets,
    )

length_head : (head : Head) → length (escape (bytes (head_bits head))) ≤ 7000 + 64 * length head.offsets
unfolding head_bits
length_head head = omega (arith, length_table (head_fields head), weights_head head)

-- the header of a slice segment (7.3.6.1)
weights_dependent : (idr : Bool) (address ctus : ℕ) → weights (dependent_fields idr address ctus) ≤ 1000
unfolding dependent_fields
weights_dependent true address ctus = omega (arith, few_digits 64 (ctus - 1))
weights_dependent false address ctus = omega (arith, few_digits 64 (ctus - 1))

pub length_segment_head : (idr : Bool) (poc address ctus : ℕ) → length (escape (bytes (segment_bits idr poc address ctus))) ≤ 7000
unfolding segment_bits
length_segment_head idr poc zero ctus = length_head (record { idr = idr; poc = poc; offsets = [] })
length_segment_head idr poc (suc address) ctus = omega (arith, length_table (dependent_fields idr (suc address) ctus), weights_dependent idr (suc address) ctus)

length_take : {A : Type 0} (n : ℕ) (xs : List A) → length (take n xs) ≤ length xs
length_take zero xs = omega arith
length_take (suc n) [] = omega arith
length_take (suc n) (x ∷ xs) = omega (arith, length_take n xs)

pub length_header : (idr : Bool) → length (nal_header idr) ≡ 2
length_header true = refl
length_header false = refl

joined_short : {X : Type 0} (f : X → List ℕ) (rows : List X) → All (λ row. IsSubstream (f row)) rows → length (joined (map (λ row. escape (f row)) rows)) ≤ length rows * 2 ^ 32
joined_short f [] all = omega arith
joined_short f (row ∷ rows) all =
    omega (
      arith,
      length-append (escape (f row)) (joined (map (λ row. escape (f row)) rows)),
      fits (f row) (all 0 row (omega arith)),
      joined_short f rows (λ k d less. all (suc k) d (omega arith)),
    )

pub slice_short : {X : Type 0} (idr : Bool) (poc : ℕ) (f : X → List ℕ) (rows : List X) → length rows ≤ 128 → All (λ row. IsSubstream (f row)) rows
    → length (slice_piece idr poc (map (λ row. escape (f row)) rows)) + 1024 < 2 ^ 40
unfolding slice_piece
slice_short idr poc f rows few all =
    let rest : List (List ℕ) = map (λ row. escape (f row)) rows in
    let offsets : List ℕ = map length (but_last rest) in
    let head : List ℕ = escape (bytes (head_bits (record { idr = idr; poc = poc; offsets = offsets }))) in
    let lo : length offsets ≡ length (but_last rest) = length-map (but_last rest) length in
    let lt : length (but_last rest) ≤ length rest = length_take (length rest - 1) rest in
    let lc : length rest ≡ length rows = length-map rows (λ row. escape (f row)) in
    let lh : length head ≤ 7000 + 64 * length offsets = length_head (record { idr = idr; poc = poc; offsets = offsets }) in
    let ln : length (nal_header idr) ≡ 2 = length_header idr in
    let lj : length (joined rest) ≤ length rows * 2 ^ 32 = joined_short f rows all in
    let a : length (start_code ++ nal_header idr ++ head ++ joined rest) ≡ length (start_code ++ nal_header idr ++ head) + length (joined rest) = length-append (start_code ++ nal_header idr ++ head) (joined rest) in
    let b : length (start_code ++ nal_header idr ++ head) ≡ length (start_code ++ nal_header idr) + length head = length-append (start_code ++ nal_header idr) head in
    let c : length (start_code ++ nal_header idr) ≡ 4 + length (nal_header idr) = length-append start_code (nal_header idr) in
    bound (length rows) (length offsets) (length head) (length (joined rest)) _ few (omega arith) lh lj (omega arith)
  where
    bound : (n o h j all : ℕ) → n ≤ 128 → o ≤ n → h ≤ 7000 + 64 * o → j ≤ n * 2 ^ 32 → all ≡ 6 + h + j → all + 1024 < 2 ^ 40
    bound n o h j all hn ho hh hj e = omega arith

-- ---- what stands after a slice

message_long : (g b r : List ℕ) → length (hash_of_planes (g ∷ b ∷ r ∷ [])) ≡ 52
unfolding hash_of_planes
message_long g b r =
    omega (
      arith,
      length-append (md5 g ++ (md5 b ++ (md5 r ++ []))) (0x80 ∷ []),
      length-append (md5 g) (md5 b ++ (md5 r ++ [])),
      length-append (md5 b) (md5 r ++ []),
      length-append (md5 r) [],
      length-md5 g,
      length-md5 b,
      length-md5 r,
    )

hash_short : (p : Planes) → length (hash_of p) ≤ 1024
hash_short p = omega (arith, at_most_doubled 255 255 (hash_of_planes (planes_of p)), message_long p.g p.b p.r)

pub after_short : (extra : Extra) (p : Planes) → length (after_slice extra p) ≤ 1024
after_short Plain p = omega arith
after_short Hash p = hash_short p
after_short Segments p = omega arith
after_short Moves p = omega arith
