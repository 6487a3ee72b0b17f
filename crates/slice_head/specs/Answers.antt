-- What the reader of headers answers, by the definition.
use Rattle.std.specs.Prelude.{ℕ, ◌-◌, ◌/◌, Bool, List, [], ◌∷◌, ◌++◌, length, Result, Ok, Err, ◌≡◌}
use Rattle.h265_model.specs.Bits.{◌>>-◌}
use Rattle.h265_model.specs.Bits.{bits, read_alignment}
use Rattle.h265_model.specs.Fields.{Field, fixed, golomb, or_number, read_fields}
use Rattle.h265_model.specs.SliceHead as specified
use Rattle.h265_model.specs.SliceHead.{head_front, head_middle, read_poc, read_head, address_bits, prior_pics_fields}
use Rattle.slice_head.specs.declared.error.HeadError.{HeadError}
use Rattle.slice_head.specs.declared.error.HeadError.TheVariants.{BadHead, NoMemory}

-- the definition's answer, or the first field that differs; nothing is said of want of memory
abbrev pub IsAnswer : Result (specified.Head × ℕ) ℕ → Result (specified.Head × ℕ) HeadError → Type 0
IsAnswer told (Ok found) = told ≡ Ok found
IsAnswer told (Err (BadHead field)) = told ≡ Err field
IsAnswer told (Err NoMemory) = Unit {0}

-- the same of a list and the bits after it
abbrev pub IsList : Result (List ℕ × List Bool) ℕ → Result (List ℕ) HeadError → List Bool → Type 0
IsList told (Ok list) left = told ≡ Ok (list, left)
IsList told (Err (BadHead field)) left = told ≡ Err field
IsList told (Err NoMemory) left = Unit {0}

-- a header up to num_entry_point_offsets, by its order count and the bits after it
abbrev pub front_of : Bool → ℕ → List Bool → Result (ℕ × List Bool) ℕ
front_of idr count bits =
    read_fields (head_front idr) bits >>- λ bits.
    read_poc idr bits >>- λ poc.
    read_fields (head_middle idr ++ golomb 10 count ∷ []) poc.1 >>- λ bits.
    Ok (poc.0, bits)

-- how many of all these bytes are before what is left after byte_alignment, of this number in a header's table
abbrev pub aligned_length : List ℕ → ℕ → List Bool → Result ℕ ℕ
aligned_length rbsp number bits = or_number number (read_alignment bits) >>- λ rest. Ok (length rbsp - length rest / 8)

-- ---- segments

-- a dependent segment's header before slice_segment_address
abbrev pub dependent_front : Bool → List Field
dependent_front idr = fixed 1 1 0 ∷ [] ++ prior_pics_fields idr ++ (golomb 3 0 ∷ fixed 4 1 1 ∷ [])

-- slice_segment_address and num_entry_point_offsets
abbrev pub address_fields : ℕ → ℕ → List Field
address_fields address ctus = fixed 5 (address_bits ctus) address ∷ golomb 6 0 ∷ []

-- the order count and the length of the header of the segment at address 0
abbrev pub first_read : List ℕ → Bool → Result (ℕ × ℕ) ℕ
first_read rbsp idr = read_head rbsp idr 1 >>- λ found. Ok (found.0.poc, found.1)

-- the length of a header of these fields
abbrev pub later_read : List ℕ → List Field → Result ℕ ℕ
later_read rbsp fields = read_fields fields (bits rbsp) >>- λ left. aligned_length rbsp 7 left
