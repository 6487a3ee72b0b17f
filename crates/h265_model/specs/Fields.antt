-- Syntax tables: lists of fields with the values that they have (7.2, 7.3).
use Rattle.std.specs.Prelude.{ℕ, Bool, List, [], ◌∷◌, ◌++◌, length, Option, Some, None, Result, Ok, Err, ◌==◌, if◌then◌else◌}
use Rattle.h265_model.specs.Bits.{u, ue, alignment, read_u, read_ue, read_alignment, is_empty}
use Rattle.h265_model.specs.Bits.{◌>>-◌}

-- how a syntax element is coded (7.2)
pub data Descriptor : Type 0 where
  -- u(n)
  U : ℕ → Descriptor
  -- ue(v)
  Ue : Descriptor

-- a syntax element with a value: its number in its table, its descriptor and its value (7.2). A signed one of value
-- 0 is coded as ue(v) of 0 (9.2.2)
pub record Field : Type 0 where
  pub number : ℕ
  pub coding : Descriptor
  pub value : ℕ

-- the bits of a value by a descriptor (7.2)
abbrev pub element_bits : Descriptor → ℕ → List Bool
element_bits (U n) v = u n v
element_bits Ue v = ue v

-- the bits of a syntax structure, its elements in order (7.1)
unfoldable pub fields_bits : List Field → List Bool
fields_bits [] = []
fields_bits (f ∷ fs) = element_bits f.coding f.value ++ fields_bits fs

-- a syntax structure's bits, and a one and zeros to the byte (7.3.2.11, 7.3.2.12)
abbrev pub aligned_bits : List Bool → List Bool
aligned_bits bits = bits ++ alignment (length bits)

-- ---- reading

-- the parsing of a syntax element by its descriptor (7.2)
abbrev pub read_element : Descriptor → List Bool → Option (ℕ × List Bool)
read_element (U n) bits = read_u n bits
read_element Ue bits = read_ue bits

-- a value, or else this number as the error (plain)
abbrev pub or_number : {A : Type 0} → ℕ → Option A → Result A ℕ
or_number n None = Err n
or_number n (Some x) = Ok x

-- the parsing of a syntax element: its value and the bits after it, or the field's number where the bits end or the
-- code is none (7.2)
abbrev pub read_field : ℕ → Descriptor → List Bool → Result (ℕ × List Bool) ℕ
read_field n coding bits = or_number n (read_element coding bits)

-- the parsing of a syntax structure with these values: the bits after it, or the number of the first field that
-- differs (7.1)
unfoldable pub read_fields : List Field → List Bool → Result (List Bool) ℕ
read_fields [] bits = Ok bits
read_fields (f ∷ fs) bits =
    read_field f.number f.coding bits >>- λ found.
    if found.0 == f.value then read_fields fs found.1 else Err f.number

-- the parsing of rbsp_trailing_bits, after which nothing is left, or the number of that field (7.3.2.11)
abbrev pub read_trailing : ℕ → List Bool → Result (Unit {0}) ℕ
read_trailing n bits =
    or_number n (read_alignment bits) >>- λ rest.
    if is_empty rest then Ok tt else Err n

-- a syntax element u(n) of this value, in one line (7.2)
abbrev pub fixed : ℕ → ℕ → ℕ → Field
fixed n width value = record { number = n; coding = U width; value = value }

-- a syntax element ue(v) of this value, in one line (7.2)
abbrev pub golomb : ℕ → ℕ → Field
golomb n value = record { number = n; coding = Ue; value = value }
