-- NAL units and the byte stream (7.3.1, 7.4.2, Annex B).
use Rattle.std.specs.Prelude.{ℕ, zero, suc, ◌+◌, Bool, true, false, ◌||◌, ◌&&◌, List, [], ◌∷◌, ◌++◌, length, take, drop, Option, Some, None, Result, Ok, Err, ◌==◌, nat_lt, nat_le, flat_map, if◌then◌else◌, ◌≡◌, ◌≢◌, ◌<◌}
use Rattle.std.specs.List.{last_or}
use Rattle.h265_model.specs.Bits.{◌>>-◌}

-- a NAL unit: nal_unit_header's two bytes, and the bytes of the payload (RBSP) without emulation prevention
-- (7.3.1.1, 7.3.1.2)
pub record NalUnit : Type 0 where
  pub header : List ℕ
  pub rbsp : List ℕ

-- emulation_prevention_three_byte, where the bytes before were p and then q: a 03 stands between two zeros and a
-- byte of at most 3 (7.4.2.1)
unfoldable pub escape_after : ℕ → ℕ → List ℕ → List ℕ
escape_after p q [] = []
escape_after p q (b ∷ bytes) =
    if p == 0 && q == 0 && nat_le b 3 then 3 ∷ b ∷ escape_after 3 b bytes else b ∷ escape_after q b bytes

-- a payload's bytes with emulation_prevention_three_byte (7.4.2.1)
abbrev pub escape : List ℕ → List ℕ
escape bytes = escape_after 255 255 bytes

-- the same bytes without each emulation_prevention_three_byte, where the bytes before were p and then q (7.3.1.1)
unfoldable pub unescape_after : ℕ → ℕ → List ℕ → List ℕ
unescape_after p q [] = []
unescape_after p q (b ∷ bytes) =
    if p == 0 && q == 0 && b == 3 then unescape_after q b bytes else b ∷ unescape_after q b bytes

-- rbsp_byte: a NAL unit's bytes without each emulation_prevention_three_byte (7.3.1.1)
abbrev pub unescape : List ℕ → List ℕ
unescape bytes = unescape_after 255 255 bytes

-- zero_byte and start_code_prefix_one_3bytes: a start code of four bytes (B.2.1)
abbrev pub start_code : List ℕ
start_code = 0 ∷ 0 ∷ 0 ∷ 1 ∷ []

-- byte_stream_nal_unit: a NAL unit after a start code of four bytes (B.2.1)
abbrev pub nal_unit_bytes : NalUnit → List ℕ
nal_unit_bytes u = start_code ++ u.header ++ escape u.rbsp

-- the byte stream of these NAL units (B.2)
unfoldable pub stream_bytes : List NalUnit → List ℕ
stream_bytes us = flat_map nal_unit_bytes us

-- ---- reading a byte stream

-- nothing but zeros is left (plain)
abbrev pub only_zeros : List ℕ → Bool
only_zeros [] = true
only_zeros (b ∷ bytes) = b == 0 && only_zeros bytes

-- these bytes begin with two zeros and a byte of at most 1: 00 00 00 or 00 00 01 (B.3)
abbrev pub is_mark : List ℕ → Bool
is_mark (a ∷ b ∷ c ∷ bytes) = a == 0 && b == 0 && nat_le c 1
is_mark _ = false

-- a NAL unit ends before these bytes: at the end, before zeros up to the end, and before 00 00 00 and 00 00 01 (B.3)
abbrev pub is_end : List ℕ → Bool
is_end bytes = only_zeros bytes || is_mark bytes

-- the NAL unit at the front of these bytes (B.3, NumBytesInNalUnit)
unfoldable pub payload : List ℕ → List ℕ
payload [] = []
payload (b ∷ bytes) = if is_end (b ∷ bytes) then [] else b ∷ payload bytes

-- where bytes that no NAL unit may have stand: 02 after 00 00, and more than 03 after 00 00 03 (7.4.2.1)
unfoldable pub forbidden : ℕ → List ℕ → Option ℕ
forbidden at (a ∷ b ∷ c ∷ d ∷ bytes) =
    if a == 0 && b == 0 && c == 2 then Some (at + 2)
    else if a == 0 && b == 0 && c == 3 && nat_lt 3 d then Some (at + 3)
    else forbidden (at + 1) (b ∷ c ∷ d ∷ bytes)
forbidden at (a ∷ b ∷ c ∷ []) = if a == 0 && b == 0 && c == 2 then Some (at + 2) else None
forbidden at _ = None

-- the parsing of nal_unit: at least two bytes, without those that none may have (7.3.1.1)
abbrev pub nal_unit_of : ℕ → List ℕ → Result NalUnit ℕ
nal_unit_of at p =
    if nat_lt (length p) 2 then Err at
    else elim (forbidden at p) [ None ↦ Ok (record { header = take 2 p; rbsp = unescape (drop 2 p) }) | Some place ↦ Err place ]

-- the parsing up to the next start code: the bytes after it and its place, none where only zeros are left, or the
-- refused place. z zeros were read: leading_zero_8bits, zero_byte, trailing_zero_8bits (B.2.1)
unfoldable pub next_start : ℕ → ℕ → List ℕ → Result (Option (ℕ × List ℕ)) ℕ
next_start at z [] = Ok None
next_start at z (b ∷ bytes) =
    if b == 0 then next_start (at + 1) (z + 1) bytes
    else if b == 1 && nat_le 2 z then Ok (Some (at + 1, bytes))
    else Err at

-- the NAL units of these bytes, of which there are at most n (B.2.1, B.3)
unfoldable pub units_within : ℕ → ℕ → List ℕ → Result (List NalUnit) ℕ
units_within zero at bytes = Ok []
units_within (suc n) at bytes =
    next_start at 0 bytes >>- λ start.
    elim start [
      | None ↦ Ok []
      | Some found ↦
          let p : List ℕ = payload found.1 in
          nal_unit_of found.0 p >>- λ first.
          units_within n (found.0 + length p) (drop (length p) found.1) >>- λ others.
          Ok (first ∷ others)
    ]

-- the NAL units of a byte stream, or the first place that the syntax refuses (B.2.1). A NAL unit takes at least five
-- bytes with its start code
unfoldable pub units : List ℕ → Result (List NalUnit) ℕ
units bytes =
    if nat_lt 0 (length bytes) && only_zeros bytes then Err (length bytes) else units_within (length bytes) 0 bytes

-- ---- NAL units that are read back

-- a payload whose end can be told: it doesn't end in a zero (7.4.2.1)
abbrev pub EndsWell : List ℕ → Type 0
EndsWell list = last_or (Some 1) list ≢ Some 0

-- a NAL unit that is read back from a byte stream (7.4.2.1, B.3)
pub record IsNalUnit (nal : NalUnit) : Type 0 where
  pub header : (first second : ℕ) × (0 < second) × (nal.header ≡ first ∷ second ∷ [])
  pub ends : EndsWell nal.rbsp
