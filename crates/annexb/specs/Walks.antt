-- What is left of a byte stream after a place.
use Rattle.std.specs.Prelude.{ℕ, ◌+◌, ◌<◌, ◌≤◌, List, [], ◌∷◌, length, take, drop, Option, None, Some, Ok, Err, ◌≡◌}
use Rattle.h265_model.specs.NalUnits.{NalUnit, payload, unescape, units_within}

-- the header of the first NAL unit, none where there is none
abbrev pub first_header : List NalUnit → Option (List ℕ)
first_header [] = None
first_header (unit ∷ others) = Some unit.header

-- the NAL units that stand from a place of a byte stream on; none where the syntax refuses one
unfoldable pub units_from : ℕ → List ℕ → List NalUnit
units_from place bytes = elim (units_within (length bytes) place (drop place bytes)) [ Ok list ↦ list | Err at ↦ [] ]

-- the syntax refuses nothing from this place on
pub record IsWalked (place : ℕ) (bytes : List ℕ) : Type 0 where
  pub within : place ≤ length bytes
  pub read : units_within (length bytes) place (drop place bytes) ≡ Ok (units_from place bytes)

-- the first payload after a place starts here: its NAL unit, and what is left after it
pub record IsAhead (place start : ℕ) (bytes : List ℕ) : Type 0 where
  pub later : place < start
  pub within : start + length (payload (drop start bytes)) ≤ length bytes
  pub two : 2 ≤ length (payload (drop start bytes))
  pub units : units_from place bytes ≡ record { header = take 2 (payload (drop start bytes)); rbsp = unescape (drop 2 (payload (drop start bytes))) } ∷ units_from (start + length (payload (drop start bytes))) bytes
  pub after : IsWalked (start + length (payload (drop start bytes))) bytes
