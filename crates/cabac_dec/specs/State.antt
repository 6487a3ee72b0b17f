-- What the state of a decoder stands for.
use Rattle.std.specs.Prelude.{◌≡◌, ℕ, ◌*◌, ◌/◌, ◌-◌, ◌^◌, ◌<◌, ◌≤◌, Bool, true, false, List, [], ◌∷◌, length, take, drop, Option, Some, None}
use Rattle.h265_model.specs.declared.Place.{Place}
use Rattle.h265_model.specs.declared.Place.TheVariants.{Terminate}
use Rattle.h265_model.specs.Bits.{bits, value_after, read_alignment, ◌>>=◌ as and_then}
use Rattle.h265_model.specs.Engine.{Engine, read_bytes}
use Rattle.h265_model.specs.Plain.{AreBytes}

-- where ivlOffset stands in the bytes: how many bits were read, and how many more are at hand
pub record Reading : Type 0 where
  pub bytes : List ℕ
  pub place : ℕ
  pub offset : ℕ
  pub ahead : ℕ

-- the bits not read yet
abbrev pub left : Reading → List Bool
left r = drop r.place (bits r.bytes)

-- the offset after n more bits
abbrev pub offset_after : ℕ → Reading → ℕ
offset_after n r = value_after r.offset (take n (left r))

-- the last of these bits, after that one
abbrev pub last_of : Bool → List Bool → Bool
last_of last [] = last
last_of last (b ∷ bs) = last_of b bs

-- the bit that was read last
abbrev pub last_read : Reading → Bool
last_read r = last_of false (take r.place (bits r.bytes))

-- the engine of a range and contexts that reads there
abbrev pub engine : ℕ → List ℕ → Reading → Engine
engine range contexts r = record { range = range; offset = r.offset; contexts = contexts; last = last_read r; bits = left r }

-- a window of 64 bits: the offset, the bits at hand, and zeros
pub record IsWindow (bytes : List ℕ) (next value ahead : ℕ) : Type 0 where
  pub within : next ≤ length bytes
  pub few : ahead ≤ 54
  pub fits : ahead ≤ 8 * next
  pub are_bytes : AreBytes bytes
  pub holds : value ≡ value_after (value / 2 ^ 54) (take ahead (drop (8 * next - ahead) (bits bytes))) * 2 ^ (54 - ahead)

-- where it stands
abbrev pub reading : List ℕ → ℕ → ℕ → ℕ → Reading
reading bytes next value ahead = record { bytes = bytes; place = 8 * next - ahead; offset = value / 2 ^ 54; ahead = ahead }

-- no terminating bin 1 was read since the engine started
abbrev pub IsOpen : Engine → Type 0
IsOpen e = e.offset < e.range

-- the last bin read was a terminating 1
abbrev pub IsEnded : Engine → Type 0
IsEnded e = e.range ≤ e.offset

abbrev pub IsOpenAfter : Place → Bool → Engine → Type 0
IsOpenAfter Terminate true e = IsEnded e
IsOpenAfter place value e = IsOpen e

-- what holds of every decoder
pub record IsDecoder (range : ℕ) (r : Reading) : Type 0 where
  pub most : range ≤ 510
  pub least : r.offset < range → 256 ≤ range
  pub below : r.offset < 512
  pub begun : 0 < r.place

-- a value and the engine after it, or nothing just where nothing is read
abbrev pub Answers : {A : Type 0} → Option A → Option (A × Engine) → Engine → Type 0
Answers None read new = read ≡ None
Answers (Some value) read new = read ≡ Some (value, new)

-- the same without a value
abbrev pub Leaves : Option (Unit {0}) → Option Engine → Engine → Type 0
Leaves None read new = read ≡ None
Leaves (Some _) read new = read ≡ Some new

-- samples, and the engine after them
abbrev pub Fills : Option (Unit {0}) → List ℕ → Option (List ℕ × Engine) → Engine → Type 0
Fills None out read new = read ≡ None
Fills (Some _) out read new = read ≡ Some (out, new)

-- what would be read
abbrev pub Shows : {A : Type 0} → Option A → Option (A × Engine) → Type 0
Shows None read = read ≡ None
Shows (Some value) read = (after : Engine) × (read ≡ Some (value, after))

-- where the byte is that follows the stop bit and its zeros
abbrev pub Aligns : Option ℕ → Reading → Type 0
Aligns None r = read_alignment (last_read r ∷ left r) ≡ None
Aligns (Some at) r = (at ≤ length r.bytes) × (read_alignment (last_read r ∷ left r) ≡ Some (bits (drop at r.bytes)))

-- samples behind the stop bit, and the window behind them
abbrev pub sample_bytes : ℕ → Reading → Option (List ℕ × List Bool)
sample_bytes n r = and_then (read_alignment (last_read r ∷ left r)) (λ bits. read_bytes n bits)

abbrev pub Takes : Option Reading → ℕ → List ℕ → Reading → Type 0
Takes None n out r = sample_bytes n r ≡ None
Takes (Some now) n out r = (now.offset ≡ 0) × (sample_bytes n r ≡ Some (out, left now))
