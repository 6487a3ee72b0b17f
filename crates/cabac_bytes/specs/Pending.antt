-- Bytes of which the last may still be raised by a carry.
use Rattle.std.specs.Prelude.{◌≡◌, ℕ, ◌+◌, ◌*◌, ◌^◌, ◌<◌, ◌≤◌, List, [], ◌∷◌, ◌++◌, length, replicate, Option, Some, None, ◌==◌, if◌then◌else◌}
use Rattle.h265_model.specs.Plain.{AreBytes}

-- bytes that stay, the last one that may be raised, and how many bytes 255 follow that one
pub record Pending : Type 0 where
  pub out : List ℕ
  pub held : Option ℕ
  pub run : ℕ

-- the number that bytes spell, the first the most significant
abbrev pub number : List ℕ → ℕ
number [] = 0
number (x ∷ xs) = x * 256 ^ length xs + number xs

-- the bytes that a carry may reach
abbrev pub kept : Option ℕ → ℕ → List ℕ
kept None run = []
kept (Some byte) run = byte ∷ replicate run 255

-- how many times as large as its room the number behind the bytes may be: twice, where a carry finds a byte to raise
abbrev pub limit : Option ℕ → ℕ
limit None = 1
limit (Some byte) = if byte == 255 then 1 else 2

-- `count` more bytes, of which there are `power` numbers: the bytes that a carry may reach become these with `lead` behind them, which may carry
pub record Passes (power count lead : ℕ) (old new : Pending) : Type 0 where
  pub added : List ℕ
  pub out : new.out ≡ old.out ++ added
  pub value : number (added ++ kept new.held new.run) ≡ number (kept old.held old.run) * power + lead
  pub long : length (added ++ kept new.held new.run) ≡ length (kept old.held old.run) + count
  pub bytes : AreBytes (added ++ kept new.held new.run)
  pub narrow : limit new.held ≡ 1 → lead + 1 ≡ power * limit old.held
  pub some : (byte : ℕ) × (new.held ≡ Some byte)

abbrev pub Begins : List ℕ → List ℕ → Type 0
Begins front whole = (back : List ℕ) × (whole ≡ front ++ back)

-- of some last bytes, all but the `left` ones that the number `rest` spells
pub record PassesAllBut (left rest last count : ℕ) (old new : Pending) : Type 0 where
  pub added : List ℕ
  pub out : new.out ≡ old.out ++ added
  pub value : number (added ++ kept new.held new.run) * 256 ^ left + rest ≡ number (kept old.held old.run) * 256 ^ count + last
  pub long : length (added ++ kept new.held new.run) + left ≡ length (kept old.held old.run) + count
  pub bytes : AreBytes added
  pub last_bytes : left < count → AreBytes (kept new.held new.run)
  pub fits : rest < limit new.held * 256 ^ left
  pub small : left < count → rest < 256 ^ left
  pub few : left ≤ count

-- the last bytes, which a carry that comes with them may change with those that are kept
pub record Closes (last count : ℕ) (old new : Pending) : Type 0 where
  pub more : List ℕ
  pub is : new ≡ record { out = old.out ++ more; held = None; run = 0 }
  pub value : number more ≡ number (kept old.held old.run) * 256 ^ count + last
  pub long : length more ≡ length (kept old.held old.run) + count
  pub bytes : AreBytes more
