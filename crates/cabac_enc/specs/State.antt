-- What the state of a coder of bits stands for.
use Rattle.std.specs.Prelude.{◌≡◌, ℕ, ◌+◌, ◌*◌, ◌^◌, ◌<◌, ◌≤◌, Bool, true, false, List, [], ◌∷◌, ◌++◌, ◌==◌, if◌then◌else◌}
use Rattle.h265_model.specs.declared.Item.{Item}
use Rattle.h265_model.specs.Bits.{bits, u}
use Rattle.h265_model.specs.Plain.{AreBytes}
use Rattle.h265_model.specs.Code.{Coding, coding, fresh, scaled, put_bin, Phase, Plain, Ended, Filled}
use Rattle.h265_model.specs.declared.Place.{Place}
use Rattle.h265_model.specs.declared.Item.TheVariants as items
use Rattle.h265_model.specs.declared.Place.TheVariants.{Terminate}
use Rattle.bin_items.specs.Growth.{sample_items}

-- the bits, and nine digits behind them; the range, which is 0 after a terminating bin 1; whether samples came last;
-- and the contexts
pub record State : Type 0 where
  pub bits : List Bool
  pub low : ℕ
  pub range : ℕ
  pub after_samples : Bool
  pub contexts : List ℕ

abbrev pub phase_of : State → Phase
phase_of s = if s.range == 0 then Ended else if s.after_samples then Filled else Plain

-- what holds of every state
pub record IsState (s : State) : Type 0 where
  pub least : 0 < s.range → 256 ≤ s.range
  pub most : s.range ≤ 510
  pub low : s.low < 512

-- the bits are those of the bytes that are done, and the first digits of the code's number, which spell `high`
pub record Holds (high : ℕ) (s : State) (c : Coding) : Type 0 where
  pub bits : s.bits ≡ bits c.done ++ u c.count high
  pub bytes : AreBytes c.done
  pub below : high < 2 ^ c.count
  pub contexts : s.contexts ≡ c.contexts

-- a run under way: the number of the code is its first digits with the low ones behind them
pub record Shows (s : State) (c : Coding) : Type 0 where
  pub high : ℕ
  pub holds : Holds high s c
  pub low : high * 512 + s.low ≡ c.low
  pub range : s.range ≡ c.range
  pub room : c.low + c.range ≤ 2 ^ (c.count + 9)

-- after a terminating bin 1
pub record HasEnded (s : State) (c : Coding) : Type 0 where
  pub bits : s.bits ≡ bits c.done
  pub bytes : AreBytes c.done
  pub coding : c ≡ fresh c.done c.contexts
  pub contexts : s.contexts ≡ c.contexts

abbrev pub StandsIf : Bool → State → Coding → Type 0
StandsIf true s c = HasEnded s c
StandsIf false s c = Shows s c

abbrev pub Stands : State → Coding → Type 0
Stands s c = StandsIf (s.range == 0) s c

-- the lists of items that a state stands for
abbrev pub stands_for : State → List Item → List ℕ → Type 0
stands_for s list contexts = Stands s (coding list (fresh [] contexts))

-- so many digits more: `number` stands behind the bits that were
pub record Shifts (number size count : ℕ) (old new : State) : Type 0 where
  pub shows : (c : Coding) (high low : ℕ) → Holds high old c → low ≡ high * 2 ^ count * 512 + number → low + size ≤ 2 ^ (c.count + count + 9) →
      Shows new (record c { low = low; range = size; count = c.count + count })
  pub range : new.range ≡ size
  pub phase : new.after_samples ≡ false
  pub contexts : new.contexts ≡ old.contexts

-- the range and the number doubled, once `low` stands behind the bits
pub record Scales (low size : ℕ) (old new : State) : Type 0 where
  pub shows : (c : Coding) (high : ℕ) → Holds high old c → high * 512 + low + size ≤ 2 ^ (c.count + 9) → Shows new (scaled c (high * 512 + low) size)
  pub some : 0 < new.range
  pub phase : new.after_samples ≡ false
  pub contexts : new.contexts ≡ old.contexts

-- bins that end no run
pub record Follows (list : List Item) (old new : State) : Type 0 where
  pub shows : (c : Coding) → Shows old c → Shows new (coding list c)
  pub some : 0 < new.range
  pub phase : phase_of new ≡ Plain

abbrev pub Steps : Place → Bool → State → State → Type 0
Steps place value old new = Follows (items.Bin (record { value = value; place = place }) ∷ []) old new

-- the end of a run
pub record Ends (old new : State) : Type 0 where
  pub shows : (c : Coding) → Shows old c → HasEnded new (put_bin Terminate true c)
  pub range : new.range ≡ 0

-- samples, and a new run
pub record Fills (samples : List ℕ) (old new : State) : Type 0 where
  pub shows : (c : Coding) → HasEnded old c → Shows new (coding (sample_items samples) c)
  pub range : new.range ≡ 510
  pub phase : phase_of new ≡ Filled
