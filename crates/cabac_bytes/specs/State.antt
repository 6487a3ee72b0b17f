-- What the state of a coder of bytes stands for.
use Rattle.std.specs.Prelude.{◌≡◌, ℕ, ◌+◌, ◌*◌, ◌^◌, ◌<◌, ◌≤◌, Bool, true, false, not, ◌&&◌, List, [], ◌∷◌, ◌++◌, length, Option, Some, None, ◌==◌, if◌then◌else◌}
use Rattle.h265_model.specs.declared.Item.{Item}
use Rattle.h265_model.specs.Bits.{is_empty}
use Rattle.h265_model.specs.Plain.{AreBytes}
use Rattle.h265_model.specs.Code.{Coding, coding, fresh, scaled, put_bin, Phase, Plain, Ended, Filled}
use Rattle.h265_model.specs.declared.Place.{Place}
use Rattle.h265_model.specs.declared.Item.TheVariants as items
use Rattle.h265_model.specs.declared.Place.TheVariants.{Terminate}
use Rattle.bin_items.specs.Growth.{sample_items}
use Rattle.cabac_bytes.specs.Pending.{Pending, number, kept, limit}

-- the bytes, and the number behind them: as many digits of it as `width`, but for a carry; the range, which is 0 after
-- a terminating bin 1; and the contexts
pub record State : Type 0 where
  pub pending : Pending
  pub low : ℕ
  pub range : ℕ
  pub width : ℕ
  pub contexts : List ℕ

abbrev pub is_none : Option ℕ → Bool
is_none None = true
is_none (Some byte) = false

abbrev pub is_fresh : State → Bool
is_fresh s = s.range == 510 && (s.width == 9 && is_none s.pending.held)

-- a run of bins that has begun is Plain, and one that hasn't is Filled where bytes stand before it
abbrev pub phase_of : State → Phase
phase_of s =
    if s.range == 0 then Ended
    else if is_fresh s && not (is_empty s.pending.out) then Filled
    else Plain

-- what holds of every state
pub record IsState (s : State) : Type 0 where
  pub least : 0 < s.range → 256 ≤ s.range
  pub most : s.range ≤ 510
  pub from : 9 ≤ s.width
  pub to : s.width ≤ 41
  pub room : s.low + s.range ≤ limit s.pending.held * 2 ^ s.width

-- a run under way: the bytes after those that are done, and the low number behind them, are the number of the code
pub record Shows (s : State) (c : Coding) : Type 0 where
  pub settled : List ℕ
  pub out : s.pending.out ≡ c.done ++ settled
  pub bytes : AreBytes (settled ++ kept s.pending.held s.pending.run)
  pub low : number (settled ++ kept s.pending.held s.pending.run) * 2 ^ s.width + s.low ≡ c.low
  pub count : 8 * length (settled ++ kept s.pending.held s.pending.run) + s.width ≡ c.count + 9
  pub range : s.range ≡ c.range
  pub contexts : s.contexts ≡ c.contexts

-- after a terminating bin 1
pub record HasEnded (s : State) (c : Coding) : Type 0 where
  pub out : s.pending.out ≡ c.done
  pub coding : c ≡ fresh c.done c.contexts
  pub contexts : s.contexts ≡ c.contexts

abbrev pub StandsIf : Bool → State → Coding → Type 0
StandsIf true s c = HasEnded s c
StandsIf false s c = Shows s c

abbrev pub Stands : State → Coding → Type 0
Stands s c = StandsIf (s.range == 0) s c

-- the lists of items that a state stands for
abbrev pub stands_for : State → List Item → List ℕ → Type 0
stands_for s list contexts = Stands s (coding list (fresh [] contexts))

-- the same shown by another state
pub record Advances (old new : State) : Type 0 where
  pub shows : (c : Coding) → Shows old c → Shows new c
  pub range : new.range ≡ old.range
  pub contexts : new.contexts ≡ old.contexts
  pub fresh : is_fresh new ≡ is_fresh old

-- the range and the number doubled
pub record Scales (old new : State) : Type 0 where
  pub shows : (c : Coding) → Shows old c → Shows new (scaled c c.low c.range)
  pub contexts : new.contexts ≡ old.contexts
  pub some : 0 < new.range
  pub fresh : is_fresh new ≡ false

-- bins that end no run
pub record Follows (list : List Item) (old new : State) : Type 0 where
  pub shows : (c : Coding) → Shows old c → Shows new (coding list c)
  pub some : 0 < new.range
  pub phase : phase_of new ≡ Plain

abbrev pub Steps : Place → Bool → State → State → Type 0
Steps place value old new = Follows (items.Bin (record { value = value; place = place }) ∷ []) old new

-- the end of a run
pub record Ends (old new : State) : Type 0 where
  pub shows : (c : Coding) → Shows old c → HasEnded new (put_bin Terminate true c)
  pub range : new.range ≡ 0

-- samples, and a new run
pub record Fills (samples : List ℕ) (old new : State) : Type 0 where
  pub shows : (c : Coding) → HasEnded old c → Shows new (coding (sample_items samples) c)
  pub range : new.range ≡ 510
  pub phase : phase_of new ≡ Filled
