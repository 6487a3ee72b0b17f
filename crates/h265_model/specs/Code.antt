-- The arithmetic code of a list of bins and samples: the encoder of 9.3.5 (informative), whose output 9.3.4.3 decodes.
use Rattle.std.specs.Prelude.{ℕ, zero, suc, ◌+◌, ◌*◌, ◌/◌, ◌-◌, ◌%◌, ◌^◌, ◌<◌, Bool, true, false, List, [], ◌∷◌, ◌++◌, get_or, if◌then◌else◌}
use Rattle.std.specs.Bool.{beq}
use Rattle.h265_model.specs.declared.Place.{Place}
use Rattle.h265_model.specs.declared.Item.{Item}
use Rattle.h265_model.specs.declared.Place.TheVariants.{Context, Bypass, Terminate}
use Rattle.h265_model.specs.declared.Item.TheVariants as items
use Rattle.h265_model.specs.Contexts.{lps_range, mps, step}
use Rattle.h265_model.specs.Engine.{doublings}
use Rattle.h265_model.specs.Bits.{digit}

-- the last n bytes of a number, most significant first (plain)
abbrev pub bytes_of : ℕ → ℕ → List ℕ
bytes_of zero v = []
bytes_of (suc n) v = (v / 256 ^ n % 256) ∷ bytes_of n v

-- a code under way: the bytes so far; of the run of bins since then ivlLow as a number without bound, ivlCurrRange,
-- and how often the two have doubled; and the contexts (9.3.5.1)
pub record Coding : Type 0 where
  pub done : List ℕ
  pub low : ℕ
  pub range : ℕ
  pub count : ℕ
  pub contexts : List ℕ

-- the start of a run of bins: ivlLow 0 and ivlCurrRange 510 (9.3.5.2)
abbrev pub fresh : List ℕ → List ℕ → Coding
fresh done contexts = record { done = done; low = 0; range = 510; count = 0; contexts = contexts }

-- RenormE: ivlLow and ivlCurrRange double until the range is at least 256 (9.3.5.4)
abbrev pub scaled : Coding → ℕ → ℕ → Coding
scaled c low range = record c {
  low = low * 2 ^ doublings range;
  range = range * 2 ^ doublings range;
  count = c.count + doublings range;
}

-- EncodeFlush: the digits of ivlLow, of which there are nine more than doublings, the last of them a 1, and zeros to
-- the byte (9.3.5.6)
unfoldable pub closing : ℕ → ℕ → List ℕ
closing low count =
    let bytes : ℕ = (count + 16) / 8 in
    bytes_of bytes ((low / 2 * 2 + 1) * 2 ^ (8 * bytes - (count + 9)))

-- EncodeDecision: under context n the less probable value has the upper share (9.3.5.3)
abbrev pub context_put : ℕ → Bool → Coding → Coding
context_put n value c =
    let byte : ℕ = get_or c.contexts n 0 in
    let small : ℕ = lps_range byte (c.range / 64 % 4) in
    let large : ℕ = c.range - small in
    let after : Coding = record c { contexts = step c.contexts n value } in
    if beq value (mps byte) then scaled after c.low large else scaled after (c.low + large) small

-- EncodeBypass: without a context each value has half of the doubled range (9.3.5.5)
abbrev pub bypass_put : Bool → Coding → Coding
bypass_put value c = record c { low = 2 * c.low + digit value * c.range; count = c.count + 1 }

-- EncodeTerminate: the value 1 has the uppermost two, and ends the run (9.3.5.6)
abbrev pub terminate_put : Bool → Coding → Coding
terminate_put false c = scaled c c.low (c.range - 2)
terminate_put true c = fresh (c.done ++ closing (c.low + (c.range - 2)) c.count) c.contexts

-- a bin, by its context, in bypass mode or before termination (9.3.5.1)
unfoldable pub put_bin : Place → Bool → Coding → Coding
put_bin (Context n) value c = context_put n value c
put_bin Bypass value c = bypass_put value c
put_bin Terminate value c = terminate_put value c

-- an item: a bin, or a PCM sample, which stands as its own byte between two runs of bins (9.3.5.1, 7.3.8.7)
abbrev pub put : Item → Coding → Coding
put (items.Bin b) c = put_bin b.place b.value c
put (items.Sample x) c = fresh (c.done ++ x ∷ []) c.contexts

-- items one after another (9.3.5.1)
abbrev pub coding : List Item → Coding → Coding
coding [] c = c
coding (item ∷ list) c = coding list (put item c)

-- the bytes of a list of items from these contexts (9.3.5.1)
unfoldable pub code : List Item → List ℕ → List ℕ
code list contexts = (coding list (fresh [] contexts)).done

-- the contexts after a list of items from these contexts (9.3.4.3.2.2)
unfoldable pub contexts_after : List Item → List ℕ → List ℕ
contexts_after list contexts = (coding list (fresh [] contexts)).contexts

-- what stands before an item: bins, a terminating bin 1, or samples (7.3.8.1, 7.3.8.7)
pub data Phase : Type 0 where
  Plain : Phase
  Ended : Phase
  Filled : Phase

-- what stands after a bin: only a terminating one of value 1 ends a run (9.3.4.3.5)
abbrev pub phase_after : Place → Bool → Phase
phase_after Terminate true = Ended
phase_after place value = Plain

-- a bin under a context has one of the 130 context variables that are used here (9.3.2.2)
abbrev pub InRange : Place → Type 0
InRange (Context n) = n < 130
InRange place = Unit {0}

-- each terminating bin 1 ends the list or has samples after it, which stand nowhere else, and one ends it (7.3.8.1,
-- 7.3.8.7)
abbrev pub GoesOn : Phase → List Item → Type 0
GoesOn Ended [] = Unit {0}
GoesOn Plain [] = ⊥
GoesOn Filled [] = ⊥
GoesOn Ended (items.Bin b ∷ list) = ⊥
GoesOn Plain (items.Bin b ∷ list) = InRange b.place × GoesOn (phase_after b.place b.value) list
GoesOn Filled (items.Bin b ∷ list) = InRange b.place × GoesOn (phase_after b.place b.value) list
GoesOn Plain (items.Sample x ∷ list) = ⊥
GoesOn Ended (items.Sample x ∷ list) = (x < 256) × GoesOn Filled list
GoesOn Filled (items.Sample x ∷ list) = (x < 256) × GoesOn Filled list

-- a list of items that a row or a segment may have: bins and runs of samples, ended by a terminating bin 1 (7.3.8.1,
-- 7.3.8.7)
abbrev pub IsWellFormed : List Item → Type 0
IsWellFormed list = GoesOn Plain list
