-- What each kind of step on a turn's table keeps. A step is allowed where, whatever the table is, the rule holds after it and it tells what it says.
use Rattle.std.specs.Prelude.{◌≡◌, ℕ, ◌+◌, ◌*◌, ◌^◌, ◌%◌, ◌<◌, ◌≤◌, ◌==◌, if◌then◌else◌, List, [], ◌∷◌, ◌++◌, length, Bool, true, false, Option, Some}
use mathlib.Core.Option.{none}
use Rattle.atomic_table.specs.Table.{State, Me, step, Allows, Splits, Joins, opening}
use Rattle.recorder_model.specs.declared.entry.Entry.{Entry}
use Rattle.recorder_model.specs.Setting.{Setting}
use Rattle.recorder_model.specs.Turn.{author}
use Rattle.turn_lock.specs.declared.knowledge.Knowledge.{Knowledge}
use Rattle.turn_lock.specs.Turns.{Kept, none_made, opening_view, Owns, looked, taken, returned, added, compared, lighter, noted, without_first, only_first, merged, spent}

module _ {S : Type 0} (setting_of : S → Setting) (history_of : S → List Entry) (mark_of : S → Bool) where
  abbrev pub Rule : State (Option S) Knowledge → Type 0
  Rule = Kept setting_of history_of mark_of

  -- a pass that holds the turn, with the state that it is to give back
  pub record IsReady (me : Me (Option S) Knowledge) (x : S) : Type 0 where
    pub live : 0 < me.0.weight
    pub holds : me.0.holds ≡ true
    pub carried : me.1 ≡ (0, Some x) ∷ []
    pub setting : setting_of x ≡ me.0.setting
    pub mark : me.0.base_mark ≡ true → mark_of x ≡ true

  -- a turn as it is made
  abbrev pub HoldsAtFirst : Type 0
  HoldsAtFirst = (passes : ℕ) (x : S) → 0 < passes → history_of x ≡ [] → mark_of x ≡ false → Rule (opening (0 ∷ []) (Some x ∷ []) (opening_view (setting_of x) passes))

  -- a load, and the load that follows a join
  abbrev pub KeptByLoad : Type 0
  KeptByLoad = (slots id : ℕ) (me : Me (Option S) Knowledge) → 0 < me.0.weight → Allows Rule slots id me 0 (λ n. n) (looked (step slots 0 0 0 none) me)

  abbrev pub KeptByCompare : Type 0
  KeptByCompare = (slots id : ℕ) (me : Me (Option S) Knowledge) → 0 < me.0.weight → Allows Rule slots id me 0 (λ n. n) (compared (step slots 0 0 0 none) me)

  -- a compare and exchange that takes the turn at the even word `old`, and the state with it
  abbrev pub KeptByTake : Type 0
  KeptByTake = (slots id old new : ℕ) (me : Me (Option S) Knowledge) → 0 < me.0.weight → me.0.holds ≡ false → old % 2 ≡ 0 → old + 1 ≡ new
      → Allows Rule slots id me 0 (λ n. if n == old then new else n) (taken setting_of history_of mark_of (step slots 0 old new none) me)

  -- a store that gives the turn back, without an entry and with one
  abbrev pub KeptByReturn : Type 0
  KeptByReturn = (slots id new : ℕ) (me : Me (Option S) Knowledge) (x : S) → IsReady me x → history_of x ≡ me.0.base → new ≡ 2 * length me.0.base
      → Allows Rule slots id me 0 (λ _. new) (λ _. returned mark_of (step slots 0 new 0 none) me new)

  abbrev pub KeptByEntry : Type 0
  KeptByEntry = (slots id new : ℕ) (me : Me (Option S) Knowledge) (x : S) (e : Entry) → IsReady me x → history_of x ≡ me.0.base ++ e ∷ [] → new ≡ 2 * (length me.0.base + 1) → Owns me.0 (author me.0.passes e)
      → Allows Rule slots id me 0 (λ _. new) (λ _. added history_of mark_of (step slots 0 new 0 none) me new)

  -- a pass is cut off the first one, a note is cut off a pass, and one takes in another
  abbrev pub KeptByHandingOut : Type 0
  KeptByHandingOut = (id a m : ℕ) (v : Knowledge) → v.made ≡ none_made a (m + 1) → 2 ^ 32 < v.weight → v.holds ≡ false → Splits Rule id v (without_first v) (only_first v)

  abbrev pub KeptByNote : Type 0
  KeptByNote = (id : ℕ) (v : Knowledge) → 2 ≤ v.weight → Splits Rule id v (lighter v) (noted v)

  abbrev pub KeptByJoin : Type 0
  KeptByJoin = (id other : ℕ) (v w : Knowledge) → 0 < v.weight → 0 < w.weight → w.holds ≡ false → Joins Rule id v other w (merged v w) spent
