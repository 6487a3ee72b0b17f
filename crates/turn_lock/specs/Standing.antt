-- A pass or a note as contracts see it.
use Rattle.std.specs.Prelude.{◌≡◌, ℕ, ◌+◌, ◌*◌, ◌<◌, List, [], ◌∷◌, length, true, false, Option, Some, None, slice_get}
use Rattle.atomic_table.specs.Table.{Me}
use Rattle.atomic_table.specs.Seated.{TableId}
use Rattle.recorder_model.specs.Setting.{Setting}
use Rattle.turn_lock.specs.Turns.{fresh_view}
use Rattle.turn_lock.specs.declared.knowledge.Knowledge.{Knowledge}

-- which table it is of, and what it knows
pub record Standing : Type 0 where
  pub table : TableId
  pub knows : Knowledge

abbrev pub standing : TableId → Knowledge → Standing
standing z v = record { table = z; knows = v }

-- the first n passes as the turn is made, in the order of their numbers
abbrev pub IsHandedOut : TableId → Setting → ℕ → ℕ → List Standing → Type 0
IsHandedOut z setting passes n xs = (length xs ≡ n) × ((a : ℕ) → a < n → slice_get xs a ≡ Some (standing z (fresh_view setting passes a)))

module _ {S : Type 0} where
  -- between two calls a pass has the turn's slot, empty, exactly while it holds the turn
  pub record IsSeated (me : Me (Option S) Knowledge) (word : ℕ) : Type 0 where
    pub live : 0 < me.0.weight
    pub idle : me.0.holds ≡ false → me.1 ≡ []
    pub out : me.0.holds ≡ true → (me.1 ≡ (0, None) ∷ []) × (word ≡ 2 * length me.0.base + 1)

  pub record IsNoted (me : Me (Option S) Knowledge) : Type 0 where
    pub live : 0 < me.0.weight
    pub idle : me.0.holds ≡ false
    pub bare : me.1 ≡ []
    pub nobody : me.0.made ≡ []

-- a pass of this turn that doesn't hold it
abbrev pub IsAtTurn : TableId → Standing → Type 0
IsAtTurn turn pass = (pass.table ≡ turn) × (pass.knows.holds ≡ false)
